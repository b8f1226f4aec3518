-- A topology stays sound where the lists next to the table of its storages grow, and then the
-- table.
use Rattle.std.proofs.Common.{◌≡◌, ℕ, ◌≤◌, ◌<◌, List, length, Some, arith, sym, subst}
use Rattle.std.specs.Prelude.{slice_get}
use Rattle.bm_base.specs.declared.storage.StorageInfo.{StorageInfo}
use Rattle.bm_base.specs.declared.limits.Limits.{Limits}
use Rattle.bm_base.specs.Maps.Map.{Map, Set, by_number}
use Rattle.bm_maps.specs.Table.{Table, capacity}
use Rattle.bm_topo.specs.declared.spots.Spot.{Spot}
use Rattle.bm_topo.specs.ByNode.{AreAllByNode}
use Rattle.bm_topo.specs.Room.{HasRoomFor}
use Rattle.bm_topo.specs.Sound.{IsSound, cluster_of}
use Rattle.bm_topo.specs.Spots.{HasSpots}
use Rattle.bm_topo.proofs.SpotTable.{spots_grown}

module _ (l : Limits) (nodes racks : Map by_number ℕ) (draining : Set by_number) (n : ℕ) where
  -- the tables, the spots and the storages by node match; their list has capacity for q storages
  abbrev pub Match : Table StorageInfo → List Spot → List ℕ → ℕ → Type 0
  Match t spots sorted q = IsSound l nodes racks draining t.map × HasSpots (cluster_of l nodes draining t.map) spots n × AreAllByNode t.map sorted × HasRoomFor (capacity t) (length spots) q

  pub lists_grown : (t : Table StorageInfo) (old new : List Spot) (before after : List ℕ) (q q' : ℕ) → length old ≤ length new
      → ((k : ℕ) (p : Spot) → k < length old → slice_get new k ≡ Some p → slice_get old k ≡ Some p) → after ≡ before → q ≤ q' → Match t old before q → Match t new after q'
  lists_grown t old new before after q q' longer kept same more h = (
    h.0,
    spots_grown (cluster_of l nodes draining t.map) old new n longer kept h.1,
    subst (AreAllByNode t.map) (sym same) h.2,
    record { spots = omega (arith, longer, h.3.spots); by_node = omega (arith, more, h.3.by_node) },
  )

  pub table_grown : (t new : Table StorageInfo) (spots : List Spot) (sorted : List ℕ) (q : ℕ) → new.map ≡ t.map → capacity new ≤ length spots → capacity new ≤ q → Match t spots sorted q → Match new spots sorted q
  table_grown t new spots sorted q same few within h = (
    subst (λ m. IsSound l nodes racks draining m) (sym same) h.0,
    subst (λ m. HasSpots (cluster_of l nodes draining m) spots n) (sym same) h.1,
    subst (λ m. AreAllByNode m sorted) (sym same) h.2,
    record { spots = few; by_node = within },
  )
