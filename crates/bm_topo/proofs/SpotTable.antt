-- A heartbeat keeps the spots of a topology right, and each spot is right once it is set.
use Rattle.std.proofs.Common.{◌≡◌, ℕ, ◌<◌, ◌≤◌, ◌+◌, false, List, length, Some, None, inl, inr, refl, sym, ap, subst, ◌∙◌, arith, get_or, get_or-set_same}
use Rattle.std.specs.Prelude.{slice_get, slice_set, option_map, option_and_then}
use Rattle.std.specs.Option.{option_map_or}
use Rattle.std.proofs.lemmas.Bool.{cases_eq}
use Rattle.std.proofs.lemmas.List.{get_or-set_other}
use Rattle.std.proofs.lemmas.Option.{get_or_from_slice_get, slice_get-get_or, slice_get_within, slice_get_read}
use Rattle.bm_base.specs.declared.storage.StorageInfo.{StorageInfo}
use Rattle.bm_base.specs.declared.event.Remaining.{Remaining}
use Rattle.bm_base.specs.declared.limits.Limits.{Limits}
use Rattle.bm_base.specs.Words.{Map, Set, by_number, entries, len, get, contains_key, Cluster, node_of, rack_of, is_draining, drains, set_remaining}
use Rattle.bm_base.proofs.ClusterEvents.{same_nodes}
use Rattle.bm_topo.specs.declared.spots.Spot.{Spot}
use Rattle.bm_topo.specs.Sound.{cluster_of}
use Rattle.bm_topo.proofs.IndexedEntries.{get_at}
use Rattle.bm_topo.specs.Spots.{IsSpot, AreSpots, HasSpots}

pub none_set : (C : Cluster) (spots : List Spot) → HasSpots C spots 0
none_set C spots = record { few = omega arith; each = λ k p below is. absurd (omega (arith, below)) }

-- more spots, where the earlier ones stay
pub spots_grown : (C : Cluster) (old new : List Spot) (n : ℕ) → length old ≤ length new → ((k : ℕ) (p : Spot) → k < length old → slice_get new k ≡ Some p → slice_get old k ≡ Some p)
    → HasSpots C old n → HasSpots C new n
spots_grown C old new n more kept h = record {
  few = omega (arith, h.few, more);
  each = λ k p below at. h.each k p below (kept k p (omega (arith, below, h.few)) at);
}

-- if storages stay on their nodes
spot_stays : {l : Limits} (nodes : Map by_number ℕ) (draining : Set by_number) (old new : Map by_number StorageInfo) (p : Spot)
    → option_map (λ (i : StorageInfo). i.node) (get new p.storage) ≡ option_map (λ (i : StorageInfo). i.node) (get old p.storage)
    → IsSpot (cluster_of l nodes draining old) p → IsSpot (cluster_of l nodes draining new) p
unfolding node_of rack_of is_draining drains
spot_stays {l} nodes draining old new p same h = record {
  node = same ∙ h.node;
  rack = ap (λ o. option_and_then (λ n. get nodes n) o) same ∙ h.rack;
  drains = h.drains ∙ sym (ap (λ o. option_map_or (λ n. contains_key draining n) o false) same);
}

pub spots_reported : {l : Limits} (nodes : Map by_number ℕ) (draining : Set by_number) (old new : Map by_number StorageInfo) (rs : List Remaining) → new ≡ set_remaining old rs
    → (spots : List Spot) (n : ℕ) → HasSpots (cluster_of l nodes draining old) spots n → HasSpots (cluster_of l nodes draining new) spots n
spots_reported {l} nodes draining old new rs is spots n h = record {
  few = h.few;
  each = λ k p below at. spot_stays nodes draining old new p (ap (λ m. option_map (λ (i : StorageInfo). i.node) (get m p.storage)) is ∙ same_nodes old rs p.storage) (h.each k p below at);
}

-- a spot with what the tables have of its storage and node
pub spot_is : {l : Limits} (nodes : Map by_number ℕ) (draining : Set by_number) (storages : Map by_number StorageInfo) (p : Spot) (i : StorageInfo) → get storages p.storage ≡ Some i → p.node ≡ i.node
    → get nodes p.node ≡ Some p.rack → p.drains ≡ contains_key draining p.node → IsSpot (cluster_of l nodes draining storages) p
unfolding node_of rack_of is_draining drains
spot_is {l} nodes draining storages p i there node rack drains_is =
    let its : option_map (λ (j : StorageInfo). j.node) (get storages p.storage) ≡ Some p.node = ap (option_map (λ (j : StorageInfo). j.node)) there ∙ ap Some (sym node) in
    record {
      node = its;
      rack = ap (λ o. option_and_then (λ n. get nodes n) o) its ∙ rack;
      drains = drains_is ∙ sym (ap (λ o. option_map_or (λ n. contains_key draining n) o false) its);
    }

-- one more spot is set
pub set_next : (C : Cluster) (spots : List Spot) (i : ℕ) (p : Spot) → i < length spots → AreSpots C spots i → IsSpot C p → AreSpots C (slice_set spots i p) (i + 1)
set_next C spots i p in_list before here k q below at =
    let read = slice_get-get_or (slice_set spots i p) k q (slice_get_within (slice_set spots i p) k q at) in
    elim (cases_eq k i) [
      | inl is ↦ subst (IsSpot C) (sym (get_or-set_same spots i p q in_list) ∙ get_or_from_slice_get (slice_set spots i p) i q q (ap (λ z. slice_get (slice_set spots i p) z) (sym is) ∙ at)) here
      | inr differs ↦
          let less : k < i = omega arith in
          let same = sym (get_or-set_other spots i k p q differs) ∙ get_or_from_slice_get (slice_set spots i p) k q q at in
          let inside : k < length spots = omega (arith, less, in_list) in
          before k q less (slice_get-get_or spots k q inside ∙ ap Some same)
    ]

-- an entry read at an index is in the map
pub entry_there : {X : Type 0} (m : Map by_number X) (es : List (ℕ × X)) (i : ℕ) (e : ℕ × X) → es ≡ entries m → i < length es → e ≡ get_or es i e → get m e.0 ≡ Some e.1
entry_there m es i e is below read = get_at m i e (ap (λ xs. slice_get xs i) (sym is) ∙ slice_get_read es (length es) i e refl below read)

pub same_count : {X : Type 0} (m : Map by_number X) (es : List (ℕ × X)) → es ≡ entries m → length es ≡ len m
unfolding len
same_count m es is = ap length is

-- a storage that is not known has no node, no rack and does not drain
pub spot_none : (C : Cluster) (s : ℕ) → get C.storages s ≡ None → (node_of C s ≡ None) × (rack_of C s ≡ None) × (is_draining C s ≡ false)
unfolding node_of rack_of is_draining
spot_none C s is =
    let its = ap (option_map (λ (i : StorageInfo). i.node)) is in
    (its, ap (λ o. option_and_then (λ n. get C.nodes n) o) its, ap (λ o. option_map_or (drains C) o false) its)
