-- Changes within the tables' capacity keep it, used and spare; if no table grows, no spare is lost.
use Rattle.std.proofs.Common.{◌≡◌, ℕ, ◌≤◌, ◌-◌, true, false, cond, arith, refl, subst}
use Rattle.std.specs.Prelude.{◌==◌}
use Rattle.bm_base.specs.declared.storage.StorageInfo.{StorageInfo}
use Rattle.bm_base.specs.declared.limits.Limits.{Limits}
use Rattle.bm_base.specs.Maps.Map.{Map, by_number, len, remove, revise_at}
use Rattle.bm_maps.specs.Table.{Table, capacity}
use Rattle.bm_topo.specs.Racks.{without_one}
use Rattle.bm_topo.specs.TopologyView.{Seen, SpareCapacity, IsSameCapacity, HasNoLessCapacity}
use Rattle.bm_topo.specs.Sound.{IsSound}
use Rattle.bm_topo.specs.Room.{HasRoomFor}
use Rattle.bm_topo.proofs.Lengths.{len-remove, len-revise_at}
use Rattle.bm_topo.proofs.RackCount.{racks_counted}

abbrev pub seen_of : Limits → Table ℕ → Table (Unit {0}) → Table ℕ → Table StorageInfo → Seen
seen_of l nodes draining racks storages = record {
  cluster = record { limits = l; nodes = nodes.map; draining = draining.map; storages = storages.map };
  spare = record { nodes = nodes.spare; draining = draining.spare; racks = racks.spare; storages = storages.spare };
}

-- four tables, and what becomes of them, each within its capacity
pub record IsWithin (nodes nodes' racks racks' : Table ℕ) (draining draining' : Table (Unit {0})) (storages storages' : Table StorageInfo) : Type 0 where
  pub nodes_same : capacity nodes' ≡ capacity nodes
  pub draining_same : capacity draining' ≡ capacity draining
  pub racks_same : capacity racks' ≡ capacity racks
  pub storages_same : capacity storages' ≡ capacity storages

-- and none is longer
pub record IsNoLonger (nodes nodes' racks racks' : Table ℕ) (draining draining' : Table (Unit {0})) (storages storages' : Table StorageInfo) : Type 0 where
  pub nodes_fewer : len nodes'.map ≤ len nodes.map
  pub draining_fewer : len draining'.map ≤ len draining.map
  pub racks_fewer : len racks'.map ≤ len racks.map
  pub storages_fewer : len storages'.map ≤ len storages.map

module _ {l : Limits} (nodes nodes' racks racks' : Table ℕ) (draining draining' : Table (Unit {0})) (storages storages' : Table StorageInfo) (old : Seen) (is : seen_of l nodes draining racks storages ≡ old) where
  pub same_capacity : IsSound l nodes.map racks.map draining.map storages.map → IsSound l nodes'.map racks'.map draining'.map storages'.map → IsWithin nodes nodes' racks racks' draining draining' storages storages' → IsSameCapacity old (seen_of l nodes' draining' racks' storages')
  same_capacity sound sound' within =
      let before = racks_counted racks.map nodes.map sound.counted in
      let after = racks_counted racks'.map nodes'.map sound'.counted in
      let same : IsSameCapacity (seen_of l nodes draining racks storages) (seen_of l nodes' draining' racks' storages') = record {
        nodes = within.nodes_same;
        draining = within.draining_same;
        racks = omega (arith, before, after, within.racks_same);
        storages = within.storages_same;
      } in
      subst (λ s. IsSameCapacity s (seen_of l nodes' draining' racks' storages')) is same

  pub no_less : IsWithin nodes nodes' racks racks' draining draining' storages storages' → IsNoLonger nodes nodes' racks racks' draining draining' storages storages' → HasNoLessCapacity old.spare (seen_of l nodes' draining' racks' storages').spare
  no_less within shorter =
      let same : HasNoLessCapacity (seen_of l nodes draining racks storages).spare (seen_of l nodes' draining' racks' storages').spare = (
        omega (arith, within.nodes_same, shorter.nodes_fewer),
        omega (arith, within.draining_same, shorter.draining_fewer),
        omega (arith, within.racks_same, shorter.racks_fewer),
        omega (arith, within.storages_same, shorter.storages_fewer),
      ) in
      subst (λ s. HasNoLessCapacity s.spare (seen_of l nodes' draining' racks' storages').spare) is same

-- where the storages alone change
pub no_less_storages : {l : Limits} (nodes racks : Table ℕ) (draining : Table (Unit {0})) (storages storages' : Table StorageInfo) (old : Seen)
    → seen_of l nodes draining racks storages ≡ old → capacity storages' ≡ capacity storages → len storages'.map ≤ len storages.map
    → HasNoLessCapacity old.spare (seen_of l nodes draining racks storages').spare
no_less_storages nodes racks draining storages storages' old is same fewer =
    no_less nodes nodes racks racks draining draining storages storages' old is
    (record { nodes_same = refl; draining_same = refl; racks_same = refl; storages_same = same })
    (record { nodes_fewer = omega arith; draining_fewer = omega arith; racks_fewer = omega arith; storages_fewer = fewer })

-- where the nodes that drain, and no others, change
pub no_less_draining : {l : Limits} (nodes racks : Table ℕ) (draining draining' : Table (Unit {0})) (storages : Table StorageInfo) (old : Seen)
    → seen_of l nodes draining racks storages ≡ old → capacity draining' ≡ capacity draining → len draining'.map ≤ len draining.map
    → HasNoLessCapacity old.spare (seen_of l nodes draining' racks storages).spare
no_less_draining nodes racks draining draining' storages old is same fewer =
    no_less nodes nodes racks racks draining draining' storages storages old is
    (record { nodes_same = refl; draining_same = same; racks_same = refl; storages_same = refl })
    (record { nodes_fewer = omega arith; draining_fewer = fewer; racks_fewer = omega arith; storages_fewer = omega arith })

pub no_less-then : (a b c : SpareCapacity) → HasNoLessCapacity a b → HasNoLessCapacity b c → HasNoLessCapacity a c
no_less-then a b c p q = (omega (arith, p.0, q.0), omega (arith, p.1, q.1), omega (arith, p.2, q.2), omega (arith, p.3, q.3))

-- the counts, once one of n nodes has left rack r, are no more
pub len-without_one : (racks : Map by_number ℕ) (r n : ℕ) → len (without_one racks r n) ≤ len racks
unfolding without_one
len-without_one racks r n = elim (n == 1) as (λ b. len (cond b (remove racks r) (revise_at racks r (λ _. n - 1))) ≤ len racks) [ true ↦ len-remove racks r | false ↦ len-revise_at racks r (λ _. n - 1) ]

-- the lists suffice for a table of the same capacity
pub room_kept : {n p q n' q' : ℕ} → HasRoomFor n p q → n' ≡ n → q' ≡ q → HasRoomFor n' p q'
room_kept h same by_node = record { spots = omega (arith, h.spots, same); by_node = omega (arith, h.by_node, same, by_node) }
