-- Levels stay right in a cluster that agrees on all replicas' storages and on being multi-rack.
use Rattle.std.specs.Prelude.{◌≡◌, ℕ, Bool, true, false, ◌==◌, List, [], ◌∷◌, Option, Some, None, IsSome, is_some, option_and_then}
use Rattle.std.proofs.Common.{cond, refl, sym, ap, subst, ◌∙◌}
use Rattle.std.proofs.lemmas.Bool.{eq-eqb}
use Rattle.std.specs.List.{list_any}
use Rattle.bm_base.specs.declared.event.Remaining.{Remaining}
use Rattle.bm_base.specs.declared.replica.Marks.{Marks}
use Rattle.bm_base.specs.Words.{get, contains_key, Cluster, replica_at, rack_of, has_storage, is_draining, is_multi_rack, register, heartbeat, without_node, without_storage, knows_storage}
use Rattle.bm_maps.specs.SlotLists.{IsMember}
use Rattle.bm_base.proofs.ForEach.{Each, each_then}
use Rattle.bm_parts.specs.LevelLaws.{IsRacked}
use Rattle.bm_parts.proofs.Deaths.{rack_elsewhere, draining_elsewhere, rack_left, draining_left}
use Rattle.bm_parts.proofs.ClusterLevels.{heartbeat_leaves_racks, same_after_register}
use Rattle.bm_arena.specs.Triplets.{Block}
use Rattle.bm_arena.specs.Contents.{Contents, block_at, list_of, marks_at, find_marks, slot_of, IsLawful}
use Rattle.bm_arena.specs.HeldMaps.{replicas_of, holdings_of}
use Rattle.bm_report.proofs.Maps.{get-here}
use Rattle.bm_levels.specs.declared.classification.DrainChange.{DrainChange}
use Rattle.bm_levels.specs.Status.{drains_after_change, level_by}
use Rattle.bm_levels.specs.LeveledBlocks.{Leveled, IsLeveled, AreLevels}
use Rattle.bm_levels.specs.LevelsBy.{AreLevelsBy, IsSameForHeld}
use Rattle.bm_levels.proofs.AgreeingClusters.{levels_agree}
use Rattle.bm_levels.proofs.LeavingReplicas.{led_by}

-- a property of each storage with marks holds of each replica's storage
pub each_found : (P : ℕ → Type 0) (rs : List (ℕ × Marks)) → ((s : ℕ) → IsSome (find_marks rs s) → P s) → Each (λ (r : ℕ × Marks). P r.0) rs
each_found P [] h = tt
each_found P (r ∷ rs) h = (
  h r.0 (ap (λ b. is_some (cond b (Some r.1) (find_marks rs r.0))) (eq-eqb r.0 r.0 refl)),
  each_found P rs (λ s there. h s (later (r.0 == s) (find_marks rs s) there)),
)
  where
    later : (b : Bool) (o : Option Marks) → is_some o ≡ true → is_some (cond b (Some r.1) o) ≡ true
    later true o there = refl
    later false o there = there

module _ (rack rack' : ℕ → Option ℕ) (draining draining' : ℕ → Bool) (multi : Bool) where
  -- both agree on the rack of a storage and on whether it drains
  abbrev pub Alike : ℕ → Type 0
  Alike s = (rack s ≡ rack' s) × (draining s ≡ draining' s)

  pub level_alike : (o : Option Block) → ((s : ℕ) → IsSome (option_and_then (λ (b : Block). find_marks b.replicas s) o) → Alike s) → level_by rack draining multi o ≡ level_by rack' draining' multi o
  unfolding level_by
  level_alike None h = refl
  level_alike (Some k) h = levels_agree rack rack' draining draining' multi k (each_then (λ (r : ℕ × Marks). Alike r.0) _ k.replicas (each_found Alike k.replicas h) (λ r same usable. same))

  -- `level_alike` for all slots of an arena
  pub levels_alike : (v : Leveled) → ((slot s : ℕ) → IsSome (marks_at v.arena slot s) → Alike s) → AreLevelsBy rack draining multi v → AreLevelsBy rack' draining' multi v
  levels_alike v h g slot = g slot ∙ level_alike (block_at v.arena slot) (h slot)

  -- `levels_alike` if the storages on which they disagree have empty lists
  pub levels_elsewhere : (v : Leveled) (left : ℕ → Bool) → IsLawful v.arena → ((s : ℕ) → left s ≡ true → list_of v.arena s ≡ []) → ((s : ℕ) → left s ≡ false → Alike s)
      → AreLevelsBy rack draining multi v → AreLevelsBy rack' draining' multi v
  levels_elsewhere v left lawful empty h = levels_alike v (λ slot s there. by slot s there (left s) refl)
    where
      by : (slot s : ℕ) → IsSome (marks_at v.arena slot s) → (b : Bool) → left s ≡ b → Alike s
      by slot s there true e = absurd (let P : List ℕ → Type 0 = λ l. IsMember slot l in subst P (empty s e) ((lawful.exact slot s).1 there))
      by slot s there false e = h s e

-- levels in a cluster that does not change
pub still_levels : (C D : Cluster) (t : Option DrainChange) (multi : Bool) (v : Leveled) → D ≡ C → t ≡ None → multi ≡ is_multi_rack C → AreLevels C v → AreLevelsBy (rack_of D) (drains_after_change D t) multi v
unfolding drains_after_change
still_levels C D t multi v e f g h slot = h slot ∙ sym (λ i. level_by (rack_of (e i)) (drains_after_change (e i) (f i)) (g i) (block_at v.arena slot))

-- `still_levels` if whether the alive nodes are on two racks or more may change
pub still_by : (C D : Cluster) (t : Option DrainChange) (multi m : Bool) (v : Leveled) → D ≡ C → t ≡ None → m ≡ multi → AreLevelsBy (rack_of D) (drains_after_change D t) m v → AreLevelsBy (rack_of C) (is_draining C) multi v
unfolding drains_after_change
still_by C D t multi m v e f g h slot = h slot ∙ (λ i. level_by (rack_of (e i)) (drains_after_change (e i) (f i)) (g i) (block_at v.arena slot))

-- Clusters that agree on all replicas.

-- a slot with a replica is that of a number
pub led_to : (v : Leveled) → IsLawful v.arena → IsLeveled v → (slot s : ℕ) → IsSome (marks_at v.arena slot s) → (id : ℕ) × (slot_of v.arena id ≡ Some slot)
led_to v lawful leveled slot s there = led_by v.arena lawful s (leveled.free s) slot there

module _ (C D : Cluster) (v : Leveled) (lawful : IsLawful v.arena) (leveled : IsLeveled v) (same : IsSameForHeld C D v.arena) where
  same_there : (slot s : ℕ) → IsSome (marks_at v.arena slot s) → (rack_of C s ≡ rack_of D s) × (is_draining C s ≡ is_draining D s)
  same_there slot s there =
      let id = led_to v lawful leveled slot s there in
      let some : IsSome (get (replicas_of v.arena) (replica_at id.0 s)) = ap is_some (get-here v.arena id.0 slot s id.1) ∙ there in
      (sym (same.rack (replica_at id.0 s) some), sym (same.draining (replica_at id.0 s) some))

  pub levels_for_held : AreLevelsBy (rack_of C) (is_draining C) (is_multi_rack D) v → AreLevels D v
  levels_for_held = levels_alike (rack_of C) (rack_of D) (is_draining C) (is_draining D) (is_multi_rack D) v same_there

-- a heartbeat keeps all levels
pub heartbeat_leaves : (C : Cluster) (rs : List Remaining) (v : Leveled) → AreLevels C v → AreLevels (heartbeat C rs) v
heartbeat_leaves C rs v h slot =
    let law = heartbeat_leaves_racks C rs in
    h slot ∙ ap (λ m. level_by (rack_of C) (is_draining C) m (block_at v.arena slot)) (sym law.2)
    ∙ level_alike (rack_of C) (rack_of (heartbeat C rs)) (is_draining C) (is_draining (heartbeat C rs)) (is_multi_rack (heartbeat C rs)) (block_at v.arena slot) (λ s _. (sym (law.0 s), sym (law.1 s)))

-- a new node changes nothing for the stored replicas
pub register_is_same : (C : Cluster) (n rack : ℕ) (ss : List ℕ) (a : Contents) → contains_key C.nodes n ≡ false → list_any (knows_storage C) ss ≡ false → IsRacked C (holdings_of a)
    → IsSameForHeld C (register C n rack ss) a
unfolding holdings_of
register_is_same C n rack ss a new unknown racked = record {
  rack = λ q there. (same_after_register C n rack ss new unknown q.storage (racked q there)).0;
  draining = λ q there. (same_after_register C n rack ss new unknown q.storage (racked q there)).1;
}

-- Storages and nodes that leave.

pub levels_failed : (C : Cluster) (t : ℕ) (v : Leveled) → IsLawful v.arena → ((s : ℕ) → (s == t) ≡ true → list_of v.arena s ≡ []) → AreLevels C v → AreLevels (without_storage C t) v
unfolding is_multi_rack without_storage
levels_failed C t v lawful empty =
    levels_elsewhere (rack_of C) (rack_of (without_storage C t)) (is_draining C) (is_draining (without_storage C t)) (is_multi_rack C) v (λ s. s == t) lawful empty
    (λ s other. (sym (rack_left C t s other), sym (draining_left C t s other)))

pub levels_dead : (C : Cluster) (n : ℕ) (v : Leveled) → IsLawful v.arena → ((s : ℕ) → has_storage C n s ≡ true → list_of v.arena s ≡ [])
    → AreLevelsBy (rack_of C) (is_draining C) (is_multi_rack (without_node C n)) v → AreLevels (without_node C n) v
levels_dead C n v lawful empty =
    levels_elsewhere (rack_of C) (rack_of (without_node C n)) (is_draining C) (is_draining (without_node C n)) (is_multi_rack (without_node C n)) v (has_storage C n) lawful empty
    (λ s off. (sym (rack_elsewhere C n s off), sym (draining_elsewhere C n s off)))
