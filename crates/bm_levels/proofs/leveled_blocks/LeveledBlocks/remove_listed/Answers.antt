use Rattle.std.proofs.Common.{◌≡◌, ◌++◌, ℕ, List, length, subst, sym}
use Rattle.std.specs.Prelude.{◌==◌}
use Rattle.bm_maps.specs.SlotLists.{IsMember}
use Rattle.bm_base.specs.Machine.Replicas.{rack_of}
use Rattle.bm_arena.specs.Contents.{block_at, list_of, HasHead}
use Rattle.bm_levels.specs.Status.{drains_after_change}
use Rattle.bm_levels.specs.LeavingReplicas.{IsLeaving}
use Rattle.bm_levels.specs.LeveledBlocks.{Leveled}
use Rattle.bm_levels.specs.LevelsBy.{AreLevelsBy}
use Rattle.bm_levels.specs.ClusterAfter.{rack_after, drains_after}
use Rattle.bm_levels.proofs.LeavingReplicas.{held_on}
use Rattle.bm_levels.proofs.UnlinkedReplicas.{listed_in, leveled_first, levels_first}
use Rattle.bm_levels.proofs.leveled_blocks.LeveledBlocks.remove_listed.Goals as goal

pub unlink_all-requires-clause-free : goal.unlink_all-requires-clause-free
unlink_all-requires-clause-free c = c.self.invariant.free c.args.storage

first : (v w : Leveled) (slots : List ℕ) (storage : ℕ) → v ≡ w → (rest : List ℕ) × (list_of w.arena storage ≡ slots ++ rest) → (rest : List ℕ) × (list_of v.arena storage ≡ slots ++ rest)
first v w slots storage same h = let P : Leveled → Type 0 = λ x. (rest : List ℕ) × (list_of x.arena storage ≡ slots ++ rest) in subst P (sym same) h

pub unlink_all-requires-clause-first : goal.unlink_all-requires-clause-first
unlink_all-requires-clause-first c =
    first (record { arena = c.self.inside.arena; level_index = c.self.inside.level_index }) c.args.self.now c.args.slots.now c.args.storage c.self.view_is c.requires

pub classify_all-requires : goal.classify_all-requires
classify_all-requires c =
    let f = first (record { arena = c.self.inside.arena; level_index = c.self.inside.level_index }) c.args.self.now c.args.slots.now c.args.storage c.self.view_is c.requires in
    record {
      capacity = λ slot there.
          c.self.invariant.capacity slot (held_on c.self.inside.arena c.show_invariant.ensures c.args.storage slot (listed_in (list_of c.self.inside.arena c.args.storage) c.args.slots.now f.0 f.1 slot there));
    }

pub invariant_of-self : goal.invariant_of-self
invariant_of-self c =
    let old : Leveled = record { arena = c.self.inside.arena; level_index = c.self.inside.level_index } in
    let f = first old c.args.self.now c.args.slots.now c.args.storage c.self.view_is c.requires in
    let u = c.unlink_all.ensures in
    leveled_first (rack_after c.args.cluster_after.now) (drains_after c.args.cluster_after.now) c.args.cluster_after.now.multi
    old c.unlink_all.new.arena c.classify_all.new.self c.args.storage c.args.slots.now f.0 f.1 c.show_invariant.ensures c.self.invariant u.others u.known u.delimiter
    c.classify_all.ensures.status c.classify_all.ensures.others c.classify_all.ensures.capacity

pub returns-clause-left : goal.returns-clause-left
returns-clause-left c =
    let P : Leveled → Type 0 = λ v. IsLeaving (λ s. s == c.args.storage) v.arena c.unlink_all.new.arena (length c.args.slots.now) in subst P c.self.view_is c.unlink_all.ensures.left

pub returns-clause-list : goal.returns-clause-list
returns-clause-list c =
    let P : Leveled → Type 0 = λ v. (rest : List ℕ) → list_of v.arena c.args.storage ≡ c.args.slots.now ++ rest → list_of c.unlink_all.new.arena c.args.storage ≡ rest in
    subst P c.self.view_is c.unlink_all.ensures.list

pub returns-clause-others : goal.returns-clause-others
returns-clause-others c =
    let P : Leveled → Type 0 = λ v. (slot : ℕ) → (IsMember slot c.args.slots.now → ⊥) → block_at c.unlink_all.new.arena slot ≡ block_at v.arena slot in
    subst P c.self.view_is c.unlink_all.ensures.others

pub returns-clause-fewer : goal.returns-clause-fewer
returns-clause-fewer c = let P : Leveled → Type 0 = λ v. (q : ℕ) → HasHead c.unlink_all.new.arena q → HasHead v.arena q in subst P c.self.view_is c.unlink_all.ensures.fewer

pub returns-clause-levels : goal.returns-clause-levels
returns-clause-levels c =
    let rack = rack_of c.args.cluster_after.now.topology.now.cluster in
    let draining = drains_after_change c.args.cluster_after.now.topology.now.cluster c.args.cluster_after.now.drain_change in
    let old : Leveled = record { arena = c.self.inside.arena; level_index = c.self.inside.level_index } in
    let f = first old c.args.self.now c.args.slots.now c.args.storage c.self.view_is c.requires in
    let u = c.unlink_all.ensures in
    let P : Leveled → Type 0 = λ v. AreLevelsBy rack draining c.args.cluster_after.now.multi v → AreLevelsBy rack draining c.args.cluster_after.now.multi (record { arena = c.unlink_all.new.arena; level_index = c.classify_all.new.self }) in
    subst P c.self.view_is
    (levels_first rack draining c.args.cluster_after.now.multi old c.unlink_all.new.arena c.classify_all.new.self c.args.storage c.args.slots.now f.0 f.1 c.show_invariant.ensures c.self.invariant u.others u.known u.delimiter
    c.classify_all.ensures.status c.classify_all.ensures.others)
