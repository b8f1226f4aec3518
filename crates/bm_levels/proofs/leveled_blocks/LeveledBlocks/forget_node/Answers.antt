use Rattle.std.proofs.Common.{◌≡◌, ℕ, Bool, subst, ap, ◌∙◌}
use Rattle.bm_base.specs.Machine.Replicas.{rack_of, is_draining, has_storage}
use Rattle.bm_arena.specs.Contents.{Contents, HasHead, IsLawful}
use Rattle.bm_arena.specs.HeldMaps.{blocks_of}
use Rattle.bm_levels.specs.UnusedEntries.{IsUnused}
use Rattle.bm_levels.specs.Status.{drains_after_change}
use Rattle.bm_levels.specs.LeavingReplicas.{IsLeaving}
use Rattle.bm_levels.specs.LevelsBy.{AreLevelsBy}
use Rattle.bm_levels.proofs.LeavingReplicas.{kept_others, count_is}
use Rattle.bm_levels.proofs.UpToDate.{levels_dead}
use Rattle.bm_levels.proofs.leveled_blocks.LeveledBlocks.forget_node.Goals as goal

left : (p : ℕ → Bool) (a b d : Contents) (n : ℕ) → b ≡ a → IsLeaving p b d n → IsLeaving p a d n
left p a b d n e h = subst (λ (x : Contents). IsLeaving p x d n) e h

pub returns-clause-replicas : goal.returns-clause-replicas
returns-clause-replicas c =
    let d = c.clear_node-removed.new.self.arena in
    let p = has_storage c.args.topology.now.cluster c.args.node in
    kept_others p c.args.self.now.arena d c.clear_node-removed.result (left p c.args.self.now.arena c.reclassify_if_racks_change.new.self.arena d c.clear_node-removed.result c.reclassify_if_racks_change.ensures.arena c.clear_node-removed.ensures.left)
    (subst IsLawful c.arena.ensures c.show_invariant.ensures) c.clear_node-removed.ensures.none

pub returns-clause-removed : goal.returns-clause-removed
returns-clause-removed c =
    let d = c.clear_node-removed.new.self.arena in
    let p = has_storage c.args.topology.now.cluster c.args.node in
    count_is p c.args.self.now.arena d c.clear_node-removed.result (left p c.args.self.now.arena c.reclassify_if_racks_change.new.self.arena d c.clear_node-removed.result c.reclassify_if_racks_change.ensures.arena c.clear_node-removed.ensures.left)
    (subst IsLawful c.arena.ensures c.show_invariant.ensures) c.clear_node-removed.ensures.none

pub returns-clause-levels : goal.returns-clause-levels
unfolding drains_after_change
returns-clause-levels c h =
    let C = c.args.topology.now.cluster in
    let v = c.clear_node-removed.new.self in
    let P : Bool → Type 0 = λ m. AreLevelsBy (rack_of C) (is_draining C) m v in
    levels_dead C c.args.node v (subst IsLawful c.arena.ensures c.show_invariant.ensures) c.clear_node-removed.ensures.none (subst P c.requires.multi (c.clear_node-removed.ensures.levels (c.reclassify_if_racks_change.ensures.levels h)))

pub returns-clause-blocks : goal.returns-clause-blocks
returns-clause-blocks c = c.clear_node-removed.ensures.left.blocks ∙ ap blocks_of c.reclassify_if_racks_change.ensures.arena

pub returns-clause-unused : goal.returns-clause-unused
returns-clause-unused c b unused = subst (λ (a : Contents). IsUnused a b) c.reclassify_if_racks_change.ensures.arena (c.clear_node-removed.ensures.unused b unused)

pub returns-clause-fewer : goal.returns-clause-fewer
returns-clause-fewer c s head = subst (λ (a : Contents). HasHead a s) c.reclassify_if_racks_change.ensures.arena (c.clear_node-removed.ensures.fewer s head)
