use Rattle.std.proofs.Common.{◌≡◌, ℕ, length, arith, subst, ap, ◌∙◌}
use Rattle.std.specs.Prelude.{nat_eq, unwrap_or, [], ◌+◌}
use Rattle.std.specs.Map.{lookup}
use Rattle.bm_arena.specs.Contents.{list_of}
use Rattle.bm_levels.specs.LeavingReplicas.{IsLeaving}
use Rattle.bm_levels.specs.ClusterAfter.{rack_after, drains_after}
use Rattle.bm_levels.proofs.LeavingReplicas.{leaving_same, leaving_more}
use Rattle.bm_levels.proofs.UnusedEntries.{heads_same}
use Rattle.bm_levels.proofs.UnlinkedReplicas.{unused_taken}
use Rattle.bm_levels.proofs.leveled_blocks.LeveledBlocks.remove_first.Goals as goal
use Rattle.bm_levels.proofs.leveled_blocks.LeveledBlocks.remove_first.Goals.{After-drop_each}

same_lists : (c : After-drop_each) → (s : ℕ) → list_of c.drop_each.new.self.arena s ≡ list_of c.remove_listed.new.self.arena s
same_lists c s = ap (λ l. unwrap_or (lookup (nat_eq s) l) []) c.drop_each.ensures.lists

pub returns-clause-left : goal.returns-clause-left
returns-clause-left c =
    let a = c.args.self.now.arena in
    let b = c.remove_listed.new.self.arena in
    let d = c.drop_each.new.self.arena in
    let p = λ (s : ℕ). nat_eq s c.args.storage in
    let n = length c.args.slots.now in
    let P : ℕ → Type 0 = λ m. IsLeaving p a d m in
    let more : n + 0 ≡ n = omega arith in
    subst P more (leaving_more p a b d n 0 c.remove_listed.ensures.left (leaving_same p b d c.drop_each.ensures.blocks c.drop_each.ensures.replicas (λ s _. same_lists c s)))

pub returns-clause-list : goal.returns-clause-list
returns-clause-list c rest e = same_lists c c.args.storage ∙ c.remove_listed.ensures.list rest e

pub returns-clause-levels : goal.returns-clause-levels
returns-clause-levels c h =
    c.drop_each.ensures.levels_by (rack_after c.args.cluster_after.now) (drains_after c.args.cluster_after.now) c.args.cluster_after.now.multi (c.remove_listed.ensures.levels h)

pub returns-clause-unused : goal.returns-clause-unused
returns-clause-unused c =
    let d = c.drop_each.ensures in
    let t = c.remove_listed.ensures in
    unused_taken c.args.self.now.arena c.remove_listed.new.self.arena c.drop_each.new.self.arena c.args.slots.now t.numbers t.others d.slots d.blocks d.replicas d.left

pub returns-clause-fewer : goal.returns-clause-fewer
returns-clause-fewer c s head = c.remove_listed.ensures.fewer s (heads_same c.remove_listed.new.self.arena c.drop_each.new.self.arena c.drop_each.ensures.lists s head)
