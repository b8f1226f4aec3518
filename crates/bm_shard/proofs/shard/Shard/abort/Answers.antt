use Rattle.std.proofs.Common.{subst}
use Rattle.bm_arena.specs.Contents.{IsLawful}
use Rattle.bm_levels.specs.UnusedEntries.{HasNoUnused}
use Rattle.bm_shard.proofs.UnusedEntries.{none_outside}
use Rattle.bm_shard.proofs.SameHoldings.{same_seen}
use Rattle.bm_shard.proofs.shard.Shard.abort.Goals as goal

pub invariant_of-self : goal.invariant_of-self
invariant_of-self c =
    let dropped = c.drop_prepared.ensures in
    let none : HasNoUnused c.drop_prepared.new.blocks.arena = λ b unused. dropped.left b (c.self.invariant.unused b (dropped.unused b unused)) unused in
    record { index = c.self.invariant.index; ready = tt; unused = λ b h. absurd (none b h) }

pub returns-clause-same : goal.returns-clause-same
returns-clause-same c =
    let old = c.self.inside in
    let dropped = c.drop_prepared.ensures in
    same_seen old.blocks c.drop_prepared.new.blocks old.pending.map (subst (λ a. IsLawful a) c.arena.ensures c.show_invariant-2.ensures) c.show_invariant.ensures (subst (λ a. IsLawful a) c.arena-2.ensures c.show_invariant-3.ensures)
    (record { blocks = dropped.blocks; replicas = dropped.replicas; levels = dropped.levels }) old.part old.round old.pend _ _ c.args.self.now c.self.view_is

pub returns-clause-unused : goal.returns-clause-unused
returns-clause-unused c =
    let dropped = c.drop_prepared.ensures in
    none_outside c.drop_prepared.new.blocks c.self.inside.pending.map c.self.inside.part c.self.inside.round c.self.inside.pend _ _ (λ b unused. dropped.left b (c.self.invariant.unused b (dropped.unused b unused)) unused)
