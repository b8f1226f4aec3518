use Rattle.std.proofs.Common.{not, subst, ap, ◌∙◌}
use Rattle.bm_base.specs.Words.{Cluster, is_named}
use Rattle.bm_report.specs.Ready.{reported_blocks}
use Rattle.bm_report.proofs.SingleReplicas.{ok_then}
use Rattle.bm_levels.specs.LeveledBlocks.{Leveled, AreLevels}
use Rattle.bm_levels.specs.UnusedEntries.{MakesNoUnused}
use Rattle.bm_levels.proofs.AddedEntries.{capacity_below}
use Rattle.bm_levels.proofs.UnusedEntries.{unused_again}
use Rattle.bm_levels.proofs.ReadyReports.{alike_ready, leveled_again, levels_again, leveled_alike, levels_alike}
use Rattle.bm_levels.proofs.leveled_blocks.LeveledBlocks.ready_notice.Goals as goal

-- The notice is aborted.

pub invariant_of-self-then-is_err : goal.invariant_of-self-then-is_err
invariant_of-self-then-is_err c =
    let k = c.prepare_notice-found.ensures in
    let r = c.abort.ensures in
    leveled_again c.self.inside.arena c.prepare_notice-found.new.arena c.show_invariant.ensures c.show_invariant-2.ensures k.kept c.abort.new.arena c.show_invariant-then-is_err.ensures (is_named (reported_blocks c.prepare_notice-found.new.self))
    r.delimiter r.marker r.numbers r.entries k.fresh c.self.inside.level_index c.grow_to-grown.new.self c.grow_to-grown.ensures.same c.grow_to-grown.ensures.kept c.self.invariant

pub returns-then-is_err-clause-levels : goal.returns-then-is_err-clause-levels
returns-then-is_err-clause-levels c =
    let k = c.prepare_notice-found.ensures in
    let r = c.abort.ensures in
    let P : Leveled → Type 0 = λ v. (C : Cluster) → AreLevels C v → AreLevels C (record { arena = c.abort.new.arena; level_index = c.grow_to-grown.new.self }) in
    subst P c.self.view_is
    (levels_again c.self.inside.arena c.prepare_notice-found.new.arena c.show_invariant.ensures c.show_invariant-2.ensures k.kept c.abort.new.arena c.show_invariant-then-is_err.ensures (is_named (reported_blocks c.prepare_notice-found.new.self))
    r.delimiter r.marker r.numbers r.entries k.fresh c.self.inside.level_index c.grow_to-grown.new.self c.grow_to-grown.ensures.same)

pub returns-then-is_err-clause-given_up : goal.returns-then-is_err-clause-given_up
returns-then-is_err-clause-given_up c =
    let k = c.prepare_notice-found.ensures in
    let r = c.abort.ensures in
    let P : Leveled → Type 0 = λ v. MakesNoUnused v.arena c.abort.new.arena in
    subst P c.self.view_is (unused_again c.self.inside.arena c.prepare_notice-found.new.arena c.abort.new.arena (is_named (reported_blocks c.prepare_notice-found.new.self)) c.show_invariant-2.ensures k.kept.blocks k.kept.replicas k.fresh r.blocks r.replicas r.numbers)

-- The notice is ready.

abbrev start : goal.Else-is_err-2 → Leveled
start c = record { arena = c.self.inside.arena; level_index = c.self.inside.level_index }

pub invariant_of-self : goal.invariant_of-self
invariant_of-self c =
    leveled_alike (start c) c.prepare_notice-found.new.arena c.grow_to-grown.new.self (alike_ready c.self.inside.arena c.prepare_notice-found.new.arena c.show_invariant.ensures c.show_invariant-2.ensures c.prepare_notice-found.ensures.kept) c.prepare_notice-found.ensures.kept.delimiter
    c.grow_to-grown.ensures.same c.self.invariant
    (λ z there. capacity_below c.grow_to-grown.new.self c.slot_bound.result z (ok_then c.grow_to-grown.result _ (c.is_err-else-is_err.ensures.negation ∙ ap not c.if-is_err-2.false) c.grow_to-grown.ensures.capacity) (c.slot_bound.ensures.above z there))

pub returns-clause-levels : goal.returns-clause-levels
returns-clause-levels c =
    let P : Leveled → Type 0 = λ v. (C : Cluster) → AreLevels C v → AreLevels C (record { arena = c.prepare_notice-found.new.arena; level_index = c.grow_to-grown.new.self }) in
    subst P c.self.view_is
    (levels_alike (start c) c.prepare_notice-found.new.arena c.grow_to-grown.new.self (alike_ready c.self.inside.arena c.prepare_notice-found.new.arena c.show_invariant.ensures c.show_invariant-2.ensures c.prepare_notice-found.ensures.kept) c.prepare_notice-found.ensures.kept.delimiter c.grow_to-grown.ensures.same)
