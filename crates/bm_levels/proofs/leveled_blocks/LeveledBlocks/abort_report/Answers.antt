use Rattle.std.proofs.Common.{subst}
use Rattle.bm_base.specs.Words.{Cluster, is_named}
use Rattle.bm_report.specs.Ready.{reported_blocks}
use Rattle.bm_report.proofs.Preparation.{prepared-none}
use Rattle.bm_levels.specs.LeveledBlocks.{Leveled, AreLevels}
use Rattle.bm_levels.proofs.StatusUpdates.{same_itself}
use Rattle.bm_levels.proofs.ReadyReports.{leveled_again, levels_again, none_fresh}
use Rattle.bm_levels.proofs.UnusedEntries.{unused_unnamed}
use Rattle.bm_levels.proofs.leveled_blocks.LeveledBlocks.abort_report.Goals as goal

pub invariant_of-self : goal.invariant_of-self
invariant_of-self c =
    let r = c.abort.ensures in
    let a = c.self.inside.arena in
    let K = c.self.inside.level_index in
    leveled_again a a c.show_invariant.ensures c.show_invariant.ensures (prepared-none a) c.abort.new.arena c.show_invariant-2.ensures (is_named (reported_blocks c.args.report.now)) r.delimiter r.marker r.numbers r.entries (none_fresh a (is_named (reported_blocks c.args.report.now)))
    K K (λ z. same_itself K z) (λ z h. h) c.self.invariant

pub returns-clause-levels : goal.returns-clause-levels
returns-clause-levels c =
    let r = c.abort.ensures in
    let a = c.self.inside.arena in
    let K = c.self.inside.level_index in
    let P : Leveled → Type 0 = λ v. (C : Cluster) → AreLevels C v → AreLevels C (record { arena = c.abort.new.arena; level_index = K }) in
    subst P c.self.view_is
    (levels_again a a c.show_invariant.ensures c.show_invariant.ensures (prepared-none a) c.abort.new.arena c.show_invariant-2.ensures (is_named (reported_blocks c.args.report.now)) r.delimiter r.marker r.numbers r.entries (none_fresh a (is_named (reported_blocks c.args.report.now)))
    K K (λ z. same_itself K z))

pub returns-clause-left : goal.returns-clause-left
returns-clause-left c =
    let r = c.abort.ensures in
    unused_unnamed c.self.inside.arena c.abort.new.arena (is_named (reported_blocks c.args.report.now)) c.show_invariant.ensures r.blocks r.replicas r.numbers
