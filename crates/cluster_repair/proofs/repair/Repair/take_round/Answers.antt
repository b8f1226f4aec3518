use Rattle.std.proofs.Common.{ℕ, List, refl, subst}
use Rattle.std.specs.Prelude.{◌/◌}
use Rattle.laws_of_repairs.proofs.WatchedBlocks.{covers_round}
use Rattle.cluster_repair.specs.Retirements.{AreAnswered}
use Rattle.cluster_repair.proofs.Reach.{under_way_by_round}
use Rattle.cluster_repair.proofs.repair.Repair.take_round.Goals as goal

pub returns-clause-covers : goal.returns-clause-covers
returns-clause-covers g c =
    covers_round c.report.new.manager c.round.new.self c.report.new.watch.blocks.items c.show_invariant.ensures c.in_ok-commands.ensures.state
    (c.in_ok-report.ensures.covers c.requires.covers)

pub returns-clause-under_way : goal.returns-clause-under_way
returns-clause-under_way g c M d of on =
    let facts = c.args.facts.now in
    under_way_by_round facts.ticks M d facts.topology.now.cluster facts.blocks.now facts.awaited c.args.manager.now c.report.new.manager c.round.new.self c.args.self.now _ c.report.new.self
    c.in_ok-commands.commands c.next_time-now.result of c.requires.goes_on
    c.in_ok-commands.ensures.accepted c.in_ok-commands.ensures.state c.in_ok-commands.ensures.commands refl refl refl c.count_copies-self.ensures refl
    (c.next_time-now.ensures M d c.args.manager.now) c.in_ok-report.ensures.reported c.in_ok-report.ensures.counts c.in_ok-obey.ensures.begun c.in_ok-obey.ensures.deletes
    (subst (λ (ns : List ℕ). AreAnswered c.report.new.manager ns c.args.self.now.rounds (c.next_time-now.result / 1000000) c.args.self.now.retired.items c.note_retired.new.retired.items)
    c.as_slice.ensures.value c.in_ok-note_retired.ensures)
    on
