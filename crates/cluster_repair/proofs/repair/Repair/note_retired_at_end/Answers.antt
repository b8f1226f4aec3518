use Rattle.std.proofs.Common.{ℕ, List, refl, subst}
use Rattle.std.specs.Prelude.{◌/◌}
use Rattle.cluster_repair.specs.Retirements.{AreAnswered}
use Rattle.cluster_repair.proofs.Reach.{ended}
use Rattle.cluster_repair.proofs.repair.Repair.note_retired_at_end.Goals as goal

pub returns-clause-ended : goal.returns-clause-ended
returns-clause-ended c M d on =
    ended c.args.facts.now.ticks M d c.args.manager.now c.args.self.now _ c.next_time-next.result (c.next_time-next.ensures M d c.args.manager.now)
    (subst (λ (ns : List ℕ). AreAnswered c.args.manager.now ns c.args.self.now.rounds (c.next_time-next.result / 1000000) c.args.self.now.retired.items c.note_retired.new.retired.items)
    c.as_slice.ensures.value c.in_ok-note_retired.ensures)
    refl refl refl refl refl refl refl on
