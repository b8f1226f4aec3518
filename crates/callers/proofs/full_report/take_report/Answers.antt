use Rattle.std.proofs.Common.{◌∙◌, ap}
use Rattle.bm_base.specs.Machine.Events.{report}
use Rattle.bm_arena.specs.HeldMaps.{holdings_of}
use Rattle.bm_report.specs.Ready.{reported_blocks}
use Rattle.callers.proofs.Holdings.{same_holdings}
use Rattle.callers.proofs.full_report.take_report.Goals as goal

pub returns-clause-replicas : goal.returns-clause-replicas
returns-clause-replicas c =
    let C = c.args.topology.now.cluster in
    c.apply_full.ensures.replicas
    ∙ ap (λ H. (report C H c.args.storage (reported_blocks c.ready.new.self)).replicas) (same_holdings c.args.arena.now c.ready.new.arena c.ready.ensures.kept.replicas c.ready.ensures.kept.blocks)
    ∙ ap (λ ts. (report C (holdings_of c.args.arena.now) c.args.storage ts).replicas) c.in_default.ensures.reported
