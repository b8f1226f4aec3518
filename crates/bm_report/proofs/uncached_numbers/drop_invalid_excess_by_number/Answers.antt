use Rattle.bm_arena.specs.HeldMaps.{replicas_of}
use Rattle.bm_report.specs.ReportedBlocks.{reported_to_part}
use Rattle.bm_report.specs.Ready.{named_of}
use Rattle.bm_report.proofs.InvalidExcess.{drops-same, kept_all}
use Rattle.bm_report.proofs.uncached_numbers.drop_invalid_excess_by_number.Goals as goal

pub returns-else-has_invalid_excess : goal.returns-else-has_invalid_excess
returns-else-has_invalid_excess c =
    let ns = named_of c.args.arena.now (reported_to_part c.args.part c.args.entries.now) in
    drops-same c.args.storage ns c.args.arena.now (kept_all c.args.storage ns (replicas_of c.args.arena.now) (c.requires.good c.if-has_invalid_excess.false))
