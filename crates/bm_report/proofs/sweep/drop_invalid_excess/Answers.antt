use Rattle.bm_arena.specs.HeldMaps.{replicas_of}
use Rattle.bm_report.proofs.InvalidExcess.{drops-same, kept_all}
use Rattle.bm_report.proofs.sweep.drop_invalid_excess.Goals as goal

pub returns-else-has_invalid_excess : goal.returns-else-has_invalid_excess
returns-else-has_invalid_excess c =
    drops-same c.args.storage c.args.named.now c.args.arena.now (kept_all c.args.storage c.args.named.now (replicas_of c.args.arena.now) (c.requires.good c.if-has_invalid_excess.false))
