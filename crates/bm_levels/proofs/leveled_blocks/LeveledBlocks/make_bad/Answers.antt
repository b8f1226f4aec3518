use Rattle.std.proofs.Common.{◌∙◌, sym}
use Rattle.bm_base.specs.Words.{replica_at, as_bad}
use Rattle.bm_maps.proofs.ReplaceLaws.{no_change}
use Rattle.bm_arena.specs.HeldMaps.{replicas_of}
use Rattle.bm_report.proofs.Maps.{get-here}
use Rattle.bm_levels.proofs.RevisedHoldings.{put_changed, replica_absent}
use Rattle.bm_levels.proofs.leveled_blocks.LeveledBlocks.make_bad.Goals as goal

pub returns-in_default-clause-replicas : goal.returns-in_default-clause-replicas
returns-in_default-clause-replicas c =
    let a = c.args.self.now.arena in
    no_change (replicas_of a) (replica_at c.args.id c.args.storage) as_bad (replica_absent a c.args.id c.args.storage (sym c.in_default.ensures))

pub returns-in-Some-marks_of-clause-replicas : goal.returns-in-Some-marks_of-clause-replicas
returns-in-Some-marks_of-clause-replicas c =
    let a = c.args.self.now.arena in
    let here = sym c.in-Some.ensures in
    c.set_marks.ensures.replicas c.args.id here
    ∙ put_changed (replicas_of a) (replica_at c.args.id c.args.storage) as_bad _ (get-here a c.args.id c.in-Some.slot c.args.storage here ∙ sym c.in-Some-marks_of.ensures)

pub returns-in_default-marks_of-clause-replicas : goal.returns-in_default-marks_of-clause-replicas
returns-in_default-marks_of-clause-replicas c =
    let a = c.args.self.now.arena in
    no_change (replicas_of a) (replica_at c.args.id c.args.storage) as_bad (get-here a c.args.id c.in-Some.slot c.args.storage (sym c.in-Some.ensures) ∙ sym c.in_default-marks_of.ensures)
