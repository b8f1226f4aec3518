use Rattle.std.proofs.Common.{ap, ◌∙◌, sym}
use Rattle.bm_base.specs.Machine.State.{replica_at}
use Rattle.bm_report.proofs.Maps.{get-here}
use Rattle.bm_levels.specs.Changes.{as_ordered}
use Rattle.bm_maps.proofs.ReplaceLaws.{no_change}
use Rattle.bm_arena.specs.Contents.{marks_at}
use Rattle.bm_arena.specs.HeldMaps.{replicas_of}
use Rattle.bm_levels.specs.LeveledBlocks.{Leveled}
use Rattle.bm_levels.proofs.RevisedHoldings.{put_changed, replica_absent}
use Rattle.bm_levels.proofs.leveled_blocks.LeveledBlocks.mark_one_ordered.Goals as goal

pub returns-in_default-clause-replicas : goal.returns-in_default-clause-replicas
returns-in_default-clause-replicas c =
    let a = c.args.self.now.arena in
    no_change (replicas_of a) (replica_at c.args.id c.args.storage) as_ordered (replica_absent a c.args.id c.args.storage (sym c.in_default.ensures))

pub returns-in-Some-marks_near-clause-replicas : goal.returns-in-Some-marks_near-clause-replicas
returns-in-Some-marks_near-clause-replicas c =
    let a = c.args.self.now.arena in
    let here = sym c.in-Some.ensures in
    c.order_delete.ensures.replicas c.args.id here
    ∙ put_changed (replicas_of a) (replica_at c.args.id c.args.storage) as_ordered _ (get-here a c.args.id c.in-Some.slot c.args.storage here ∙ ap (λ (v : Leveled). marks_at v.arena c.in-Some.slot c.args.storage) (sym c.self.view_is) ∙ sym c.in-Some-marks_near.ensures)

pub returns-in_default-marks_near-clause-replicas : goal.returns-in_default-marks_near-clause-replicas
returns-in_default-marks_near-clause-replicas c =
    let a = c.args.self.now.arena in
    no_change (replicas_of a) (replica_at c.args.id c.args.storage) as_ordered (get-here a c.args.id c.in-Some.slot c.args.storage (sym c.in-Some.ensures) ∙ ap (λ (v : Leveled). marks_at v.arena c.in-Some.slot c.args.storage) (sym c.self.view_is) ∙ sym c.in_default-marks_near.ensures)
