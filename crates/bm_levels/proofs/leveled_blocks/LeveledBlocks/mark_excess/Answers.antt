use Rattle.std.proofs.Common.{Some, ◌∙◌, sym, ap}
use Rattle.bm_base.specs.Maps.Map.{insert}
use Rattle.bm_maps.proofs.ReplaceLaws.{no_change}
use Rattle.bm_arena.specs.HeldMaps.{replicas_of}
use Rattle.bm_arena.proofs.StableEntries.{entries-none}
use Rattle.bm_report.proofs.Maps.{get-here}
use Rattle.bm_levels.specs.Changes.{as_excess}
use Rattle.bm_levels.proofs.RevisedHoldings.{put_changed, replica_absent}
use Rattle.bm_levels.proofs.leveled_blocks.LeveledBlocks.mark_excess.Goals as goal

pub returns-in_default-clause-replicas : goal.returns-in_default-clause-replicas
returns-in_default-clause-replicas c =
    let a = c.args.self.now.arena in
    let p = c.args.replica.now in
    no_change (replicas_of a) p as_excess (replica_absent a p.block p.storage (sym c.in_default.ensures))

pub returns-in-Some-marks_of-clause-replicas : goal.returns-in-Some-marks_of-clause-replicas
returns-in-Some-marks_of-clause-replicas c =
    let a = c.args.self.now.arena in
    let p = c.args.replica.now in
    let here = sym c.in-Some.ensures in
    let there = sym c.in-Some-marks_of.ensures in
    c.set_marks.ensures.replicas p.block here
    ∙ ap (λ m. insert (replicas_of a) p m) c.with_excess.ensures
    ∙ put_changed (replicas_of a) p as_excess _ (get-here a p.block c.in-Some.slot p.storage here ∙ there)

pub returns-in_default-marks_of-clause-replicas : goal.returns-in_default-marks_of-clause-replicas
returns-in_default-marks_of-clause-replicas c =
    let a = c.args.self.now.arena in
    let p = c.args.replica.now in
    no_change (replicas_of a) p as_excess (get-here a p.block c.in-Some.slot p.storage (sym c.in-Some.ensures) ∙ sym c.in_default-marks_of.ensures)

pub returns-in_default-clause-entries : goal.returns-in_default-clause-entries
returns-in_default-clause-entries c = entries-none c.args.self.now.arena

pub returns-in_default-marks_of-clause-entries : goal.returns-in_default-marks_of-clause-entries
returns-in_default-marks_of-clause-entries c = entries-none c.args.self.now.arena

pub returns-in-Some-marks_of-clause-others : goal.returns-in-Some-marks_of-clause-others
returns-in-Some-marks_of-clause-others c slot differs = c.set_marks.ensures.rest.blocks slot (λ e. differs (sym c.in-Some.ensures ∙ ap Some (sym e)))
