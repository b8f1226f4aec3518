use Rattle.std.proofs.Common.{Bool, subst, sym}
use Rattle.bm_base.specs.Machine.Replicas.{rack_of, is_draining}
use Rattle.bm_arena.specs.Contents.{Contents, IsLawful}
use Rattle.bm_levels.specs.LevelsBy.{AreLevelsBy, IsSameForHeld}
use Rattle.bm_levels.proofs.UpToDate.{levels_for_held}
use Rattle.bm_levels.proofs.leveled_blocks.LeveledBlocks.reclassify_for_racks.Goals as goal

pub returns-clause-levels : goal.returns-clause-levels
returns-clause-levels c D multi same h =
    let C = c.args.topology.now.cluster in
    let v = c.reclassify_if_racks_change.new.self in
    let P : Bool → Type 0 = λ m. AreLevelsBy (rack_of C) (is_draining C) m v in
    let Q : Contents → Type 0 = λ a. IsSameForHeld C D a in
    levels_for_held C D v (subst IsLawful c.arena.ensures c.show_invariant-2.ensures) c.show_invariant.ensures (subst Q (sym c.reclassify_if_racks_change.ensures.arena) same) (subst P multi (c.reclassify_if_racks_change.ensures.levels h))
