use Rattle.std.proofs.Common.{refl}
use Rattle.cluster_repair.proofs.Reach.{noted_row}
use Rattle.cluster_repair.proofs.repair.Repair.note_row.Goals as goal

pub returns-clause-noted : goal.returns-clause-noted
returns-clause-noted c ticks M d on =
    noted_row ticks M d c.args.manager.now c.args.self.now _ _ c.in_ok-levels.ensures.counts refl refl refl c.len.ensures c.requires.taken c.in_ok-levels.ensures.blocks
    (c.in_ok-push.ensures.rows M d) c.in_ok-push.ensures.last refl refl refl refl refl refl on
