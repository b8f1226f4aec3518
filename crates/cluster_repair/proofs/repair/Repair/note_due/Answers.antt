use Rattle.cluster_repair.proofs.repair.Repair.note_due.Goals as goal

pub returns-in_ok-note_row-clause-under_way : goal.returns-in_ok-note_row-clause-under_way
returns-in_ok-note_row-clause-under_way c ticks M d on = (c.in_ok-note_row.ensures.noted ticks M d on).under_way
