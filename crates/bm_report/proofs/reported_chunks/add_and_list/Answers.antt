use Rattle.bm_report.proofs.ListedSlots.{came-push}
use Rattle.bm_report.proofs.PartialReport.{listed-push}
use Rattle.bm_report.proofs.reported_chunks.add_and_list.Goals as goal

pub returns-then-add_reported-clause-listed : goal.returns-then-add_reported-clause-listed
returns-then-add_reported-clause-listed c =
    listed-push c.args.arena.now c.add_reported.new.arena c.args.named.now.slot c.args.changed.now.items c.push_reserved.new.self.items c.add_reported.ensures.others c.push_reserved.ensures.items (c.args.named.now.id, c.requires.here) c.add_reported.ensures.entered.frame.ids

pub returns-then-add_reported-clause-came : goal.returns-then-add_reported-clause-came
returns-then-add_reported-clause-came c = came-push c.args.named.now.slot c.args.changed.now.items c.push_reserved.new.self.items c.push_reserved.ensures.items
