use Rattle.std.proofs.Common.{sym, ◌∙◌}
use Rattle.bm_report.proofs.Aborts.{names_reported}
use Rattle.bm_report.proofs.report.Report.prepare_notice.Goals as goal

pub returns-clause-fresh : goal.returns-clause-fresh
returns-clause-fresh c b none some = sym (names_reported c.look_up_alone.new.named.items b) ∙ c.look_up_alone.ensures.fresh.fresh b none some
