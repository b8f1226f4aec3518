use Rattle.laws_of_repairs.proofs.Reports.{reports_keep}
use Rattle.laws_of_repairs.proofs.reports_keep_levels.Goals as goal

pub returns : goal.returns
returns c = reports_keep
