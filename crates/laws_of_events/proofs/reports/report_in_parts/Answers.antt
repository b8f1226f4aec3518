use Rattle.laws_of_events.proofs.ReportParts.{in_parts}
use Rattle.laws_of_events.proofs.reports.report_in_parts.Goals as goal

pub returns : goal.returns
returns c = in_parts
