use Rattle.std.proofs.Common.{ap, sym, ◌∙◌, option_map, string_bytes}
use Rattle.cluster_report.proofs.ReadLemmas.{not_noted}
use Rattle.cluster_report.proofs.line_reader.take_line.Goals as goal

pub returns-in-None-clause-notes : goal.returns-in-None-clause-notes
returns-in-None-clause-notes g c = not_noted c.args.number _ _ (sym c.in_ok-why.ensures.refusal_text ∙ ap (option_map string_bytes) c.in-None.is)
