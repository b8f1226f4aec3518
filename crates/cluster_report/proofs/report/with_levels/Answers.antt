use Rattle.std.proofs.Common.{rules}
use Rattle.cluster_report.proofs.ReportLemmas.{report_is}
use Rattle.cluster_report.proofs.report.with_levels.Goals as goal

pub returns : goal.returns
returns c =
    report_is c.args.manager.now _ c.calls.ensures c.rounds.ensures c.in_ok-nodes.ensures (search rules) c.held_level_bytes.ensures
    (search rules) c.held_tag_bytes.ensures c.requires.excess (search rules) c.requires.missing (search rules)
