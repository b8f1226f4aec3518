use Rattle.bm_lines.proofs.OpLemmas.{without_list}
use Rattle.bm_lines.proofs.parser.call.call_for.Goals as goal

pub call_without_list-requires : goal.call_without_list-requires
call_without_list-requires c = without_list c.args.op c.in_default.not-Register c.in_default.not-Heartbeat c.in_default.not-Report
