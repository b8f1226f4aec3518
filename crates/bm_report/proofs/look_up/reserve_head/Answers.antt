use Rattle.bm_report.proofs.Preparation.{prepared-reserved}
use Rattle.bm_report.proofs.look_up.reserve_head.Goals as goal

pub returns-clause-kept : goal.returns-clause-kept
returns-clause-kept c = prepared-reserved c.args.arena.now c.reserve_heads.new.self c.show_invariant.ensures c.reserve_heads.ensures.lawful c.reserve_heads.ensures.kept
