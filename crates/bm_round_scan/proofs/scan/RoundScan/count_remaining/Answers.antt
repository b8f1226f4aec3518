use Rattle.std.proofs.Common.{ap, length, sym, ◌∙◌}
use Rattle.bm_round_scan.proofs.NoTransfers.{none_left}
use Rattle.bm_round_scan.proofs.scan.RoundScan.count_remaining.Goals as goal

pub returns-then-count-eq0 : goal.returns-then-count-eq0
returns-then-count-eq0 c =
    let p = c.args.self.now.pending.now in
    ap length (none_left p c.show_invariant.ensures.listed (sym c.count.ensures ∙ c.if-count-eq0.true) c.args.self.now.pend c.args.self.now.round c.args.id)
