use Rattle.std.proofs.Common.{sym, ◌∙◌}
use Rattle.bm_round_scan.proofs.NoTransfers.{none_left}
use Rattle.bm_round_scan.proofs.scan.RoundScan.remaining_targets.Goals as goal

pub returns-then-count-eq0-clause-targets : goal.returns-then-count-eq0-clause-targets
returns-then-count-eq0-clause-targets c =
    let p = c.args.self.now.pending.now in
    c.new.ensures ∙ none_left p c.show_invariant.ensures.listed (sym c.count.ensures ∙ c.if-count-eq0.true) c.args.self.now.pend c.args.self.now.round c.args.id
