use Rattle.std.proofs.Common.{ℕ, List, not, filter, ap, sym, map, ◌∙◌}
use Rattle.bm_base.specs.Machine.RoundStart.{is_expired}
use Rattle.bm_pending.proofs.RemainingTargets.{left-seen}
use Rattle.bm_pending.proofs.pending_transfers.PendingTransfers.remaining_targets.Goals as goal

pub returns-clause-targets : goal.returns-clause-targets
returns-clause-targets c =
    let es = c.self.inside.by_block.entries in
    c.in_ok-left.ensures
    ∙ ap (λ (ts : List (ℕ × ℕ)). map (λ (t : ℕ × ℕ). t.0) (filter (λ (t : ℕ × ℕ). not (is_expired c.args.pend c.args.round t.1)) ts)) c.list_targets.ensures
    ∙ (rw (← c.self.view_is, ← c.block.view_is) (sym (left-seen es c.self.invariant.ascending c.args.pend c.args.round c.block.inside.0)))
