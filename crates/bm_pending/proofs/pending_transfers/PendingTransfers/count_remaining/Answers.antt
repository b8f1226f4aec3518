use Rattle.std.proofs.Common.{ℕ, not, filter, length, ap, sym, ◌∙◌}
use Rattle.std.specs.Prelude.{count_by}
use Rattle.std.proofs.lemmas.List.{length-map}
use Rattle.std.proofs.lemmas.List.Sums.{length-filter}
use Rattle.bm_base.specs.Machine.RoundStart.{is_expired}
use Rattle.bm_pending.specs.Inside.{targets_at}
use Rattle.bm_pending.proofs.RemainingTargets.{left-seen}
use Rattle.bm_pending.proofs.pending_transfers.PendingTransfers.count_remaining.Goals as goal

pub returns : goal.returns
returns c =
    let es = c.self.inside.by_block.entries in
    let stays = λ (t : ℕ × ℕ). not (is_expired c.args.pend c.args.round t.1) in
    let ts = targets_at es c.block.inside.0 in
    rw (← c.self.view_is, ← c.block.view_is)
    (c.count_remaining_among.ensures ∙ ap (count_by stays) c.list_targets.ensures ∙ sym (ap length (left-seen es c.self.invariant.ascending c.args.pend c.args.round c.block.inside.0) ∙ length-map (filter stays ts) (λ (t : ℕ × ℕ). t.0) ∙ length-filter stays ts))
