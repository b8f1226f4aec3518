use Rattle.std.proofs.Common.{ap, sym, length, ◌∙◌}
use Rattle.bm_pending.proofs.GroupedTransfers.{count-seen}
use Rattle.bm_pending.proofs.pending_transfers.PendingTransfers.count_of.Goals as goal

pub returns : goal.returns
returns c = rw (← c.self.view_is, ← c.block.view_is) (ap length c.list_targets.ensures ∙ sym (count-seen c.self.inside.by_block.entries c.block.inside.0 c.self.invariant.ascending))
