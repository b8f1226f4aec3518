use Rattle.std.proofs.Common.{None, Some}
use Rattle.bm_pending.proofs.ByIndices.{index-seen}
use Rattle.bm_pending.proofs.pending_transfers.PendingTransfers.block_at.Goals as goal

pub returns-in-Some : goal.returns-in-Some
returns-in-Some c = index-seen c.self.inside.by_block.entries c.args.self.now c.self.view_is (Some (c.in-Some.block.now, c.in-Some.field-0-1.now)) c.args.index c.in-Some.ensures.entry

pub returns-in-None : goal.returns-in-None
returns-in-None c = index-seen c.self.inside.by_block.entries c.args.self.now c.self.view_is None c.args.index c.in-None.ensures.entry
