use Rattle.std.proofs.Common.{take}
use Rattle.bm_pending.proofs.OwnCounts.{HasCounted}
use Rattle.bm_pending.proofs.pending_transfers.PendingTransfers.reserve_own.Given as goal

-- the transfers before this index were counted, and there is capacity for them
abbrev pub invariant-loop-transfer : goal.invariant-loop-transfer
invariant-loop-transfer l = HasCounted l.part l.fn.self l.self l.counts.entries (take l.transfer-index l.transfers)
