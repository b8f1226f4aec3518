use Rattle.std.proofs.Common.{drop}
use Rattle.bm_base.specs.Maps.Map.{insert_all}
use Rattle.bm_shard.proofs.OwnTransfers.{AreAhead, to_put, own}
use Rattle.bm_shard.proofs.own_transfers.insert_own.Given as goal

-- with the own transfers from this index on inserted too, all are pending
abbrev pub invariant-loop-transfer : goal.invariant-loop-transfer
invariant-loop-transfer l = AreAhead l.part l.round l.pending (drop l.transfer-index l.transfers) (insert_all l.initial.pending.map (to_put l.round (own l.part l.transfers)))
