use Rattle.std.proofs.Common.{◌≡◌, drop}
use Rattle.bm_pending.specs.PendingMap.{blocks_in}
use Rattle.bm_shard.proofs.Arrivals.{dropped}
use Rattle.bm_shard.proofs.arrived_transfers.drop_arrived.Given as goal

-- with those of the blocks from this index on removed too, all that have arrived are removed
pub record AreDropped (l : goal.Live-loop-index) : Type 0 where
  pub places : blocks_in l.pending ≡ blocks_in l.initial.pending
  pub map : dropped l.arena l.storage (drop l.index (blocks_in l.initial.pending)) l.pending.map ≡ dropped l.arena l.storage (blocks_in l.initial.pending) l.initial.pending.map

abbrev pub invariant-loop-index : goal.invariant-loop-index
invariant-loop-index l = AreDropped l
