use Rattle.std.proofs.Common.{ℕ, ◌≤◌, ◌==◌, length, filter, List, subst}
use Rattle.std.specs.Prelude.{OnOk}
use Rattle.bm_base.specs.declared.commands.Transfer.{Transfer}
use Rattle.bm_base.specs.RoundParts.{own_transfers}
use Rattle.bm_pending.specs.PendingMap.{capacity}
use Rattle.bm_shard.specs.ShardView.{IsReadyForRound}
use Rattle.bm_shard.proofs.AfterRound.{same_without_capacity}
use Rattle.bm_shard.proofs.shard.Shard.round_ready.Goals as goal

pub returns-clause-ready : goal.returns-clause-ready
unfolding IsReadyForRound
returns-clause-ready c =
    let part = c.self.inside.part in
    let P : List Transfer → Type 0 = λ ts. OnOk c.reserve_own.result ((b : ℕ) → length (filter (λ t. t.block == b) (own_transfers part.index part.shards ts)) ≤ capacity c.reserve_own.new.self b) in
    subst P c.as_slice.ensures c.reserve_own.ensures.capacity

pub returns-clause-same : goal.returns-clause-same
returns-clause-same c =
    let v = c.self.inside in
    same_without_capacity v.blocks v.pending.map c.reserve_own.new.self.map c.reserve_own.ensures.map v.part v.round v.pend _ _ c.args.self.now c.self.view_is
