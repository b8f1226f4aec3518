-- The work on shards one by one, each with its index.
use Rattle.std.specs.Prelude.{◌≡◌, ◌<◌, ◌^◌, ℕ, suc, List, [], ◌∷◌, IfErr, OnOk}
use Rattle.bm_base.specs.declared.config.Config.{Config}
use Rattle.bm_base.specs.declared.event.Done.{Done}
use Rattle.bm_base.specs.declared.event.Event.{Event}
use Rattle.bm_base.specs.declared.refusal.Refusal.TheVariants.{Memory}
use Rattle.bm_base.specs.Words.{Cluster, empty_holdings, change_cluster, done}
use Rattle.bm_parts.specs.Parts.{change_part}
use Rattle.bm_shard.specs.ShardView.{Seen, IsReadyFor}
use Rattle.bm_shard.specs.UnusedEntries.{HasNoUnused, HasNoUnusedCapacity}
use Rattle.bm_shard.specs.UpToDate.{IsUpToDate, IsSameButCapacity}
use Rattle.bm_shards.specs.declared.answers.Answered.{Answered}
use Rattle.bm_shards.specs.Answers.{ShardResult}

-- a new shard of this index
pub record IsNew (config : Config) (i : ℕ) (s : ℕ × Seen) : Type 0 where
  pub index : s.0 ≡ i
  pub empty : s.1.holdings ≡ empty_holdings
  pub part : s.1.part ≡ record { index = i; shards = config.shards }
  pub round : s.1.round ≡ config.first_round
  pub pend : s.1.pend ≡ config.pend
  pub up_to_date : (C : Cluster) → IsUpToDate C s.1

-- new shards, from this index on
abbrev pub AreNew : Config → ℕ → List (ℕ × Seen) → Type 0
AreNew config index [] = Unit {0}
AreNew config index (s ∷ ss) = IsNew config index s × AreNew config (suc index) ss

-- the same shard, in all but capacity
abbrev pub IsSame : ℕ × Seen → ℕ × Seen → Type 0
IsSame s t = (t.0 ≡ s.0) × IsSameButCapacity s.1 t.1

-- the reservations for an event or a round are released: no number has an unused entry, and no
-- block has unused capacity for transfers
pub record HasGivenUp (S : Seen) : Type 0 where
  pub unused : HasNoUnused S
  pub freed : HasNoUnusedCapacity S

-- the same shard in all but capacity, which is ready, or out of memory
pub record IsPrepared (IsReady : Seen → Type 0) (S : Seen) (made : ShardResult (Unit {0})) : Type 0 where
  pub same : IsSameButCapacity S made.shard
  pub ready : OnOk made.answer (IsReady made.shard)
  pub refused : IfErr made.answer (λ e. e ≡ Memory)

-- a shard that may be changed
pub record CanCommit (C : Cluster) (e : Event) (S : Seen) : Type 0 where
  pub up_to_date : IsUpToDate C S
  pub ready : IsReadyFor e S

-- a shard that was changed, and what it answered
pub record IsCommitted (C : Cluster) (e : Event) (S : Seen) (made : Answered Done) : Type 0 where
  pub holdings : made.shard.holdings ≡ change_part C S.holdings S.part.index S.part.shards e
  pub done : made.answer ≡ done S.holdings made.shard.holdings
  pub few : (made.answer.added < 2 ^ 100) × (made.answer.removed < 2 ^ 100)
  pub up_to_date : IsUpToDate (change_cluster C e) made.shard
  pub part : made.shard.part ≡ S.part
  pub round : made.shard.round ≡ S.round
  pub pend : made.shard.pend ≡ S.pend
