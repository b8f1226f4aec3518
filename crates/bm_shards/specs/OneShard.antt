-- An event on one block, made on the block's shard alone.
use Rattle.std.specs.Prelude.{◌≡◌, ℕ, List, Some, slice_get, slice_set}
use Rattle.bm_base.specs.declared.event.Event.{Event}
use Rattle.bm_base.specs.declared.event.Done.{Done}
use Rattle.bm_base.specs.Words.{Cluster, change_cluster, done}
use Rattle.bm_parts.specs.Parts.{change_part}
use Rattle.bm_shard.specs.ShardView.{Seen}
use Rattle.bm_shard.specs.UpToDate.{IsUpToDate}

-- a shard changed as the event changes it, and this was answered
pub record IsChanged (C : Cluster) (e : Event) (S T : Seen) (d : Done) : Type 0 where
  pub holdings : T.holdings ≡ change_part C S.holdings S.part.index S.part.shards e
  pub done : d ≡ done S.holdings T.holdings
  pub up_to_date : IsUpToDate (change_cluster C e) T
  pub part : T.part ≡ S.part
  pub round : T.round ≡ S.round
  pub pend : T.pend ≡ S.pend

-- the shard at this index became another one, and R holds of both; all other shards stay
pub record IsMadeAt (R : Seen → Seen → Type 0) (index : ℕ) (old new : List (ℕ × Seen)) : Type 0 where
  pub shard : ℕ × Seen
  pub made : Seen
  pub there : slice_get old index ≡ Some shard
  pub now : new ≡ slice_set old index (shard.0, made)
  pub holds : R shard.1 made

-- the shard at this index changed as the event changes it, with this answer
abbrev pub IsChangedAt : Cluster → Event → ℕ → List (ℕ × Seen) → List (ℕ × Seen) → Done → Type 0
IsChangedAt C e index old new d = IsMadeAt (λ S T. IsChanged C e S T d) index old new
