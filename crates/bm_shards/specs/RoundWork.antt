-- The work on shards one by one in a round, each with its index.
use Rattle.std.specs.Prelude.{◌≡◌, ◌<◌, ◌+◌, ◌^◌, ℕ, List, Some, option_map, slice_get}
use Rattle.bm_base.specs.declared.round.RoundPart.{RoundPart}
use Rattle.bm_base.specs.declared.round.Chosen.{Chosen}
use Rattle.bm_base.specs.Machine.State.{Cluster}
use Rattle.bm_base.specs.RoundParts.{round_on_part}
use Rattle.bm_shard.specs.ShardView.{Seen, IsReadyForRound}
use Rattle.bm_shard.specs.UpToDate.{IsUpToDate, next_part}

-- a shard of which this is the next round
pub record CanFind (C : Cluster) (r : ℕ) (S : Seen) : Type 0 where
  pub next : r ≡ S.round + 1
  pub up_to_date : IsUpToDate C S

-- the part at the shard's index has the excess of the shard's own part: a round needs no more of it
abbrev pub HasPart : Cluster → List RoundPart → ℕ × Seen → Type 0
HasPart C parts s = option_map (λ (p : RoundPart). p.excess) (slice_get parts s.0) ≡ Some (next_part C s.1).excess

-- a shard that may take its next round, whose number is still one of 64 bits
pub record CanCommitRound (C : Cluster) (parts : List RoundPart) (chosen : Chosen) (s : ℕ × Seen) : Type 0 where
  pub up_to_date : IsUpToDate C s.1
  pub part : HasPart C parts s
  pub ready : IsReadyForRound chosen s.1
  pub counted : s.1.round + 1 < 2 ^ 64

-- a shard that took its next round
pub record HasTakenRound (C : Cluster) (chosen : Chosen) (S made : Seen) : Type 0 where
  pub holdings : made.holdings ≡ round_on_part C S.pend (S.round + 1) S.holdings S.part.index S.part.shards chosen.transfers chosen.deletes
  pub up_to_date : IsUpToDate C made
  pub part : made.part ≡ S.part
  pub round : made.round ≡ S.round + 1
  pub pend : made.pend ≡ S.pend
