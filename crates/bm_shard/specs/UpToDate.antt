-- Invariants of a shard together with its cluster.
use Rattle.std.specs.Prelude.{◌≡◌, ◌+◌}
use Rattle.bm_base.specs.declared.round.RoundPart.{RoundPart}
use Rattle.bm_base.specs.Machine.State.{Cluster}
use Rattle.bm_base.specs.RoundParts.{round_part}
use Rattle.bm_parts.specs.PlacedLaws.{IsPlaced}
use Rattle.bm_shard.specs.ShardView.{Seen}
use Rattle.bm_shard.specs.EventEffects.{HasLevels}

-- the stored levels are those of this cluster, and replicas are where they may be
pub record IsUpToDate (C : Cluster) (S : Seen) : Type 0 where
  pub levels : HasLevels C S
  pub placed : IsPlaced C S.holdings

-- Two views of a shard differ only in capacity. Levels are stored by slots, which may change; if
-- they were right in a cluster, they still are.
pub record IsSameButCapacity (old new : Seen) : Type 0 where
  pub rest : new ≡ record old { levels = new.levels; reserved = new.reserved }
  pub levels : (C : Cluster) → IsUpToDate C old → new.levels ≡ old.levels

-- the part of the shard as its next round begins
abbrev pub next_part : Cluster → Seen → RoundPart
next_part C S = round_part C S.pend (S.round + 1) S.holdings
