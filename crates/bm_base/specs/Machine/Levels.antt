-- How urgently a block needs replicas. Source: the queues of Hadoop 2's UnderReplicatedBlocks;
-- which block is in which queue is this project's own choice.
use Rattle.std.specs.Prelude.{ℕ, ◌*◌, Bool, ◌&&◌, if◌then◌else◌, ◌==◌, nat_lt, nat_le, List, [], ◌∷◌, length, Option, Some, None, option_and_then}
use Rattle.bm_base.specs.declared.replica.BlockInfo.{BlockInfo}
use Rattle.bm_base.specs.declared.replica.Level.{Level}
use Rattle.bm_base.specs.declared.replica.Level.TheVariants.{Highest, VeryUnderReplicated, UnderReplicated, BadlyDistributed, NoUsableReplica}
use Rattle.bm_base.specs.Maps.Map.{get}
use Rattle.bm_base.specs.Maps.Lists.{has_some}
use Rattle.bm_base.specs.Machine.State.{Cluster, Holdings}
use Rattle.bm_base.specs.Machine.Replicas.{live, drained, racks, is_multi_rack}

abbrev pub level_number : Level → ℕ
level_number Highest = 0
level_number VeryUnderReplicated = 1
level_number UnderReplicated = 2
level_number BadlyDistributed = 3
level_number NoUsableReplica = 4

-- the level of a block without a live replica and with n drained ones: drained replicas can still
-- be copied
abbrev pub level_without_live : ℕ → Level
level_without_live drained = if drained == 0 then NoUsableReplica else Highest

-- what decides the level of a block
pub record BlockCounts : Type 0 where
  -- how many live replicas it has, how many drained ones, and how many are wanted
  pub live : ℕ
  pub drained : ℕ
  pub wanted : ℕ
  -- on how many racks its live replicas are
  pub racks : ℕ
  -- whether the alive nodes are on two racks or more
  pub multi_rack : Bool

-- How urgent a block is. With enough live replicas it is badly distributed if they share one rack
-- although the cluster has several; else it has no level.
unfoldable pub level_of : BlockCounts → Option Level
level_of k =
    if nat_le k.wanted k.live
    then (
    if nat_lt 1 k.wanted && (k.racks == 1) && k.multi_rack then Some BadlyDistributed else None)
    else Some (
    if k.live == 0 then level_without_live k.drained
    else if k.live == 1 then Highest
    else if nat_lt (k.live * 3) k.wanted then VeryUnderReplicated
    else UnderReplicated)

-- the counts of a block with this information
abbrev pub counts_of : Cluster → Holdings → ℕ → BlockInfo → BlockCounts
counts_of C H b i = record {
  live = length (live C H b);
  drained = length (drained C H b);
  wanted = i.repl;
  racks = length (racks C (live C H b));
  multi_rack = is_multi_rack C;
}

-- the level of a known block
unfoldable pub level : Cluster → Holdings → ℕ → Option Level
level C H b = option_and_then (λ i. level_of (counts_of C H b i)) (get H.blocks b)

-- the levels at which copies are wanted, the most urgent first
abbrev pub urgent_levels : List Level
urgent_levels = Highest ∷ VeryUnderReplicated ∷ UnderReplicated ∷ BadlyDistributed ∷ []

-- whether there is a level, and it is this one
abbrev pub is_at : Level → Option Level → Bool
is_at urgency found = has_some found (λ other. level_number other == level_number urgency)
