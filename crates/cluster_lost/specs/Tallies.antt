-- Blocks counted by level, and the bytes that they lack.
use Rattle.std.specs.Prelude.{ℕ, ◌+◌, ◌-◌, ◌*◌, ◌^◌, ◌≤◌, if◌then◌else◌, List, [], ◌∷◌, Option, Some, is_none}
use Rattle.bm_base.specs.declared.replica.BlockInfo.{BlockInfo}
use Rattle.bm_base.specs.declared.replica.Level.{Level}
use Rattle.bm_base.specs.declared.replica.Level.TheVariants.{Highest, VeryUnderReplicated, UnderReplicated, BadlyDistributed}
use Rattle.bm_base.specs.Machine.Levels.{is_at}
use Rattle.cluster_lost.specs.Sources.{level_by, lacking_by}
use Rattle.cluster_lost.specs.declared.sources.Source.{Source}
use Rattle.cluster_lost.specs.declared.tally.Tally.{Tally}

-- a number for a block, by its usable replicas
abbrev pub Value : Type 0
Value = BlockInfo → List Source → ℕ

-- 1 for a block at a level, and 1 for a block without one
abbrev pub at : Level → Value
at urgency i us = if is_at urgency (level_by i us) then 1 else 0

abbrev pub without_level : Value
without_level i us = if is_none (level_by i us) then 1 else 0

-- a value; 0 without a usable replica
abbrev pub weigh : Value → BlockInfo → List Source → ℕ
weigh v i [] = 0
weigh v i (u ∷ us) = v i (u ∷ us)

-- a tally by the sum of each value
abbrev pub tally_of : (Value → ℕ) → Tally
tally_of f = record {
  highest = f (at Highest);
  very_under_replicated = f (at VeryUnderReplicated);
  under_replicated = f (at UnderReplicated);
  badly_distributed = f (at BadlyDistributed);
  none = f without_level;
  lacking = f lacking_by;
}

abbrev pub no_blocks : Tally
no_blocks = record { highest = 0; very_under_replicated = 0; under_replicated = 0; badly_distributed = 0; none = 0; lacking = 0 }

-- a tally with one more block at this level
abbrev pub with_level : Option Level → Tally → Tally
with_level found t = record t {
  highest = t.highest + (if is_at Highest found then 1 else 0);
  very_under_replicated = t.very_under_replicated + (if is_at VeryUnderReplicated found then 1 else 0);
  under_replicated = t.under_replicated + (if is_at UnderReplicated found then 1 else 0);
  badly_distributed = t.badly_distributed + (if is_at BadlyDistributed found then 1 else 0);
  none = t.none + (if is_none found then 1 else 0);
}

-- a tally with one more block
abbrev pub with_block : BlockInfo → List Source → Tally → Tally
with_block i us t = record {
  highest = t.highest + weigh (at Highest) i us;
  very_under_replicated = t.very_under_replicated + weigh (at VeryUnderReplicated) i us;
  under_replicated = t.under_replicated + weigh (at UnderReplicated) i us;
  badly_distributed = t.badly_distributed + weigh (at BadlyDistributed) i us;
  none = t.none + weigh without_level i us;
  lacking = t.lacking + weigh lacking_by i us;
}

-- a tally of at most n blocks
pub record AreWithin (n : ℕ) (t : Tally) : Type 0 where
  pub highest : t.highest ≤ n
  pub very_under_replicated : t.very_under_replicated ≤ n
  pub under_replicated : t.under_replicated ≤ n
  pub badly_distributed : t.badly_distributed ≤ n
  pub none : t.none ≤ n
  pub lacking : t.lacking ≤ n * (2 ^ 68 - 16)

-- one more block can be counted
abbrev pub IsSmall : Tally → Type 0
IsSmall t = AreWithin (2 ^ 59) t
