-- The counts after a round, from the manager's answers.
use Rattle.std.specs.Prelude.{◌≡◌, ℕ, length}
use Rattle.bm_base.specs.declared.replica.Level.{Level}
use Rattle.bm_base.specs.declared.replica.Level.TheVariants.{Highest, VeryUnderReplicated, UnderReplicated, BadlyDistributed}
use Rattle.bm_base.specs.Words.{State, keys, missing_blocks, excess_replicas, corrupt_replicas}
use Rattle.laws_of_repairs.specs.Repairs.{blocks_at}
use Rattle.cluster_simulation.specs.declared.counts.Counts.{Counts}

-- the number of known blocks at a level
abbrev pub known_at : State → Level → ℕ
known_at M urgency = blocks_at M urgency (keys M.holdings.blocks)

-- the counts agree with the manager's answers
pub record IsCounted (M : State) (c : Counts) : Type 0 where
  pub highest : c.highest ≡ known_at M Highest
  pub very_under_replicated : c.very_under_replicated ≡ known_at M VeryUnderReplicated
  pub under_replicated : c.under_replicated ≡ known_at M UnderReplicated
  pub badly_distributed : c.badly_distributed ≡ known_at M BadlyDistributed
  pub missing : c.missing ≡ length (missing_blocks M.cluster M.holdings)
  pub excess : c.excess ≡ length (excess_replicas M.holdings)
  pub corrupt : c.corrupt ≡ length (corrupt_replicas M.holdings)
