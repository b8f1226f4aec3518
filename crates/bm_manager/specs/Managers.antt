-- The invariant of the parts of a manager: its configuration, its cluster, its shards and its two
-- numbers.
use Rattle.std.specs.Prelude.{◌≡◌, ℕ, None}
use Rattle.bm_base.specs.declared.config.Config.{Config}
use Rattle.bm_base.specs.Words.{Cluster, Holdings, State, limits_of, config_refusal}
use Rattle.bm_base.specs.Promises.Lawful.{IsLawful}
use Rattle.bm_shards.specs.Whole.{Whole, IsUpToDate, HasTaken}

-- the state that these parts represent
abbrev pub state_of : Config → Cluster → Holdings → ℕ → ℕ → State
state_of c C H round calls = record { limits = limits_of c; cluster = C; holdings = H; round = round; calls = calls }

pub record IsManager (c : Config) (C : Cluster) (F : Whole) (round calls : ℕ) : Type 0 where
  -- the configuration is within its ranges, so there is a worker
  pub allowed : config_refusal c ≡ None
  -- each shard is up to date in the cluster, and has taken the rounds
  pub up_to_date : IsUpToDate C F
  pub taken : HasTaken round c.pend F
  pub lawful : IsLawful (state_of c C F.holdings round calls)
