-- What the options of C set up: the configuration of a manager, and the limits of its cluster.
use Rattle.std.specs.Prelude.{ℕ, ◌==◌, if◌then◌else◌, Option}
use Rattle.bm_base.specs.declared.config.Config.{Config}
use Rattle.bm_base.specs.declared.limits.Limits.{Limits}
use Rattle.bm_base.specs.declared.limits.TheConstants.{MAX_NODES, MAX_STORAGES}
use Rattle.bm_base.specs.declared.refusal.Refusal.{Refusal}
use Rattle.bm_base.specs.Words.{◌before◌, config_refusal, limits_refusal}
use Rattle.puljemrod.specs.declared.options.Options.{Options}

-- one worker, and the options
abbrev pub config_of : Options → Config
config_of o = record { shards = o.shards; workers = 1; work = o.work; invalidate = o.invalidate; pend = o.pend; first_round = o.first_round; first_call = o.first_call }

-- a given number, or the standard one where it is 0
abbrev pub given_or : ℕ → ℕ → ℕ
given_or standard given = if given == 0 then standard else given

-- how many nodes and storages the options allow
abbrev pub cluster_limits_of : Options → Limits
cluster_limits_of o = record { nodes = given_or MAX_NODES o.nodes; storages = given_or MAX_STORAGES o.storages }

-- the first refusal: a field of the configuration is out of its range, or a limit is
abbrev pub options_refusal : Options → Option Refusal
options_refusal o = config_refusal (config_of o) before limits_refusal (cluster_limits_of o)
