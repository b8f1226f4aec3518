-- Which configurations and limits are allowed. The standard values of work and invalidate are
-- Hadoop 2's.
use Rattle.std.specs.Prelude.{ℕ, Bool, not, ◌&&◌, nat_le, [], ◌∷◌, Option}
use Rattle.bm_base.specs.declared.config.Config.{Config}
use Rattle.bm_base.specs.declared.limits.Limits.{Limits}
use Rattle.bm_base.specs.declared.limits.TheConstants.{MOST_NODES, MOST_STORAGES}
use Rattle.bm_base.specs.declared.refusal.Refusal.{Refusal}
use Rattle.bm_base.specs.declared.refusal.Refusal.TheVariants.{BadConfig}
use Rattle.bm_base.specs.Machine.Refusals.{first_of, ◌when◌}

abbrev pub standard : Config
standard = record {
  shards = 1;
  workers = 1;
  work = 2;
  invalidate = 1000;
  pend = 100;
  first_round = 0;
  first_call = 0;
}

-- from 1 to most
abbrev pub is_up_to : ℕ → ℕ → Bool
is_up_to most n = nat_le 1 n && nat_le n most

abbrev pub is_allowed : Config → Bool
is_allowed c =
    is_up_to 64 c.shards
    && is_up_to 16 c.workers
    && is_up_to 1000 c.work
    && is_up_to 1000000 c.invalidate
    && is_up_to 1000000 c.pend

abbrev pub config_refusal : Config → Option Refusal
config_refusal c = first_of ((BadConfig when not (is_allowed c)) ∷ [])

abbrev pub are_allowed : Limits → Bool
are_allowed l = is_up_to MOST_NODES l.nodes && is_up_to MOST_STORAGES l.storages

abbrev pub limits_refusal : Limits → Option Refusal
limits_refusal l = first_of ((BadConfig when not (are_allowed l)) ∷ [])
