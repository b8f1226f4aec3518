-- A round of all shards: its commands, and the holdings after it.
use Rattle.std.specs.Prelude.{ℕ}
use Rattle.bm_base.specs.declared.commands.Commands.{Commands}
use Rattle.bm_base.specs.Words.{RoundLimits, Cluster, Holdings, transfers, deletes, commands_of, end_round}
use Rattle.bm_base.specs.RoundParts.{holdings_at_choice}

-- the commands of round r
abbrev pub commands_in : RoundLimits → Cluster → ℕ → Holdings → Commands
commands_in limits C r H = let G = holdings_at_choice C limits.pend r H in commands_of C r (transfers limits C G) (deletes limits C G)

-- the holdings after it
abbrev pub left_by_round : RoundLimits → Cluster → ℕ → Holdings → Holdings
left_by_round limits C r H = let G = holdings_at_choice C limits.pend r H in end_round r G (transfers limits C G) (deletes limits C G)
