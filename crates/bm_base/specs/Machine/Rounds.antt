-- A whole round: what it commands, and the state after it. In order:
--     1. the round number grows by one, and expired transfers leave (RoundStart)
--     2. replicas in excess are marked again from scratch (RoundStart)
--     3. blocks that need copies make wishes, by level and block (Transfers)
--     4. each wish gets a source and a target, if they exist (Transfers)
--     5. deletes are chosen, for each node up to its limit (Deletes)
--     6. what was chosen is commanded and noted in the state (here)
-- Source: HDFS Architecture guide, "The Communication Protocols": commands are answers to
-- DataNodes; Hadoop 2's PendingReplicationBlocks.
use Rattle.std.specs.Prelude.{ℕ, ◌+◌, Bool, true, ◌&&◌, if◌then◌else◌, ◌==◌, nat_lt, List, map, filter, length}
use Rattle.std.specs.List.{list_any}
use Rattle.bm_base.specs.declared.replica.ReplicaId.{ReplicaId}
use Rattle.bm_base.specs.declared.commands.Transfer.{Transfer}
use Rattle.bm_base.specs.declared.commands.Delete.{Delete}
use Rattle.bm_base.specs.declared.commands.NodeCommands.{NodeCommands}
use Rattle.bm_base.specs.declared.commands.Commands.{Commands}
use Rattle.bm_base.specs.Maps.Map.{insert_all, revise, keys}
use Rattle.bm_base.specs.Machine.State.{Cluster, Holdings, State, replica_at}
use Rattle.bm_base.specs.Machine.Replicas.{has_storage}
use Rattle.bm_base.specs.Machine.RoundStart.{state_at_choice}
use Rattle.bm_base.specs.Machine.Transfers.{transfers}
use Rattle.bm_base.specs.Machine.Deletes.{deletes}

unfoldable pub node_commands : Cluster → List Transfer → List Delete → ℕ → NodeCommands
node_commands C ts ds n = record {
  node = n;
  transfers = filter (λ t. has_storage C n t.source) ts;
  deletes = filter (λ d. has_storage C n d.storage) ds;
}

abbrev pub has_commands : NodeCommands → Bool
has_commands k = nat_lt 0 (length k.transfers + length k.deletes)

-- the commands of round r by node, for the nodes that have one
unfoldable pub commands_of : Cluster → ℕ → List Transfer → List Delete → Commands
commands_of C r ts ds = record {
  round = r;
  nodes = filter has_commands (map (node_commands C ts ds) (keys C.nodes));
}

unfoldable pub is_commanded : List Delete → ReplicaId → Bool
is_commanded ds q = list_any (λ d. (d.storage == q.storage) && (d.block == q.block)) ds

-- the holdings with these deletes ordered, and these transfers pending since round r
unfoldable pub end_round : ℕ → Holdings → List Transfer → List Delete → Holdings
end_round r H ts ds = record H {
  replicas =
      revise H.replicas (λ q m. if is_commanded ds q then record m { ordered = true } else m);
  pending = insert_all H.pending (map (λ t. (replica_at t.block t.target, r)) ts);
}

-- the commands of a round that has begun, with these transfers, and the next state
abbrev pub round_with : State → List Transfer → Commands × State
round_with N ts =
    let ds = deletes N.limits N.cluster N.holdings in (
      commands_of N.cluster N.round ts ds,
      record N { holdings = end_round N.round N.holdings ts ds },
    )

-- the next round of a state: what it commands, and the state after it
unfoldable pub whole_round : State → Commands × State
whole_round M =
    let N = state_at_choice M in
    round_with N (transfers N.limits N.cluster N.holdings)
