-- What the deletes that a round commands leave of a block: definitions for a round's contract.
-- Source: HDFS Architecture guide, "Data Replication"; Hadoop 2's InvalidateBlocks.
use Rattle.std.specs.Prelude.{◌≡◌, ℕ, ◌≤◌, true, flat_map, length, Some}
use Rattle.bm_base.specs.declared.replica.ReplicaId.{ReplicaId}
use Rattle.bm_base.specs.declared.replica.Tag.TheVariants.{Good}
use Rattle.bm_base.specs.declared.replica.Marks.{Marks}
use Rattle.bm_base.specs.declared.replica.BlockInfo.{BlockInfo}
use Rattle.bm_base.specs.declared.commands.Commands.{Commands}
use Rattle.bm_base.specs.Maps.Map.{get}
use Rattle.bm_base.specs.Machine.State.{State, replica_at}
use Rattle.bm_base.specs.Maps.Lists.{has}
use Rattle.bm_base.specs.Machine.Replicas.{live}
use Rattle.bm_base.specs.Promises.NextRound.{IsAmong}

-- a node is commanded to delete this replica
abbrev pub CommandsDelete : Commands → ReplicaId → Type 0
CommandsDelete k q = IsAmong (flat_map (λ n. n.deletes) k.nodes) (record { storage = q.storage; block = q.block })

-- The only good replica of a block that is known in M is not commanded to be deleted.
abbrev pub SparesLastGood : State → Commands → Type 0
SparesLastGood M k =
    (b s : ℕ) (i : BlockInfo) → get M.holdings.blocks b ≡ Some i
    → ((t : ℕ) (m : Marks) → get M.holdings.replicas (replica_at b t) ≡ Some m → m.tag ≡ Good → t ≡ s)
    → CommandsDelete k (replica_at b s) → ⊥

-- If k commands the delete of a replica of a block that is known in M, the block has at least the
-- wanted number of live replicas in N. At least one is wanted, and k commands the delete of no live
-- one.
abbrev pub KeepsEnoughLive : State → Commands → State → Type 0
KeepsEnoughLive M k N =
    (b s : ℕ) (i : BlockInfo) → get M.holdings.blocks b ≡ Some i → CommandsDelete k (replica_at b s)
    → (1 ≤ i.repl) × (i.repl ≤ length (live N.cluster N.holdings b))
    × ((t : ℕ) → has (live N.cluster N.holdings b) t ≡ true → CommandsDelete k (replica_at b t) → ⊥)
