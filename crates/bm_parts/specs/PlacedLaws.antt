-- Laws on the storages of replicas, and on which are in excess, that events and rounds keep in a
-- part.
use Rattle.std.specs.Prelude.{◌≡◌, ℕ, false, IsTrue, List, Some, None, IsSome}
use Rattle.bm_base.specs.declared.commands.Transfer.{Transfer}
use Rattle.bm_base.specs.declared.commands.Delete.{Delete}
use Rattle.bm_base.specs.declared.event.Event.{Event}
use Rattle.bm_base.specs.declared.replica.ReplicaId.{ReplicaId}
use Rattle.bm_base.specs.declared.replica.Marks.{Marks}
use Rattle.bm_base.specs.Words.{get, contains_key, Cluster, Holdings, is_good, are_siblings, ReportedBlock, report, change_cluster, first_of, cluster_checks}
use Rattle.bm_base.specs.RoundParts.{round_on_part}
use Rattle.bm_base.specs.Promises.Lawful.{IsLawfulCluster, IsLawfulHoldings}
use Rattle.bm_parts.specs.Parts.{change_part}

-- the laws that a cluster sets for replicas
pub record IsPlaced (C : Cluster) (H : Holdings) : Type 0 where
  -- each replica is on a known storage
  pub stored : (p : ReplicaId) → IsSome (get H.replicas p) → IsTrue (contains_key C.storages p.storage)
  -- a node has at most one replica of a block
  pub once : (p q : ReplicaId) → IsSome (get H.replicas p) → IsSome (get H.replicas q) → p.block ≡ q.block → are_siblings C p.storage q.storage ≡ false
  -- only good replicas are in excess
  pub excess_is_good : (p : ReplicaId) (m : Marks) → get H.replicas p ≡ Some m → IsTrue m.excess → IsTrue (is_good m.tag)

-- lawful holdings keep these laws
abbrev pub lawful_is_placed : Type 0
lawful_is_placed = (C : Cluster) (H : Holdings) → IsLawfulHoldings C H → IsPlaced C H

-- an event that the cluster does not refuse keeps these laws in a part
abbrev pub event_keeps_placed : Type 0
event_keeps_placed =
    (C : Cluster) (P : Holdings) (e : Event) (index shards : ℕ) → IsLawfulCluster C → first_of (cluster_checks C e) ≡ None → IsPlaced C P
    → IsPlaced (change_cluster C e) (change_part C P index shards e)

-- a report of a known storage keeps these laws, whatever blocks it lists
abbrev pub report_keeps_placed : Type 0
report_keeps_placed = (C : Cluster) (P : Holdings) (s : ℕ) (ts : List ReportedBlock) → IsTrue (contains_key C.storages s) → IsPlaced C P → IsPlaced C (report C P s ts)

-- a round keeps these laws in a part
abbrev pub round_keeps_placed : Type 0
round_keeps_placed =
    (C : Cluster) (pend r : ℕ) (P : Holdings) (index shards : ℕ) (ts : List Transfer) (ds : List Delete) → IsPlaced C P → IsPlaced C (round_on_part C pend r P index shards ts ds)
