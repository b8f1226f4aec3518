-- Queries list exactly what is held.
use Rattle.std.specs.Prelude.{◌≡◌, ℕ, ◌<◌, AllPairs, Bool, false, ◌&&◌, ◌==◌, ◌↔◌, ◌⊎◌, IsTrue, IsSome, List, Some}
use Rattle.bm_parts.specs.QueryLaws.{replica_key}
use Rattle.std.specs.List.{list_any}
use Rattle.bm_base.specs.declared.replica.ReplicaId.{ReplicaId}
use Rattle.bm_base.specs.declared.replica.Replica.{Replica}
use Rattle.bm_base.specs.declared.replica.Tag.TheVariants.{Good, Stale, Bad}
use Rattle.bm_base.specs.declared.replica.Marks.{Marks}
use Rattle.bm_base.specs.declared.replica.BlockInfo.{BlockInfo}
use Rattle.bm_base.specs.Words.{get, has, Cluster, Holdings, replica_at, all_replicas, corrupt_replicas, excess_replicas, missing_blocks, blocks_on, places}
use Rattle.bm_base.specs.Promises.Lawful.{IsLawfulHoldings}

-- a replica is held, with marks that satisfy P
abbrev pub IsHeld : Holdings → ReplicaId → (Marks → Type 0) → Type 0
IsHeld H p P = (m : Marks) × (get H.replicas p ≡ Some m) × P m

-- whether a list has a replica
abbrev pub lists : List ReplicaId → ReplicaId → Bool
lists ids p = list_any (λ q. (q.block == p.block) && (q.storage == p.storage)) ids

-- for every test, the list has a replica that passes it exactly if one that passes it is held
abbrev pub replicas_are_held : Type 0
replicas_are_held =
    (H : Holdings) (test : Replica → Bool)
    → IsTrue (list_any test (all_replicas H)) ↔ ((p : ReplicaId) × IsHeld H p (λ m. IsTrue (test (record { block = p.block; storage = p.storage; tag = m.tag }))))

abbrev pub corrupt_are_stale_or_bad : Type 0
corrupt_are_stale_or_bad = (H : Holdings) (p : ReplicaId) → IsTrue (lists (corrupt_replicas H) p) ↔ IsHeld H p (λ m. (m.tag ≡ Stale) ⊎ (m.tag ≡ Bad))

abbrev pub excess_are_marked : Type 0
excess_are_marked = (H : Holdings) (p : ReplicaId) → IsTrue (lists (excess_replicas H) p) ↔ IsHeld H p (λ m. IsTrue m.excess)

-- the blocks on a storage are those of all its replicas, of any tag
abbrev pub blocks_on_are_held : Type 0
blocks_on_are_held = (H : Holdings) (s b : ℕ) → IsTrue (has (blocks_on H s) b) ↔ IsSome (get H.replicas (replica_at b s))

-- the places of a block are the storages of its good replicas, in excess or not
abbrev pub places_are_good : Type 0
places_are_good = (H : Holdings) (b s : ℕ) → IsTrue (has (places H b) s) ↔ IsHeld H (replica_at b s) (λ m. m.tag ≡ Good)

-- a known block without a replica that is good and not in excess, on any node
abbrev pub IsMissing : Holdings → ℕ → Type 0
IsMissing H b = (i : BlockInfo) × (get H.blocks b ≡ Some i) × ((s : ℕ) → IsHeld H (replica_at b s) (λ m. (m.tag ≡ Good) × (m.excess ≡ false)) → ⊥)

abbrev pub missing_have_no_usable_replica : Type 0
missing_have_no_usable_replica = (C : Cluster) (H : Holdings) → IsLawfulHoldings C H → (b : ℕ) → IsTrue (has (missing_blocks C H) b) ↔ IsMissing H b

-- the order of replicas: by block, then by storage
abbrev pub IsBefore : ReplicaId → ReplicaId → Type 0
IsBefore p q = (p.block < q.block) ⊎ ((p.block ≡ q.block) × (p.storage < q.storage))

-- each list is strictly ascending, so it has no duplicates
pub record ListsRise (C : Cluster) (H : Holdings) : Type 0 where
  pub replicas : AllPairs (λ q r. IsBefore (replica_key q) (replica_key r)) (all_replicas H)
  pub corrupt : AllPairs IsBefore (corrupt_replicas H)
  pub excess : AllPairs IsBefore (excess_replicas H)
  pub missing : AllPairs (λ b c. b < c) (missing_blocks C H)
  pub blocks : (s : ℕ) → AllPairs (λ b c. b < c) (blocks_on H s)
  pub places_of : (b : ℕ) → AllPairs (λ s t. s < t) (places H b)

abbrev pub lists_ascend : Type 0
lists_ascend = (C : Cluster) (H : Holdings) → ListsRise C H
