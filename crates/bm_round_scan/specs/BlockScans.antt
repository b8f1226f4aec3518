-- One block as a round begins.
use Rattle.std.specs.Prelude.{◌≡◌, ℕ, Bool, ◌&&◌, ◌||◌, ◌==◌, not, List, map, filter}
use Rattle.bm_base.specs.declared.replica.ReplicaId.{ReplicaId}
use Rattle.bm_base.specs.declared.replica.Marks.{Marks}
use Rattle.bm_base.specs.declared.commands.Delete.{Delete}
use Rattle.bm_base.specs.Words.{Map, get, keep, entries, Cluster, Holdings, by_replica, has, is_stray, is_corrupt, is_live_on, is_drained_on, without_expired, without_unordered_excess, excess_in}
use Rattle.bm_base.specs.RoundParts.{holdings_at_choice}
use Rattle.bm_levels.specs.Status.{storages_at}
use Rattle.bm_round_scan.specs.declared.block_scan.BlockScan.{BlockScan}
use Rattle.bm_round_scan.specs.declared.replicas.UsableReplicas.{UsableReplicas}
use Rattle.bm_round_scan.specs.BlockMarks.{of_block}

-- the replicas of one block, among those of all blocks
abbrev pub own_replicas : Holdings → ℕ → Map by_replica Marks
own_replicas H b = keep H.replicas (λ q _. q.block == b)

-- the storages of a block's surplus live replicas as round r begins
abbrev pub surplus_of : Cluster → ℕ → ℕ → Holdings → ℕ → List ℕ
surplus_of C pend r H b = excess_in C (without_unordered_excess (without_expired pend r H)) b

-- the replicas of a scan, in ascending order
abbrev pub scanned_replicas : BlockScan → List (ReplicaId × Marks)
scanned_replicas l = map (of_block l.id) l.replicas.items

-- the scan of a block as round r begins: the block's entry, the storages of its surplus replicas in
-- any order, and all its replicas with their marks
pub record IsBlockScan (C : Cluster) (pend r : ℕ) (H : Holdings) (l : BlockScan) : Type 0 where
  pub info : l.info ≡ get H.blocks l.id
  pub excess : (s : ℕ) → has l.excess.items s ≡ has (surplus_of C pend r H l.id) s
  pub replicas : scanned_replicas l ≡ entries (own_replicas (holdings_at_choice C pend r H) l.id)

-- the storages of live replicas and of drained ones, among these
pub record AreUsable (C : Cluster) (rs : List (ℕ × Marks)) (u : UsableReplicas) : Type 0 where
  pub live : u.live ≡ storages_at (is_live_on C) rs
  pub drained : u.drained ≡ storages_at (is_drained_on C) rs

-- those of these replicas that are on these storages
abbrev pub replicas_on : List ℕ → List (ReplicaId × Marks) → List ReplicaId
replicas_on ss es = map (λ e. e.0) (filter (λ e. has ss e.0.storage) es)

-- whether a replica is to be deleted, by whether enough replicas of its block are live
abbrev pub needs_delete : Bool → Marks → Bool
needs_delete enough m = not m.ordered && (is_stray m.tag || m.excess || (is_corrupt m.tag && enough))

-- the deletes of these replicas
abbrev pub deletes_of : Bool → List (ReplicaId × Marks) → List Delete
deletes_of enough es = map (λ e. record { storage = e.0.storage; block = e.0.block }) (filter (λ e. needs_delete enough e.1) es)
