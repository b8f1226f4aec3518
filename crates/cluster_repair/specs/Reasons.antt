-- Why blocks stay unrepaired.
use Rattle.std.specs.Prelude.{◌≡◌, ℕ, Bool, true, false, not, ◌==◌, ◌&&◌, if◌then◌else◌, nat_le, List, filter, is_some}
use Rattle.std.specs.List.{All, list_any}
use Rattle.bm_base.specs.declared.replica.Level.{Level}
use Rattle.bm_base.specs.declared.replica.Level.TheVariants.{BadlyDistributed, NoUsableReplica}
use Rattle.bm_base.specs.declared.replica.Replica.{Replica}
use Rattle.bm_base.specs.Words.{Cluster, Holdings, all_replicas, is_draining, is_good, node_of, share_rack}
use Rattle.bm_base.specs.Machine.Replicas.{share_node}
use Rattle.cluster_report.specs.declared.book.Book.{Book}
use Rattle.cluster_report.specs.Catalogues.{len_in}
use Rattle.cluster_repair.specs.declared.free_bytes.FreeBytes.{FreeBytes}
use Rattle.cluster_repair.specs.declared.reasons.Reason.{Reason}
use Rattle.cluster_repair.specs.declared.reasons.Reason.TheVariants.{NoSource, NoTarget, NoSpace}
use Rattle.cluster_repair.specs.declared.reasons.Unmended.{Unmended}
use Rattle.cluster_repair.specs.LinkModel.{free_on}

-- the replicas of block b, with their tags
abbrev pub replicas_of : Holdings → ℕ → List Replica
replicas_of H b = filter (λ r. r.block == b) (all_replicas H)

abbrev pub is_missing : Level → Bool
is_missing NoUsableReplica = true
is_missing _ = false

abbrev pub is_badly_distributed : Level → Bool
is_badly_distributed BadlyDistributed = true
is_badly_distributed _ = false

-- whether one of these replicas is on the node of storage s
abbrev pub is_on_their_node : Cluster → List Replica → ℕ → Bool
is_on_their_node C rs s = list_any (λ r. share_node C s r.storage) rs

-- whether a good one of these replicas, on a node that does not drain, is on the rack of storage s
abbrev pub is_on_their_rack : Cluster → List Replica → ℕ → Bool
is_on_their_rack C rs s = list_any (λ r. is_good r.tag && (not (is_draining C r.storage) && share_rack C s r.storage)) rs

-- Whether one more copy of a block at this level, with these replicas, counts on storage s,
-- whatever its free bytes. It counts if the storage is known, its node does not drain and has none
-- of the replicas, and a badly distributed block gets to another rack.
abbrev pub would_count : Cluster → List Replica → Level → ℕ → Bool
would_count C rs urgency s =
    is_some (node_of C s) && (not (is_draining C s) && (not (is_on_their_node C rs s) && not (is_badly_distributed urgency && is_on_their_rack C rs s)))

-- whether the copy counts on storage s, and s has enough free bytes for this length
abbrev pub would_fit : Cluster → List Replica → Level → ℕ → FreeBytes → ℕ → Bool
would_fit C rs urgency len f s = would_count C rs urgency s && nat_le len (free_on f s)

-- Why a block at this level, with these replicas and of this length, is copied no further. Either
-- it is missing, or a copy counts on some storages, none of which has enough free bytes. Else it
-- has no target: a copy counts on no storage, or one has enough free bytes and was given no copy.
abbrev pub reason_for : Cluster → List Replica → Level → ℕ → FreeBytes → Reason
reason_for C rs urgency len f =
    if is_missing urgency then NoSource
    else if list_any (would_count C rs urgency) f.storages.items && not (list_any (would_fit C rs urgency len f) f.storages.items) then NoSpace
    else NoTarget

-- the reason by the nodes and lengths of a book, the replicas of a manager, and free bytes
abbrev pub HasReason : Book → Holdings → FreeBytes → Unmended → Type 0
HasReason book H f u = u.reason ≡ reason_for book.topology.cluster (replicas_of H u.block) u.level (len_in book.blocks u.block) f

pub record HaveReasons (book : Book) (H : Holdings) (f : FreeBytes) (us : List Unmended) : Type 0 where
  pub all : All (HasReason book H f) us
