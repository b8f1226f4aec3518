-- What the notice of a received replica changes in an arena.
use Rattle.std.specs.Prelude.{◌≡◌, ◌≢◌, ℕ, ◌+◌, Some}
use Rattle.bm_base.specs.declared.replica.Stamp.{Stamp}
use Rattle.bm_base.specs.Words.{Cluster, replica_at, enter, new_replicas}
use Rattle.bm_arena.specs.Contents.{Contents, block_at, slot_of, marks_at, KeepsEntries}
use Rattle.bm_arena.specs.HeldMaps.{replicas_of, blocks_of, holdings_of}
use Rattle.bm_report.specs.declared.types.Applied.{Applied}
use Rattle.bm_report.specs.DuringReport.{saturating_sum}

-- A replica of block b with this stamp was received on storage s: it is added, and those on the
-- other storages of the node leave. Only that block changes, and the delimiter keeps its slot.
pub record HasReceived (C : Cluster) (s b : ℕ) (stamp : Stamp) (old new : Contents) (r : Applied) : Type 0 where
  pub replicas : replicas_of new ≡ (enter C (holdings_of old) (replica_at b s) stamp).replicas
  pub blocks : blocks_of new ≡ blocks_of old
  pub entries : KeepsEntries old new
  pub others : (slot : ℕ) → slot_of old b ≢ Some slot → block_at new slot ≡ block_at old slot
  pub free : (t : ℕ) → marks_at new new.delimiter t ≡ marks_at old old.delimiter t
  pub added : r.added ≡ new_replicas (replicas_of old) (replicas_of new)
  pub removed : r.removed ≡ new_replicas (replicas_of new) (replicas_of old)
  pub steps : r.steps ≡ r.added + r.removed
  pub counted : new.steps ≡ saturating_sum r.steps old.steps
