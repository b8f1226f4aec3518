-- Transfers whose replicas have come.
use Rattle.std.specs.Prelude.{ℕ, Bool, ◌&&◌, ◌==◌}
use Rattle.bm_base.specs.declared.replica.ReplicaId.{ReplicaId}
use Rattle.bm_base.specs.Maps.Map.{contains_key}
use Rattle.bm_arena.specs.Contents.{Contents}
use Rattle.bm_arena.specs.HeldMaps.{replicas_of}

-- whether a transfer is to this storage, and its block has a replica there
abbrev pub has_arrived : Contents → ℕ → ReplicaId → Bool
has_arrived a s q = (q.storage == s) && contains_key (replicas_of a) q
