-- The replicas of one block, with their marks as a round begins.
use Rattle.std.specs.Prelude.{ℕ, Bool, if◌then◌else◌, true, List, map}
use Rattle.bm_base.specs.declared.replica.ReplicaId.{ReplicaId}
use Rattle.bm_base.specs.declared.replica.Marks.{Marks}
use Rattle.bm_base.specs.Words.{has, replica_at, with_excess_reset}

-- a surplus replica is marked as in excess
abbrev pub marked_if : Bool → Marks → Marks
marked_if t m = if t then record m { excess = true } else m

-- replicas, those on these storages marked as in excess
abbrev pub marked_on : List ℕ → List (ℕ × Marks) → List (ℕ × Marks)
marked_on ss rs = map (λ r. (r.0, marked_if (has ss r.0) r.1)) rs

-- replicas without unordered excess
abbrev pub excess_reset : List (ℕ × Marks) → List (ℕ × Marks)
excess_reset rs = map (λ r. (r.0, with_excess_reset r.1)) rs

-- the replica of a block on a storage, with its marks
abbrev pub of_block : ℕ → ℕ × Marks → ReplicaId × Marks
of_block b r = (replica_at b r.0, r.1)
