-- The pending copies.
use Rattle.std.specs.Prelude.{ℕ, List, map}
use Rattle.bm_base.specs.declared.replica.ReplicaId.{ReplicaId}
use Rattle.bm_base.specs.declared.commands.NodeCommands.{NodeCommands}
use Rattle.bm_base.specs.Words.{Map, by_replica, replica_at}

pub record PendingCopies : Type 0 where
  -- by block and target, the round that commanded the copy
  pub copies : Map by_replica ℕ
  -- the number of rounds after which a copy expires
  pub pend : ℕ

-- the copies that this round commands to a node, by block and target
abbrev pub commanded_to : ℕ → NodeCommands → List (ReplicaId × ℕ)
commanded_to round k = map (λ t. (replica_at t.block t.target, round)) k.transfers
