-- Copies that were sent, and those on their way.
use Rattle.std.specs.Prelude.{ℕ, Bool, ◌==◌, ◌&&◌, nat_le, List}
use Rattle.std.specs.HashSet.{HashSet}
use Rattle.std.specs.List.{list_any}
use Rattle.bm_base.specs.declared.commands.Transfer.{Transfer}
use Rattle.cluster_repair.specs.declared.awaited_copies.Sent.{Sent}

-- whether it is a copy of block b to storage t
abbrev pub is_copy_of : ℕ → ℕ → Sent → Bool
is_copy_of b t s = (b == s.transfer.block) && (t == s.transfer.target)

-- whether one of these is a copy of the transfer's block to its target
abbrev pub is_among : List Sent → Transfer → Bool
is_among ss t = list_any (is_copy_of t.block t.target) ss

-- whether a set of blocks and targets has block b and storage t
abbrev pub holds_target : {S : Type 0} → HashSet (ℕ × ℕ) S → ℕ → ℕ → Bool
holds_target targets b t = list_any (λ p. (b == p.0) && (t == p.1)) targets.keys

-- whether a copy has arrived by now
abbrev pub has_arrived : ℕ → Sent → Bool
has_arrived now s = nat_le s.arrival now

-- sort key: arrival time, then the copy's index
abbrev pub when : Sent → ℕ × ℕ
when s = (s.arrival, s.order)
