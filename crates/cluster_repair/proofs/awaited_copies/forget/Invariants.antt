use Rattle.std.specs.Prelude.{◌≡◌, ◌&&◌, not, ℕ, take}
use Rattle.std.specs.List.{list_any}
use Rattle.cluster_repair.specs.Copies.{is_copy_of, holds_target}
use Rattle.cluster_repair.proofs.awaited_copies.forget.Given as goal

abbrev pub invariant-loop-one : goal.invariant-loop-one
invariant-loop-one l = (b t : ℕ) → holds_target l.targets b t ≡ (holds_target l.fn.targets b t && not (list_any (is_copy_of b t) (take l.one-index l.sent)))
