-- The transfers that remain pending after a round.
use Rattle.std.specs.Prelude.{ℕ, not, ◌==◌, List, map, filter}
use Rattle.bm_base.specs.Words.{entries, keep, is_expired}
use Rattle.bm_pending.specs.PendingMap.{PendingMap}

-- the targets of a block's transfers that have not expired as round r begins, ascending
abbrev pub remaining_targets : ℕ → ℕ → PendingMap → ℕ → List ℕ
remaining_targets pend r p b = map (λ e. e.0.storage) (filter (λ e. e.0.block == b) (entries (keep p.map (λ _ t. not (is_expired pend r t)))))
