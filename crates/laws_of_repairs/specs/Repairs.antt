-- Levels while copies arrive and replicas are deleted, and no node or storage is lost.
use Rattle.std.specs.Prelude.{◌≡◌, ℕ, Bool, true, false, not, ◌==◌, List, count_by, None}
use Rattle.bm_base.specs.declared.event.Event.{Event}
use Rattle.bm_base.specs.declared.event.Event.TheVariants.{Heartbeat, Received, Deleted}
use Rattle.bm_base.specs.declared.replica.Level.{Level}
use Rattle.bm_base.specs.Words.{State, has, has_repeats, keys, level, is_at, after_event}
use Rattle.bm_base.specs.Promises.NextRound.{after_round}

-- a round gives no block a level that had none
abbrev pub RoundGivesNoLevel : State → Type 0
RoundGivesNoLevel M = (b : ℕ) → level M.cluster M.holdings b ≡ None → level (after_round M).cluster (after_round M).holdings b ≡ None

-- whether a report is a heartbeat, or the notice of a copy or a delete of another block than b
abbrev pub is_report_not_naming : ℕ → Event → Bool
is_report_not_naming b (Heartbeat n rs) = true
is_report_not_naming b (Received s c stamp) = not (c == b)
is_report_not_naming b (Deleted s c) = not (c == b)
is_report_not_naming b _ = false

-- such a report keeps the level of block b
abbrev pub ReportsKeepLevels : Type 0
ReportsKeepLevels =
    (M : State) (e : Event) (b : ℕ) → is_report_not_naming b e ≡ true
    → level (after_event M e).cluster (after_event M e).holdings b ≡ level M.cluster M.holdings b

-- all blocks with a level are among these
abbrev pub Covers : State → List ℕ → Type 0
Covers M bs = (b : ℕ) → has bs b ≡ false → level M.cluster M.holdings b ≡ None

-- how many of these blocks are at a level
abbrev pub blocks_at : State → Level → List ℕ → ℕ
blocks_at M urgency bs = count_by (λ b. is_at urgency (level M.cluster M.holdings b)) bs

abbrev pub CoveringBlocksCountAsAll : Type 0
CoveringBlocksCountAsAll =
    (M : State) (bs : List ℕ) (urgency : Level) → has_repeats bs ≡ false → Covers M bs → blocks_at M urgency bs ≡ blocks_at M urgency (keys M.holdings.blocks)
