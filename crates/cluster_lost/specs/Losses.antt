-- Blocks that are lost when nodes and storages are, before any round.
use Rattle.std.specs.Prelude.{◌≡◌, ℕ, Bool, true, false, not, ◌&&◌, ◌==◌, List, filter, length}
use Rattle.std.specs.List.{fold, list_any}
use Rattle.bm_base.specs.declared.event.Event.{Event}
use Rattle.bm_base.specs.declared.event.Event.TheVariants.{Dead, StorageFailed, Drain}
use Rattle.bm_base.specs.declared.replica.Level.TheVariants.{NoUsableReplica}
use Rattle.bm_base.specs.Words.{keys, contains_key, Cluster, State, has_storage, usable, level, is_at, missing_blocks, after_event}
use Rattle.bm_base.specs.Promises.Lawful.{IsLawfulHoldings}

-- whether an event is a loss: a node dies, a storage fails, or a node begins to drain
abbrev pub is_loss : Event → Bool
is_loss (Dead n) = true
is_loss (StorageFailed s) = true
is_loss (Drain n) = true
is_loss _ = false

-- whether all of these events are losses
abbrev pub are_losses : List Event → Bool
are_losses es = not (list_any (λ e. not (is_loss e)) es)

-- the state after losses, without a round between
abbrev pub after_losses : State → List Event → State
after_losses M es = fold after_event M es

-- whether an event removes storage s
abbrev pub takes : Cluster → Event → ℕ → Bool
takes C (Dead n) s = has_storage C n s
takes C (StorageFailed t) s = s == t
takes C _ s = false

-- whether one of these events removes storage s
abbrev pub is_taken : Cluster → List Event → ℕ → Bool
is_taken C es s = list_any (λ e. takes C e s) es

-- whether a usable replica of the block is on a storage that stays
abbrev pub has_replica_left : State → List Event → ℕ → Bool
has_replica_left M es b = list_any (λ s. not (is_taken M.cluster es s)) (usable M.holdings b)

-- whether the block has a usable replica
abbrev pub has_replica : State → ℕ → Bool
has_replica M b = not (length (usable M.holdings b) == 0)

-- whether a block is lost: it has usable replicas, and all of them are on removed storages
abbrev pub is_lost : State → List Event → ℕ → Bool
is_lost M es b = has_replica M b && not (has_replica_left M es b)

-- the lost blocks among the known ones, ascending
unfoldable pub lost_blocks : State → List Event → List ℕ
lost_blocks M es = filter (is_lost M es) (keys M.holdings.blocks)

abbrev pub is_missing : State → ℕ → Bool
is_missing M b = is_at NoUsableReplica (level M.cluster M.holdings b)

-- After losses a known block is missing exactly if no usable replica of it was on a storage that
-- stays.
abbrev pub missing_has_no_replica_left : Type 0
missing_has_no_replica_left =
    (M : State) (es : List Event) (b : ℕ) → IsLawfulHoldings M.cluster M.holdings → are_losses es ≡ true → contains_key M.holdings.blocks b ≡ true
    → is_missing (after_losses M es) b ≡ not (has_replica_left M es b)

-- the blocks that are missing before the losses, and those that are missing after them
pub record AreMissing (M : State) (es : List Event) (before after : List ℕ) : Type 0 where
  pub lawful : IsLawfulHoldings M.cluster M.holdings
  pub losses : are_losses es ≡ true
  pub missing_before : before ≡ missing_blocks M.cluster M.holdings
  pub missing_after : after ≡ missing_blocks (after_losses M es).cluster (after_losses M es).holdings
