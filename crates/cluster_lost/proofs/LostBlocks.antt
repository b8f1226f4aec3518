-- The lost blocks are those that are missing after the losses and not before.
use Rattle.std.proofs.Common.{◌≡◌, ℕ, ◌+◌, ◌<◌, Bool, true, false, not, ◌&&◌, ◌||◌, cond, Option, is_some, Some, None, List, [], ◌∷◌, filter, take, get_or, length, refl, sym, ap, ◌∙◌}
use Rattle.std.specs.Prelude.{◌==◌}
use Rattle.std.proofs.lemmas.List.Folds.{list_any_more}
use Rattle.std.proofs.Math.Bool.{and-true, and_comm}
use Rattle.bm_base.specs.declared.replica.BlockInfo.{BlockInfo}
use Rattle.bm_base.specs.declared.event.Event.{Event}
use Rattle.bm_base.specs.Words.{has, Map, by_number, get, insert, entries, keys, contains_key, State, usable, missing_blocks}
use Rattle.bm_base.proofs.ForEach.{Each, each_mapped, each_then}
use Rattle.bm_base.proofs.MapEntries.{each_entry, passes_entry}
use Rattle.bm_base.proofs.MapLaws.{get-insert}
use Rattle.bm_base.proofs.Options.{there, is_there}
use Rattle.bm_base.proofs.Ties.{number_tie}
use Rattle.bm_base.proofs.Clusters.{eqb_turned}
use Rattle.bm_base.proofs.ListTests.{any_map, filter_filter, same_again, has_filter}
use Rattle.cluster_lost.specs.Losses.{after_losses, is_missing, is_lost, has_replica, has_replica_left, lost_blocks, AreMissing}
use Rattle.cluster_lost.proofs.Tests.{none_if_empty}
use Rattle.cluster_lost.proofs.RemainingReplicas.{left_law, blocks_stay, missing_is_unusable}

filter_each : {X : Type 0} (f g : X → Bool) (xs : List X) → Each (λ x. f x ≡ g x) xs → filter f xs ≡ filter g xs
filter_each f g [] h = refl
filter_each f g (x ∷ xs) h = λ i. cond (h.0 i) (x ∷ filter_each f g xs h.1 i) (filter_each f g xs h.1 i)

each_known : (m : Map by_number BlockInfo) → Each (λ b. contains_key m b ≡ true) (keys m)
unfolding keys
each_known m = each_mapped (λ b. contains_key m b ≡ true) (λ e. e.0) (entries m) (each_then (λ e. get m e.0 ≡ Some e.1) (λ e. contains_key m e.0 ≡ true) (entries m) (each_entry m) (λ e h. is_there (get m e.0) e.1 h))

has_known : (m : Map by_number BlockInfo) (b : ℕ) → contains_key m b ≡ true → has (keys m) b ≡ true
unfolding keys
has_known m b h = let i = there (get m b) h in any_map (λ x. x == b) (λ e. e.0) (entries m) ∙ passes_entry m (λ e. e.0 == b) b i.0 i.1 (same_again b)

module _ (M : State) (es : List Event) (before after : List ℕ) (h : AreMissing M es before after) where
  abbrev blocks : Map by_number BlockInfo
  blocks = M.holdings.blocks

  was_missing : (b : ℕ) → contains_key blocks b ≡ true → not (has before b) ≡ has_replica M b
  unfolding missing_blocks
  was_missing b known =
      let i = there (get blocks b) known in
      ap (λ bs. not (has bs b)) h.missing_before
      ∙ ap not (has_filter (is_missing M) (keys blocks) b ∙ ap (λ z. is_missing M b && z) (has_known blocks b known) ∙ and-true (is_missing M b) ∙ missing_is_unusable M b i.0 i.1 (h.lawful.replicated b i.0 i.1).0)
      ∙ ap not (sym (none_if_empty (usable M.holdings b)))

  pub newly_missing : (known : Map by_number Bool) → ((b : ℕ) → contains_key known b ≡ has before b) → filter (λ b. not (contains_key known b)) after ≡ lost_blocks M es
  unfolding missing_blocks lost_blocks
  newly_missing known knows =
      ap (filter (λ b. not (contains_key known b))) (h.missing_after ∙ ap (λ m. filter (is_missing (after_losses M es)) (keys m)) (blocks_stay M es h.losses))
      ∙ filter_filter (λ b. not (contains_key known b)) (is_missing (after_losses M es)) (keys blocks)
      ∙ filter_each (λ b. is_missing (after_losses M es) b && not (contains_key known b)) (is_lost M es) (keys blocks)
      (each_then (λ b. contains_key blocks b ≡ true) (λ b. (is_missing (after_losses M es) b && not (contains_key known b)) ≡ is_lost M es b) (keys blocks) (each_known blocks)
      (λ b is. (λ i. left_law M es b h.lawful h.losses is i && (ap not (knows b) ∙ was_missing b is) i) ∙ and_comm (not (has_replica_left M es b)) (has_replica M b)))

-- A set of the first blocks of a list.
pub one_more : (m : Map by_number Bool) (xs : List ℕ) (i x : ℕ) → ((b : ℕ) → contains_key m b ≡ has (take i xs) b) → i < length xs → get_or xs i x ≡ x
    → (b : ℕ) → contains_key (insert m x true) b ≡ has (take (i + 1) xs) b
one_more m xs i x knows low is b =
    ap is_some (get-insert m x true b ∙ ap (λ t. cond t (Some true) (get m b)) (number_tie b x ∙ eqb_turned b x))
    ∙ added (x == b) (get m b)
    ∙ (λ j. knows b j || (sym is j == b))
    ∙ sym (list_any_more (λ y. y == b) xs i x low)
  where
    added : (t : Bool) (z : Option Bool) → is_some (cond t (Some true) z) ≡ (is_some z || t)
    added true None = refl
    added true (Some y) = refl
    added false None = refl
    added false (Some y) = refl
