-- Heartbeats, rounds and notices of listed blocks give no unlisted block a level.
use Rattle.std.specs.Prelude.{◌≡◌, ℕ, ◌+◌, ◌≤◌, Bool, true, false, not, ◌&&◌, ◌||◌, ◌==◌, nat_eq, List, [], ◌∷◌, ◌++◌, filter, length, Option, Some, None, is_some}
use Rattle.std.specs.List.{dedup}
use Rattle.std.specs.List.Sorted.{IsPermutation}
use Rattle.std.proofs.Common.{cond, refl, sym, ap, subst, ◌∙◌, arith}
use Rattle.std.proofs.lemmas.Bool.{false≢true, eqb-true, or_left, or_parts, or_right}
use Rattle.std.proofs.lemmas.List.Folds.{list_any-append}
use Rattle.std.proofs.lemmas.List.Sorted.{list_any-IsPermutation}
use Rattle.std.proofs.lemmas.List.Sums.{length-filter}
use Rattle.std.proofs.Math.Bool.{and-true}
use Rattle.bm_base.specs.declared.event.Event.{Event}
use Rattle.bm_base.specs.declared.replica.Level.{Level}
use Rattle.bm_base.specs.declared.replica.BlockInfo.{BlockInfo}
use Rattle.bm_base.specs.Words.{get, keys, State, has, has_repeats, level, is_at, after_event, whole_round, count_call}
use Rattle.bm_base.specs.Promises.Lawful.{IsLawful}
use Rattle.bm_base.proofs.ListTests.{same_again, count_without, has_filter, once_filter}
use Rattle.bm_base.proofs.OneWish.{once_keys}
use Rattle.bm_base.proofs.Options.{is_there, not_there}
use Rattle.bm_base.proofs.Sets.{has_keys, has_once}
use Rattle.laws_of_states.proofs.LawfulRounds.{orderly}
use Rattle.laws_of_rounds.proofs.Needs.{level_unknown}
use Rattle.laws_of_rounds.proofs.NodeCommands.{same_rest}
use Rattle.laws_of_repairs.specs.Repairs.{Covers, CoveringBlocksCountAsAll, is_report_not_naming}
use Rattle.laws_of_repairs.proofs.Rounds.{round_gives_none}
use Rattle.laws_of_repairs.proofs.Reports.{reports_keep}

abbrev pub has_level : State → ℕ → Bool
has_level M b = is_some (level M.cluster M.holdings b)

-- Counting.

-- a list without repeats has no more that pass than one that has all of these
fewer : (p : ℕ → Bool) (xs ys : List ℕ) → has_repeats xs ≡ false → has_repeats ys ≡ false → ((b : ℕ) → p b ≡ true → has xs b ≡ true → has ys b ≡ true)
    → length (filter p xs) ≤ length (filter p ys)
fewer p [] ys once once_too among = omega arith
fewer p (x ∷ xs) ys once once_too among = by_test (λ zs. fewer p xs zs (or_parts (has xs x) (has_repeats xs) once).1) (p x) refl
  where
    other : (b : ℕ) → has xs b ≡ true → (t : Bool) → (b == x) ≡ t → (b == x) ≡ false
    other b at true e = absurd (false≢true (sym (or_parts (has xs x) (has_repeats xs) once).0 ∙ ap (has xs) (sym (eqb-true b x e)) ∙ at))
    other b at false e = e

    by_test : ((zs : List ℕ) → has_repeats zs ≡ false → ((b : ℕ) → p b ≡ true → has xs b ≡ true → has zs b ≡ true) → length (filter p xs) ≤ length (filter p zs))
        → (t : Bool) → p x ≡ t → length (cond t (x ∷ filter p xs) (filter p xs)) ≤ length (filter p ys)
    by_test rest true e =
        let at : has ys x ≡ true = among x e (or_left (x == x) (has xs x) (same_again x)) in
        let others = rest (filter (λ y. not (y == x)) ys) (once_filter (λ y. not (y == x)) ys once_too)
        (λ b passes there. has_filter (λ y. not (y == x)) ys b ∙ ap (λ t. not t && has ys b) (other b there (b == x) refl) ∙ among b passes (or_right (x == b) (has xs b) there)) in
        let count : length (filter p (filter (λ y. not (y == x)) ys)) + 1 ≡ length (filter p ys) =
        ap (λ t. length (filter p (filter (λ y. not (y == x)) ys)) + cond t 1 0) (sym e) ∙ count_without p x ys once_too at in
        omega (arith, others, count)
    by_test rest false e = rest ys once_too (λ b passes there. among b passes (or_right (x == b) (has xs b) there))

at_none : (urgency : Level) (l : Option Level) → l ≡ None → is_at urgency l ≡ true → ⊥
at_none urgency l none at = false≢true (ap (is_at urgency) (sym none) ∙ at)

pub count_as_all : CoveringBlocksCountAsAll
count_as_all M bs urgency once covers =
    let less = fewer at bs (keys M.holdings.blocks) once (once_keys M.holdings.blocks) (λ b passes there. known b passes (get M.holdings.blocks b) refl) in
    let more = fewer at (keys M.holdings.blocks) bs (once_keys M.holdings.blocks) once (λ b passes there. covered b passes (has bs b) refl) in
    let here = length-filter at bs in
    let all = length-filter at (keys M.holdings.blocks) in
    omega (arith, less, more, here, all)
  where
    at : ℕ → Bool
    at b = is_at urgency (level M.cluster M.holdings b)

    known : (b : ℕ) → is_at urgency (level M.cluster M.holdings b) ≡ true → (o : Option BlockInfo) → get M.holdings.blocks b ≡ o → has (keys M.holdings.blocks) b ≡ true
    known b passes None e = absurd (at_none urgency (level M.cluster M.holdings b) (level_unknown M.cluster M.holdings b e) passes)
    known b passes (Some i) e = has_keys M.holdings.blocks b ∙ is_there (get M.holdings.blocks b) i e

    covered : (b : ℕ) → is_at urgency (level M.cluster M.holdings b) ≡ true → (t : Bool) → has bs b ≡ t → has bs b ≡ true
    covered b passes true e = e
    covered b passes false e = absurd (at_none urgency (level M.cluster M.holdings b) (covers b e) passes)

-- Lists that change.

-- the same numbers, in order and each once
pub covers_sorted : (M : State) (xs ys : List ℕ) → IsPermutation xs ys → Covers M xs → Covers M (dedup nat_eq ys)
covers_sorted M xs ys same covers b none = covers b (list_any-IsPermutation (λ x. x == b) xs ys same ∙ sym (has_once ys b) ∙ none)

-- those of them with a level
pub covers_leveled : (M : State) (xs : List ℕ) → Covers M xs → Covers M (filter (has_level M) xs)
covers_leveled M xs covers b none = by_test (has_level M b) refl
  where
    by_test : (t : Bool) → has_level M b ≡ t → level M.cluster M.holdings b ≡ None
    by_test true e = covers b (ap (λ t. t && has xs b) (sym e) ∙ sym (has_filter (has_level M) xs b) ∙ none)
    by_test false e = not_there (level M.cluster M.holdings b) e

-- the listed blocks with a level are all blocks with a level
pub leveled_all : (M : State) (xs : List ℕ) → Covers M xs → (b : ℕ) → has (filter (has_level M) xs) b ≡ has_level M b
leveled_all M xs covers b = has_filter (has_level M) xs b ∙ by_test (has xs b) refl
  where
    and_false : (a : Bool) → a ≡ false → (a && false) ≡ a
    and_false a e = ap (λ c. c && false) e ∙ sym e

    by_test : (t : Bool) → has xs b ≡ t → (has_level M b && has xs b) ≡ has_level M b
    by_test true e = ap (λ t. has_level M b && t) e ∙ and-true (has_level M b)
    by_test false e = ap (λ t. has_level M b && t) e ∙ and_false (has_level M b) (ap is_some (covers b e))

-- States that change.

-- a heartbeat
pub covers_after_heartbeat : (M N : State) (e : Event) (xs : List ℕ) → ((b : ℕ) → is_report_not_naming b e ≡ true) → N ≡ after_event M e → Covers M xs → Covers N xs
covers_after_heartbeat M N e xs unnamed is covers = subst (λ O. Covers O xs) (sym is) (λ b none. reports_keep M e b (unnamed b) ∙ covers b none)

-- a notice of a block that is added
pub covers_reported : (M N : State) (e : Event) (xs ys : List ℕ) (c : ℕ) → ys ≡ xs ++ c ∷ [] → ((b : ℕ) → (c == b) ≡ false → is_report_not_naming b e ≡ true)
    → N ≡ after_event M e → Covers M xs → Covers N ys
covers_reported M N e xs ys c added unnamed is covers = subst (λ O. Covers O ys) (sym is) facts
  where
    facts : Covers (after_event M e) ys
    facts b none =
        let parts = or_parts (has xs b) ((c == b) || false) (sym (list_any-append (λ x. x == b) xs (c ∷ [])) ∙ ap (λ zs. has zs b) (sym added) ∙ none) in
        reports_keep M e b (unnamed b (or_parts (c == b) false parts.1).0) ∙ covers b parts.0

-- a round
pub covers_round : (M N : State) (xs : List ℕ) → IsLawful M → N ≡ count_call (whole_round M).1 → Covers M xs → Covers N xs
covers_round M N xs lawful is covers = subst (λ O. Covers O xs) (sym is) (λ b none. round_gives_none M (orderly M lawful) b (covers b none))

pub round_is_next : (M : State) → (whole_round M).1.round ≡ M.round + 1
round_is_next M = (same_rest M).3

pub unknown_has_none : (M : State) (b : ℕ) → get M.holdings.blocks b ≡ None → level M.cluster M.holdings b ≡ None
unknown_has_none M b e = level_unknown M.cluster M.holdings b e
