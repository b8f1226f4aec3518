-- Growing, and setting or clearing a slot's level, keep the invariant of level lists in arrays.
use Rattle.std.proofs.Common.{◌≡◌, ◌≢◌, ◌⊎◌, ℕ, zero, suc, ◌<◌, ◌≤◌, ◌+◌, ◌-◌, ◌++◌, List, [], ◌∷◌, length, get_or, set, map, take, reverse, replicate, Option, Some, None, inl, inr, subst, sym, ap, ◌∙◌, refl, arith}
use Rattle.std.specs.Prelude.{if◌then◌else◌, ◌==◌, ◌↔◌, option_and_then}
use Rattle.std.specs.List.{swap_remove, All}
use Rattle.std.specs.List.Sorted.{IsPermutation}
use Rattle.std.proofs.Math.ListN.{get_or-map}
use Rattle.std.proofs.lemmas.Bool.{cases_eq, eq-eqb, ne_eqb, cases_lt}
use Rattle.std.proofs.lemmas.Option.{none-some, same_Some}
use Rattle.std.proofs.lemmas.List.{get_or-set_same, get_or-set_other, get_or_append_left, get_or_push, get_or_past, length-append, length-map, length-replicate, length-set, length_push, get_or_default, map-append, reverse-append, reverse-reverse, take_all}
use Rattle.bm_base.specs.declared.replica.Level.{Level}
use Rattle.bm_base.specs.declared.replica.Level.TheVariants.{Highest, VeryUnderReplicated, UnderReplicated, BadlyDistributed, NoUsableReplica}
use Rattle.bm_base.specs.Machine.Levels.{level_number}
use Rattle.bm_maps.specs.SlotLinks.{end_of_links}
use Rattle.bm_maps.specs.SlotLists.{IsMember, Distinct, first_of, slot_after}
use Rattle.bm_maps.proofs.SlotLists.{length-distinct_below}
use Rattle.bm_queues.specs.LevelBytes.{level_of_byte}
use Rattle.bm_queues.specs.Levels.{Levels, IsLawful, visited, level_at, slots_of, next_of}
use Rattle.bm_queues.specs.declared.level_lists.Cell.{Cell}
use Rattle.bm_queues.specs.DenseLevels.{AreDense, seen, level_in, array_of, levels_in, indices_in}
use Rattle.bm_queues.specs.Walks.{slots_from, IsOn, IsPast, GoesOn}
use Rattle.bm_queues.proofs.Visits.{walk-after}
use Rattle.bm_queues.proofs.ListIteration.{next-is_on, rest-next, past-is}
use Rattle.bm_queues.proofs.Indices.{AreApart, index_among, among_here, distinct_apart, among-reverse, distinct-reverse, first-taken, after-index, rest-length, rest-at, rest-place, rest-from, rest-on, permutation-reverse}

-- Levels and their numbers.

pub level_below : (l : Level) → level_number l < 5
level_below Highest = omega arith
level_below VeryUnderReplicated = omega arith
level_below UnderReplicated = omega arith
level_below BadlyDistributed = omega arith
level_below NoUsableReplica = omega arith

back_again : (l : Level) → level_of_byte (level_number l) ≡ Some l
back_again Highest = refl
back_again VeryUnderReplicated = refl
back_again UnderReplicated = refl
back_again BadlyDistributed = refl
back_again NoUsableReplica = refl

same_level : (l m : Level) → level_number l ≡ level_number m → l ≡ m
same_level l m same = same_Some l m (sym (back_again l) ∙ ap level_of_byte same ∙ back_again m)

-- each number below five is the number of a level
level_with : (n : ℕ) → n < 5 → (l : Level) × (level_number l ≡ n)
level_with zero h = (Highest, refl)
level_with (suc zero) h = (VeryUnderReplicated, refl)
level_with (suc (suc zero)) h = (UnderReplicated, refl)
level_with (suc (suc (suc zero))) h = (BadlyDistributed, refl)
level_with (suc (suc (suc (suc zero)))) h = (NoUsableReplica, refl)
level_with (suc (suc (suc (suc (suc n))))) h = absurd (omega (arith, h))

-- two levels are equal, or their numbers differ
cases_level : (l m : Level) → (l ≡ m) ⊎ (level_number l ≢ level_number m)
cases_level l m = elim (cases_eq (level_number l) (level_number m)) [ inl same ↦ inl (same_level l m same) | inr apart ↦ inr apart ]

-- a slot that has a level is below the capacity
pub held_below : (levels : List (Option Level)) (slot : ℕ) (l : Level) → get_or levels slot None ≡ Some l → slot < length levels
held_below levels slot l is =
    elim (cases_lt slot (length levels)) [
      | inl below ↦ below
      | inr past ↦ absurd (none-some l (sym (get_or_past levels slot None past) ∙ is))
    ]

-- a list with default values appended reads as before
pub padded : {A : Type 0} (d : A) (xs : List A) (k i : ℕ) → get_or (xs ++ replicate k d) i d ≡ get_or xs i d
padded d [] zero i = refl
padded d [] (suc k) zero = refl
padded d [] (suc k) (suc i) = padded d [] k i
padded d (x ∷ xs) k zero = refl
padded d (x ∷ xs) k (suc i) = padded d xs k i

map-replicate : {A B : Type 0} (f : A → B) (k : ℕ) (x : A) → map f (replicate k x) ≡ replicate k (f x)
map-replicate f zero x = refl
map-replicate f (suc k) x = ap (λ ys. f x ∷ ys) (map-replicate f k x)

-- cells without a level after the others
module _ (cells new : List Cell) (n k : ℕ) (o : Option Level) (none : o ≡ None) (is : new ≡ take n cells ++ replicate (n - k) (record { level = o; index = 0 })) (few : length cells ≤ n) where
  mapped : {B : Type 0} (f : Cell → B) → map f new ≡ map f cells ++ replicate (n - k) (f (record { level = o; index = 0 }))
  mapped f =
      ap (map f) (is ∙ ap (λ cs. cs ++ replicate (n - k) (record { level = o; index = 0 })) (take_all n cells few))
      ∙ map-append f cells (replicate (n - k) (record { level = o; index = 0 })) ∙ ap (λ ys. map f cells ++ ys) (map-replicate f (n - k) (record { level = o; index = 0 }))

  pub grown-levels : levels_in new ≡ levels_in cells ++ replicate (n - k) None
  grown-levels = mapped (λ (c : Cell). c.level) ∙ ap (λ l. levels_in cells ++ replicate (n - k) l) none

  pub grown-indices : indices_in new ≡ indices_in cells ++ replicate (n - k) 0
  grown-indices = mapped (λ (c : Cell). c.index)

-- The list of a level is its array from the end.
pub seen-list : (levels : List (Option Level)) (arrays : List (List ℕ)) (l : Level) → slots_of (seen levels arrays) l ≡ reverse (array_of arrays l)
seen-list levels arrays l = get_or-map reverse arrays (level_number l) []

pub seen-array : (levels : List (Option Level)) (arrays : List (List ℕ)) (l : Level) → reverse (slots_of (seen levels arrays) l) ≡ array_of arrays l
seen-array levels arrays l = ap reverse (seen-list levels arrays l) ∙ reverse-reverse (array_of arrays l)

-- the effect of one array's change on the lists
module _ (arrays : List (List ℕ)) (l : Level) (ys : List ℕ) where
  pub own-array : length arrays ≡ 5 → array_of (set arrays (level_number l) ys) l ≡ ys
  own-array five = get_or-set_same arrays (level_number l) ys [] (let low = level_below l in omega (arith, low, five))

  pub other-array : (m : Level) → level_number m ≢ level_number l → array_of (set arrays (level_number l) ys) m ≡ array_of arrays m
  other-array m apart = get_or-set_other arrays (level_number l) (level_number m) ys [] apart

module _ (levels : List (Option Level)) (indices : List ℕ) (arrays : List (List ℕ)) (are : AreDense levels indices arrays) where
  abbrev v : Levels
  v = seen levels arrays

  pub array-apart : (l : Level) → AreApart (array_of arrays l)
  array-apart l i j low_i low_j same = sym (are.index l i low_i) ∙ ap (λ x. get_or indices x 0) same ∙ are.index l j low_j

  pub array-exact : (l : Level) (slot : ℕ) → IsMember slot (array_of arrays l) ↔ (level_in levels slot ≡ Some l)
  array-exact l slot = (
    λ h. let found = index_among slot (array_of arrays l) h in
        ap (λ x. level_in levels x) (sym found.2) ∙ are.level l found.0 found.1,
    λ is. among_here slot (array_of arrays l) (get_or indices slot 0) (are.inside l slot is) (are.there l slot is),
  )

  pub array-once : (l : Level) → Distinct (array_of arrays l)
  array-once l = distinct_apart (array_of arrays l) (array-apart l)

  pub array-few : (l : Level) → length (array_of arrays l) ≤ length levels
  array-few l = length-distinct_below (length levels) (array_of arrays l) (array-once l) (λ x h. held_below levels x l ((array-exact l x).0 h))

  pub arrays-few : (n : ℕ) → length levels ≤ n → All (λ a. length a ≤ n) arrays
  arrays-few n enough k d low =
      let five = are.five in
      let l = level_with k (omega (arith, low, five)) in
      let same : get_or arrays k d ≡ array_of arrays l.0 = get_or_default arrays k d [] low ∙ ap (λ i. get_or arrays i []) (sym l.1) in
      let few = array-few l.0 in
      let len = ap length same in
      omega (arith, few, len, enough)

  pub lawful-levels : IsLawful v
  lawful-levels = record {
    five = length-map arrays reverse ∙ are.five;
    distinct = λ l. rw (seen-list levels arrays l) (distinct-reverse (array_of arrays l) (array-apart l));
    exact = λ l slot. rw (seen-list levels arrays l) (
      λ h. (array-exact l slot).0 ((among-reverse slot (array_of arrays l)).0 h),
      λ is. (among-reverse slot (array_of arrays l)).1 ((array-exact l slot).1 is),
    );
    below = λ l slot. rw (seen-list levels arrays l) (λ h. held_below levels slot l ((array-exact l slot).0 ((among-reverse slot (array_of arrays l)).0 h)));
    small = are.small;
  }

  -- following `next` visits the slots of a level
  pub visited-levels : (l : Level) → visited v l ≡ slots_of v l
  visited-levels l =
      let lawful = lawful-levels in
      walk-after (next_of v) (slots_of v l) (length (slots_of v l)) (lawful.distinct l)
      (λ x there. ap (option_and_then (λ m. slot_after x (slots_of v m))) ((lawful.exact l x).0 there)) (omega arith)

  -- more slots, without a level
  pub grown-dense : (k : ℕ) → length levels + k + 1 ≤ end_of_links → AreDense (levels ++ replicate k None) (indices ++ replicate k 0) arrays
  grown-dense k fits = record {
    five = are.five;
    level = λ l i low. padded None levels k (get_or (array_of arrays l) i 0) ∙ are.level l i low;
    index = λ l i low. padded 0 indices k (get_or (array_of arrays l) i 0) ∙ are.index l i low;
    inside = λ l s at. rw (padded 0 indices k s) (are.inside l s (sym (padded None levels k s) ∙ at));
    there = λ l s at. rw (padded 0 indices k s) (are.there l s (sym (padded None levels k s) ∙ at));
    small = (let len = length-append levels (replicate k None) in let none : Option Level = None in let new = length-replicate k none in omega (arith, fits, len, new));
  }

  -- the next slot after one that has a level
  module _ (slot : ℕ) (l : Level) (is : level_in levels slot ≡ Some l) where
    behind-slot : next_of v slot ≡ first_of (reverse (take (get_or indices slot 0) (array_of arrays l)))
    behind-slot =
        ap (option_and_then (λ m. slot_after slot (slots_of v m))) is ∙ ap (slot_after slot) (seen-list levels arrays l)
        ∙ ap (λ x. slot_after x (reverse (array_of arrays l))) (sym (are.there l slot is)) ∙ after-index (array_of arrays l) (array-apart l) (get_or indices slot 0) (are.inside l slot is)

    pub none-behind : get_or indices slot 0 ≡ 0 → None ≡ next_of v slot
    none-behind first = sym (behind-slot ∙ ap (λ i. first_of (reverse (take i (array_of arrays l)))) first)

    pub one-behind : (i : ℕ) → get_or indices slot 0 ≡ i + 1 → Some (get_or (array_of arrays l) i 0) ≡ next_of v slot
    one-behind i next =
        let inside = are.inside l slot is in
        sym (behind-slot ∙ ap (λ j. first_of (reverse (take j (array_of arrays l)))) next ∙ first-taken (array_of arrays l) i (omega (arith, inside, next)))

  -- a slot that leaves its list
  module _ (slot : ℕ) (l : Level) (is : level_in levels slot ≡ Some l) where
    abbrev xs : List ℕ
    xs = array_of arrays l

    abbrev place : ℕ
    place = get_or indices slot 0

    abbrev end : ℕ
    end = length xs - 1

    abbrev last : ℕ
    last = get_or xs end 0

    abbrev rest : List ℕ
    rest = swap_remove xs place slot

    low : place < length xs
    low = are.inside l slot is

    at : get_or xs place 0 ≡ slot
    at = are.there l slot is

    last-level : level_in levels last ≡ Some l
    last-level = are.level l end (omega (arith, low))

    pub last-below : last < length levels
    last-below = held_below levels last l last-level

    last-index : get_or indices last 0 ≡ end
    last-index = are.index l end (omega (arith, low))

    abbrev arrays' : List (List ℕ)
    arrays' = set arrays (level_number l) rest

    kept-array : array_of arrays' l ≡ rest
    kept-array = own-array arrays l rest are.five

    -- another slot keeps its level, and one that is not the last its index
    other-level : (s : ℕ) → s ≢ slot → level_in (set levels slot None) s ≡ level_in levels s
    other-level s differs = get_or-set_other levels slot s None None differs

    other-index : (s : ℕ) → s ≢ last → get_or (set indices last place) s 0 ≡ get_or indices s 0
    other-index s differs = get_or-set_other indices last s place 0 differs

    -- the slot at an index of the rest
    moved : (i : ℕ) → i < end → (s : ℕ) × (get_or rest i 0 ≡ s) × (s ≢ slot) × (level_in levels s ≡ Some l) × (((s ≡ last) × (i ≡ place)) ⊎ ((s ≢ last) × (get_or indices s 0 ≡ i)))
    moved i below =
        elim (cases_eq i place) [
          | inl same ↦
              let here : place < end = omega (arith, below, same) in (
                last,
                ap (λ j. get_or rest j 0) same ∙ rest-place xs (array-apart l) slot place low at here,
                (λ e. let equal : end ≡ place = sym last-index ∙ ap (λ x. get_or indices x 0) e in absurd (omega (arith, equal, here))),
                last-level,
                inl (refl, same),
              )
          | inr other ↦
              let inside : i < length xs = omega (arith, below) in
              let index = are.index l i inside in (
                get_or xs i 0,
                rest-at xs (array-apart l) slot place low at i below other,
                (λ e. other (sym index ∙ ap (λ x. get_or indices x 0) e)),
                are.level l i inside,
                inr ((λ e. let equal : i ≡ end = sym index ∙ ap (λ x. get_or indices x 0) e ∙ last-index in absurd (omega (arith, equal, below))), index),
              )
        ]

    short : (i : ℕ) → i < length (array_of arrays' l) → i < end
    short i low_i = let len = ap length kept-array ∙ rest-length xs (array-apart l) slot place low at in omega (arith, low_i, len)

    left-level : (m : Level) (i : ℕ) → i < length (array_of arrays' m) → level_in (set levels slot None) (get_or (array_of arrays' m) i 0) ≡ Some m
    left-level m i low_i =
        elim (cases_level m l) [
          | inl same ↦
              let found = moved i (short i (subst (λ k. i < length (array_of arrays' k)) same low_i)) in
              ap (λ k. level_in (set levels slot None) (get_or (array_of arrays' k) i 0)) same ∙ ap (λ ys. level_in (set levels slot None) (get_or ys i 0)) kept-array
              ∙ ap (level_in (set levels slot None)) found.1 ∙ other-level found.0 found.2 ∙ found.3 ∙ ap Some (sym same)
          | inr apart ↦
              let array = other-array arrays l rest m apart in
              let inside : i < length (array_of arrays m) = rw (← array) low_i in
              let held = are.level m i inside in
              let other : get_or (array_of arrays m) i 0 ≢ slot = λ e. apart (ap level_number (same_Some m l (sym held ∙ ap (level_in levels) e ∙ is))) in
              ap (λ ys. level_in (set levels slot None) (get_or ys i 0)) array ∙ other-level (get_or (array_of arrays m) i 0) other ∙ held
        ]

    module _ (long : length indices ≡ length levels) where
      last_now : get_or (set indices last place) last 0 ≡ place
      last_now = get_or-set_same indices last place 0 (let below = last-below in omega (arith, below, long))

      left-index : (m : Level) (i : ℕ) → i < length (array_of arrays' m) → get_or (set indices last place) (get_or (array_of arrays' m) i 0) 0 ≡ i
      left-index m i low_i =
          elim (cases_level m l) [
            | inl same ↦
                let found = moved i (short i (subst (λ k. i < length (array_of arrays' k)) same low_i)) in
                ap (λ k. get_or (set indices last place) (get_or (array_of arrays' k) i 0) 0) same ∙ ap (λ ys. get_or (set indices last place) (get_or ys i 0) 0) kept-array
                ∙ ap (λ s. get_or (set indices last place) s 0) found.1
                ∙ elim found.4 [
                  | inl filled ↦ ap (λ s. get_or (set indices last place) s 0) filled.0 ∙ last_now ∙ sym filled.1
                  | inr stays ↦ other-index found.0 stays.0 ∙ stays.1
                ]
            | inr apart ↦
                let array = other-array arrays l rest m apart in
                let inside : i < length (array_of arrays m) = rw (← array) low_i in
                let held = are.level m i inside in
                let other : get_or (array_of arrays m) i 0 ≢ last = λ e. apart (ap level_number (same_Some m l (sym held ∙ ap (level_in levels) e ∙ last-level))) in
                ap (λ ys. get_or (set indices last place) (get_or ys i 0) 0) array ∙ other-index (get_or (array_of arrays m) i 0) other ∙ are.index m i inside
          ]

      -- a slot that still has a level is at its index
      left-found : (m : Level) (s : ℕ) → level_in (set levels slot None) s ≡ Some m
          → (get_or (set indices last place) s 0 < length (array_of arrays' m)) × (get_or (array_of arrays' m) (get_or (set indices last place) s 0) 0 ≡ s)
      left-found m s now =
          elim (cases_eq s slot) [
            | inl gone ↦ absurd (none-some m (sym (ap (level_in (set levels slot None)) gone ∙ get_or-set_same levels slot None None (held_below levels slot l is)) ∙ now))
            | inr differs ↦
                let was : level_in levels s ≡ Some m = sym (other-level s differs) ∙ now in
                elim (cases_level m l) [
                  | inl same ↦
                      let Found : List ℕ → Type 0 = λ ys. (get_or (set indices last place) s 0 < length ys) × (get_or ys (get_or (set indices last place) s 0) 0 ≡ s) in
                      let before : level_in levels s ≡ Some l = was ∙ ap Some same in
                      subst (λ k. Found (array_of arrays' k)) (sym same) (subst Found (sym kept-array) (in_rest s differs before))
                  | inr apart ↦
                      let array = other-array arrays l rest m apart in
                      let other : s ≢ last = λ e. apart (ap level_number (same_Some m l (sym was ∙ ap (level_in levels) e ∙ last-level))) in
                      rw (array, other-index s other) (are.inside m s was, are.there m s was)
                ]
          ]
        where
          in_rest : (s : ℕ) → s ≢ slot → level_in levels s ≡ Some l → (get_or (set indices last place) s 0 < length rest) × (get_or rest (get_or (set indices last place) s 0) 0 ≡ s)
          in_rest s differs before =
              let len = rest-length xs (array-apart l) slot place low at in
              let inside = are.inside l s before in
              let there = are.there l s before in
              elim (cases_eq s last) [
                | inl same ↦
                    let index : get_or (set indices last place) s 0 ≡ place = ap (λ x. get_or (set indices last place) x 0) same ∙ last_now in
                    let here : place < end = (let apart : place ≢ end = λ e. differs (same ∙ sym (ap (λ i. get_or xs i 0) e) ∙ at) in omega (arith, low, apart)) in
                    rw index (omega (arith, here, len), rest-place xs (array-apart l) slot place low at here ∙ sym same)
                | inr other ↦
                    let index = other-index s other in
                    let not_end : get_or indices s 0 ≢ end = λ e. other (sym there ∙ ap (λ i. get_or xs i 0) e) in
                    let not_hole : get_or indices s 0 ≢ place = λ e. differs (sym there ∙ ap (λ i. get_or xs i 0) e ∙ at) in
                    let inner : get_or indices s 0 < end = omega (arith, inside, not_end) in
                    rw index (omega (arith, inner, len), rest-at xs (array-apart l) slot place low at (get_or indices s 0) inner not_hole ∙ there)
              ]

      pub left-dense : AreDense (set levels slot None) (set indices last place) arrays'
      left-dense = record {
        five = length-set arrays (level_number l) rest ∙ are.five;
        level = left-level;
        index = left-index;
        inside = λ m s now. (left-found m s now).0;
        there = λ m s now. (left-found m s now).1;
        small = (let old = are.small in let len = length-set levels slot None in omega (arith, old, len));
      }

    -- the lists afterwards, as contracts see them
    left-list : slots_of (seen (set levels slot None) arrays') l ≡ reverse rest
    left-list = seen-list (set levels slot None) arrays' l ∙ ap reverse kept-array

    pub left-permutation : (m : Level) → level_in levels slot ≡ Some m → IsPermutation (slots_of v m) (slot ∷ slots_of (seen (set levels slot None) arrays') m)
    left-permutation m was =
        let same : l ≡ m = same_Some l m (sym is ∙ was) in
        subst (λ k. IsPermutation (slots_of v k) (slot ∷ slots_of (seen (set levels slot None) arrays') k)) same
        (rw (seen-list levels arrays l, left-list) (permutation-reverse xs (array-apart l) slot place low at))

    pub left-others : (m : Level) → Some m ≢ level_in levels slot → slots_of (seen (set levels slot None) arrays') m ≡ slots_of v m
    left-others m not_old =
        elim (cases_level m l) [
          | inl same ↦ absurd (not_old (ap Some same ∙ sym is))
          | inr apart ↦ seen-list (set levels slot None) arrays' m ∙ ap reverse (other-array arrays l rest m apart) ∙ sym (seen-list levels arrays m)
        ]

    pub left-rest : (m : Level) (p : Option ℕ) → IsPast slot p (slots_of v m) → slots_from (slots_of (seen (set levels slot None) arrays') m) p ≡ slots_from (slots_of v m) p
    left-rest m p past =
        elim (cases_level m l) [
          | inl same ↦
              subst (λ k. IsPast slot p (slots_of v k) → slots_from (slots_of (seen (set levels slot None) arrays') k) p ≡ slots_from (slots_of v k) p) (sym same)
              (rw (seen-list levels arrays l, left-list) (rest-from xs (array-apart l) slot place low at p)) past
          | inr apart ↦ ap (λ ys. slots_from ys p) (left-others m (λ e. apart (ap level_number (same_Some m l (e ∙ is)))))
        ]

    pub left-on : (m : Level) (p : Option ℕ) → IsPast slot p (slots_of v m) → IsOn p (slots_of v m) → IsOn p (slots_of (seen (set levels slot None) arrays') m)
    left-on m p past on =
        elim (cases_level m l) [
          | inl same ↦
              subst (λ k. IsPast slot p (slots_of v k) → IsOn p (slots_of v k) → IsOn p (slots_of (seen (set levels slot None) arrays') k)) (sym same)
              (rw (seen-list levels arrays l, left-list) (rest-on xs (array-apart l) slot place low at p)) past on
          | inr apart ↦ subst (IsOn p) (sym (left-others m (λ e. apart (ap level_number (same_Some m l (e ∙ is)))))) on
        ]

  -- a slot given a level
  module _ (slot : ℕ) (l : Level) (none : level_in levels slot ≡ None) (below : slot < length levels) where
    abbrev ys : List ℕ
    ys = array_of arrays l

    abbrev more : List ℕ
    more = ys ++ slot ∷ []

    abbrev arrays+ : List (List ℕ)
    arrays+ = set arrays (level_number l) more

    grown-array : array_of arrays+ l ≡ more
    grown-array = own-array arrays l more are.five

    -- a slot with a level is a different one
    levelled : (s : ℕ) (m : Level) → level_in levels s ≡ Some m → s ≢ slot
    levelled s m at e = none-some m (sym none ∙ sym (ap (level_in levels) e) ∙ at)

    pub capacity-for-one : length ys < length levels
    capacity-for-one =
        let all : length (slot ∷ ys) ≤ length levels =
        length-distinct_below (length levels) (slot ∷ ys) ((λ h. levelled slot l ((array-exact l slot).0 h) refl), array-once l)
        (λ x there. elim there [
          | inl here ↦ (let P : ℕ → Type 0 = λ y. y < length levels in subst P (sym here) below)
          | inr later ↦ held_below levels x l ((array-exact l x).0 later)
        ]) in
        omega (arith, all)

    module _ (long : length indices ≡ length levels) where
      level-now : level_in (set levels slot (Some l)) slot ≡ Some l
      level-now = get_or-set_same levels slot (Some l) None below

      index-now : get_or (set indices slot (length ys)) slot 0 ≡ length ys
      index-now = get_or-set_same indices slot (length ys) 0 (omega (arith, below, long))

      -- the slot at an index of an array
      abbrev AtIndex : Level → ℕ → ℕ → Type 0
      AtIndex m i s = (level_in (set levels slot (Some l)) s ≡ Some m) × (get_or (set indices slot (length ys)) s 0 ≡ i)

      kept-index : (m : Level) (i : ℕ) → i < length (array_of arrays m) → AtIndex m i (get_or (array_of arrays m) i 0)
      kept-index m i low_i =
          let held = are.level m i low_i in
          let differs = levelled (get_or (array_of arrays m) i 0) m held in (
            get_or-set_other levels slot (get_or (array_of arrays m) i 0) (Some l) None differs ∙ held,
            get_or-set_other indices slot (get_or (array_of arrays m) i 0) (length ys) 0 differs ∙ are.index m i low_i,
          )

      more-index : (i : ℕ) → i < length more → AtIndex l i (get_or more i 0)
      more-index i low_i =
          let len = length_push ys slot in
          elim (cases_eq i (length ys)) [
            | inl end ↦ subst (AtIndex l i) (sym (get_or_push ys slot 0 i (sym end))) (level-now, index-now ∙ sym end)
            | inr other ↦
                let inner : i < length ys = omega (arith, low_i, len, other) in
                subst (AtIndex l i) (sym (get_or_append_left ys (slot ∷ []) 0 i inner)) (kept-index l i inner)
          ]

      all-index : (m : Level) (i : ℕ) → i < length (array_of arrays+ m) → AtIndex m i (get_or (array_of arrays+ m) i 0)
      all-index m i =
          elim (cases_level m l) [
            | inl same ↦ subst (λ k. i < length (array_of arrays+ k) → AtIndex k i (get_or (array_of arrays+ k) i 0)) (sym same) (rw grown-array (more-index i))
            | inr apart ↦ rw (other-array arrays l more m apart) (kept-index m i)
          ]

      abbrev Found : Level → ℕ → Type 0
      Found m s = (get_or (set indices slot (length ys)) s 0 < length (array_of arrays+ m)) × (get_or (array_of arrays+ m) (get_or (set indices slot (length ys)) s 0) 0 ≡ s)

      all-found : (m : Level) (s : ℕ) → level_in (set levels slot (Some l)) s ≡ Some m → Found m s
      all-found m s now =
          let len = length_push ys slot in
          elim (cases_eq s slot) [
            | inl same ↦
                let level : l ≡ m = same_Some l m (sym level-now ∙ sym (ap (level_in (set levels slot (Some l))) same) ∙ now) in
                subst (λ k. Found k s) level (
                let index : get_or (set indices slot (length ys)) s 0 ≡ length ys = ap (λ x. get_or (set indices slot (length ys)) x 0) same ∙ index-now in
                rw (grown-array, index) (omega (arith, len), get_or_push ys slot 0 (length ys) refl ∙ sym same))
            | inr differs ↦
                let was : level_in levels s ≡ Some m = sym (get_or-set_other levels slot s (Some l) None differs) ∙ now in
                let index : get_or (set indices slot (length ys)) s 0 ≡ get_or indices s 0 = get_or-set_other indices slot s (length ys) 0 differs in
                let inside = are.inside m s was in
                let there = are.there m s was in
                elim (cases_level m l) [
                  | inl same ↦
                      let inside_l : get_or indices s 0 < length ys = subst (λ k. get_or indices s 0 < length (array_of arrays k)) same inside in
                      let there_l : get_or ys (get_or indices s 0) 0 ≡ s = subst (λ k. get_or (array_of arrays k) (get_or indices s 0) 0 ≡ s) same there in
                      subst (λ k. Found k s) (sym same)
                      (rw (grown-array, index) (omega (arith, inside_l, len), get_or_append_left ys (slot ∷ []) 0 (get_or indices s 0) inside_l ∙ there_l))
                  | inr apart ↦ rw (other-array arrays l more m apart, index) (inside, there)
                ]
          ]

      pub more-dense : AreDense (set levels slot (Some l)) (set indices slot (length ys)) arrays+
      more-dense = record {
        five = length-set arrays (level_number l) more ∙ are.five;
        level = λ m i low_i. (all-index m i low_i).0;
        index = λ m i low_i. (all-index m i low_i).1;
        inside = λ m s now. (all-found m s now).0;
        there = λ m s now. (all-found m s now).1;
        small = (let old = are.small in let len = length-set levels slot (Some l) in omega (arith, old, len));
      }

    pub more-front : slots_of (seen (set levels slot (Some l)) arrays+) l ≡ slot ∷ slots_of v l
    more-front = seen-list (set levels slot (Some l)) arrays+ l ∙ ap reverse grown-array ∙ reverse-append ys (slot ∷ []) ∙ ap (λ zs. slot ∷ zs) (sym (seen-list levels arrays l))

    pub more-others : (m : Level) → m ≢ l → slots_of (seen (set levels slot (Some l)) arrays+) m ≡ slots_of v m
    more-others m differs =
        elim (cases_level m l) [
          | inl same ↦ absurd (differs same)
          | inr apart ↦ seen-list (set levels slot (Some l)) arrays+ m ∙ ap reverse (other-array arrays l more m apart) ∙ sym (seen-list levels arrays m)
        ]

-- a level set for one slot, in the form of the calls
pub level-set : (levels : List (Option Level)) (slot : ℕ) (level : Option Level) → slot < length levels → (other : ℕ)
    → level_in (set levels slot level) other ≡ (if other == slot then level else level_in levels other)
level-set levels slot level below other =
    elim (cases_eq other slot) [
      | inl same ↦ rw (eq-eqb other slot same) (ap (level_in (set levels slot level)) same ∙ get_or-set_same levels slot level None below)
      | inr differs ↦ rw (ne_eqb other slot differs) (get_or-set_other levels slot other level None differs)
    ]

-- the next slot after a slot of a level, as `next` returns it
pub goes-on : (v : Levels) → IsLawful v → (slot : ℕ) (r : Option ℕ) → r ≡ next_of v slot → (l : Level) → level_at v slot ≡ Some l → GoesOn slot r (slots_of v l)
goes-on v lawful slot r is l at =
    let behind : r ≡ slot_after slot (slots_of v l) = is ∙ ap (option_and_then (λ m. slot_after slot (slots_of v m))) at in
    record {
      on = next-is_on (slots_of v l) r slot behind;
      rest = rest-next (slots_of v l) r slot behind (lawful.distinct l) ((lawful.exact l slot).1 at);
      past = past-is (slots_of v l) r slot behind (lawful.distinct l);
    }
