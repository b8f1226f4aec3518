-- An iteration from an array's end goes on at lower indices, also after a passed slot is removed.
use Rattle.std.proofs.Common.{◌≡◌, ◌≢◌, ◌⊎◌, ℕ, zero, suc, ◌<◌, ◌+◌, ◌-◌, ◌++◌, List, [], ◌∷◌, length, get_or, set, take, drop, reverse, Option, Some, None, inl, inr, subst, sym, ap, ◌∙◌, refl, arith}
use Rattle.std.specs.Prelude.{◌↔◌, slice_get}
use Rattle.std.specs.List.{swap_remove}
use Rattle.std.specs.List.Sorted.{IsPermutation}
use Rattle.std.proofs.lemmas.Option.{get_or_from_slice_get, none-some}
use Rattle.std.proofs.lemmas.Bool.{cases_eq, eq-eqb, ne_eqb, cases_lt}
use Rattle.std.proofs.lemmas.List.{get_or_default, get_or-reverse, get_or-drop, get_or-take, length-reverse, length-take-le, reverse-append, reverse-reverse, take-append-drop, take-take, take-set-le, take_more}
use Rattle.std.proofs.lemmas.List.Sorted.{IsPermutation-swap_remove, IsPermutation-reverse, IsPermutation-sym, IsPermutation-trans, IsPermutation-cons}
use Rattle.std.proofs.lemmas.Grind.{common_steps}
use Rattle.bm_maps.specs.SlotLists.{IsMember, Distinct, first_of, slot_after}
use Rattle.bm_maps.proofs.SlotLists.{dec_among}
use Rattle.bm_queues.specs.Walks.{slots_from, IsOn, IsPast}

pub index_among : (x : ℕ) (xs : List ℕ) → IsMember x xs → (i : ℕ) × (i < length xs) × (get_or xs i 0 ≡ x)
index_among x [] there = absurd there
index_among x (y ∷ ys) there =
    elim there [
      | inl here ↦ (zero, omega arith, sym here)
      | inr later ↦ (let found = index_among x ys later in (suc found.0, (let low = found.1 in omega (arith, low)), found.2))
    ]

pub among_at : (xs : List ℕ) (i : ℕ) → i < length xs → IsMember (get_or xs i 0) xs
among_at [] i low = absurd (omega (arith, low))
among_at (x ∷ xs) zero low = inl refl
among_at (x ∷ xs) (suc i) low = inr (among_at xs i (omega (arith, low)))

pub among_here : (x : ℕ) (xs : List ℕ) (i : ℕ) → i < length xs → get_or xs i 0 ≡ x → IsMember x xs
among_here x xs i low is = let P : ℕ → Type 0 = λ y. IsMember y xs in subst P is (among_at xs i low)

-- no slot has two indices
abbrev pub AreApart : List ℕ → Type 0
AreApart xs = (i j : ℕ) → i < length xs → j < length xs → get_or xs i 0 ≡ get_or xs j 0 → i ≡ j

pub distinct_apart : (xs : List ℕ) → AreApart xs → Distinct xs
distinct_apart [] apart = tt
distinct_apart (x ∷ xs) apart = (
  λ there. let found = index_among x xs there in
      let low = found.1 in
      let same : suc found.0 ≡ zero = apart (suc found.0) zero (omega (arith, low)) (omega arith) found.2 in
      absurd (omega (arith, same)),
  distinct_apart xs (λ i j low_i low_j same.
      let e : suc i ≡ suc j = apart (suc i) (suc j) (omega (arith, low_i)) (omega (arith, low_j)) same in
      omega (arith, e)),
)

-- The list from its end.

among-reversed : (x : ℕ) (xs : List ℕ) → IsMember x xs → IsMember x (reverse xs)
among-reversed x xs there =
    let found = index_among x xs there in
    let low = found.1 in
    let long = length-reverse xs in
    let back : length xs - 1 - (length xs - 1 - found.0) ≡ found.0 = omega (arith, low) in
    among_here x (reverse xs) (length xs - 1 - found.0) (omega (arith, low, long))
    (get_or-reverse xs (length xs - 1 - found.0) 0 (omega (arith, low)) ∙ ap (λ i. get_or xs i 0) back ∙ found.2)

pub among-reverse : (x : ℕ) (xs : List ℕ) → IsMember x (reverse xs) ↔ IsMember x xs
among-reverse x xs = (λ there. subst (λ ys. IsMember x ys) (reverse-reverse xs) (among-reversed x (reverse xs) there), among-reversed x xs)

apart-reverse : (xs : List ℕ) → AreApart xs → AreApart (reverse xs)
apart-reverse xs apart i j low_i low_j same =
    let long = length-reverse xs in
    let e : length xs - 1 - i ≡ length xs - 1 - j =
    apart (length xs - 1 - i) (length xs - 1 - j) (omega (arith, low_i, long)) (omega (arith, low_j, long))
    (sym (get_or-reverse xs i 0 (omega (arith, low_i, long))) ∙ same ∙ get_or-reverse xs j 0 (omega (arith, low_j, long))) in
    omega (arith, e, low_i, low_j, long)

pub distinct-reverse : (xs : List ℕ) → AreApart xs → Distinct (reverse xs)
distinct-reverse xs apart = distinct_apart (reverse xs) (apart-reverse xs apart)

-- the first of them is the last one of the array
pub first-taken : (xs : List ℕ) (k : ℕ) → k < length xs → first_of (reverse (take (k + 1) xs)) ≡ Some (get_or xs k 0)
first-taken xs k low = ap first_of (ap reverse (take_more xs k 0 low) ∙ reverse-append (take k xs) (get_or xs k 0 ∷ []))

-- `first-taken` as the code reads it
pub first-read : (xs ys : List ℕ) (z : ℕ) → ys ≡ reverse xs → slice_get ys (length ys - 1) ≡ Some z → Some z ≡ first_of xs
first-read [] ys z is at = absurd (none-some z (rw is at at))
first-read (x ∷ xs) ys z is at =
    let long : length ys ≡ length (x ∷ xs) = ap length is ∙ length-reverse (x ∷ xs) in
    let end : length ys - 1 ≡ length xs = omega (arith, long) in
    let none : length (x ∷ xs) - 1 - length xs ≡ 0 = omega arith in
    let read : z ≡ x = sym (get_or_from_slice_get ys (length ys - 1) z 0 at) ∙ ap (λ i. get_or ys i 0) end ∙ ap (λ zs. get_or zs (length xs) 0) is
    ∙ get_or-reverse (x ∷ xs) (length xs) 0 (omega arith) ∙ ap (λ i. get_or (x ∷ xs) i 0) none in
    ap Some read

-- a list that is cut at a slot that is not before the cut
from-cut : (z : ℕ) (xs ys : List ℕ) → (IsMember z xs → ⊥) → slots_from (xs ++ z ∷ ys) (Some z) ≡ z ∷ ys
from-cut z [] ys absent = rw (eq-eqb z z refl) refl
from-cut z (x ∷ xs) ys absent = rw (ne_eqb x z (λ e. absent (inl (sym e)))) (from-cut z xs ys (λ h. absent (inr h)))

after-cut : (z : ℕ) (xs ys : List ℕ) → (IsMember z xs → ⊥) → slot_after z (xs ++ z ∷ ys) ≡ first_of ys
after-cut z [] ys absent = rw (eq-eqb z z refl) refl
after-cut z (x ∷ xs) ys absent = rw (ne_eqb x z (λ e. absent (inl (sym e)))) (after-cut z xs ys (λ h. absent (inr h)))

from-absent : (z : ℕ) (xs : List ℕ) → (IsMember z xs → ⊥) → slots_from xs (Some z) ≡ []
from-absent z [] absent = refl
from-absent z (x ∷ xs) absent = rw (ne_eqb x z (λ e. absent (inl (sym e)))) (from-absent z xs (λ h. absent (inr h)))

module _ (xs : List ℕ) (apart : AreApart xs) (i : ℕ) (low : i < length xs) where
  abbrev z : ℕ
  z = get_or xs i 0

  taken-reverse : reverse (take (i + 1) xs) ≡ z ∷ reverse (take i xs)
  taken-reverse = ap reverse (take_more xs i 0 low) ∙ reverse-append (take i xs) (z ∷ [])

  cut-reverse : reverse xs ≡ reverse (drop (i + 1) xs) ++ z ∷ reverse (take i xs)
  cut-reverse = ap reverse (sym (take-append-drop (i + 1) xs)) ∙ reverse-append (take (i + 1) xs) (drop (i + 1) xs) ∙ ap (λ ys. reverse (drop (i + 1) xs) ++ ys) taken-reverse

  not-later : IsMember z (reverse (drop (i + 1) xs)) → ⊥
  not-later there =
      let found = index_among z (drop (i + 1) xs) ((among-reverse z (drop (i + 1) xs)).0 there) in
      let inside = found.1 in
      let at : get_or xs (i + 1 + found.0) 0 ≡ z = sym (get_or-drop (i + 1) xs found.0 0) ∙ found.2 in
      let same : i + 1 + found.0 ≡ i = apart (i + 1 + found.0) i (grind (arith, common_steps, inside)) low at in
      absurd (omega (arith, same))

  -- from a slot on, the slots before it in the array remain
  pub from-index : slots_from (reverse xs) (Some z) ≡ reverse (take (i + 1) xs)
  from-index = ap (λ ys. slots_from ys (Some z)) cut-reverse ∙ from-cut z (reverse (drop (i + 1) xs)) (reverse (take i xs)) not-later ∙ sym taken-reverse

  pub after-index : slot_after z (reverse xs) ≡ first_of (reverse (take i xs))
  after-index = ap (slot_after z) cut-reverse ∙ after-cut z (reverse (drop (i + 1) xs)) (reverse (take i xs)) not-later

-- A slot is removed, and the last one takes its index.

module _ (xs : List ℕ) (apart : AreApart xs) (slot place : ℕ) (low : place < length xs) (at : get_or xs place 0 ≡ slot) where
  abbrev last : ℕ
  last = length xs - 1

  abbrev rest : List ℕ
  rest = swap_remove xs place slot

  pub rest-length : length rest ≡ last
  rest-length = grind (arith, common_steps)

  pub rest-at : (i : ℕ) → i < last → i ≢ place → get_or rest i 0 ≡ get_or xs i 0
  rest-at i below other = grind (arith, common_steps)

  pub rest-place : place < last → get_or rest place 0 ≡ get_or xs last 0
  rest-place below = grind (arith, common_steps)

  pub others_stay : (other : ℕ) → other ≢ slot → IsMember other rest ↔ IsMember other xs
  others_stay other differs = (
    λ there. let found = index_among other rest there in
        let below : found.0 < last = (let f = found.1 in omega (arith, f, rest-length)) in
        elim (cases_eq found.0 place) [
          | inl same ↦ among_here other xs last (omega (arith, low)) (sym (rest-place (omega (arith, below, same))) ∙ ap (λ i. get_or rest i 0) (sym same) ∙ found.2)
          | inr away ↦ among_here other xs found.0 (omega (arith, below)) (sym (rest-at found.0 below away) ∙ found.2)
        ],
    λ there. let found = index_among other xs there in
        let apart_p : found.0 ≢ place = λ e. differs (sym found.2 ∙ ap (λ i. get_or xs i 0) e ∙ at) in
        elim (cases_eq found.0 last) [
          | inl end ↦
              let here : place < last = (let f = found.1 in omega (arith, f, end, apart_p, low)) in
              among_here other rest place (omega (arith, here, rest-length)) (rest-place here ∙ ap (λ i. get_or xs i 0) (sym end) ∙ found.2)
          | inr inner ↦
              let below : found.0 < last = (let f = found.1 in omega (arith, f, inner)) in
              among_here other rest found.0 (omega (arith, below, rest-length)) (rest-at found.0 below apart_p ∙ found.2)
        ],
  )

  -- the index in the list of the slot at an index of the rest
  was_at : (i : ℕ) → i < last → (k : ℕ) × (k < length xs) × (get_or rest i 0 ≡ get_or xs k 0) × (((i ≡ place) × (k ≡ last)) ⊎ ((i ≢ place) × (k ≡ i)))
  was_at i below =
      elim (cases_eq i place) [
        | inl same ↦ (last, omega (arith, low), (ap (λ j. get_or rest j 0) same ∙ rest-place (omega (arith, below, same))), inl (same, refl))
        | inr other ↦ (i, omega (arith, below), rest-at i below other, inr (other, refl))
      ]

  rest-apart : AreApart rest
  rest-apart i j low_i low_j same =
      let below_i : i < last = omega (arith, low_i, rest-length) in
      let below_j : j < last = omega (arith, low_j, rest-length) in
      let a = was_at i below_i in
      let b = was_at j below_j in
      let e : a.0 ≡ b.0 = apart a.0 b.0 a.1 b.1 (sym a.2 ∙ same ∙ b.2) in
      elim a.3 [
        | inl moved ↦ elim b.3 [ inl both ↦ moved.0 ∙ sym both.0 | inr stays ↦ (let x = moved.1 in let y = stays.1 in absurd (omega (arith, e, x, y, below_j))) ]
        | inr stays ↦ elim b.3 [ inl moved ↦ (let x = stays.1 in let y = moved.1 in absurd (omega (arith, e, x, y, below_i))) | inr both ↦ sym stays.1 ∙ e ∙ both.1 ]
      ]

  pub permutation-reverse : IsPermutation (reverse xs) (slot ∷ reverse rest)
  permutation-reverse =
      IsPermutation-trans (reverse xs) xs (slot ∷ reverse rest) (IsPermutation-sym xs (reverse xs) (IsPermutation-reverse xs))
      (IsPermutation-trans xs (slot ∷ rest) (slot ∷ reverse rest)
      (IsPermutation-swap_remove xs place slot low (sym (get_or_default xs place slot 0 low ∙ at)))
      (IsPermutation-cons slot rest (reverse rest) (IsPermutation-reverse rest)))

  taken-rest : (i : ℕ) → i < place → take (i + 1) rest ≡ take (i + 1) xs
  taken-rest i below =
      take-take (i + 1) last (set xs place (get_or xs last slot)) (omega (arith, below, low)) ∙ take-set-le (i + 1) xs place (get_or xs last slot) (omega (arith, below))

  -- the remaining slots stay the same if the slot was passed
  pub rest-from : (p : Option ℕ) → IsPast slot p (reverse xs) → slots_from (reverse rest) p ≡ slots_from (reverse xs) p
  rest-from None past = refl
  rest-from (Some y) past =
      elim (dec_among y xs) [
        | inr absent ↦
            let other : y ≢ slot = λ e. past.0 (ap Some e) in
            from-absent y (reverse rest) (λ h. absent ((others_stay y other).0 ((among-reverse y rest).0 h)))
            ∙ sym (from-absent y (reverse xs) (λ h. absent ((among-reverse y xs).0 h)))
        | inl there ↦
            let found = index_among y xs there in
            let i : ℕ = found.0 in
            let inside : i < length xs = found.1 in
            let whole : slots_from (reverse xs) (Some y) ≡ reverse (take (i + 1) xs) = ap (λ w. slots_from (reverse xs) (Some w)) (sym found.2) ∙ from-index xs apart i inside in
            elim (cases_lt i place) [
              | inl below ↦
                  let inner : i < last = omega (arith, below, low) in
                  let short : i < length rest = omega (arith, inner, rest-length) in
                  let same : get_or rest i 0 ≡ y = rest-at i inner (λ e. absurd (omega (arith, e, below))) ∙ found.2 in
                  ap (λ w. slots_from (reverse rest) (Some w)) (sym same) ∙ from-index rest rest-apart i short ∙ ap reverse (taken-rest i below) ∙ sym whole
              | inr far ↦
                  let here : get_or (take (i + 1) xs) place 0 ≡ slot = get_or-take (i + 1) xs place 0 (omega (arith, far)) ∙ at in
                  let enough : length (take (i + 1) xs) ≡ i + 1 = length-take-le (i + 1) xs (omega (arith, inside)) in
                  let in_rest : IsMember slot (reverse (take (i + 1) xs)) = (among-reverse slot (take (i + 1) xs)).1 (among_here slot (take (i + 1) xs) place (omega (arith, enough, far)) here) in
                  absurd (past.1 (subst (λ ys. IsMember slot ys) (sym whole) in_rest))
            ]
      ]

  pub rest-on : (p : Option ℕ) → IsPast slot p (reverse xs) → IsOn p (reverse xs) → IsOn p (reverse rest)
  rest-on None past on = tt
  rest-on (Some y) past on = (among-reverse y rest).1 ((others_stay y (λ e. past.0 (ap Some e))).1 ((among-reverse y xs).0 on))
