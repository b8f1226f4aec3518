-- Replacing a target by no better one of its node keeps the list in order, and all other targets.
use Rattle.std.specs.Prelude.{◌⊎◌, slice_get}
use Rattle.std.specs.List.{count_by}
use Rattle.std.specs.List.Sorted.{IsPermutation, IsSorted}
use Rattle.std.specs.Ordering.{is_lt}
use Rattle.std.proofs.Common.{◌≡◌, ◌<◌, ◌≤◌, ◌+◌, ℕ, zero, suc, Bool, true, false, cond, List, [], ◌∷◌, length, drop, set, get_or, Some, refl, inl, inr, sym, ap, subst, ◌∙◌, arith, true≢false}
use Rattle.std.proofs.lemmas.List.Sorted.{sorted_far, sum_by-IsPermutation}
use Rattle.std.proofs.lemmas.List.Sums.{sum_by-cons}
use Rattle.std.proofs.lemmas.Option.{same_Some}
use Rattle.bm_place.specs.declared.scheduled_bytes.TargetRow.{TargetRow}
use Rattle.bm_place.specs.BestTargets.{IsMember, are_of_one_node, cmp_of_one_node, is_better_than, with_in_order, reposition, IsBehind, IsInOrder}
use Rattle.bm_place.proofs.SameNodeTargets.{like, alike, like_back, like_itself, like_then, ranks}

-- no two of these are of one node
abbrev pub AreApart : List TargetRow → Type 0
AreApart [] = Unit {0}
AreApart (t ∷ ts) = ((d : TargetRow) → IsMember ts d → are_of_one_node t d ≡ false) × AreApart ts

pub not_alike_back : (s t : TargetRow) → are_of_one_node s t ≡ false → are_of_one_node t s ≡ false
not_alike_back s t e = by (are_of_one_node t s) refl
  where
    by : (b : Bool) → are_of_one_node t s ≡ b → are_of_one_node t s ≡ false
    by false f = f
    by true f = absurd (true≢false (sym (alike s t (like_back t s (like t s f))) ∙ e))

-- if s and t are of one node, and u is of another than s, u is of another than t
not_alike_too : (s t u : TargetRow) → are_of_one_node s t ≡ true → are_of_one_node s u ≡ false → are_of_one_node t u ≡ false
not_alike_too s t u same e = by (are_of_one_node t u) refl
  where
    by : (b : Bool) → are_of_one_node t u ≡ b → are_of_one_node t u ≡ false
    by false f = f
    by true f = absurd (true≢false (sym (alike s u (like_then s t u (like s t same) (like t u f))) ∙ e))

-- A target inserted after those that are better.

pub among_entered : (cs : List TargetRow) (t x : TargetRow) → IsMember (with_in_order cs t) x → (t ≡ x) ⊎ IsMember cs x
among_entered [] t x h = h
among_entered (c ∷ cs) t x h = by (is_better_than c t) h (among_entered cs t x)
  where
    by : (b : Bool) → IsMember (cond b (c ∷ with_in_order cs t) (t ∷ c ∷ cs)) x → (IsMember (with_in_order cs t) x → (t ≡ x) ⊎ IsMember cs x) → (t ≡ x) ⊎ ((c ≡ x) ⊎ IsMember cs x)
    by true (inl e) rest = inr (inl e)
    by true (inr h) rest = elim (rest h) [ inl e ↦ inl e | inr there ↦ inr (inr there) ]
    by false h rest = h

pub entered_among : (cs : List TargetRow) (t x : TargetRow) → (t ≡ x) ⊎ IsMember cs x → IsMember (with_in_order cs t) x
entered_among [] t x h = h
entered_among (c ∷ cs) t x h = by (is_better_than c t) h (entered_among cs t x)
  where
    by : (b : Bool) → (t ≡ x) ⊎ ((c ≡ x) ⊎ IsMember cs x) → ((t ≡ x) ⊎ IsMember cs x → IsMember (with_in_order cs t) x) → IsMember (cond b (c ∷ with_in_order cs t) (t ∷ c ∷ cs)) x
    by true (inl e) rest = inr (rest (inl e))
    by true (inr (inl e)) rest = inl e
    by true (inr (inr there)) rest = inr (rest (inr there))
    by false h rest = h

entered_in_order : (cs : List TargetRow) (t : TargetRow) → IsInOrder cs → ((c : TargetRow) → IsMember cs c → are_of_one_node t c ≡ false) → IsInOrder (with_in_order cs t)
entered_in_order [] t h apart = (λ d none. absurd none, tt)
entered_in_order (c ∷ cs) t h apart = by (is_better_than c t) refl (entered_in_order cs t h.1 (λ d there. apart d (inr there)))
  where
    behind : is_better_than c t ≡ true → (d : TargetRow) → IsMember (with_in_order cs t) d → IsBehind d c
    behind e d there =
        elim (among_entered cs t d there) [
          | inl same ↦ subst (λ d. IsBehind d c) same (record { order = ranks.one_way c t e; other = not_alike_back t c (apart c (inl refl)) })
          | inr old ↦ h.0 d old
        ]

    in_front : is_better_than c t ≡ false → (d : TargetRow) → IsMember (c ∷ cs) d → IsBehind d t
    in_front e d (inl same) = subst (λ d. IsBehind d t) same (record { order = e; other = apart c (inl refl) })
    in_front e d (inr there) = record { order = ranks.chain d c t (h.0 d there).order e; other = apart d (inr there) }

    by : (b : Bool) → is_better_than c t ≡ b → IsInOrder (with_in_order cs t) → IsInOrder (cond b (c ∷ with_in_order cs t) (t ∷ c ∷ cs))
    by true e rest = (λ d there. behind e d there, rest)
    by false e rest = (λ d there. in_front e d there, h)

-- Sorted targets.

abbrev one_if : Bool → ℕ
one_if b = cond b 1 0

count_first : (c t : TargetRow) (ts : List TargetRow) → count_by (are_of_one_node c) (t ∷ ts) ≡ one_if (are_of_one_node c t) + count_by (are_of_one_node c) ts
count_first c t ts = sum_by-cons (λ t. one_if (are_of_one_node c t)) t ts

none_alike : (ts : List TargetRow) (c : TargetRow) → ((d : TargetRow) → IsMember ts d → are_of_one_node c d ≡ false) → count_by (are_of_one_node c) ts ≡ 0
none_alike [] c none = refl
none_alike (t ∷ ts) c none = omega (arith, count_first c t ts, ap one_if (none t (inl refl)), none_alike ts c (λ d there. none d (inr there)))

one_alike : (ts : List TargetRow) (c d : TargetRow) → IsMember ts d → are_of_one_node c d ≡ true → 1 ≤ count_by (are_of_one_node c) ts
one_alike [] c d none same = absurd none
one_alike (t ∷ ts) c d (inl e) same = omega (arith, count_first c t ts, ap one_if (ap (are_of_one_node c) e ∙ same))
one_alike (t ∷ ts) c d (inr there) same = omega (arith, count_first c t ts, one_alike ts c d there same)

-- at most one of targets of different nodes is of a given node
once_alike : (ts : List TargetRow) (c : TargetRow) → AreApart ts → count_by (are_of_one_node c) ts ≤ 1
once_alike [] c apart = omega arith
once_alike (t ∷ ts) c apart = by (are_of_one_node c t) refl (once_alike ts c apart.1)
  where
    by : (b : Bool) → are_of_one_node c t ≡ b → count_by (are_of_one_node c) ts ≤ 1 → count_by (are_of_one_node c) (t ∷ ts) ≤ 1
    by false e rest = omega (arith, count_first c t ts, rest, ap one_if e)
    by true e rest =
        let others = none_alike ts c (λ d there. not_alike_too t c d (alike t c (like_back c t (like c t e))) (apart.0 d there)) in
        omega (arith, count_first c t ts, others, ap one_if e)

-- no target is better than an earlier one
abbrev AreRanked : List TargetRow → Type 0
AreRanked cs = (i j : ℕ) (d : TargetRow) → i ≤ j → j < length cs → is_better_than (get_or cs j d) (get_or cs i d) ≡ false

ranked_behind : (c : TargetRow) (cs : List TargetRow) → AreRanked (c ∷ cs) → (d : TargetRow) → IsMember cs d → is_better_than d c ≡ false
ranked_behind c cs ranked d there =
    let i = index_of cs d there in
    subst (λ d. is_better_than d c ≡ false) (i.2 d) (ranked 0 (suc i.0) d (omega arith) (omega (arith, i.1)))
  where
    index_of : (cs : List TargetRow) (d : TargetRow) → IsMember cs d → (i : ℕ) × (i < length cs) × ((e : TargetRow) → get_or cs i e ≡ d)
    index_of [] d none = absurd none
    index_of (c ∷ cs) d (inl e) = (0, omega arith, λ x. e)
    index_of (c ∷ cs) d (inr there) = let i = index_of cs d there in (suc i.0, omega (arith, i.1), i.2)

ranked_in_order : (cs : List TargetRow) → AreRanked cs → ((c : TargetRow) → count_by (are_of_one_node c) cs ≤ 1) → IsInOrder cs
ranked_in_order [] ranked once = tt
ranked_in_order (c ∷ cs) ranked once = (
  λ d there. record { order = ranked_behind c cs ranked d there; other = other d there (are_of_one_node c d) refl },
  ranked_in_order cs (λ i j d le within. ranked (suc i) (suc j) d (omega (arith, le)) (omega (arith, within))) (λ d. omega (arith, count_first d c cs, once d)),
)
  where
    other : (d : TargetRow) → IsMember cs d → (b : Bool) → are_of_one_node c d ≡ b → are_of_one_node c d ≡ false
    other d there false e = e
    other d there true e = absurd (omega (arith, once c, count_first c c cs, one_alike cs c d there e, ap one_if (alike c c (like_itself c))))

pub sorted_in_order : (ts cs : List TargetRow) → AreApart ts → IsPermutation ts cs → IsSorted cmp_of_one_node cs → IsInOrder cs
sorted_in_order ts cs apart same up =
    ranked_in_order cs (sorted_far (λ s t. is_lt (cmp_of_one_node s t)) ranks cs up) (λ c. omega (arith, once_alike ts c apart, sum_by-IsPermutation (λ t. cond (are_of_one_node c t) 1 0) ts cs same))

-- A target that replaces another one.

-- all targets but the one at an index
abbrev pub without : ℕ → List TargetRow → List TargetRow
without i [] = []
without zero (c ∷ cs) = cs
without (suc i) (c ∷ cs) = c ∷ without i cs

pub among_put : (i : ℕ) (cs : List TargetRow) (t x : TargetRow) → IsMember (reposition t i cs) x → (t ≡ x) ⊎ IsMember (without i cs) x
among_put i [] t x none = absurd none
among_put zero (c ∷ cs) t x h = among_entered cs t x h
among_put (suc i) (c ∷ cs) t x (inl e) = inr (inl e)
among_put (suc i) (c ∷ cs) t x (inr h) = elim (among_put i cs t x h) [ inl e ↦ inl e | inr there ↦ inr (inr there) ]

pub put_among : (i : ℕ) (cs : List TargetRow) (t x : TargetRow) → i < length cs → (t ≡ x) ⊎ IsMember (without i cs) x → IsMember (reposition t i cs) x
put_among i [] t x within h = absurd (omega arith)
put_among zero (c ∷ cs) t x within h = entered_among cs t x h
put_among (suc i) (c ∷ cs) t x within (inl e) = inr (put_among i cs t x (omega arith) (inl e))
put_among (suc i) (c ∷ cs) t x within (inr (inl e)) = inl e
put_among (suc i) (c ∷ cs) t x within (inr (inr there)) = inr (put_among i cs t x (omega arith) (inr there))

pub of_without : (i : ℕ) (cs : List TargetRow) (x : TargetRow) → IsMember (without i cs) x → IsMember cs x
of_without i [] x none = absurd none
of_without zero (c ∷ cs) x h = inr h
of_without (suc i) (c ∷ cs) x (inl e) = inl e
of_without (suc i) (c ∷ cs) x (inr h) = inr (of_without i cs x h)

pub here_or_without : (i : ℕ) (cs : List TargetRow) (c x : TargetRow) → slice_get cs i ≡ Some c → IsMember cs x → (c ≡ x) ⊎ IsMember (without i cs) x
here_or_without i [] c x at none = absurd none
here_or_without zero (d ∷ cs) c x at (inl e) = inl (sym (same_Some d c at) ∙ e)
here_or_without zero (d ∷ cs) c x at (inr h) = inr h
here_or_without (suc i) (d ∷ cs) c x at (inl e) = inr (inl e)
here_or_without (suc i) (d ∷ cs) c x at (inr h) = elim (here_or_without i cs c x at h) [ inl e ↦ inl e | inr there ↦ inr (inr there) ]

pub among_at : (i : ℕ) (cs : List TargetRow) (c : TargetRow) → slice_get cs i ≡ Some c → IsMember cs c
among_at i [] c at = cc
among_at zero (d ∷ cs) c at = inl (same_Some d c at)
among_at (suc i) (d ∷ cs) c at = inr (among_at i cs c at)

-- the others are not of the node of the one at the index
pub apart_without : (i : ℕ) (cs : List TargetRow) (c x : TargetRow) → IsInOrder cs → slice_get cs i ≡ Some c → IsMember (without i cs) x → are_of_one_node c x ≡ false
apart_without i [] c x h at none = absurd none
apart_without zero (d ∷ cs) c x h at there = subst (λ d. are_of_one_node d x ≡ false) (same_Some d c at) (h.0 x there).other
apart_without (suc i) (d ∷ cs) c x h at (inl e) = subst (λ x. are_of_one_node c x ≡ false) e (not_alike_back d c (h.0 c (among_at i cs c at)).other)
apart_without (suc i) (d ∷ cs) c x h at (inr there) = apart_without i cs c x h.1 at there

-- one of the same node as the one at the index is that one
pub only_alike : (i : ℕ) (cs : List TargetRow) (c x : TargetRow) → IsInOrder cs → slice_get cs i ≡ Some c → IsMember cs x → are_of_one_node c x ≡ true → c ≡ x
only_alike i cs c x h at there same =
    elim (here_or_without i cs c x at there) [
      | inl e ↦ e
      | inr other ↦ absurd (true≢false (sym same ∙ apart_without i cs c x h at other))
    ]

-- the list stays in order if a target is replaced by one of its node that is not better
pub put_in_order : (i : ℕ) (cs : List TargetRow) (c t : TargetRow) → IsInOrder cs → slice_get cs i ≡ Some c → are_of_one_node c t ≡ true → is_better_than t c ≡ false → IsInOrder (reposition t i cs)
put_in_order i [] c t h at same less = tt
put_in_order zero (d ∷ cs) c t h at same less = entered_in_order cs t h.1 (λ x there. not_alike_too c t x same (apart_without zero (d ∷ cs) c x h at there))
put_in_order (suc i) (d ∷ cs) c t h at same less = (λ x there. behind x there, put_in_order i cs c t h.1 at same less)
  where
    behind : (x : TargetRow) → IsMember (reposition t i cs) x → IsBehind x d
    behind x there =
        elim (among_put i cs t x there) [
          | inl e ↦
              let old = h.0 c (among_at i cs c at) in
              subst (λ x. IsBehind x d) e (record { order = ranks.chain t c d less old.order; other = not_alike_back t d (not_alike_too c t d same (not_alike_back d c old.other)) })
          | inr old ↦ h.0 x (of_without i cs x old)
        ]

-- The targets that are better than the new one move up one by one.

put_moved : (i : ℕ) (cs : List TargetRow) (t d : TargetRow) → slice_get cs (suc i) ≡ Some d → is_better_than d t ≡ true → reposition t (suc i) (set cs i d) ≡ reposition t i cs
put_moved i [] t d at before = cc
put_moved zero (b ∷ []) t d at before = cc
put_moved zero (b ∷ c ∷ cs) t d at before = by c (same_Some c d at)
  where
    by : (c : TargetRow) → c ≡ d → reposition t 1 (set (b ∷ c ∷ cs) 0 d) ≡ reposition t 0 (b ∷ c ∷ cs)
    by c e = ap (λ c. c ∷ with_in_order cs t) (sym e) ∙ sym (ap (λ b. cond b (c ∷ with_in_order cs t) (t ∷ c ∷ cs)) (ap (λ c. is_better_than c t) e ∙ before))
put_moved (suc i) (c ∷ cs) t d at before = ap (λ xs. c ∷ xs) (put_moved i cs t d at before)

pub put_next : (i : ℕ) (cs : List TargetRow) (t d : TargetRow) → slice_get cs (i + 1) ≡ Some d → is_better_than d t ≡ true → reposition t (i + 1) (set cs i d) ≡ reposition t i cs
put_next i cs t d at before =
    let one : suc i ≡ i + 1 = omega arith in
    subst (λ j. reposition t j (set cs i d) ≡ reposition t i cs) one (put_moved i cs t d (ap (slice_get cs) one ∙ at) before)

-- at the last index the target stays there
pub put_last : (i : ℕ) (cs : List TargetRow) (t : TargetRow) → i < length cs → length cs ≤ i + 1 → reposition t i cs ≡ set cs i t
put_last i [] t within last = refl
put_last zero (c ∷ []) t within last = refl
put_last zero (c ∷ d ∷ cs) t within last = absurd (omega arith)
put_last (suc i) (c ∷ cs) t within last = ap (λ xs. c ∷ xs) (put_last i cs t (omega arith) (omega arith))

put_above : (i : ℕ) (cs : List TargetRow) (t d : TargetRow) → slice_get cs (suc i) ≡ Some d → is_better_than d t ≡ false → reposition t i cs ≡ set cs i t
put_above i [] t d at not_before = refl
put_above zero (b ∷ []) t d at not_before = refl
put_above zero (b ∷ c ∷ cs) t d at not_before = ap (λ b. cond b (c ∷ with_in_order cs t) (t ∷ c ∷ cs)) (ap (λ c. is_better_than c t) (same_Some c d at) ∙ not_before)
put_above (suc i) (c ∷ cs) t d at not_before = ap (λ xs. c ∷ xs) (put_above i cs t d at not_before)

-- the target stays at an index if the next one is not better
pub put_here : (i : ℕ) (cs : List TargetRow) (t d : TargetRow) → slice_get cs (i + 1) ≡ Some d → is_better_than d t ≡ false → reposition t i cs ≡ set cs i t
put_here i cs t d at not_before = let one : suc i ≡ i + 1 = omega arith in put_above i cs t d (ap (slice_get cs) one ∙ at) not_before

-- no target after an index is better than the one at the index
pub behind_at : (i : ℕ) (cs : List TargetRow) (c d : TargetRow) → IsInOrder cs → slice_get cs i ≡ Some c → IsMember (drop (suc i) cs) d → is_better_than d c ≡ false
behind_at i [] c d h at there = cc
behind_at zero (b ∷ cs) c d h at there = subst (λ b. is_better_than d b ≡ false) (same_Some b c at) (h.0 d there).order
behind_at (suc i) (b ∷ cs) c d h at there = behind_at i cs c d h.1 at there

-- The invariant while others move up: the remaining steps on the current list give the result of
-- all steps on the original list.
pub record IsMovedTo (t : TargetRow) (place : ℕ) (before : List TargetRow) (i : ℕ) (now : List TargetRow) : Type 0 where
  pub within : i < length now
  pub same : reposition t i now ≡ reposition t place before
