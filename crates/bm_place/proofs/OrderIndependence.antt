-- The excess does not depend on the order of the candidates.
use Rattle.std.specs.Option.{option_map_or}
use Rattle.std.proofs.Common.{◌≡◌, ◌≤◌, ◌+◌, ◌==◌, ℕ, zero, suc, Bool, true, false, cond, not, ◌&&◌, ◌||◌, nat_lt, List, [], ◌∷◌, filter, length, count_by, Option, Some, None, refl, sym, ap, subst, ◌∙◌, arith, true≢false}
use Rattle.std.specs.declared.cmp.Ordering.{Ordering}
use Rattle.std.specs.declared.cmp.Ordering.TheVariants.{Less, Equal, Greater}
use Rattle.std.specs.Ordering.{is_lt, nat_cmp, ordering_then, ordering_reverse}
use Rattle.std.specs.Cmp.{IsTotalOrder, nat_cmp_total}
use Rattle.std.proofs.lemmas.Bool.{eqb-true, eq-eqb, or_parts}
use Rattle.std.proofs.lemmas.List.Sums.{length-filter}
use Rattle.bm_base.specs.Words.{Cluster, has, has_repeats, least, remaining, share_rack, has_rack_mate, excess_cmp, excess_among}
use Rattle.bm_base.proofs.ListTests.{filter_filter}
use Rattle.bm_base.proofs.Slices.{all_pass}
use Rattle.bm_place.specs.Least.{IsLeastOf}
use Rattle.bm_place.proofs.BestElement.{least-bears}
use Rattle.bm_place.proofs.Surplus.{excess_cmp_total}
use Rattle.bm_topo.proofs.RackCount.{has_counted}
use Rattle.bm_topo.proofs.RackChanges.{count_cons}

-- The least number is determined by its properties, if only equal numbers tie.

module _ (R : ℕ → ℕ → Ordering) (total : IsTotalOrder R) (apart : (x y : ℕ) → is_lt (R x y) ≡ false → is_lt (R y x) ≡ false → x ≡ y) where
  bears : (xs : List ℕ) → IsLeastOf R (λ _. true) xs (least R xs)
  bears xs = subst (λ ys. IsLeastOf R (λ _. true) xs (least R ys)) (all_pass xs) (least-bears R total (λ _. true) xs)

  pub least_is : (xs : List ℕ) (x : ℕ) → has xs x ≡ true → ((y : ℕ) → has xs y ≡ true → is_lt (R y x) ≡ false) → least R xs ≡ Some x
  least_is xs x there first = by (least R xs) (bears xs)
    where
      by : (m : Option ℕ) → IsLeastOf R (λ _. true) xs m → m ≡ Some x
      by None h = absurd (true≢false (h x there))
      by (Some b) h = ap Some (apart b x (first b h.1) (h.2 x there refl))

  least_none : (xs : List ℕ) → ((x : ℕ) → has xs x ≡ false) → least R xs ≡ None
  least_none xs none = by (least R xs) (bears xs)
    where
      by : (m : Option ℕ) → IsLeastOf R (λ _. true) xs m → m ≡ None
      by None h = refl
      by (Some b) h = absurd (true≢false (sym h.1 ∙ none b))

  -- lists of the same numbers have the same least
  pub same_least : (xs ys : List ℕ) → ((x : ℕ) → has xs x ≡ has ys x) → least R xs ≡ least R ys
  same_least xs ys same = by (least R ys) (bears ys)
    where
      none : (x : ℕ) (b : Bool) → has ys x ≡ b → (has ys x ≡ true → true ≡ false) → has ys x ≡ false
      none x true e h = absurd (true≢false (h e))
      none x false e h = e

      by : (m : Option ℕ) → IsLeastOf R (λ _. true) ys m → least R xs ≡ m
      by None h = least_none xs (λ x. same x ∙ none x (has ys x) refl (h x))
      by (Some b) h = least_is xs b (same b ∙ h.1) (λ y there. h.2 y (sym (same y) ∙ there) refl)

tie_first : (o a b : Ordering) → is_lt (ordering_then (ordering_reverse o) a) ≡ false → is_lt (ordering_then o b) ≡ false → (is_lt a ≡ false) × (is_lt b ≡ false)
tie_first Less a b e f = cc
tie_first Equal a b e f = (e, f)
tie_first Greater a b e f = cc

-- if neither of two pairs comes before the other, neither second part does
first_ties : (p q : ℕ) (a b : Ordering) → is_lt (ordering_then (nat_cmp p q) a) ≡ false → is_lt (ordering_then (nat_cmp q p) b) ≡ false → (is_lt a ≡ false) × (is_lt b ≡ false)
first_ties p q a b e f = tie_first (nat_cmp q p) a b (subst (λ o. is_lt (ordering_then o a) ≡ false) (nat_cmp_total.antisymm p q) e) f

equal_numbers : (r s : ℕ) → is_lt (nat_cmp s r) ≡ false → is_lt (nat_cmp r s) ≡ false → r ≡ s
equal_numbers r s e f = grind (arith, e, f)

pub alone_apart : (p q r s : ℕ) → is_lt (ordering_then (nat_cmp p q) (nat_cmp s r)) ≡ false → is_lt (ordering_then (nat_cmp q p) (nat_cmp r s)) ≡ false → r ≡ s
alone_apart p q r s e f = let last = first_ties p q (nat_cmp s r) (nat_cmp r s) e f in equal_numbers r s last.0 last.1

-- of two different storages one is in excess before the other
pub excess_apart : (C : Cluster) (left : List ℕ) (s t : ℕ) → is_lt (excess_cmp C left s t) ≡ false → is_lt (excess_cmp C left t s) ≡ false → s ≡ t
unfolding excess_cmp
excess_apart C left s t e f =
    let rest =
    first_ties (cond (has_rack_mate C left s) 0 1) (cond (has_rack_mate C left t) 0 1)
    (ordering_then (nat_cmp (remaining C s) (remaining C t)) (nat_cmp t s)) (ordering_then (nat_cmp (remaining C t) (remaining C s)) (nat_cmp s t)) e f in
    alone_apart (remaining C s) (remaining C t) s t rest.0 rest.1

-- Lists in which each number occurs equally often.

abbrev pub HaveAlike : List ℕ → List ℕ → Type 0
HaveAlike xs ys = (p : ℕ → Bool) → count_by p xs ≡ count_by p ys

counted_filter : (p q : ℕ → Bool) (xs : List ℕ) → count_by p (filter q xs) ≡ count_by (λ x. q x && p x) xs
counted_filter p q xs = sym (length-filter p (filter q xs)) ∙ ap length (filter_filter p q xs) ∙ length-filter (λ x. q x && p x) xs

alike_filter : (q : ℕ → Bool) (xs ys : List ℕ) → HaveAlike xs ys → HaveAlike (filter q xs) (filter q ys)
alike_filter q xs ys alike p = counted_filter p q xs ∙ alike (λ x. q x && p x) ∙ sym (counted_filter p q ys)

alike_has : (xs ys : List ℕ) → HaveAlike xs ys → (x : ℕ) → has xs x ≡ has ys x
alike_has xs ys alike x = has_counted xs x ∙ ap (nat_lt 0) (alike (λ y. y == x)) ∙ sym (has_counted ys x)

none_counted : (xs : List ℕ) (x : ℕ) → has xs x ≡ false → count_by (λ y. y == x) xs ≡ 0
none_counted xs x none = by (count_by (λ y. y == x) xs) (sym (has_counted xs x) ∙ none)
  where
    by : (n : ℕ) → nat_lt 0 n ≡ false → n ≡ 0
    by n e = grind arith

once_counted : (xs : List ℕ) → has_repeats xs ≡ false → (x : ℕ) → count_by (λ y. y == x) xs ≤ 1
once_counted [] once x = omega arith
once_counted (y ∷ ys) once x =
    let two = or_parts (has ys y) (has_repeats ys) once in
    by (y == x) refl (count_cons (λ z. z == x) y ys) two.0 (once_counted ys two.1 x)
  where
    by : (b : Bool) → (y == x) ≡ b → count_by (λ z. z == x) (y ∷ ys) ≡ cond b 1 0 + count_by (λ z. z == x) ys → has ys y ≡ false → count_by (λ z. z == x) ys ≤ 1 → count_by (λ z. z == x) (y ∷ ys) ≤ 1
    by true e one none rest = let zero = none_counted ys x (ap (has ys) (sym (eqb-true y x e)) ∙ none) in omega (arith, one, zero)
    by false e one none rest = omega (arith, one, rest)

counted_once : (xs : List ℕ) → ((x : ℕ) → count_by (λ y. y == x) xs ≤ 1) → has_repeats xs ≡ false
counted_once [] most = refl
counted_once (y ∷ ys) most =
    by (has ys y) (has_counted ys y) (count_cons (λ z. z == y) y ys ∙ ap (λ b. cond b 1 0 + count_by (λ z. z == y) ys) (eq-eqb y y refl)) (most y)
    (counted_once ys (λ x. let one = count_cons (λ z. z == x) y ys in let all = most x in omega (arith, one, all)))
  where
    some : (n : ℕ) → true ≡ nat_lt 0 n → 1 ≤ n
    some n e = grind arith

    by : (b : Bool) → b ≡ nat_lt 0 (count_by (λ z. z == y) ys) → count_by (λ z. z == y) (y ∷ ys) ≡ 1 + count_by (λ z. z == y) ys → count_by (λ z. z == y) (y ∷ ys) ≤ 1 → has_repeats ys ≡ false → (b || has_repeats ys) ≡ false
    by false e one all rest = rest
    by true e one all rest = let n = some (count_by (λ z. z == y) ys) e in absurd (omega (arith, one, all, n))

-- if each number occurs once in one list, so it does in the other
pub once_alike : (xs ys : List ℕ) → HaveAlike xs ys → has_repeats ys ≡ false → has_repeats xs ≡ false
once_alike xs ys alike once = counted_once xs (λ x. subst (λ n. n ≤ 1) (sym (alike (λ y. y == x))) (once_counted ys once x))

alike_cmp : (C : Cluster) (xs ys : List ℕ) → HaveAlike xs ys → excess_cmp C xs ≡ excess_cmp C ys
unfolding excess_cmp has_rack_mate
alike_cmp C xs ys alike =
    λ i s t.
    ordering_then (nat_cmp (cond (nat_lt 1 (alike (share_rack C s) i)) 0 1) (cond (nat_lt 1 (alike (share_rack C t) i)) 0 1))
    (ordering_then (nat_cmp (remaining C s) (remaining C t)) (nat_cmp t s))

-- both lists have the same excess
pub excess_alike : (C : Cluster) (k : ℕ) (xs ys : List ℕ) → HaveAlike xs ys → excess_among C k xs ≡ excess_among C k ys
excess_alike C zero xs ys alike = refl
excess_alike C (suc k) xs ys alike =
    ap (λ m. option_map_or (λ x. x ∷ excess_among C k (filter (λ s. not (s == x)) xs)) m []) same
    ∙ by (least (excess_cmp C ys) ys) (λ x. excess_alike C k _ _ (alike_filter (λ s. not (s == x)) xs ys alike))
  where
    same : least (excess_cmp C xs) xs ≡ least (excess_cmp C ys) ys
    same = same_least (excess_cmp C xs) (excess_cmp_total C xs) (excess_apart C xs) xs ys (alike_has xs ys alike) ∙ ap (λ R. least R ys) (alike_cmp C xs ys alike)

    by : (m : Option ℕ) → ((x : ℕ) → excess_among C k (filter (λ s. not (s == x)) xs) ≡ excess_among C k (filter (λ s. not (s == x)) ys))
        → option_map_or (λ x. x ∷ excess_among C k (filter (λ s. not (s == x)) xs)) m [] ≡ option_map_or (λ x. x ∷ excess_among C k (filter (λ s. not (s == x)) ys)) m []
    by None rest = refl
    by (Some x) rest = ap (λ ss. x ∷ ss) (rest x)
