-- Counting the blocks that have a replica counts the known blocks, where only those pass.
use Rattle.std.proofs.Common.{◌≡◌, ◌∙◌, ℕ, ◌+◌, ◌<◌, ◌≤◌, Bool, true, false, cond, not, ◌&&◌, ◌||◌, List, [], ◌∷◌, Option, Some, None, is_some, refl, sym, ap, subst, map, filter, length, arith, T}
use Rattle.std.specs.Prelude.{◌==◌, nat_eq, sum_by, count_by}
use Rattle.std.specs.List.{list_any, dedup, dedup_from}
use Rattle.std.specs.FinMap.{is_sorted}
use Rattle.std.proofs.lemmas.Bool.{eqb-true, false≢true, or_parts, or_from}
use Rattle.std.proofs.lemmas.Bool.Decides.{nat_tests}
use Rattle.std.proofs.lemmas.List.Sums.{sum_by-cons, length-filter}
use Rattle.bm_base.specs.declared.replica.Replica.{Replica}
use Rattle.bm_base.specs.Words.{has, has_repeats, is_stray, replica_cmp}
use Rattle.bm_base.proofs.ListTests.{count_without, has_filter, once_filter}
use Rattle.bm_base.proofs.Sets.{has_once}
use Rattle.cluster_lost.specs.Passes.{Marked, Ascends, replica_of}

-- Lists of the same numbers.

none_passes : (q : ℕ → Bool) (ys : List ℕ) → ((b : ℕ) → q b ≡ true → has ys b ≡ false) → length (filter q ys) ≡ 0
none_passes q [] none = refl
none_passes q (y ∷ ys) none = by (q y) refl (none_passes q ys)
  where
    self : (y == y) ≡ true
    self = grind (arith, nat_tests)

    by : (x : Bool) → q y ≡ x → (((b : ℕ) → q b ≡ true → has ys b ≡ false) → length (filter q ys) ≡ 0) → length (cond x (y ∷ filter q ys) (filter q ys)) ≡ 0
    by true passes rest = absurd (false≢true (sym (none y passes) ∙ ap (λ z. z || has ys y) self))
    by false fails rest = rest (λ b passes. (or_parts (y == b) (has ys b) (none b passes)).1)

pub same_count : (q : ℕ → Bool) (xs ys : List ℕ) → has_repeats xs ≡ false → has_repeats ys ≡ false → ((b : ℕ) → q b ≡ true → has xs b ≡ has ys b) → length (filter q xs) ≡ length (filter q ys)
same_count q [] ys once_x once_y same = sym (none_passes q ys (λ b passes. sym (same b passes)))
same_count q (x ∷ xs) ys once_x once_y same = by (q x) refl (same_count q xs)
  where
    once : (has xs x ≡ false) × (has_repeats xs ≡ false)
    once = or_parts (has xs x) (has_repeats xs) once_x

    SameRest : Type 0
    SameRest = (zs : List ℕ) → has_repeats xs ≡ false → has_repeats zs ≡ false → ((b : ℕ) → q b ≡ true → has xs b ≡ has zs b) → length (filter q xs) ≡ length (filter q zs)

    by : (t : Bool) → q x ≡ t → SameRest → length (cond t (x ∷ filter q xs) (filter q xs)) ≡ length (filter q ys)
    by false fails again = again ys once.1 once_y (λ b passes. apart b passes (x == b) refl)
      where
        apart : (b : ℕ) → q b ≡ true → (t : Bool) → (x == b) ≡ t → has xs b ≡ has ys b
        apart b passes true is = absurd (false≢true (sym fails ∙ ap q (eqb-true x b is) ∙ passes))
        apart b passes false is = ap (λ z. z || has xs b) (sym is) ∙ same b passes
    by true passes again =
        let there : has ys x ≡ true = sym (same x passes) ∙ ap (λ z. z || has xs x) self in
        let rest = again (filter (λ y. not (y == x)) ys) once.1 (once_filter (λ y. not (y == x)) ys once_y) (λ b p. others b p (x == b) refl) in
        let all = count_without q x ys once_y there in
        let one : cond {A = ℕ} (q x) 1 0 ≡ 1 = ap (λ z. cond {A = ℕ} z 1 0) passes in
        omega (arith, rest, all, one)
      where
        self : (x == x) ≡ true
        self = grind (arith, nat_tests)

        others : (b : ℕ) → q b ≡ true → (t : Bool) → (x == b) ≡ t → has xs b ≡ has (filter (λ y. not (y == x)) ys) b
        others b p true is =
            subst (λ c. has xs c ≡ has (filter (λ y. not (y == x)) ys) c) (eqb-true x b is)
            (once.0 ∙ sym (has_filter (λ y. not (y == x)) ys x ∙ ap (λ z. not z && has ys x) self))
        others b p false is =
            let turned : (b == x) ≡ false = grind (arith, nat_tests, is) in
            ap (λ z. z || has xs b) (sym is) ∙ same b p ∙ sym (has_filter (λ y. not (y == x)) ys b ∙ ap (λ z. not z && has ys b) turned)

-- Numbers in order, of equal neighbours only one.

abbrev pub Up : ℕ → List ℕ → Type 0
Up t [] = Unit {0}
Up t (x ∷ xs) = (t ≤ x) × Up x xs

none_below : (xs : List ℕ) (t k : ℕ) → Up t xs → k < t → has (dedup_from nat_eq t xs) k ≡ false
none_below [] t k up less = let apart : (t == k) ≡ false = grind (arith, nat_tests, less) in ap (λ z. z || false) apart
none_below (x ∷ xs) t k up less = by (nat_eq x t) refl (none_below xs)
  where
    apart : (t == k) ≡ false
    apart = grind (arith, nat_tests, less)

    by : (z : Bool) → nat_eq x t ≡ z → ((t k : ℕ) → Up t xs → k < t → has (dedup_from nat_eq t xs) k ≡ false) → has (cond z (dedup_from nat_eq t xs) (t ∷ dedup_from nat_eq x xs)) k ≡ false
    by true same rest = rest t k (subst (λ y. Up y xs) (eqb-true x t same) up.1) less
    by false other rest = ap (λ z. z || has (dedup_from nat_eq x xs) k) apart ∙ rest x k up.1 (omega (arith, less, up.0))

once_from : (xs : List ℕ) (t : ℕ) → Up t xs → has_repeats (dedup_from nat_eq t xs) ≡ false
once_from [] t up = refl
once_from (x ∷ xs) t up = by (nat_eq x t) refl (once_from xs)
  where
    by : (z : Bool) → nat_eq x t ≡ z → ((t : ℕ) → Up t xs → has_repeats (dedup_from nat_eq t xs) ≡ false) → has_repeats (cond z (dedup_from nat_eq t xs) (t ∷ dedup_from nat_eq x xs)) ≡ false
    by true same rest = rest t (subst (λ y. Up y xs) (eqb-true x t same) up.1)
    by false other rest =
        let above = up.0 in
        let less : t < x = grind (arith, nat_tests, other, above) in
        ap (λ z. z || has_repeats (dedup_from nat_eq x xs)) (none_below xs x t up.1 less) ∙ rest x up.1

pub once_dedup : (xs : List ℕ) (t : ℕ) → Up t xs → has_repeats (dedup nat_eq xs) ≡ false
once_dedup [] t up = refl
once_dedup (x ∷ xs) t up = once_from xs x up.1

-- The blocks of replicas that are not stray.

abbrev pub blocks_of : List Replica → List ℕ
blocks_of rs = map (λ r. r.block) (filter (λ r. not (is_stray r.tag)) rs)

lower : (xs : List ℕ) (t u : ℕ) → t ≤ u → Up u xs → Up t xs
lower [] t u le up = tt
lower (x ∷ xs) t u le up = (omega (arith, le, up.0), up.1)

pub blocks_up : (es : List Marked) (t : ℕ) → Ascends t es → Up t (blocks_of (map replica_of es))
blocks_up [] t up = tt
blocks_up (e ∷ es) t up = (elim (is_stray e.1.tag) as (λ z. Up t (map (λ (r : Replica). r.block) (cond (not z) (replica_of e ∷ filter (λ (r : Replica). not (is_stray r.tag)) (map replica_of es)) (filter (λ (r : Replica). not (is_stray r.tag)) (map replica_of es))))) [
  | true ↦ lower (blocks_of (map replica_of es)) t e.0.block up.0 (blocks_up es e.0.block up.1)
  | false ↦ (up.0, blocks_up es e.0.block up.1)
])

pub has_block : (es : List Marked) (b : ℕ) → has (dedup nat_eq (blocks_of (map replica_of es))) b ≡ list_any (λ e. (e.0.block == b) && not (is_stray e.1.tag)) es
has_block es b = has_once (blocks_of (map replica_of es)) b ∙ by es
  where
    by : (es : List Marked) → has (blocks_of (map replica_of es)) b ≡ list_any (λ e. (e.0.block == b) && not (is_stray e.1.tag)) es
    by [] = refl
    by (e ∷ es) = (elim (is_stray e.1.tag) as (λ z. has (map (λ (r : Replica). r.block) (cond (not z) (replica_of e ∷ filter (λ (r : Replica). not (is_stray r.tag)) (map replica_of es)) (filter (λ (r : Replica). not (is_stray r.tag)) (map replica_of es)))) b ≡ (((e.0.block == b) && not z) || list_any (λ e. (e.0.block == b) && not (is_stray e.1.tag)) es)) [
      | true ↦ by es ∙ ap (λ y. y || list_any (λ e. (e.0.block == b) && not (is_stray e.1.tag)) es) (sym (and_false (e.0.block == b)))
      | false ↦ ap (λ y. (e.0.block == b) || y) (by es) ∙ ap (λ y. y || list_any (λ e. (e.0.block == b) && not (is_stray e.1.tag)) es) (sym (and_true (e.0.block == b)))
    ])
      where
        and_false : (y : Bool) → (y && false) ≡ false
        and_false true = refl
        and_false false = refl

        and_true : (y : Bool) → (y && true) ≡ y
        and_true true = refl
        and_true false = refl
