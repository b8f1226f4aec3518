-- A list reversed, stably sorted and deduplicated has the last element of each key, in key order.
use Rattle.std.proofs.Common.{◌≡◌, ℕ, Bool, true, false, cond, not, ◌&&◌, List, [], ◌∷◌, ◌++◌, map, filter, reverse, Option, Some, None, Ordering, Less, Equal, Greater, refl, sym, ap, subst, ◌∙◌, T}
use Rattle.std.specs.Prelude.{◌==◌}
use Rattle.std.specs.Ordering.{is_lt, is_eq, eq_by_cmp, nat_cmp, ordering_reverse}
use Rattle.std.specs.FinMap.{find, is_sorted}
use Rattle.std.specs.FinMap.Entries.{below_all}
use Rattle.std.specs.List.{dedup, dedup_from, AllByRecursion}
use Rattle.std.specs.List.Sorted.{IsSortedByKey, IsStableByKey, IsStrictlySortedBy, ties}
use Rattle.std.specs.Option.{option_or}
use Rattle.std.proofs.lemmas.Cmp.{on_total}
use Rattle.std.proofs.lemmas.List.Kept.{IsStrictlySortedBy-dedup}
use Rattle.std.proofs.lemmas.List.{reverse-append}
use Rattle.bm_base.specs.Maps.Conjunction.{both}
use Rattle.bm_base.specs.Maps.Map.{Map, Order, entries, empty, get, insert, insert_all}
use Rattle.bm_base.specs.Maps.OfSorted.{of_sorted}
use Rattle.bm_base.specs.Ordered.{pair_cmp, ordered_by}
use Rattle.bm_base.proofs.MapEntries.{same_key}
use Rattle.bm_base.proofs.MapLaws.{same_map, get-insert, get-empty}
use Rattle.bm_base.proofs.Ties.{number_tie, then_tie}
use Rattle.bm_base.proofs.OfSorted.{entries-of_sorted, get-of_sorted}
use Rattle.bm_base.proofs.Options.{or_none}

pub pair_tie : (p q : ℕ × ℕ) → ((p.0 == q.0) && (p.1 == q.1)) ≡ eq_by_cmp pair_cmp p q
pair_tie p q = (λ i. sym (number_tie p.0 q.0) i && sym (number_tie p.1 q.1) i) ∙ sym (then_tie (nat_cmp p.0 q.0) (nat_cmp p.1 q.1))

neither_less : (r : Ordering) → (not (is_lt r) && not (is_lt (ordering_reverse r))) ≡ is_eq r
neither_less Less = refl
neither_less Equal = refl
neither_less Greater = refl

-- elements are compared by the keys of what they stand for
module _ {K X Y : Type 0} (o : Order K) (f : X → Y) (key : Y → K) where
  abbrev key_of : X → K
  key_of x = key (f x)

  abbrev keyed : List X → List (K × Y)
  keyed xs = map (λ x. (key (f x), f x)) xs

  abbrev found : K → List X → Option Y
  found q xs = find o.cmp q (keyed xs)

  abbrev has_key : K → X → Bool
  has_key q x = eq_by_cmp o.cmp q (key_of x)

  -- The last of each key: in a map, and in the reversed list.

  found_before : (q : K) (xs : List X) (x : X) (w : Option Y) → option_or (found q (xs ++ x ∷ [])) w ≡ option_or (found q xs) (cond (has_key q x) (Some (f x)) w)
  found_before q [] x w = by (has_key q x)
    where
      by : (b : Bool) → option_or (cond b (Some (f x)) None) w ≡ cond b (Some (f x)) w
      by true = refl
      by false = refl
  found_before q (y ∷ ys) x w = by (has_key q y) (found_before q ys x w)
    where
      by : (b : Bool) → option_or (found q (ys ++ x ∷ [])) w ≡ option_or (found q ys) (cond (has_key q x) (Some (f x)) w)
          → option_or (cond b (Some (f y)) (found q (ys ++ x ∷ []))) w ≡ option_or (cond b (Some (f y)) (found q ys)) (cond (has_key q x) (Some (f x)) w)
      by true e = refl
      by false e = e

  get-insert_all : (m : Map o Y) (xs : List X) (q : K) → get (insert_all m (keyed xs)) q ≡ option_or (found q (reverse xs)) (get m q)
  get-insert_all m [] q = refl
  get-insert_all m (x ∷ xs) q =
      get-insert_all (insert m (key_of x) (f x)) xs q
      ∙ ap (option_or (found q (reverse xs))) (get-insert m (key_of x) (f x) q)
      ∙ sym (found_before q (reverse xs) x (get m q))
      ∙ ap (λ ys. option_or (found q ys) (get m q)) (sym (reverse-append (x ∷ []) xs))

  -- A stable sort leaves the first element of each key before the others.

  abbrev first_by : List X → Option Y
  first_by [] = None
  first_by (x ∷ xs) = Some (f x)

  found_first : (q : K) (xs : List X) → found q xs ≡ first_by (filter (has_key q) xs)
  found_first q [] = refl
  found_first q (x ∷ xs) = by (has_key q x) (found_first q xs)
    where
      by : (b : Bool) → found q xs ≡ first_by (filter (has_key q) xs) → cond b (Some (f x)) (found q xs) ≡ first_by (cond b (x ∷ filter (has_key q) xs) (filter (has_key q) xs))
      by true e = refl
      by false e = e

  tied : (x y : X) → ties (λ a b. is_lt (o.cmp (key_of a) (key_of b))) x y ≡ has_key (key_of x) y
  tied x y = ap (λ r. not (is_lt (o.cmp (key_of x) (key_of y))) && not (is_lt r)) (o.total.antisymm (key_of y) (key_of x)) ∙ neither_less (o.cmp (key_of x) (key_of y))

  has_its_key : (q : K) (xs : List X) (y : Y) → found q xs ≡ Some y → (x : X) × (key_of x ≡ q)
  has_its_key q [] y e = cc
  has_its_key q (x ∷ xs) y e = by (has_key q x) refl e (has_its_key q xs y)
    where
      by : (b : Bool) → has_key q x ≡ b → cond b (Some (f x)) (found q xs) ≡ Some y → (found q xs ≡ Some y → (x : X) × (key_of x ≡ q)) → (x : X) × (key_of x ≡ q)
      by true is e rest = (x, sym (same_key o q (key_of x) is))
      by false is e rest = rest e

  module _ (xs ys : List X) (stable : IsStableByKey key_of o.cmp xs ys) where
    found_at : (x : X) → found (key_of x) ys ≡ found (key_of x) xs
    found_at x =
        let alike : (zs : List X) → filter (ties (λ a b. is_lt (o.cmp (key_of a) (key_of b))) x) zs ≡ filter (has_key (key_of x)) zs = λ zs. ap (λ p. filter p zs) (λ i y. tied x y i) in
        found_first (key_of x) ys ∙ ap first_by (sym (alike ys) ∙ stable x ∙ alike xs) ∙ sym (found_first (key_of x) xs)

    found_by : (q : K) → (x : X) × (key_of x ≡ q) → found q ys ≡ found q xs
    found_by q is = subst (λ k. found k ys ≡ found k xs) is.1 (found_at is.0)

    found_still : (q : K) (a b : Option Y) → found q ys ≡ a → found q xs ≡ b → found q ys ≡ found q xs
    found_still q None None e h = e ∙ sym h
    found_still q (Some y) b e h = found_by q (has_its_key q ys y e)
    found_still q None (Some y) e h = found_by q (has_its_key q xs y h)

  -- `dedup` keeps the first element of each key.

  module _ (E : X → X → Bool) (same : (x y : X) → E x y ≡ eq_by_cmp o.cmp (key_of x) (key_of y)) where
    twice : {Z : Type 0} (b : Bool) (v w : Z) (z : Z) → cond b v z ≡ cond b v (cond b w z)
    twice true v w z = refl
    twice false v w z = refl

    found_from : (q : K) (x : X) (xs : List X) → found q (dedup_from E x xs) ≡ found q (x ∷ xs)
    found_from q x [] = refl
    found_from q x (y ∷ ys) = by (E y x) refl (found_from q x ys) (found_from q y ys)
      where
        by : (b : Bool) → E y x ≡ b → found q (dedup_from E x ys) ≡ found q (x ∷ ys) → found q (dedup_from E y ys) ≡ found q (y ∷ ys) → found q (cond b (dedup_from E x ys) (x ∷ dedup_from E y ys)) ≡ found q (x ∷ y ∷ ys)
        by true is here rest =
            let keys : key_of y ≡ key_of x = same_key o (key_of y) (key_of x) (sym (same y x) ∙ is) in
            here
            ∙ twice (has_key q x) (Some (f x)) (Some (f y)) (found q ys)
            ∙ ap (λ k. cond (has_key q x) (Some (f x)) (cond (eq_by_cmp o.cmp q k) (Some (f y)) (found q ys))) (sym keys)
        by false is here rest = ap (cond (has_key q x) (Some (f x))) rest

    found_once : (q : K) (xs : List X) → found q (dedup E xs) ≡ found q xs
    found_once q [] = refl
    found_once q (x ∷ xs) = found_from q x xs

    below : (x : X) (ys : List X) → AllByRecursion (λ y. o.cmp (key_of x) (key_of y) ≡ Less) ys → T (below_all o.cmp (key_of x) (keyed ys))
    below x [] h = tt
    below x (y ∷ ys) h = both _ _ (subst T (sym (ap is_lt h.0)) tt) (below x ys h.1)

    ascend : (xs : List X) → IsStrictlySortedBy (λ x y. o.cmp (key_of x) (key_of y)) xs → T (is_sorted o.cmp (keyed xs))
    unfolding IsStrictlySortedBy
    ascend [] h = tt
    ascend (x ∷ xs) h = both _ _ (below x xs h.0) (ascend xs h.1)

    values_are : (xs : List X) → map (λ (e : K × Y). e.1) (keyed xs) ≡ map f xs
    values_are [] = refl
    values_are (x ∷ xs) = ap (λ zs. f x ∷ zs) (values_are xs)

    keyed_values : (xs : List X) → map (λ y. (key y, y)) (map f xs) ≡ keyed xs
    keyed_values [] = refl
    keyed_values (x ∷ xs) = ap (λ es. (key_of x, f x) ∷ es) (keyed_values xs)

    pub last_of_each : (xs ys : List X) → IsStableByKey key_of o.cmp (reverse xs) ys → IsSortedByKey key_of o.cmp ys → map f (dedup E ys) ≡ ordered_by o key (map f xs)
    unfolding ordered_by
    last_of_each xs ys stable sorted =
        let once : List X = dedup E ys in
        let ascends : T (is_sorted o.cmp (keyed once)) = ascend once (IsStrictlySortedBy-dedup (on_total key_of o.total) same ys sorted) in
        let all : Map o Y = insert_all (empty {X = Y} {o = o}) (keyed xs) in
        let one : Map o Y = of_sorted (keyed once) in
        let alike : one ≡ all = same_map one all (λ q.
        get-of_sorted o (keyed once) q ascends
        ∙ found_once q ys
        ∙ found_still (reverse xs) ys stable q (found q ys) (found q (reverse xs)) refl refl
        ∙ sym (or_none (found q (reverse xs)))
        ∙ ap (option_or (found q (reverse xs))) (sym (get-empty {X = Y} o q))
        ∙ sym (get-insert_all (empty {X = Y} {o = o}) xs q)) in
        sym (values_are once)
        ∙ ap (map (λ (e : K × Y). e.1)) (sym (entries-of_sorted o (keyed once) ascends))
        ∙ ap (λ (m : Map o Y). map (λ (e : K × Y). e.1) (entries m)) alike
        ∙ ap (λ es. map (λ (e : K × Y). e.1) (entries (insert_all (empty {X = Y} {o = o}) es))) (sym (keyed_values xs))
