-- Cutting a list with ascending keys into shares, and joining and sorting these, gives it again.
use Rattle.std.proofs.Common.{◌≡◌, ℕ, zero, suc, ◌+◌, ◌<◌, ◌≤◌, Bool, true, false, cond, ◌||◌, List, [], ◌∷◌, ◌++◌, map, filter, flat_map, Option, Some, None, refl, sym, ap, subst, ◌∙◌, arith, eq-eqb, eqb-true, true≢false, T}
use Rattle.std.specs.Prelude.{◌==◌}
use Rattle.std.specs.Ordering.{eq_by_cmp}
use Rattle.std.specs.List.{list_any}
use Rattle.std.specs.FinMap.{is_sorted}
use Rattle.std.proofs.lemmas.Bool.{or_left, or_right, eqb-false}
use Rattle.std.proofs.lemmas.List.Folds.{list_any-append}
use Rattle.bm_base.specs.Words.{Map, Order, entries, empty, get, insert, insert_all, range_from}
use Rattle.bm_base.specs.Maps.OfSorted.{of_sorted}
use Rattle.bm_base.proofs.OfSorted.{entries-of_sorted}
use Rattle.bm_base.proofs.MapLaws.{same_map, get-insert, get-empty}
use Rattle.bm_base.specs.Ordered.{ordered_by}
use Rattle.bm_base.proofs.ForEach.{Each, each_filtered, each_appended}
use Rattle.bm_base.proofs.MapEntries.{same_key, key_itself, each_entry, passes_entry}

module _ {K X : Type 0} {o : Order K} (m : Map o X) where
  -- inserting an entry of m makes its key agree with m
  put_one : (a : Map o X) (e : K × X) (q : K) → get m e.0 ≡ Some e.1 → (b : Bool) → eq_by_cmp o.cmp q e.0 ≡ b → (b ≡ false → get a q ≡ get m q) → cond b (Some e.1) (get a q) ≡ get m q
  put_one a e q here true t h = sym here ∙ sym (ap (get m) (same_key o q e.0 t))
  put_one a e q here false t h = h refl

  -- inserting entries of m keeps agreeing keys
  pub put_agreeing : (a : Map o X) (es : List (K × X)) (q : K) → Each (λ e. get m e.0 ≡ Some e.1) es → get a q ≡ get m q → get (insert_all a es) q ≡ get m q
  put_agreeing a [] q each h = h
  put_agreeing a (e ∷ es) q each h = put_agreeing (insert a e.0 e.1) es q each.1 (get-insert a e.0 e.1 q ∙ put_one a e q each.0 (eq_by_cmp o.cmp q e.0) refl (λ _. h))

  -- each inserted key agrees with m
  pub put_all : (a : Map o X) (es : List (K × X)) (q : K) → Each (λ e. get m e.0 ≡ Some e.1) es → list_any (λ e. eq_by_cmp o.cmp q e.0) es ≡ true → get (insert_all a es) q ≡ get m q
  put_all a [] q each there = cc
  put_all a (e ∷ es) q each there =
      (elim (eq_by_cmp o.cmp q e.0) as (λ b. eq_by_cmp o.cmp q e.0 ≡ b → (b || list_any (λ f. eq_by_cmp o.cmp q f.0) es) ≡ true → get (insert_all (insert a e.0 e.1) es) q ≡ get m q) [
        | true ↦ λ t h. put_agreeing (insert a e.0 e.1) es q each.1 (get-insert a e.0 e.1 q ∙ put_one a e q each.0 (eq_by_cmp o.cmp q e.0) refl (λ f. absurd (true≢false (sym t ∙ f))))
        | false ↦ λ t h. put_all (insert a e.0 e.1) es q each.1 h
      ]) refl there

  gathered_at : (es : List (K × X)) (q : K) → Each (λ e. get m e.0 ≡ Some e.1) es → ((x : X) → get m q ≡ Some x → list_any (λ e. eq_by_cmp o.cmp q e.0) es ≡ true)
      → (w : Option X) → get m q ≡ w → get (insert_all (empty {o = o}) es) q ≡ get m q
  gathered_at es q each all None h = put_agreeing (empty {o = o}) es q each (get-empty {X = X} o q ∙ sym h)
  gathered_at es q each all (Some x) h = put_all (empty {o = o}) es q each (all x h)

  -- inserting all entries of m into the empty map, in any order, gives m
  pub gathered : (es : List (K × X)) → Each (λ e. get m e.0 ≡ Some e.1) es → ((q : K) (x : X) → get m q ≡ Some x → list_any (λ e. eq_by_cmp o.cmp q e.0) es ≡ true) → insert_all (empty {o = o}) es ≡ m
  gathered es each all = same_map (insert_all (empty {o = o}) es) m (λ q. gathered_at es q each (all q) (get m q) refl)

  pub own_entries : insert_all (empty {o = o}) (entries m) ≡ m
  own_entries = gathered (entries m) (each_entry m) (λ q x e. passes_entry m (λ f. eq_by_cmp o.cmp q f.0) q x e (key_is q))
    where
      key_is : (q : K) → eq_by_cmp o.cmp q q ≡ true
      key_is q = key_itself o q

-- Shares.

module _ {X : Type 0} (shard : X → ℕ) where
  -- the share of a shard in a list
  abbrev pub share : List X → ℕ → List X
  share xs i = filter (λ x. shard x == i) xs

  passing_head : (t : X → Bool) (b : Bool) (x : X) (ys : List X) → b ≡ true → t x ≡ true → list_any t (cond b (x ∷ ys) ys) ≡ true
  passing_head t true x ys e h = or_left (t x) (list_any t ys) h
  passing_head t false x ys e h = cc

  passing_tail : (t : X → Bool) (b : Bool) (x : X) (ys : List X) → list_any t ys ≡ true → list_any t (cond b (x ∷ ys) ys) ≡ true
  passing_tail t true x ys h = or_right (t x) (list_any t ys) h
  passing_tail t false x ys h = h

  -- if some element passes, one in some share does
  pub in_a_share : (t : X → Bool) (n : ℕ) → ((x : X) → shard x < n) → (xs : List X) → list_any t xs ≡ true → (i : ℕ) × (i < n) × (list_any t (share xs i) ≡ true)
  in_a_share t n below [] h = cc
  in_a_share t n below (x ∷ xs) h =
      (elim (t x) as (λ b. t x ≡ b → (b || list_any t xs) ≡ true → (i : ℕ) × (i < n) × (list_any t (share (x ∷ xs) i) ≡ true)) [
        | true ↦ λ e f. (shard x, below x, passing_head t (shard x == shard x) x (share xs (shard x)) (eq-eqb _ _ refl) e)
        | false ↦ λ e f. let rest = in_a_share t n below xs f in (rest.0, rest.1, passing_tail t (shard x == rest.0) x (share xs rest.0) rest.2)
      ]) refl h

-- if an element of one list passes, one of the joined lists does
pub any_of_numbers : {X : Type 0} (t : X → Bool) (f : ℕ → List X) (j n i : ℕ) → j ≤ i → i < j + n → list_any t (f i) ≡ true → list_any t (flat_map f (range_from j n)) ≡ true
any_of_numbers t f j zero i low high h = absurd (omega (arith, low, high))
any_of_numbers t f j (suc n) i low high h =
    (elim (j == i) as (λ b. (j == i) ≡ b → list_any t (f j ++ flat_map f (range_from (suc j) n)) ≡ true) [
      | true ↦ λ e. list_any-append t (f j) _ ∙ or_left (list_any t (f j)) _ (ap (λ k. list_any t (f k)) (eqb-true j i e) ∙ h)
      | false ↦ λ e.
          let other : j ≡ i → ⊥ = eqb-false j i e in
          list_any-append t (f j) _ ∙ or_right (list_any t (f j)) _ (any_of_numbers t f (suc j) n i (omega (arith, low, other)) (omega (arith, high)) h)
    ]) refl

pub each_of_numbers : {X : Type 0} (P : X → Type 0) (f : ℕ → List X) (j n : ℕ) → ((i : ℕ) → Each P (f i)) → Each P (flat_map f (range_from j n))
each_of_numbers P f j zero h = tt
each_of_numbers P f j (suc n) h = each_appended P (f j) _ (h j) (each_of_numbers P f (suc j) n h)

module _ {K X : Type 0} (o : Order K) (key : X → K) where
  abbrev pub keyed : List X → List (K × X)
  keyed xs = map (λ x. (key x, x)) xs

  each_unkeyed : (P : K × X → Type 0) (xs : List X) → Each P (keyed xs) → Each (λ x. P (key x, x)) xs
  each_unkeyed P [] h = tt
  each_unkeyed P (x ∷ xs) h = (h.0, each_unkeyed P xs h.1)

  each_keyed : (P : K × X → Type 0) (xs : List X) → Each (λ x. P (key x, x)) xs → Each P (keyed xs)
  each_keyed P [] h = tt
  each_keyed P (x ∷ xs) h = (h.0, each_keyed P xs h.1)

  any_keyed : (t : K → Bool) (xs : List X) → list_any (λ e. t e.0) (keyed xs) ≡ list_any (λ x. t (key x)) xs
  any_keyed t [] = refl
  any_keyed t (x ∷ xs) = ap (λ b. t (key x) || b) (any_keyed t xs)

  pub values_again : (xs : List X) → map (λ (e : K × X). e.1) (keyed xs) ≡ xs
  values_again [] = refl
  values_again (x ∷ xs) = ap (λ ys. x ∷ ys) (values_again xs)

  -- the shares of a list with ascending keys, joined and sorted by key, are the list
  pub shares_in_order : (xs : List X) → T (is_sorted o.cmp (keyed xs)) → (shard : X → ℕ) (n : ℕ) → ((x : X) → shard x < n)
      → ordered_by o key (flat_map (share shard xs) (range_from 0 n)) ≡ xs
  unfolding ordered_by
  shares_in_order xs ascends shard n below =
      let m : Map o X = of_sorted (keyed xs) in
      let es : entries m ≡ keyed xs = entries-of_sorted o (keyed xs) ascends in
      let zs : List X = flat_map (share shard xs) (range_from 0 n) in
      let from : Each (λ x. get m (key x) ≡ Some x) xs = each_unkeyed (λ e. get m e.0 ≡ Some e.1) xs (subst (Each (λ e. get m e.0 ≡ Some e.1)) es (each_entry m)) in
      let from_all : Each (λ x. get m (key x) ≡ Some x) zs = each_of_numbers (λ x. get m (key x) ≡ Some x) (share shard xs) 0 n (λ i. each_filtered (λ x. get m (key x) ≡ Some x) (λ x. shard x == i) xs from) in
      let all : (q : K) (x : X) → get m q ≡ Some x → list_any (λ e. eq_by_cmp o.cmp q e.0) (keyed zs) ≡ true = λ q x e.
      let there : list_any (λ x. eq_by_cmp o.cmp q (key x)) xs ≡ true =
      sym (any_keyed (λ k. eq_by_cmp o.cmp q k) xs) ∙ ap (list_any (λ f. eq_by_cmp o.cmp q f.0)) (sym es) ∙ passes_entry m (λ f. eq_by_cmp o.cmp q f.0) q x e (key_itself o q) in
      let at = in_a_share shard (λ x. eq_by_cmp o.cmp q (key x)) n below xs there in
      any_keyed (λ k. eq_by_cmp o.cmp q k) zs ∙ any_of_numbers (λ x. eq_by_cmp o.cmp q (key x)) (share shard xs) 0 n at.0 (omega arith) (omega (arith, at.1)) at.2 in
      ap (λ w. map (λ (e : K × X). e.1) (entries w)) (gathered m (keyed zs) (each_keyed (λ e. get m e.0 ≡ Some e.1) zs from_all) all)
      ∙ ap (map (λ (e : K × X). e.1)) es ∙ values_again xs
