-- In entries with strictly ascending keys, a binary search finds the entry that `find` finds.
use Rattle.std.proofs.Common.{◌≡◌, ℕ, ◌<◌, ◌≤◌, ◌+◌, ◌-◌, suc, zero, Bool, true, false, ltb, List, [], ◌∷◌, length, get_or, take, drop, cond, Option, Some, None, is_some, IsTrue, T, arith, refl, sym, ap, subst, ◌∙◌, Ordering, Less, Equal, Greater, is_eq}
use Rattle.std.specs.Ordering.{is_lt, is_gt, ordering_reverse}
use Rattle.std.specs.Cmp.{IsTotalOrder}
use Rattle.std.specs.List.Sorted.{IsPartitionedBy, IsPartitionPoint}
use Rattle.std.specs.FinMap.{find, is_sorted}
use Rattle.std.specs.FinMap.Entries.{below_all}
use Rattle.std.proofs.lemmas.Bool.{ltb-true, ltb-false}
use Rattle.std.proofs.lemmas.List.{get_or-take, get_or-drop, length-drop, length-take-le}
use Rattle.bm_base.specs.Maps.Conjunction.{both, first, second}
use Rattle.bm_maps.specs.KeyIndex.{key_index, distance_to}
use Rattle.bm_base.proofs.MapLaws.{find_below}
use Rattle.bm_base.proofs.Orderings.{is_less}

greater : (r : Ordering) → is_gt r ≡ true → r ≡ Greater
greater Less h = cc
greater Equal h = cc
greater Greater h = refl

passed : (r : Ordering) (n i : ℕ) → i < distance_to r n → (r ≡ Greater) × (i < suc n)
passed Less n i lt = absurd (omega (arith, lt))
passed Equal n i lt = absurd (omega (arith, lt))
passed Greater n i lt = (refl, lt)

differ : {Y : Type 0} → true ≡ false → Y
differ e = cc

above : {K : Type 0} (R : K → K → Ordering) → IsTotalOrder R → (k x y : K) → R x y ≡ Less → R k y ≡ Greater → R k x ≡ Greater
above R o k x y p q =
    let back : R y k ≡ Less = o.antisymm y k ∙ ap ordering_reverse q in
    o.antisymm k x ∙ ap ordering_reverse (o.trans x y k p back)

module _ {K X : Type 0} (R : K → K → Ordering) (o : IsTotalOrder R) where
  -- a key below all keys of a list is below each of them
  below_there : (x : K) (es : List (K × X)) (i : ℕ) (d : K × X) → T (below_all R x es) → i < length es → R x (get_or es i d).0 ≡ Less
  below_there x [] i d h lt = absurd (omega (arith, lt))
  below_there x (e ∷ es) zero d h lt = is_less _ (first _ _ h)
  below_there x (e ∷ es) (suc i) d h lt = below_there x es i d (second _ _ h) (omega (arith, lt))

  -- an entry that the key is greater than is before the key's index
  pub index_behind : (k : K) (es : List (K × X)) (i : ℕ) (d : K × X) → T (is_sorted R es) → i < length es → R k (get_or es i d).0 ≡ Greater → i < key_index R k es
  index_behind k [] i d h lt is = absurd (omega (arith, lt))
  index_behind k (e ∷ es) zero d h lt is = rw is (omega arith)
  index_behind k (e ∷ es) (suc i) d h lt is =
      let rest : i < key_index R k es = index_behind k es i d (second _ _ h) (omega (arith, lt)) is in
      let here : R k e.0 ≡ Greater = above R o k e.0 (get_or es i d).0 (below_there e.0 es i d (first _ _ h) (omega (arith, lt))) is in
      let more : suc i < suc (key_index R k es) = omega (arith, rest) in
      rw here more

  -- the key's index is not past an entry that the key is not greater than
  pub index_before : (k : K) (es : List (K × X)) (i : ℕ) (d : K × X) → i < length es → (R k (get_or es i d).0 ≡ Greater → ⊥) → key_index R k es ≤ i
  index_before k [] i d lt is = omega arith
  index_before k (e ∷ es) zero d lt is =
      elim (R k e.0) as (λ r. R k e.0 ≡ r → distance_to r (key_index R k es) ≤ zero) [
        | Less ↦ λ p. omega arith
        | Equal ↦ λ p. omega arith
        | Greater ↦ λ p. absurd (is p)
      ] refl
  index_before k (e ∷ es) (suc i) d lt is =
      let rest : key_index R k es ≤ i = index_before k es i d (omega (arith, lt)) is in
      elim (R k e.0) as (λ r. distance_to r (key_index R k es) ≤ suc i) [
        | Less ↦ omega arith
        | Equal ↦ omega arith
        | Greater ↦ omega (arith, rest)
      ]

  -- the key is greater than each entry before its index
  greater_before : (k : K) (es : List (K × X)) (i : ℕ) (d : K × X) → i < key_index R k es → R k (get_or es i d).0 ≡ Greater
  greater_before k [] i d lt = absurd (omega (arith, lt))
  greater_before k (e ∷ es) zero d lt = (passed (R k e.0) (key_index R k es) zero lt).0
  greater_before k (e ∷ es) (suc i) d lt = greater_before k es i d (omega (arith, (passed (R k e.0) (key_index R k es) (suc i) lt).1))

  -- whether the key is greater than an entry's
  abbrev pub is_behind : K → K × X → Bool
  is_behind k e = is_gt (R k e.0)

  -- the entries from the least possible index of a key to the greatest
  module _ (k : K) (es : List (K × X)) (least most : ℕ) (h : T (is_sorted R es)) (inside : most ≤ length es) where
    abbrev those : List (K × X)
    those = take (most - least) (drop least es)

    those_length : length those ≡ most - least
    those_length = length-take-le (most - least) (drop least es) (omega (arith, length-drop least es, inside))

    those_read : (i : ℕ) (d : K × X) → i < length those → get_or those i d ≡ get_or es (least + i) d
    those_read i d lt = get_or-take (most - least) (drop least es) i d (omega (arith, lt, those_length)) ∙ get_or-drop least es i d

    index_past : (i : ℕ) (d : K × X) → i < length those → is_behind k (get_or those i d) ≡ true → least + i < key_index R k es
    index_past i d lt is = index_behind k es (least + i) d h (omega (arith, lt, those_length, inside)) (greater _ (sym (ap (is_behind k) (those_read i d lt)) ∙ is))

    pub those_parted : IsPartitionedBy (is_behind k) those
    those_parted i j d le lt is =
        ap (is_behind k) (those_read i d (omega (arith, le, lt))) ∙ ap is_gt (greater_before k es (least + i) d (omega (arith, le, index_past j d lt is)))

    no_less : (i : ℕ) (d : K × X) → i ≤ length those → least ≤ key_index R k es → ((j : ℕ) → j < i → is_behind k (get_or those j d) ≡ true) → least + i ≤ key_index R k es
    no_less zero d le from pass = omega (arith, from)
    no_less (suc i) d le from pass = omega (arith, index_past i d (omega (arith, le)) (pass i (omega arith)))

    no_more : (i : ℕ) (d : K × X) → i < length those → is_behind k (get_or those i d) ≡ false → key_index R k es ≤ least + i
    no_more i d lt is =
        index_before k es (least + i) d (omega (arith, lt, those_length, inside)) (λ e. differ (sym (ap is_gt e) ∙ sym (ap (is_behind k) (those_read i d lt)) ∙ is))

    parted_index : (i : ℕ) (d : K × X) → i ≤ length those → least ≤ key_index R k es → key_index R k es ≤ most
        → IsPartitionPoint (λ e. is_behind k e ≡ true) (λ e. is_behind k e ≡ false) those i → least + i ≡ key_index R k es
    parted_index i d le from upto point =
        let low : least + i ≤ key_index R k es = no_less i d le from (λ j lt. point.0 j d (omega arith) lt) in
        let high : key_index R k es ≤ least + i = elim (ltb i (length those)) as (λ b. ltb i (length those) ≡ b → key_index R k es ≤ least + i) [
          | true ↦ λ e. let lt = ltb-true i (length those) e in no_more i d lt (point.1 i d (omega arith) lt)
          | false ↦ λ e. omega (arith, ltb-false i (length those) e, those_length, upto)
        ] refl in
        omega (arith, low, high)

  -- a partition point among those entries, counted from the first of all, is the key's index
  pub index_parted : (k : K) (es : List (K × X)) (least most i : ℕ) → T (is_sorted R es) → least ≤ key_index R k es → key_index R k es ≤ most → most ≤ length es → i ≤ length (take (most - least) (drop least es))
      → IsPartitionPoint (λ e. is_behind k e ≡ true) (λ e. is_behind k e ≡ false) (take (most - least) (drop least es)) i → least + i ≡ key_index R k es
  index_parted k [] least most i h from upto inside le point =
      let none : List (K × X) = [] in
      omega (arith, from, upto, inside, le, length-take-le (most - least) (drop least none) (omega (arith, inside)))
  index_parted k (e ∷ es) least most i h from upto inside le point = parted_index k (e ∷ es) least most h inside i e le from upto point

  -- the index is within the entries
  pub index_within : (k : K) (es : List (K × X)) → key_index R k es ≤ length es
  index_within k [] = omega arith
  index_within k (e ∷ es) =
      let rest : key_index R k es ≤ length es = index_within k es in
      elim (R k e.0) as (λ r. distance_to r (key_index R k es) ≤ suc (length es)) [
        | Less ↦ omega arith
        | Equal ↦ omega arith
        | Greater ↦ omega (arith, rest)
      ]

  below_further : (k x : K) (es : List (K × X)) → R k x ≡ Less → T (below_all R x es) → T (below_all R k es)
  below_further k x [] p h = tt
  below_further k x (e ∷ es) p h =
      both _ _ (subst (λ r. T (is_lt r)) (sym (o.trans k x e.0 p (is_less _ (first _ _ h)))) tt) (below_further k x es p (second _ _ h))

  pub find_index : (k : K) (es : List (K × X)) (d : K × X) → key_index R k es < length es → R k (get_or es (key_index R k es) d).0 ≡ Equal → find R k es ≡ Some (get_or es (key_index R k es) d).1
  find_index k [] d lt is = absurd (omega (arith, lt))
  find_index k (e ∷ es) d lt is =
      elim (R k e.0) as (λ r. R k e.0 ≡ r → distance_to r (key_index R k es) < length (e ∷ es) → R k (get_or (e ∷ es) (distance_to r (key_index R k es)) d).0 ≡ Equal
      → cond (is_eq r) (Some e.1) (find R k es) ≡ Some (get_or (e ∷ es) (distance_to r (key_index R k es)) d).1) [
        | Less ↦ λ p lt is. cc
        | Equal ↦ λ p lt is. refl
        | Greater ↦ λ p lt is. find_index k es d (omega (arith, lt)) is
      ] refl lt is

  pub find_no_index : (k : K) (es : List (K × X)) (d : K × X) → T (is_sorted R es) → (key_index R k es < length es → R k (get_or es (key_index R k es) d).0 ≡ Equal → ⊥) → find R k es ≡ None
  find_no_index k [] d h is = refl
  find_no_index k (e ∷ es) d h is =
      elim (R k e.0) as (λ r. R k e.0 ≡ r → (distance_to r (key_index R k es) < length (e ∷ es) → R k (get_or (e ∷ es) (distance_to r (key_index R k es)) d).0 ≡ Equal → ⊥)
      → cond (is_eq r) (Some e.1) (find R k es) ≡ None) [
        | Less ↦ λ p is. find_below R k es (below_further k e.0 es p (first _ _ h))
        | Equal ↦ λ p is. absurd (is (omega arith) p)
        | Greater ↦ λ p is. find_no_index k es d (second _ _ h) (λ lt at. is (omega (arith, lt)) at)
      ] refl is

  -- what is read within a list does not depend on the default
  same_there : (es : List (K × X)) (i : ℕ) (d x : K × X) → i < length es → get_or es i d ≡ get_or es i x
  same_there [] i d x lt = absurd (omega (arith, lt))
  same_there (e ∷ es) zero d x lt = refl
  same_there (e ∷ es) (suc i) d x lt = same_there es i d x (omega (arith, lt))

  pub find_read : (k : K) (es : List (K × X)) (i : ℕ) (d x : K × X) → i ≡ key_index R k es → i < length es → R k (get_or es i d).0 ≡ Equal → find R k es ≡ Some (get_or es i x).1
  find_read k es i d x is lt tie =
      let Goal : ℕ → Type 0 = λ j. j < length es → R k (get_or es j d).0 ≡ Equal → find R k es ≡ Some (get_or es j x).1 in
      subst Goal (sym is) (λ lt tie. find_index k es d lt tie ∙ ap (λ e. Some e.1) (same_there es (key_index R k es) d x lt)) lt tie

  pub find_none : (k : K) (es : List (K × X)) (i : ℕ) (d : K × X) → i ≡ key_index R k es → T (is_sorted R es) → (i < length es → R k (get_or es i d).0 ≡ Equal → ⊥) → find R k es ≡ None
  find_none k es i d is h apart =
      let Goal : ℕ → Type 0 = λ j. j < length es → R k (get_or es j d).0 ≡ Equal → ⊥ in
      find_no_index k es d h (subst Goal is apart)

  -- a key whose index is past all entries is not in the list
  pub find_past : (k : K) (es : List (K × X)) (i : ℕ) → i ≡ key_index R k es → T (is_sorted R es) → length es ≤ i → find R k es ≡ None
  find_past k [] i is h past = refl
  find_past k (e ∷ es) i is h past = find_none k (e ∷ es) i e is h (λ lt _. absurd (omega (arith, lt, past)))

pub if_found : {X Y : Type 0} (w : Option X) (v : X) (then otherwise : Y) → w ≡ Some v → then ≡ cond (is_some w) then otherwise
if_found w v then otherwise e = sym (ap (λ z. cond (is_some z) then otherwise) e)

pub if_not_found : {X Y : Type 0} (w : Option X) (then otherwise : Y) → w ≡ None → otherwise ≡ cond (is_some w) then otherwise
if_not_found w then otherwise e = sym (ap (λ z. cond (is_some z) then otherwise) e)

-- a key that is not found does not exist
pub not_there : {X Y : Type 0} (w : Option X) → w ≡ None → IsTrue (is_some w) → Y
not_there None e h = cc
not_there (Some x) e h = cc
