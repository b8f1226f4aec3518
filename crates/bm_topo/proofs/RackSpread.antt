-- Nodes are on two racks or more exactly if not all of them are on the rack of one of them.
use Rattle.std.proofs.Common.{◌≡◌, ℕ, suc, ◌+◌, ◌<◌, ◌≤◌, true, false, cond, ◌||◌, List, [], ◌∷◌, length, map, count_by, Some, arith, refl, sym, ap, ◌∙◌}
use Rattle.std.specs.Prelude.{◌==◌, nat_lt}
use Rattle.std.specs.List.{list_any}
use Rattle.std.specs.Cmp.{both_ways}
use Rattle.std.proofs.lemmas.List.{length-map}
use Rattle.std.proofs.lemmas.List.Sums.{count_by-le-length}
use Rattle.std.proofs.lemmas.Bool.{eqb-true, eqb-false, ne_eqb, lt-ltb, ltb-true}
use Rattle.bm_base.specs.Words.{has, Map, by_number, entries, len}
use Rattle.bm_base.specs.Spread.{spread, spread_after}
use Rattle.bm_base.proofs.Distinct.{capped_spread, is_two}
use Rattle.bm_topo.specs.Racks.{on_rack, racks_of, is_multi}
use Rattle.bm_topo.proofs.RackCount.{one_more}

at_most : (r : ℕ) (xs : List ℕ) → count_by (λ y. y == r) xs ≤ length xs
at_most r xs = count_by-le-length (λ y. y == r) xs

bounded : (a b : ℕ) → nat_lt (1 + a) (suc b) ≡ nat_lt a b
bounded a b = both_ways (nat_lt (1 + a) (suc b)) (nat_lt a b) (λ e. lt-ltb a b (let h = ltb-true (1 + a) (suc b) e in omega (arith, h))) (λ e. lt-ltb (1 + a) (suc b) (let h = ltb-true a b e in omega (arith, h)))

-- after f, a list is spread further exactly if not all of its elements are f
spread_from-counted : (f : ℕ) (xs : List ℕ) → nat_lt 1 (spread_after (Some f) xs) ≡ nat_lt (count_by (λ y. y == f) xs) (length xs)
spread_from-counted f [] = refl
spread_from-counted f (x ∷ xs) =
    elim (x == f) as (λ b. (x == f) ≡ b → nat_lt 1 (cond b (spread_after (Some f) xs) 2) ≡ nat_lt (count_by (λ y. y == f) (x ∷ xs)) (length (x ∷ xs))) [
      | true ↦ λ t.
          let more : count_by (λ y. y == f) (x ∷ xs) ≡ 1 + count_by (λ y. y == f) xs = one_more f x xs ∙ ap (λ b. cond b 1 0 + count_by (λ y. y == f) xs) t in
          spread_from-counted f xs ∙ sym (ap (λ n. nat_lt n (length (x ∷ xs))) more ∙ bounded (count_by (λ y. y == f) xs) (length xs))
      | false ↦ λ t.
          let more : count_by (λ y. y == f) (x ∷ xs) ≡ 0 + count_by (λ y. y == f) xs = one_more f x xs ∙ ap (λ b. cond b 1 0 + count_by (λ y. y == f) xs) t in
          sym (lt-ltb _ _ (omega (arith, more, at_most f xs)))
    ] refl

-- one that is not like the first is not counted with it
other_there : (f r : ℕ) (xs : List ℕ) → (f == r) ≡ false → list_any (λ y. y == r) xs ≡ true → count_by (λ y. y == f) xs < length xs
other_there f r [] apart h = cc
other_there f r (x ∷ xs) apart h =
    elim (x == r) as (λ b. (x == r) ≡ b → (b || list_any (λ y. y == r) xs) ≡ true → count_by (λ y. y == f) (x ∷ xs) < length (x ∷ xs)) [
      | true ↦ λ t h.
          let not_f : (x == f) ≡ false = ne_eqb x f (λ e. eqb-false f r apart (sym e ∙ eqb-true x r t)) in
          let more : count_by (λ y. y == f) (x ∷ xs) ≡ 0 + count_by (λ y. y == f) xs = one_more f x xs ∙ ap (λ b. cond b 1 0 + count_by (λ y. y == f) xs) not_f in
          omega (arith, more, at_most f xs)
      | false ↦ λ t h.
          let rest : count_by (λ y. y == f) xs < length xs = other_there f r xs apart h in
          let more : count_by (λ y. y == f) (x ∷ xs) ≡ cond (x == f) 1 0 + count_by (λ y. y == f) xs = one_more f x xs in
          let few : cond (x == f) 1 0 ≤ 1 = elim (x == f) as (λ b. cond b 1 0 ≤ 1) [ true ↦ omega arith | false ↦ omega arith ] in
          omega (arith, more, rest, few)
    ] refl h

spread-counted : (xs : List ℕ) (r : ℕ) → has xs r ≡ true → nat_lt 1 (spread xs) ≡ nat_lt (count_by (λ y. y == r) xs) (length xs)
spread-counted [] r h = cc
spread-counted (f ∷ xs) r h =
    elim (f == r) as (λ b. (f == r) ≡ b → (b || list_any (λ y. y == r) xs) ≡ true → nat_lt 1 (spread_after (Some f) xs) ≡ nat_lt (count_by (λ y. y == r) (f ∷ xs)) (length (f ∷ xs))) [
      | true ↦ λ t h.
          let is : f ≡ r = eqb-true f r t in
          let more : count_by (λ y. y == r) (f ∷ xs) ≡ 1 + count_by (λ y. y == r) xs = one_more r f xs ∙ ap (λ b. cond b 1 0 + count_by (λ y. y == r) xs) t in
          spread_from-counted f xs ∙ ap (λ z. nat_lt (count_by (λ y. y == z) xs) (length xs)) is
          ∙ sym (ap (λ n. nat_lt n (length (f ∷ xs))) more ∙ bounded (count_by (λ y. y == r) xs) (length xs))
      | false ↦ λ t h.
          let more : count_by (λ y. y == r) (f ∷ xs) ≡ 0 + count_by (λ y. y == r) xs = one_more r f xs ∙ ap (λ b. cond b 1 0 + count_by (λ y. y == r) xs) t in
          spread_from-counted f xs ∙ lt-ltb _ _ (other_there f r xs t h) ∙ sym (lt-ltb _ _ (omega (arith, more, at_most r xs)))
    ] refl h

-- r being a rack of one of the nodes
pub is_multi-counted : (nodes : Map by_number ℕ) (r : ℕ) → has (racks_of nodes) r ≡ true → is_multi nodes ≡ nat_lt (on_rack nodes r) (len nodes)
unfolding is_multi on_rack len
is_multi-counted nodes r h =
    sym (is_two _ _ (capped_spread (racks_of nodes))) ∙ spread-counted (racks_of nodes) r h
    ∙ ap (λ n. nat_lt (count_by (λ y. y == r) (racks_of nodes)) n) (length-map (entries nodes) (λ e. e.1))

pub is_multi-none : (nodes : Map by_number ℕ) → entries nodes ≡ [] → is_multi nodes ≡ false
unfolding is_multi
is_multi-none nodes e = sym (is_two _ _ (capped_spread (racks_of nodes))) ∙ ap (λ es. nat_lt 1 (spread (map (λ e. e.1) es))) e

pub one_more_both : (a b : ℕ) → nat_lt (a + 1) (b + 1) ≡ nat_lt a b
one_more_both a b = both_ways (nat_lt (a + 1) (b + 1)) (nat_lt a b) (λ e. lt-ltb a b (let h = ltb-true (a + 1) (b + 1) e in omega (arith, h))) (λ e. lt-ltb (a + 1) (b + 1) (let h = ltb-true a b e in omega (arith, h)))
