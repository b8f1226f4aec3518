-- The table of racks with node counts has one entry for each different rack of the nodes.
use Rattle.std.proofs.Common.{◌≡◌, ℕ, zero, suc, ◌+◌, Bool, true, false, cond, ◌||◌, List, [], ◌∷◌, length, map, count_by, Option, Some, None, is_some, refl, sym, ap, ◌∙◌, arith}
use Rattle.std.specs.Prelude.{◌==◌, nat_lt}
use Rattle.std.specs.Ordering.{nat_cmp, eq_by_cmp}
use Rattle.std.proofs.lemmas.Bool.{eqb-true, lt-ltb}
use Rattle.std.proofs.lemmas.List.{length-map}
use Rattle.std.proofs.lemmas.List.Sums.{sum_by-cons}
use Rattle.bm_base.specs.Words.{has, distinct, Map, by_number, empty, entries, get, insert, insert_all, keys, len, contains_key}
use Rattle.bm_base.proofs.MapLaws.{same_map, get-insert, get-empty}
use Rattle.bm_base.proofs.Ties.{number_tie}
use Rattle.bm_base.proofs.Differences.{len-insert}
use Rattle.bm_base.proofs.Clusters.{eqb_turned}
use Rattle.bm_base.proofs.Options.{cond_same}
use Rattle.bm_topo.specs.Racks.{on_rack, racks_of, positive_or_none, CountsRacks}

abbrev listed : (ℕ → ℕ) → List ℕ → List (ℕ × ℕ)
listed f xs = map (λ x. (x, f x)) xs

abbrev marked : List ℕ → List (ℕ × Unit {0})
marked xs = map (λ x. (x, tt)) xs

-- what is read once each of the numbers has its value
get-listed : (f : ℕ → ℕ) (xs : List ℕ) (m : Map by_number ℕ) (r : ℕ) → get (insert_all m (listed f xs)) r ≡ cond (has xs r) (Some (f r)) (get m r)
get-listed f [] m r = refl
get-listed f (x ∷ xs) m r =
    get-listed f xs (insert m x (f x)) r
    ∙ ap (cond (has xs r) (Some (f r))) (get-insert m x (f x) r ∙ ap (λ b. cond b (Some (f x)) (get m r)) (number_tie r x ∙ eqb_turned r x))
    ∙ elim (x == r) as (λ b. (x == r) ≡ b → cond (has xs r) (Some (f r)) (cond b (Some (f x)) (get m r)) ≡ cond (b || has xs r) (Some (f r)) (get m r)) [
      | true ↦ λ t. ap (λ n. cond (has xs r) (Some (f r)) (Some n)) (ap f (eqb-true x r t)) ∙ cond_same (has xs r) (Some (f r))
      | false ↦ λ t. refl
    ] refl

there_either : {X Y : Type 0} (b : Bool) (x : X) (y : Y) (v : Option X) (w : Option Y) → is_some v ≡ is_some w → is_some (cond b (Some x) v) ≡ is_some (cond b (Some y) w)
there_either true x y v w e = refl
there_either false x y v w e = e

-- the number of keys does not depend on the values
len-listed : (f : ℕ → ℕ) (xs : List ℕ) (m : Map by_number ℕ) (u : Map by_number (Unit {0})) → len m ≡ len u → ((q : ℕ) → contains_key m q ≡ contains_key u q)
    → len (insert_all m (listed f xs)) ≡ len (insert_all u (marked xs))
len-listed f [] m u e h = e
len-listed f (x ∷ xs) m u e h =
    len-listed f xs (insert m x (f x)) (insert u x tt) (len-insert m x (f x) ∙ (λ i. cond (h x i) (e i) (e i + 1)) ∙ sym (len-insert u x tt)) (λ q.
    ap is_some (get-insert m x (f x) q) ∙ there_either (eq_by_cmp nat_cmp q x) (f x) tt (get m q) (get u q) (h q) ∙ sym (ap is_some (get-insert u x tt q)))

pub one_more : (r x : ℕ) (xs : List ℕ) → count_by (λ y. y == r) (x ∷ xs) ≡ cond (x == r) 1 0 + count_by (λ y. y == r) xs
one_more r x xs = sum_by-cons (λ y. cond (y == r) 1 0) x xs

pub has_counted : (xs : List ℕ) (r : ℕ) → has xs r ≡ nat_lt 0 (count_by (λ y. y == r) xs)
has_counted [] r = refl
has_counted (x ∷ xs) r =
    elim (x == r) as (λ b. (x == r) ≡ b → (b || has xs r) ≡ nat_lt 0 (count_by (λ y. y == r) (x ∷ xs))) [
      | true ↦ λ t.
          let more : count_by (λ y. y == r) (x ∷ xs) ≡ 1 + count_by (λ y. y == r) xs = one_more r x xs ∙ ap (λ b. cond b 1 0 + count_by (λ y. y == r) xs) t in
          sym (lt-ltb 0 _ (omega (arith, more)))
      | false ↦ λ t.
          let same : count_by (λ y. y == r) (x ∷ xs) ≡ 0 + count_by (λ y. y == r) xs = one_more r x xs ∙ ap (λ b. cond b 1 0 + count_by (λ y. y == r) xs) t in
          let back : count_by (λ y. y == r) xs ≡ count_by (λ y. y == r) (x ∷ xs) = omega (arith, same) in
          has_counted xs r ∙ ap (nat_lt 0) back
    ] refl

some_counted : (n : ℕ) → cond (nat_lt 0 n) (Some n) None ≡ positive_or_none n
some_counted zero = refl
some_counted (suc n) = ap (λ b. cond b (Some (suc n)) None) (lt-ltb 0 (suc n) (omega arith))

length-distinct : (xs : List ℕ) → length (distinct xs) ≡ len {o = by_number} (insert_all (empty {X = Unit {0}}) (marked xs))
unfolding distinct keys len
length-distinct xs = length-map (entries {o = by_number} (insert_all (empty {X = Unit {0}}) (marked xs))) (λ e. e.0)

none_each : (q : ℕ) → contains_key (empty {X = ℕ} {o = by_number}) q ≡ contains_key (empty {X = Unit {0}} {o = by_number}) q
none_each q = ap is_some (get-empty by_number q) ∙ sym (ap is_some (get-empty by_number q))

none_both : len (empty {X = ℕ} {o = by_number}) ≡ len (empty {X = Unit {0}} {o = by_number})
unfolding len entries empty
none_both = refl

pub racks_counted : (racks nodes : Map by_number ℕ) → CountsRacks racks nodes → len racks ≡ length (distinct (racks_of nodes))
unfolding on_rack
racks_counted racks nodes counts =
    let all = listed (on_rack nodes) (racks_of nodes) in
    let same : racks ≡ insert_all empty all = same_map racks (insert_all empty all) (λ r.
    counts r
    ∙ sym (get-listed (on_rack nodes) (racks_of nodes) empty r ∙ (λ i. cond (has_counted (racks_of nodes) r i) (Some (on_rack nodes r)) (get-empty by_number r i)) ∙ some_counted (on_rack nodes r))) in
    ap len same ∙ len-listed (on_rack nodes) (racks_of nodes) empty empty none_both none_each ∙ sym (length-distinct (racks_of nodes))
