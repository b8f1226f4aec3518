-- The count of a rack falls by one when a node leaves it, and grows by one when a node comes.
use Rattle.std.proofs.Common.{◌≡◌, ℕ, zero, suc, ◌+◌, ◌-◌, ◌≤◌, Bool, true, false, cond, List, [], ◌∷◌, length, map, count_by, Option, Some, None, is_some, T, arith, refl, sym, ap, subst, ◌∙◌}
use Rattle.std.specs.Prelude.{◌==◌, option_map}
use Rattle.std.specs.Option.{option_map_or}
use Rattle.std.specs.Ordering.{nat_cmp, eq_by_cmp}
use Rattle.std.specs.FinMap.{find, is_sorted}
use Rattle.std.specs.FinMap.Entries.{below_all}
use Rattle.std.proofs.lemmas.List.{length-map}
use Rattle.std.proofs.lemmas.List.Sums.{sum_by-cons, count_by-le-length}
use Rattle.std.proofs.lemmas.Bool.{eqb-true, eqb-false, eq-eqb, ne_eqb}
use Rattle.bm_base.specs.Maps.Conjunction.{first, second}
use Rattle.bm_base.specs.Maps.Map.{Map, by_number, entries, get, insert, remove, alter, revise, revise_at, len}
use Rattle.bm_base.specs.Maps.Altered.{with_value, alter_values}
use Rattle.bm_base.proofs.MapLaws.{same_map, get-insert, get-remove, get-revise, find_below}
use Rattle.bm_base.proofs.Differences.{len-insert}
use Rattle.bm_base.proofs.Ties.{number_tie}
use Rattle.bm_base.proofs.Clusters.{eqb_turned}
use Rattle.bm_base.proofs.ListTests.{same_again}
use Rattle.bm_topo.specs.Racks.{on_rack, racks_of, positive_or_none, CountsRacks, without_one}

abbrev dropped : {X : Type 0} → ℕ → ℕ → X → Option X
dropped k q x = cond (eq_by_cmp nat_cmp q k) None (Some x)

turned : (q k : ℕ) (b : Bool) → eq_by_cmp nat_cmp q k ≡ b → eq_by_cmp nat_cmp k q ≡ b
turned q k b e = number_tie k q ∙ eqb_turned k q ∙ sym (number_tie q k) ∙ e

pub count_cons : {X : Type 0} (p : X → Bool) (x : X) (xs : List X) → count_by p (x ∷ xs) ≡ cond (p x) 1 0 + count_by p xs
count_cons p x xs = sum_by-cons (λ y. cond (p y) 1 0) x xs

abbrev passes : {X : Type 0} → (X → Bool) → Option X → ℕ
passes p v = cond (option_map_or p v false) 1 0

module _ {X : Type 0} (p : X → Bool) (k : ℕ) where
  -- one entry fewer counts one fewer, if it passes
  count-dropped : (es : List (ℕ × X)) → T (is_sorted nat_cmp es) → count_by p (map (λ e. e.1) es) ≡ count_by p (map (λ e. e.1) (alter_values (dropped k) es)) + passes p (find nat_cmp k es)
  count-dropped [] h = refl
  count-dropped (e ∷ es) h =
      let rest : count_by p (map (λ e. e.1) es) ≡ count_by p (map (λ e. e.1) (alter_values (dropped k) es)) + passes p (find nat_cmp k es) = count-dropped es (second _ _ h) in
      elim (eq_by_cmp nat_cmp e.0 k) as (λ b. eq_by_cmp nat_cmp e.0 k ≡ b
      → count_by p (e.1 ∷ map (λ e. e.1) es) ≡ count_by p (map (λ e. e.1) (with_value e.0 (cond b None (Some e.1)) (alter_values (dropped k) es))) + passes p (cond (eq_by_cmp nat_cmp k e.0) (Some e.1) (find nat_cmp k es))) [
        | true ↦ λ t.
            let is : e.0 ≡ k = eqb-true e.0 k (sym (number_tie e.0 k) ∙ t) in
            let none : find nat_cmp k es ≡ None = find_below nat_cmp k es (subst (λ j. T (below_all nat_cmp j es)) is (first _ _ h)) in
            let here : eq_by_cmp nat_cmp k e.0 ≡ true = turned e.0 k true t in
            let none_passes : passes p (find nat_cmp k es) ≡ 0 = ap (passes p) none in
            let this : passes p (cond (eq_by_cmp nat_cmp k e.0) (Some e.1) (find nat_cmp k es)) ≡ cond (p e.1) 1 0 = ap (λ b. passes p (cond b (Some e.1) (find nat_cmp k es))) here in
            omega (arith, rest, none_passes, this, count_cons p e.1 (map (λ e. e.1) es))
        | false ↦ λ t.
            let this : passes p (cond (eq_by_cmp nat_cmp k e.0) (Some e.1) (find nat_cmp k es)) ≡ passes p (find nat_cmp k es) =
            ap (λ b. passes p (cond b (Some e.1) (find nat_cmp k es))) (turned e.0 k false t) in
            let now : count_by p (map (λ e. e.1) (with_value e.0 (cond false None (Some e.1)) (alter_values (dropped k) es))) ≡ cond (p e.1) 1 0 + count_by p (map (λ e. e.1) (alter_values (dropped k) es)) =
            count_cons p e.1 (map (λ e. e.1) (alter_values (dropped k) es)) in
            omega (arith, rest, this, now, count_cons p e.1 (map (λ e. e.1) es))
      ] refl

-- the nodes on a rack are the others there, and this one if it is there
pub on_rack-remove : (nodes : Map by_number ℕ) (n r : ℕ) → on_rack nodes r ≡ on_rack (remove nodes n) r + passes (λ x. x == r) (get nodes n)
unfolding on_rack get remove alter entries
on_rack-remove nodes n r = count-dropped (λ x. x == r) n nodes.list nodes.sorted

pub on_rack-remove_there : (nodes : Map by_number ℕ) (n v r : ℕ) → get nodes n ≡ Some v → on_rack nodes r ≡ on_rack (remove nodes n) r + cond (v == r) 1 0
on_rack-remove_there nodes n v r there = on_rack-remove nodes n r ∙ ap (λ w. on_rack (remove nodes n) r + passes (λ x. x == r) w) there

pub rack_has_node : (nodes : Map by_number ℕ) (n v : ℕ) → get nodes n ≡ Some v → 1 ≤ on_rack nodes v
rack_has_node nodes n v there =
    let more = on_rack-remove_there nodes n v v there in
    let one : ◌≡◌ {A = ℕ} (cond (v == v) 1 0) 1 = ap (λ b. cond b 1 0) (same_again v) in
    omega (arith, more, one)

pub on_rack-le : (nodes : Map by_number ℕ) (r : ℕ) → on_rack nodes r ≤ len nodes
unfolding on_rack len
on_rack-le nodes r =
    let few = count_by-le-length (λ x. x == r) (racks_of nodes) in
    let same : length (racks_of nodes) ≡ length (entries nodes) = length-map (entries nodes) (λ e. e.1) in
    omega (arith, few, same)

module _ {X : Type 0} (m : Map by_number X) (k : ℕ) where
  no_longer : get (remove m k) k ≡ None
  no_longer = get-remove m k k ∙ ap (λ b. cond b None (get m k)) (number_tie k k ∙ same_again k)

  pub remove_absent : get m k ≡ None → remove m k ≡ m
  remove_absent none =
      same_map (remove m k) m (λ q.
      get-remove m k q
      ∙ elim (eq_by_cmp nat_cmp q k) as (λ b. eq_by_cmp nat_cmp q k ≡ b → cond b None (get m q) ≡ get m q) [
        | true ↦ λ t. sym (ap (get m) (eqb-true q k (sym (number_tie q k) ∙ t)) ∙ none)
        | false ↦ λ t. refl
      ] refl)

  -- the replacement is added to the others
  pub insert_others : (v : X) → insert m k v ≡ insert (remove m k) k v
  insert_others v =
      same_map (insert m k v) (insert (remove m k) k v) (λ q.
      get-insert m k v q
      ∙ elim (eq_by_cmp nat_cmp q k) as (λ b. eq_by_cmp nat_cmp q k ≡ b → cond b (Some v) (get m q) ≡ cond b (Some v) (cond b None (get m q))) [ true ↦ λ t. refl | false ↦ λ t. refl ] refl
      ∙ ap (cond (eq_by_cmp nat_cmp q k) (Some v)) (sym (get-remove m k q)) ∙ sym (get-insert (remove m k) k v q))

  pub remove_inserted : (v : X) → remove (insert m k v) k ≡ remove m k
  remove_inserted v =
      same_map (remove (insert m k v) k) (remove m k) (λ q.
      get-remove (insert m k v) k q ∙ ap (cond (eq_by_cmp nat_cmp q k) None) (get-insert m k v q)
      ∙ elim (eq_by_cmp nat_cmp q k) as (λ b. cond b None (cond b (Some v) (get m q)) ≡ cond b None (get m q)) [ true ↦ refl | false ↦ refl ]
      ∙ sym (get-remove m k q))

  pub get_inserted : (v : X) → get (insert m k v) k ≡ Some v
  get_inserted v = get-insert m k v k ∙ ap (λ b. cond b (Some v) (get m k)) (number_tie k k ∙ same_again k)

  put_back : (v : X) → get m k ≡ Some v → insert (remove m k) k v ≡ m
  put_back v there =
      same_map (insert (remove m k) k v) m (λ q.
      get-insert (remove m k) k v q ∙ ap (cond (eq_by_cmp nat_cmp q k) (Some v)) (get-remove m k q)
      ∙ elim (eq_by_cmp nat_cmp q k) as (λ b. eq_by_cmp nat_cmp q k ≡ b → cond b (Some v) (cond b None (get m q)) ≡ get m q) [
        | true ↦ λ t. sym (ap (get m) (eqb-true q k (sym (number_tie q k) ∙ t)) ∙ there)
        | false ↦ λ t. refl
      ] refl)

  pub len-insert_others : (v : X) → len (insert m k v) ≡ len (remove m k) + 1
  len-insert_others v = ap len (insert_others v) ∙ len-insert (remove m k) k v ∙ ap (λ b. cond b (len (remove m k)) (len (remove m k) + 1)) (ap is_some no_longer)

  pub len-remove_there : (v : X) → get m k ≡ Some v → len m ≡ len (remove m k) + 1
  len-remove_there v there = ap len (sym (put_back v there)) ∙ len-insert (remove m k) k v ∙ ap (λ b. cond b (len (remove m k)) (len (remove m k) + 1)) (ap is_some no_longer)

-- a rack's nodes, with this one on rack v
pub on_rack-insert : (nodes : Map by_number ℕ) (n v r : ℕ) → on_rack (insert nodes n v) r ≡ on_rack (remove nodes n) r + cond (v == r) 1 0
on_rack-insert nodes n v r =
    let all = on_rack-remove (insert nodes n v) n r in
    all ∙ (λ i. on_rack (remove_inserted nodes n v i) r + passes (λ x. x == r) (get_inserted nodes n v i))

pub on_rack-insert_there : (nodes : Map by_number ℕ) (n v : ℕ) → on_rack (insert nodes n v) v ≡ on_rack (remove nodes n) v + 1
on_rack-insert_there nodes n v = on_rack-insert nodes n v v ∙ ap (λ b. on_rack (remove nodes n) v + cond b 1 0) (same_again v)

-- The counts stay right.

positive : (n : ℕ) → 1 ≤ n → positive_or_none n ≡ Some n
positive zero h = absurd (omega (arith, h))
positive (suc n) h = refl

-- if the node was not there before
pub counts-insert : (racks nodes : Map by_number ℕ) (n v : ℕ) → get nodes n ≡ None → CountsRacks racks nodes → CountsRacks (insert racks v (on_rack nodes v + 1)) (insert nodes n v)
counts-insert racks nodes n v none counts r =
    let others : on_rack (insert nodes n v) r ≡ on_rack nodes r + cond (v == r) 1 0 = on_rack-insert nodes n v r ∙ ap (λ m. on_rack m r + cond (v == r) 1 0) (remove_absent nodes n none) in
    get-insert racks v (on_rack nodes v + 1) r ∙ ap (λ b. cond b (Some (on_rack nodes v + 1)) (get racks r)) (number_tie r v)
    ∙ elim (r == v) as (λ b. (r == v) ≡ b → cond b (Some (on_rack nodes v + 1)) (get racks r) ≡ positive_or_none (on_rack (insert nodes n v) r)) [
      | true ↦ λ t.
          let is : r ≡ v = eqb-true r v t in
          let same : (v == r) ≡ true = ap (λ x. v == x) is ∙ same_again v in
          let more : on_rack (insert nodes n v) r ≡ on_rack nodes v + 1 = others ∙ ap (λ b. on_rack nodes r + cond b 1 0) same ∙ ap (λ x. on_rack nodes x + 1) is in
          sym (ap positive_or_none more ∙ positive (on_rack nodes v + 1) (omega arith))
      | false ↦ λ t.
          let apart : (v == r) ≡ false = eqb_turned v r ∙ t in
          counts r ∙ sym (ap positive_or_none (others ∙ ap (λ b. on_rack nodes r + cond b 1 0) apart ∙ omega arith))
    ] refl

-- a count of one node fewer
module _ (racks : Map by_number ℕ) (v n r : ℕ) where
  fewer_one : n ≡ 1 → get (without_one racks v n) r ≡ cond (r == v) None (get racks r)
  unfolding without_one
  fewer_one e = ap (λ b. get (cond b (remove racks v) (revise_at racks v (λ _. n - 1))) r) (eq-eqb n 1 e) ∙ get-remove racks v r ∙ ap (λ b. cond b None (get racks r)) (number_tie r v)

  fewer_many : (n ≡ 1 → ⊥) → get (without_one racks v n) r ≡ option_map (λ x. cond (r == v) (n - 1) x) (get racks r)
  unfolding without_one revise_at
  fewer_many e =
      ap (λ b. get (cond b (remove racks v) (revise racks (λ q x. cond (eq_by_cmp nat_cmp q v) (n - 1) x))) r) (ne_eqb n 1 e)
      ∙ get-revise racks (λ q x. cond (eq_by_cmp nat_cmp q v) (n - 1) x) r ∙ ap (λ b. option_map (λ x. cond b (n - 1) x) (get racks r)) (number_tie r v)

some_fewer : (n m : ℕ) → positive_or_none n ≡ Some n → (n ≡ 1 → ⊥) → n ≡ m + 1 → option_map (λ x. n - 1) (positive_or_none n) ≡ positive_or_none m
some_fewer n zero p e h = absurd (e h)
some_fewer n (suc m) p e h = ap (option_map (λ x. n - 1)) p ∙ ap Some (omega (arith, h))

unchanged : (v : Option ℕ) → option_map (λ x. x) v ≡ v
unchanged None = refl
unchanged (Some x) = refl

-- if a known node leaves
module _ (racks nodes : Map by_number ℕ) (n v : ℕ) (there : get nodes n ≡ Some v) (counts : CountsRacks racks nodes) where
  left_on : (r : ℕ) → on_rack nodes r ≡ on_rack (remove nodes n) r + cond (v == r) 1 0
  left_on r = on_rack-remove nodes n r ∙ ap (λ w. on_rack (remove nodes n) r + passes (λ x. x == r) w) there

  counts_here : (r : ℕ) → r ≡ v → get (without_one racks v (on_rack nodes v)) r ≡ positive_or_none (on_rack (remove nodes n) r)
  counts_here r is =
      let more : on_rack nodes v ≡ on_rack (remove nodes n) v + 1 = left_on v ∙ ap (λ b. on_rack (remove nodes n) v + cond b 1 0) (same_again v) in
      let here : (r == v) ≡ true = eq-eqb r v is in
      elim (on_rack nodes v == 1) as (λ b. (on_rack nodes v == 1) ≡ b → get (without_one racks v (on_rack nodes v)) r ≡ positive_or_none (on_rack (remove nodes n) r)) [
        | true ↦ λ t.
            let one : on_rack nodes v ≡ 1 = eqb-true _ 1 t in
            let none : on_rack (remove nodes n) r ≡ 0 = ap (on_rack (remove nodes n)) is ∙ omega (arith, more, one) in
            fewer_one racks v (on_rack nodes v) r one ∙ ap (λ b. cond b None (get racks r)) here ∙ sym (ap positive_or_none none)
        | false ↦ λ t.
            let many : on_rack nodes v ≡ 1 → ⊥ = eqb-false _ 1 t in
            fewer_many racks v (on_rack nodes v) r many ∙ ap (λ b. option_map (λ x. cond b (on_rack nodes v - 1) x) (get racks r)) here
            ∙ ap (λ x. option_map (λ _. on_rack nodes v - 1) (get racks x)) is ∙ ap (option_map (λ _. on_rack nodes v - 1)) (counts v)
            ∙ some_fewer (on_rack nodes v) (on_rack (remove nodes n) v) (positive _ (omega (arith, more))) many more ∙ ap (λ x. positive_or_none (on_rack (remove nodes n) x)) (sym is)
      ] refl

  counts_there : (r : ℕ) → (r == v) ≡ false → get (without_one racks v (on_rack nodes v)) r ≡ positive_or_none (on_rack (remove nodes n) r)
  counts_there r apart =
      let same : on_rack nodes r ≡ on_rack (remove nodes n) r = left_on r ∙ ap (λ b. on_rack (remove nodes n) r + cond b 1 0) (eqb_turned v r ∙ apart) ∙ omega arith in
      elim (on_rack nodes v == 1) as (λ b. (on_rack nodes v == 1) ≡ b → get (without_one racks v (on_rack nodes v)) r ≡ positive_or_none (on_rack (remove nodes n) r)) [
        | true ↦ λ t. fewer_one racks v (on_rack nodes v) r (eqb-true _ 1 t) ∙ ap (λ b. cond b None (get racks r)) apart ∙ counts r ∙ ap positive_or_none same
        | false ↦ λ t.
            fewer_many racks v (on_rack nodes v) r (eqb-false _ 1 t) ∙ ap (λ b. option_map (λ x. cond b (on_rack nodes v - 1) x) (get racks r)) apart ∙ unchanged (get racks r)
            ∙ counts r ∙ ap positive_or_none same
      ] refl

  pub counts-remove : CountsRacks (without_one racks v (on_rack nodes v)) (remove nodes n)
  counts-remove r =
      elim (r == v) as (λ b. (r == v) ≡ b → get (without_one racks v (on_rack nodes v)) r ≡ positive_or_none (on_rack (remove nodes n) r)) [
        | true ↦ λ t. counts_here r (eqb-true r v t)
        | false ↦ λ t. counts_there r t
      ] refl
