-- If a rack has two live replicas of a block after marking, no rack has lost its last one.
use Rattle.std.specs.Prelude.{◌≡◌, ℕ, zero, suc, ◌+◌, ◌-◌, ◌≤◌, Bool, true, false, not, ◌&&◌, ◌||◌, ◌==◌, nat_lt, if◌then◌else◌, List, [], ◌∷◌, filter, length, Option, Some, None, is_some, option_map, option_and_then}
use Rattle.std.specs.declared.cmp.Ordering.{Ordering}
use Rattle.std.specs.Ordering.{is_lt, nat_cmp, ordering_then}
use Rattle.std.specs.Option.{option_map_or}
use Rattle.std.specs.List.{list_any}
use Rattle.std.proofs.Common.{cond, refl, sym, ap, subst, ◌∙◌, arith}
use Rattle.std.proofs.lemmas.Bool.{eqb-true, ltb-true, lt-ltb, false≢true}
use Rattle.std.proofs.lemmas.Bool.Decides.{nat_tests}
use Rattle.std.proofs.lemmas.List.Sums.{length-filter}
use Rattle.bm_base.specs.declared.replica.BlockInfo.{BlockInfo}
use Rattle.bm_base.specs.declared.storage.StorageInfo.{StorageInfo}
use Rattle.bm_base.specs.Words.{get, Cluster, State, replica_at, has, has_repeats, least, is_live_on, rack_of, node_of, excess_cmp, excess_among, remaining, share_rack, has_rack_mate, state_at_choice}
use Rattle.bm_base.specs.Promises.Lawful.{IsOrderly}
use Rattle.bm_base.specs.Promises.NextRound.{unmarked, live_unmarked, live_marked}
use Rattle.std.proofs.lemmas.Option.{same_Some}
use Rattle.bm_base.proofs.ListTests.{any_weaker, count_without, has_filter, once_filter, same_again, and_second}
use Rattle.bm_base.proofs.Sets.{some_passing, passing_some}
use Rattle.bm_base.proofs.Membership.{has_where, once_where}
use Rattle.laws_of_states.proofs.Surpluses.{kept_of, others, kept_step, chosen_first, least_among, least_there}
use Rattle.laws_of_states.proofs.MarkedReplicas.{marked_is, marked_unmarked, unordered_dropped}
use Rattle.laws_of_rounds.proofs.DeleteReasons.{marks_unmarked, none_unknown, none_made_live}

-- The least of a list has the least class, if the class is compared first.

lt_class : (a b : ℕ) (r : Ordering) → is_lt (ordering_then (nat_cmp a b) r) ≡ true → a ≤ b
lt_class a b r e = grind (arith, nat_tests)

not_lt_class : (a b : ℕ) (r : Ordering) → is_lt (ordering_then (nat_cmp a b) r) ≡ false → b ≤ a
not_lt_class a b r e = grind (arith, nat_tests)

module _ (class : ℕ → ℕ) (rest : ℕ → ℕ → Ordering) where
  abbrev by_class : ℕ → ℕ → Ordering
  by_class s t = ordering_then (nat_cmp (class s) (class t)) (rest s t)

  -- the class of x is at most that of each of these
  abbrev IsBelow : ℕ → List ℕ → Type 0
  IsBelow x xs = (t : ℕ) → has xs t ≡ true → class x ≤ class t

  below_more : (x z : ℕ) (xs : List ℕ) → class x ≤ class z → IsBelow x xs → IsBelow x (z ∷ xs)
  below_more x z xs h all t there =
      (elim (z == t) as (λ b. (z == t) ≡ b → (b || has xs t) ≡ true → class x ≤ class t) [
        | true ↦ λ e _. subst (λ y. class x ≤ class y) (eqb-true z t e) h
        | false ↦ λ _ f. all t f
      ]) refl there

  lower_of : (b : Bool) (y z : ℕ) (xs : List ℕ) → is_lt (by_class y z) ≡ b → IsBelow y xs → IsBelow (if b then y else z) (z ∷ xs)
  lower_of true y z xs e all = below_more y z xs (lt_class (class y) (class z) (rest y z) e) all
  lower_of false y z xs e all =
      let h : class z ≤ class y = not_lt_class (class y) (class z) (rest y z) e in
      below_more z z xs (omega arith) (λ t there. let g = all t there in omega (arith, h, g))

  none_in : (xs : List ℕ) → least by_class xs ≡ None → (t : ℕ) → has xs t ≡ true → ⊥
  none_in [] e t there = false≢true there
  none_in (x ∷ xs) e t there = least_there by_class (x ∷ xs) (omega arith) e

  pub least_below : (xs : List ℕ) (x : ℕ) → least by_class xs ≡ Some x → IsBelow x xs
  least_below [] x e = λ t there. absurd (false≢true there)
  least_below (z ∷ xs) x e =
      subst (λ y. IsBelow y (z ∷ xs)) (same_Some (option_map_or (λ y. if is_lt (by_class y z) then y else z) (least by_class xs) z) x e)
      (by_rest (least by_class xs) refl (λ y. least_below xs y))
    where
      by_rest : (m : Option ℕ) → least by_class xs ≡ m → ((y : ℕ) → least by_class xs ≡ Some y → IsBelow y xs)
          → IsBelow (option_map_or (λ y. if is_lt (by_class y z) then y else z) (least by_class xs) z) (z ∷ xs)
      by_rest None f h =
          subst (λ m. IsBelow (option_map_or (λ y. if is_lt (by_class y z) then y else z) m z) (z ∷ xs)) (sym f)
          (below_more z z xs (omega arith) (λ t there. absurd (none_in xs f t there)))
      by_rest (Some y) f h =
          subst (λ m. IsBelow (option_map_or (λ y. if is_lt (by_class y z) then y else z) m z) (z ∷ xs)) (sym f)
          (lower_of (is_lt (by_class y z)) y z xs refl (h y f))

-- Racks.

share_chain_by : (p q r : Option ℕ) → option_map_or (λ a. option_map_or (λ b. b == a) q false) p false ≡ true → option_map_or (λ a. option_map_or (λ b. b == a) r false) q false ≡ true
    → option_map_or (λ a. option_map_or (λ b. b == a) r false) p false ≡ true
share_chain_by None q r e f = e
share_chain_by (Some a) None r e f = absurd (false≢true e)
share_chain_by (Some a) (Some b) r e f = subst (λ x. option_map_or (λ y. y == x) r false ≡ true) (eqb-true b a e) f

share_chain : (C : Cluster) (s t u : ℕ) → share_rack C s t ≡ true → share_rack C t u ≡ true → share_rack C s u ≡ true
unfolding share_rack
share_chain C s t u e f = share_chain_by (rack_of C s) (rack_of C t) (rack_of C u) e f

share_other_by : (p q : Option ℕ) → option_map_or (λ a. option_map_or (λ b. b == a) q false) p false ≡ true → option_map_or (λ a. option_map_or (λ b. b == a) q false) q false ≡ true
share_other_by None q e = absurd (false≢true e)
share_other_by (Some a) None e = e
share_other_by (Some a) (Some b) e = same_again b

share_other : (C : Cluster) (s t : ℕ) → share_rack C s t ≡ true → share_rack C t t ≡ true
unfolding share_rack
share_other C s t e = share_other_by (rack_of C s) (rack_of C t) e

pub share_is : (C : Cluster) (s u : ℕ) → share_rack C s u ≡ true → (r : ℕ) × (rack_of C s ≡ Some r) × (rack_of C u ≡ Some r)
unfolding share_rack
share_is C s u = elim (rack_of C s) as (λ o. option_map_or (λ r. option_map_or (λ q. q == r) (rack_of C u) false) o false ≡ true → (r : ℕ) × (o ≡ Some r) × (rack_of C u ≡ Some r)) [
  | None ↦ λ e. absurd (false≢true e)
  | Some r ↦ (elim (rack_of C u) as (λ o. option_map_or (λ q. q == r) o false ≡ true → (x : ℕ) × (Some r ≡ Some x) × (o ≡ Some x)) [
    | None ↦ λ e. absurd (false≢true e)
    | Some q ↦ λ e. (r, refl, ap Some (eqb-true q r e))
  ])
]

pub share_of : (C : Cluster) (s u r : ℕ) → rack_of C s ≡ Some r → rack_of C u ≡ Some r → share_rack C s u ≡ true
unfolding share_rack
share_of C s u r e f =
    ap (λ o. option_map_or (λ a. option_map_or (λ q. q == a) (rack_of C u) false) o false) e ∙ ap (λ o. option_map_or (λ q. q == r) o false) f ∙ same_again r

any_of_some : (p : ℕ → Bool) (xs : List ℕ) → 1 ≤ length (filter p xs) → list_any p xs ≡ true
any_of_some p [] h = absurd (omega arith)
any_of_some p (x ∷ xs) h =
    (elim (p x) as (λ b. 1 ≤ length (cond b (x ∷ filter p xs) (filter p xs)) → (b || list_any p xs) ≡ true) [
      | true ↦ λ _. refl
      | false ↦ λ g. any_of_some p xs g
    ]) h

fewer_pass : (p q : ℕ → Bool) (xs : List ℕ) → length (filter p (filter q xs)) ≤ length (filter p xs)
fewer_pass p q [] = omega arith
fewer_pass p q (x ∷ xs) =
    let rest = fewer_pass p q xs in
    elim (q x) as (λ b. length (filter p (cond b (x ∷ filter q xs) (filter q xs))) ≤ length (cond (p x) (x ∷ filter p xs) (filter p xs))) [
      | true ↦ (elim (p x) as (λ c. length (cond c (x ∷ filter p (filter q xs)) (filter p (filter q xs))) ≤ length (cond c (x ∷ filter p xs) (filter p xs))) [ true ↦ omega (arith, rest) | false ↦ rest ])
      | false ↦ (elim (p x) as (λ c. length (filter p (filter q xs)) ≤ length (cond c (x ∷ filter p xs) (filter p xs))) [ true ↦ omega (arith, rest) | false ↦ rest ])
    ]

module _ (C : Cluster) where
  mates : List ℕ → ℕ → ℕ
  mates candidates s = length (filter (share_rack C s) candidates)

  mate_count : (candidates : List ℕ) (s : ℕ) → has_rack_mate C candidates s ≡ nat_lt 1 (mates candidates s)
  unfolding has_rack_mate mates
  mate_count candidates s = ap (nat_lt 1) (sym (length-filter (share_rack C s) candidates))

  mates_are : (candidates : List ℕ) (s : ℕ) → 2 ≤ length (filter (share_rack C s) candidates) → 2 ≤ mates candidates s
  unfolding mates
  mates_are candidates s h = h

  mate_of : (candidates : List ℕ) (s : ℕ) → has_rack_mate C candidates s ≡ true → 2 ≤ mates candidates s
  mate_of candidates s e = ltb-true 1 (mates candidates s) (sym (mate_count candidates s) ∙ e)

  of_mate : (candidates : List ℕ) (s : ℕ) → 2 ≤ mates candidates s → has_rack_mate C candidates s ≡ true
  of_mate candidates s h = mate_count candidates s ∙ lt-ltb 1 (mates candidates s) h

  mate_before : (chosen candidates : List ℕ) (s : ℕ) → has_rack_mate C (kept_of chosen candidates) s ≡ true → has_rack_mate C candidates s ≡ true
  unfolding mates
  mate_before chosen candidates s e =
      let kept = mate_of (kept_of chosen candidates) s e in
      let more = fewer_pass (share_rack C s) (λ z. not (has chosen z)) candidates in
      of_mate candidates s (omega (arith, kept, more))

  other_mate : (candidates : List ℕ) (x : ℕ) → has_repeats candidates ≡ false → has candidates x ≡ true → has_rack_mate C candidates x ≡ true
      → list_any (share_rack C x) (others x candidates) ≡ true
  unfolding mates
  other_mate candidates x once there e =
      let two = mate_of candidates x e in
      let count = count_without (share_rack C x) x candidates once there in
      any_of_some (share_rack C x) (others x candidates) (one_left (share_rack C x x) (length (filter (share_rack C x) (others x candidates))) (length (filter (share_rack C x) candidates)) count two)
    where
      one_left : (b : Bool) (n m : ℕ) → n + cond b 1 0 ≡ m → 2 ≤ m → 1 ≤ n
      one_left true n m e h = omega arith
      one_left false n m e h = omega arith

  abbrev rack_class : List ℕ → ℕ → ℕ
  rack_class candidates s = if has_rack_mate C candidates s then 0 else 1

  -- the first surplus replica has a mate if another candidate has one
  first_has_mate : (candidates : List ℕ) (x t : ℕ) → least (excess_cmp C candidates) candidates ≡ Some x → has candidates t ≡ true → has_rack_mate C candidates t ≡ true
      → has_rack_mate C candidates x ≡ true
  unfolding excess_cmp
  first_has_mate candidates x t e there mate =
      let below = least_below (rack_class candidates) (λ s u. ordering_then (nat_cmp (remaining C s) (remaining C u)) (nat_cmp u s)) candidates x e t there in
      of_class (has_rack_mate C candidates x) (subst (λ b. rack_class candidates x ≤ (if b then 0 else 1)) mate below)
    where
      of_class : (b : Bool) → (if b then 0 else 1) ≤ 0 → b ≡ true
      of_class true h = refl
      of_class false h = absurd (omega arith)

  -- The rack of each candidate keeps a replica, if one that stays has a mate.
  pub rack_stays : (k : ℕ) (candidates : List ℕ) (s t : ℕ) → has_repeats candidates ≡ false → has candidates s ≡ true → share_rack C s s ≡ true
      → has (kept_of (excess_among C k candidates) candidates) t ≡ true → has_rack_mate C (kept_of (excess_among C k candidates) candidates) t ≡ true
      → list_any (share_rack C s) (kept_of (excess_among C k candidates) candidates) ≡ true
  rack_stays zero candidates s t once there self has_t mate =
      passing_some (share_rack C s) (kept_of [] candidates) s (has_filter (λ z. not (has [] z)) candidates s ∙ there) self
  rack_stays (suc k) candidates s t once there self has_t mate =
      by_least (least (excess_cmp C candidates) candidates) refl (λ x y. rack_stays k (others x candidates) y t (once_filter (λ z. not (z == x)) candidates once)) has_t mate
    where
      by_least : (m : Option ℕ) → least (excess_cmp C candidates) candidates ≡ m
          → ((x y : ℕ) → has (others x candidates) y ≡ true → share_rack C y y ≡ true
          → has (kept_of (excess_among C k (others x candidates)) (others x candidates)) t ≡ true
          → has_rack_mate C (kept_of (excess_among C k (others x candidates)) (others x candidates)) t ≡ true
          → list_any (share_rack C y) (kept_of (excess_among C k (others x candidates)) (others x candidates)) ≡ true)
          → has (kept_of (option_map_or (λ x. x ∷ excess_among C k (others x candidates)) (least (excess_cmp C candidates) candidates) []) candidates) t ≡ true
          → has_rack_mate C (kept_of (option_map_or (λ x. x ∷ excess_among C k (others x candidates)) (least (excess_cmp C candidates) candidates) []) candidates) t ≡ true
          → list_any (share_rack C s) (kept_of (option_map_or (λ x. x ∷ excess_among C k (others x candidates)) (least (excess_cmp C candidates) candidates) []) candidates) ≡ true
      by_least None e rest f g = absurd (none_there (least (excess_cmp C candidates) candidates) e)
        where
          none_there : (m : Option ℕ) → least (excess_cmp C candidates) candidates ≡ None → ⊥
          none_there m e = least_there (excess_cmp C candidates) candidates (some_long candidates s there) e
            where
              some_long : (xs : List ℕ) (z : ℕ) → has xs z ≡ true → 1 ≤ length xs
              some_long [] z h = absurd (false≢true h)
              some_long (x ∷ xs) z h = omega arith
      by_least (Some x) e rest f g =
          let kept : List ℕ = kept_of (excess_among C k (others x candidates)) (others x candidates) in
          let all : List ℕ = kept_of (option_map_or (λ y. y ∷ excess_among C k (others y candidates)) (least (excess_cmp C candidates) candidates) []) candidates in
          let is : all ≡ kept =
          ap (λ xs. kept_of xs candidates) (chosen_first C k candidates (least (excess_cmp C candidates) candidates) x e) ∙ kept_step x (excess_among C k (others x candidates)) candidates in
          let x_there : has candidates x ≡ true = least_among (excess_cmp C candidates) candidates x e in
          let has_t_kept : has kept t ≡ true = subst (λ xs. has xs t ≡ true) is f in
          let mate_kept : has_rack_mate C kept t ≡ true = subst (λ xs. has_rack_mate C xs t ≡ true) is g in
          let t_there : has candidates t ≡ true =
          and_second (not (has (option_map_or (λ y. y ∷ excess_among C k (others y candidates)) (least (excess_cmp C candidates) candidates) []) t)) (has candidates t)
          (sym (has_filter (λ z. not (has (option_map_or (λ y. y ∷ excess_among C k (others y candidates)) (least (excess_cmp C candidates) candidates) []) z)) candidates t) ∙ f) in
          let x_mate : has_rack_mate C candidates x ≡ true =
          first_has_mate candidates x t e t_there (mate_before (option_map_or (λ y. y ∷ excess_among C k (others y candidates)) (least (excess_cmp C candidates) candidates) []) candidates t g) in
          let other = some_passing (share_rack C x) (others x candidates) (other_mate candidates x once x_there x_mate) in
          let other_stays : list_any (share_rack C other.0) kept ≡ true = rest x other.0 other.1 (share_other C x other.0 other.2) has_t_kept mate_kept in
          let stays : list_any (share_rack C s) kept ≡ true =
          by_same (s == x) refl x other.0 kept other.2 other_stays (λ ne. rest x s (has_filter (λ z. not (z == x)) candidates s ∙ ap (λ b. not b && has candidates s) ne ∙ there) self has_t_kept mate_kept) in
          subst (λ xs. list_any (share_rack C s) xs ≡ true) (sym is) stays
        where
          by_same : (b : Bool) → (b ≡ b) → (x y : ℕ) (kept : List ℕ) → share_rack C x y ≡ true → list_any (share_rack C y) kept ≡ true → ((s == x) ≡ false → list_any (share_rack C s) kept ≡ true) → list_any (share_rack C s) kept ≡ true
          by_same b _ x y kept xy at_y otherwise =
              (elim (s == x) as (λ c. (s == x) ≡ c → list_any (share_rack C s) kept ≡ true) [
                | true ↦ λ is. any_weaker (share_rack C y) (share_rack C s) (λ u yu. subst (λ z. share_rack C z u ≡ true) (sym (eqb-true s x is)) (share_chain C x y u xy yu)) kept at_y
                | false ↦ λ ne. otherwise ne
              ]) refl

-- A live replica of a lawful state is on a rack.

is_some_value : {X : Type 0} (p : X → Bool) (o : Option X) → option_map_or p o false ≡ true → (x : X) × (o ≡ Some x)
is_some_value p None e = absurd (false≢true e)
is_some_value p (Some x) e = (x, refl)

some_again : {X : Type 0} (o : Option X) → is_some o ≡ true → (x : X) × (o ≡ Some x)
some_again None e = absurd (false≢true e)
some_again (Some x) e = (x, refl)

mapped_some : {X Y : Type 0} (f : X → Y) (o : Option X) (y : Y) → option_map f o ≡ Some y → (x : X) × (o ≡ Some x)
mapped_some f None y e = absurd (false≢true (ap is_some e))
mapped_some f (Some x) y e = (x, refl)

rack_known : (C : Cluster) (s r : ℕ) (i : StorageInfo) → get C.storages s ≡ Some i → get C.nodes i.node ≡ Some r → share_rack C s s ≡ true
unfolding share_rack rack_of node_of
rack_known C s r i e f =
    let is : rack_of C s ≡ Some r = ap (λ o. option_and_then (λ n. get C.nodes n) (option_map (λ j. j.node) o)) e ∙ f in
    ap (λ o. option_map_or (λ a. option_map_or (λ b. b == a) o false) o false) is ∙ same_again r

pub live_on_rack : (M : State) (b s : ℕ) → IsOrderly M → has (live_unmarked M b) s ≡ true → share_rack M.cluster s s ≡ true
live_on_rack M b s lawful h =
    let there = is_some_value (is_live_on M.cluster s) (get (unmarked M).holdings.replicas (replica_at b s)) (sym (has_where (is_live_on M.cluster) (unmarked M).holdings b s) ∙ h) in
    let was = mapped_some unordered_dropped (get M.holdings.replicas (replica_at b s)) there.0 (sym (marks_unmarked M (replica_at b s)) ∙ there.1) in
    let storage = some_again (get M.cluster.storages s) (lawful.holdings.stored (replica_at b s) (ap is_some was.1)) in
    let node = some_again (get M.cluster.nodes storage.0.node) (lawful.cluster.alive s storage.0 storage.1) in
    rack_known M.cluster s node.0 storage.0 storage.1 node.1

shared_stays : (M : State) (b s t : ℕ) → IsOrderly M → has (live_unmarked M b) s ≡ true → has (live_marked M b) t ≡ true → has_rack_mate M.cluster (live_marked M b) t ≡ true
    → list_any (share_rack M.cluster s) (live_marked M b) ≡ true
shared_stays M b s t lawful there has_t mate = by_info (get M.holdings.blocks b) refl
  where
    of_count : (k : ℕ) → live_marked M b ≡ kept_of (excess_among M.cluster k (live_unmarked M b)) (live_unmarked M b) → list_any (share_rack M.cluster s) (live_marked M b) ≡ true
    of_count k is =
        subst (λ xs. list_any (share_rack M.cluster s) xs ≡ true) (sym is)
        (rack_stays M.cluster k (live_unmarked M b) s t (once_where (is_live_on M.cluster) (unmarked M).holdings b) there (live_on_rack M b s lawful there)
        (subst (λ xs. has xs t ≡ true) is has_t) (subst (λ xs. has_rack_mate M.cluster xs t ≡ true) is mate))

    by_info : (o : Option BlockInfo) → get M.holdings.blocks b ≡ o → list_any (share_rack M.cluster s) (live_marked M b) ≡ true
    by_info None e = of_count 0 (marked_unmarked M b ∙ ap (λ xs. kept_of xs (live_unmarked M b)) (none_unknown M b e))
    by_info (Some i) e = of_count (length (live_unmarked M b) - i.repl) (marked_is M b i e)

two_pass : (p : ℕ → Bool) (xs : List ℕ) (t u : ℕ) → has_repeats xs ≡ false → has xs t ≡ true → has xs u ≡ true → p t ≡ true → p u ≡ true → (t ≡ u → ⊥) → 2 ≤ length (filter p xs)
two_pass p xs t u once at_t at_u pass_t pass_u apart =
    let count : length (filter p (others t xs)) + 1 ≡ length (filter p xs) = ap (λ b. length (filter p (others t xs)) + cond b 1 0) (sym pass_t) ∙ count_without p t xs once at_t in
    let other : has (others t xs) u ≡ true = has_filter (λ z. not (z == t)) xs u ∙ ap (λ b. not b && has xs u) (not_same (u == t) refl) ∙ at_u in
    let one = some_filtered p (others t xs) u other pass_u in
    omega (arith, count, one)
  where
    not_same : (b : Bool) → (u == t) ≡ b → (u == t) ≡ false
    not_same true e = absurd (apart (sym (eqb-true u t e)))
    not_same false e = e

    some_filtered : (q : ℕ → Bool) (ys : List ℕ) (y : ℕ) → has ys y ≡ true → q y ≡ true → 1 ≤ length (filter q ys)
    some_filtered q ys y there e = long (filter q ys) (has_filter q ys y ∙ ap (λ b. b && has ys y) e ∙ there)
      where
        long : (zs : List ℕ) → has zs y ≡ true → 1 ≤ length zs
        long [] h = absurd (false≢true h)
        long (z ∷ zs) h = omega arith

pub last_stays : (M : State) (b s t u : ℕ) → IsOrderly M → has (live_unmarked M b) s ≡ true → has (live_marked M b) t ≡ true → has (live_marked M b) u ≡ true → (t ≡ u → ⊥)
    → rack_of M.cluster t ≡ rack_of M.cluster u → (v : ℕ) × (has (live_marked M b) v ≡ true) × (rack_of M.cluster v ≡ rack_of M.cluster s)
last_stays M b s t u lawful there at_t at_u apart same =
    let C : Cluster = M.cluster in
    let rack = share_is C t t (live_on_rack M b t lawful (none_made_live M b t at_t)) in
    let mate : has_rack_mate C (live_marked M b) t ≡ true =
    of_mate C (live_marked M b) t (mates_are C (live_marked M b) t (two_pass (share_rack C t) (live_marked M b) t u (once_where (is_live_on M.cluster) (state_at_choice M).holdings b) at_t at_u (share_of C t t rack.0 rack.1 rack.1) (share_of C t u rack.0 rack.1 (sym same ∙ rack.1)) apart)) in
    let left = some_passing (share_rack C s) (live_marked M b) (shared_stays M b s t lawful there at_t mate) in
    let racks = share_is C s left.0 left.2 in
    (left.0, left.1, racks.2 ∙ sym racks.1)
