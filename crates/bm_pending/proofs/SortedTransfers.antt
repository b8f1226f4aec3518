-- Listing transfers, or expired ones, by ascending block gives them in the order of the map.
use Rattle.std.specs.Prelude.{◌≡◌, ◌<◌, ◌≤◌, ℕ, suc, Bool, true, false, cond, ◌==◌, ◌||◌, ◌++◌, List, [], ◌∷◌, length, map, filter, nat_eq, Option, None, Some, slice_index_or, ⊤, T}
use Rattle.std.specs.Ordering.{nat_cmp, eq_by_cmp, is_lt, ordering_then}
use Rattle.std.specs.declared.cmp.Ordering.TheVariants.{Less}
use Rattle.std.specs.FinMap.{find, is_sorted}
use Rattle.std.specs.FinMap.Entries.{below_all}
use Rattle.std.specs.List.{flat_map, list_any, IsDistinct, AllByRecursion}
use Rattle.std.specs.List.Sorted.{IsNonDecreasing}
use Rattle.std.specs.Option.{option_or}
use Rattle.std.proofs.Common.{refl, sym, ap, subst, ◌∙◌, arith, eqb-true, eq-eqb, true≢false}
use Rattle.std.proofs.lemmas.Bool.Decides.{nat_tests}
use Rattle.std.proofs.lemmas.List.{map-append}
use Rattle.bm_base.specs.Maps.Conjunction.{both, first, second}
use Rattle.bm_base.specs.declared.replica.ReplicaId.{ReplicaId}
use Rattle.bm_base.specs.Words.{Map, entries, get, keep, by_replica, replica_at, replica_cmp, is_expired}
use Rattle.bm_base.proofs.MapLaws.{same_map, entries-keep}
use Rattle.bm_pending.specs.PendingMap.{expired_of}
use Rattle.bm_pending.specs.Inside.{PendingTargets, map_of, targets_at}
use Rattle.bm_pending.proofs.Changes.{is_sorted-filter, get-kept}
use Rattle.bm_pending.proofs.GroupedTransfers.{transfers_to, find-transfers_to, is_sorted-transfers_to}

-- Strictly ascending numbers.

Above : ℕ → List ℕ → Type 0
Above k [] = ⊤
Above k (x ∷ xs) = (k < x) × Above k xs

pub Ascending : List ℕ → Type 0
Ascending [] = ⊤
Ascending (k ∷ ks) = Above k ks × Ascending ks

unequal : (k x : ℕ) → nat_eq k x ≡ false → k ≡ x → ⊥
unequal k x e is = true≢false (sym (eq-eqb k x is) ∙ e)

above_from : (k : ℕ) (ks : List ℕ) → ((j n : ℕ) → j < length ks → k ≤ slice_index_or ks j n) → AllByRecursion (λ x. nat_eq k x ≡ false) ks → Above k ks
unfolding Above
above_from k [] up d = tt
above_from k (x ∷ xs) up d =
    let least : k ≤ x = up 0 k (omega arith) in
    (omega (arith, least, unequal k x d.0), above_from k xs (λ j n lt. up (suc j) n (omega (arith, lt))) d.1)

pub ascending_from : (ks : List ℕ) → IsNonDecreasing ks → IsDistinct nat_eq ks → Ascending ks
unfolding Ascending IsDistinct
ascending_from [] up d = tt
ascending_from (k ∷ ks) up d =
    (above_from k ks (λ j n lt. up 0 (suc j) n (omega arith) (omega (arith, lt))) d.0, ascending_from ks (λ i j n le lt. up (suc i) (suc j) n (omega (arith, le)) (omega (arith, lt))) d.1)

-- The transfers of blocks in turn, each with ascending targets.

module _ (targets : ℕ → List (ℕ × ℕ)) (rise : (b : ℕ) → T (is_sorted nat_cmp (targets b))) where
  abbrev transfers_of : List ℕ → List (ReplicaId × ℕ)
  transfers_of ks = flat_map (λ b. transfers_to b (targets b)) ks

  below_appended : (p : ReplicaId) (xs ys : List (ReplicaId × ℕ)) → T (below_all replica_cmp p xs) → T (below_all replica_cmp p ys) → T (below_all replica_cmp p (xs ++ ys))
  below_appended p [] ys h k = k
  below_appended p (x ∷ xs) ys h k = both _ _ (first _ _ h) (below_appended p xs ys (second _ _ h) k)

  less : (a b : ℕ) → a < b → nat_cmp a b ≡ Less
  less a b h = grind (arith, nat_tests, h)

  below_one : (k s b : ℕ) (ts : List (ℕ × ℕ)) → k < b → T (below_all replica_cmp (replica_at k s) (transfers_to b ts))
  below_one k s b [] h = tt
  below_one k s b (t ∷ ts) h = both _ _ (subst (λ r. T (is_lt (ordering_then r (nat_cmp s t.0)))) (sym (less k b h)) tt) (below_one k s b ts h)

  below_rest : (k s : ℕ) (ks : List ℕ) → Above k ks → T (below_all replica_cmp (replica_at k s) (transfers_of ks))
  unfolding Above
  below_rest k s [] h = tt
  below_rest k s (x ∷ xs) h = below_appended (replica_at k s) (transfers_to x (targets x)) (transfers_of xs) (below_one k s x (targets x) h.0) (below_rest k s xs h.1)

  sorted_appended : (k : ℕ) (ts : List (ℕ × ℕ)) (ys : List (ReplicaId × ℕ)) → T (is_sorted replica_cmp (transfers_to k ts)) → ((s : ℕ) → T (below_all replica_cmp (replica_at k s) ys)) → T (is_sorted replica_cmp ys)
      → T (is_sorted replica_cmp (transfers_to k ts ++ ys))
  sorted_appended k [] ys h under up = up
  sorted_appended k (t ∷ ts) ys h under up = both _ _ (below_appended (replica_at k t.0) (transfers_to k ts) ys (first _ _ h) (under t.0)) (sorted_appended k ts ys (second _ _ h) under up)

  is_sorted-transfers_of : (ks : List ℕ) → Ascending ks → T (is_sorted replica_cmp (transfers_of ks))
  unfolding Ascending
  is_sorted-transfers_of [] h = tt
  is_sorted-transfers_of (k ∷ ks) h =
      sorted_appended k (targets k) (transfers_of ks) (is_sorted-transfers_to k (targets k) (rise k)) (λ s. below_rest k s ks h.0) (is_sorted-transfers_of ks h.1)

  find_appended : (q : ReplicaId) (xs ys : List (ReplicaId × ℕ)) → find replica_cmp q (xs ++ ys) ≡ option_or (find replica_cmp q xs) (find replica_cmp q ys)
  find_appended q [] ys = refl
  find_appended q (x ∷ xs) ys =
      ap (cond (eq_by_cmp replica_cmp q x.0) (Some x.1)) (find_appended q xs ys)
      ∙ elim (eq_by_cmp replica_cmp q x.0) as (λ b. cond b (Some x.1) (option_or (find replica_cmp q xs) (find replica_cmp q ys)) ≡ option_or (cond b (Some x.1) (find replica_cmp q xs)) (find replica_cmp q ys)) [ true ↦ refl | false ↦ refl ]

  either_way : (t : Bool) (w : Option ℕ) → ◌≡◌ {A = Option ℕ} None w → cond t w None ≡ w
  either_way true w e = refl
  either_way false w e = e

  found_once : (b t : Bool) (v w : Option ℕ) → (b ≡ true → v ≡ w) → option_or (cond b v None) (cond t w None) ≡ cond (b || t) w None
  found_once true t None w e = either_way t w (e refl)
  found_once true t (Some x) w e = e refl
  found_once false t v w e = refl

  find-transfers_of : (ks : List ℕ) (q : ReplicaId) → find replica_cmp q (transfers_of ks) ≡ cond (list_any (nat_eq q.block) ks) (find nat_cmp q.storage (targets q.block)) None
  find-transfers_of [] q = refl
  find-transfers_of (k ∷ ks) q =
      find_appended q (transfers_to k (targets k)) (transfers_of ks)
      ∙ (λ j. option_or (find-transfers_to k (targets k) q j) (find-transfers_of ks q j))
      ∙ found_once (q.block == k) (list_any (nat_eq q.block) ks) (find nat_cmp q.storage (targets k)) (find nat_cmp q.storage (targets q.block)) (λ e. ap (λ b. find nat_cmp q.storage (targets b)) (sym (eqb-true q.block k e)))

  -- if no block but these has targets
  module _ (ks : List ℕ) (ascending : Ascending ks) (all : (b : ℕ) → list_any (nat_eq b) ks ≡ false → targets b ≡ []) where
    in_order : Map by_replica ℕ
    in_order = record { list = transfers_of ks; sorted = is_sorted-transfers_of ks ascending }

    covered : (s : ℕ) (t : Bool) (ts : List (ℕ × ℕ)) → (t ≡ false → ts ≡ []) → cond t (find nat_cmp s ts) None ≡ find nat_cmp s ts
    covered s true ts none = refl
    covered s false ts none = ap (find nat_cmp s) (sym (none refl))

    pub transfers_of-entries : (m : Map by_replica ℕ) → ((q : ReplicaId) → get m q ≡ find nat_cmp q.storage (targets q.block)) → transfers_of ks ≡ entries m
    unfolding in_order entries get
    transfers_of-entries m is =
        ap entries (same_map in_order m (λ q. find-transfers_of ks q ∙ covered q.storage (list_any (nat_eq q.block) ks) (targets q.block) (all q.block) ∙ sym (is q)))

-- the transfers to these targets, without their rounds
abbrev pub named : ℕ → List (ℕ × ℕ) → List ReplicaId
named b ts = map (λ t. replica_at b t.0) ts

module _ (es : List (ℕ × PendingTargets)) (rise : (b : ℕ) → T (is_sorted nat_cmp (targets_at es b))) where
  -- the expired transfers, without their rounds
  module _ (pend r : ℕ) where
    abbrev old : ℕ → List (ℕ × ℕ)
    old b = filter (λ e. is_expired pend r e.1) (targets_at es b)

    names_to : (b : ℕ) (ts : List (ℕ × ℕ)) → map (λ (e : ReplicaId × ℕ). e.0) (transfers_to b ts) ≡ named b ts
    names_to b [] = refl
    names_to b (t ∷ ts) = ap (λ xs. replica_at b t.0 ∷ xs) (names_to b ts)

    names_of : (ks : List ℕ) → map (λ (e : ReplicaId × ℕ). e.0) (flat_map (λ b. transfers_to b (old b)) ks) ≡ flat_map (λ b. named b (old b)) ks
    names_of [] = refl
    names_of (k ∷ ks) = map-append (λ (e : ReplicaId × ℕ). e.0) (transfers_to k (old k)) (flat_map (λ b. transfers_to b (old b)) ks) ∙ (λ j. names_to k (old k) j ++ names_of ks j)

    pub all-expired : (ks : List ℕ) → Ascending ks → ((b : ℕ) → list_any (nat_eq b) ks ≡ false → old b ≡ []) → flat_map (λ b. named b (old b)) ks ≡ expired_of pend r (map_of es)
    all-expired ks ascending all =
        sym (names_of ks)
        ∙ ap (map (λ (e : ReplicaId × ℕ). e.0))
        (transfers_of-entries old (λ b. is_sorted-filter (λ _ t. is_expired pend r t) (targets_at es b) (rise b)) ks ascending all (keep (map_of es) (λ q t. is_expired pend r t)) (get-kept es (λ _ t. is_expired pend r t) rise)
        ∙ entries-keep by_replica (map_of es) (λ q t. is_expired pend r t))
