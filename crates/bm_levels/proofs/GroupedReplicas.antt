-- Marking the replicas of a list block by block marks each of them:
--     storage_searched, storage_there     a binary search for a storage, and one read
--     listed_marks, other_marks       the marks of a replica by that result
--     of_one_block, group_marks       replicas in a list of one block, and their marks
--     some_of_block, head_of_block, place_or_length, none_left      a block at a list's head
--     excess_parts, blocks_of_parts, order_behind, order_of_block      two parts of a list
--     surplus_in_order                the surplus replicas are in order
use Rattle.std.proofs.Common.{◌≡◌, ℕ, zero, suc, ◌<◌, ◌≤◌, ◌+◌, Bool, true, false, not, cond, nat_lt, List, [], ◌∷◌, ◌++◌, length, take, map, get_or, T, Some, None, inl, inr, Result, Ok, Err, is_ok, Ordering, Less, Equal, Greater, refl, sym, ap, subst, ◌∙◌, arith}
use Rattle.std.specs.Prelude.{◌==◌, ◌&&◌, ◌||◌, if◌then◌else◌, slice_get}
use Rattle.std.specs.Prelude.{position}
use Rattle.std.specs.Option.{unwrap_or}
use Rattle.std.specs.List.{list_any, position_or_len}
use Rattle.std.specs.List.Sorted.{IsSearchInRange, IsBinarySearchResult, IsNonDecreasingBy}
use Rattle.std.specs.Ordering.{nat_cmp, ordering_index, ordering_then, is_lt}
use Rattle.std.specs.FinMap.{is_sorted}
use Rattle.std.specs.FinMap.Entries.{below_all}
use Rattle.std.proofs.lemmas.Bool.{eq-eqb, eqb-true, ne_eqb, ltb-true, cases_lt, lt-ltb, or_left, or_parts}
use Rattle.std.proofs.lemmas.Bool.Decides.{nat_tests}
use Rattle.std.proofs.lemmas.Cmp.{ranked}
use Rattle.std.proofs.lemmas.List.{get_or_append_left, get_or-append-add, length-append}
use Rattle.std.proofs.lemmas.List.Sums.{prefix_len-le-length}
use Rattle.std.proofs.lemmas.List.Elements.{All-from_get_or}
use Rattle.std.proofs.lemmas.List.Folds.{list_any-append, list_any_at, list_any_none}
use Rattle.bm_base.specs.declared.replica.ReplicaId.{ReplicaId}
use Rattle.bm_base.specs.declared.replica.Marks.{Marks}
use Rattle.bm_base.specs.Maps.Conjunction.{first, second}
use Rattle.bm_base.specs.Words.{has, Map, revise, revise_at, entries, keep, Cluster, Holdings, by_replica, replica_cmp, excess_in}
use Rattle.bm_base.specs.RoundParts.{surplus}
use Rattle.bm_base.proofs.Clusters.{eqb_turned}
use Rattle.bm_base.proofs.MapLaws.{entries-keep}
use Rattle.bm_levels.specs.Changes.{as_excess, excess_on, has_replica, has_block, has_storage, AreOfBlock, AreByStorage, AreInOrder}
use Rattle.bm_levels.proofs.ListedMarks.{excess_by, excess_next, excess_end}

nowhere : ReplicaId
nowhere = record { block = 0; storage = 0 }

module _ (ps : List ReplicaId) (ascends : AreByStorage ps) (s : ℕ) where
  comparisons_ascend : IsNonDecreasingBy (λ (p : ReplicaId). ordering_index (nat_cmp p.storage s)) ps
  comparisons_ascend i j d le within =
      let up : (get_or ps i d).storage ≤ (get_or ps j d).storage = ascends i j d le within in
      grind (arith, nat_tests)

  -- a binary search finds a replica on the storage exactly if there is one
  pub storage_searched : (r : Result ℕ ℕ) → IsSearchInRange r (length ps) → IsBinarySearchResult (λ (p : ReplicaId). nat_cmp p.storage s) ps r → is_ok r ≡ has_storage ps s
  unfolding has_storage
  storage_searched (Ok at) within equal = sym (list_any_at (λ (p : ReplicaId). p.storage == s) ps at nowhere within (eq-eqb _ s (ranked _ s _ (sym (equal nowhere)))))
  storage_searched (Err at) within parted =
      sym (list_any_none (λ (p : ReplicaId). p.storage == s) ps (All-from_get_or (λ (p : ReplicaId). (p.storage == s) ≡ false) ps nowhere (λ k h.
      ne_eqb (get_or ps k nowhere).storage s (λ same.
      grind (arith, λ (lt : k < at). ranked _ s _ (sym ((parted comparisons_ascend).0 k nowhere (omega arith) lt)), λ (le : at ≤ k). ranked _ s _ (sym ((parted comparisons_ascend).1 k nowhere le h)))))))

-- if the replica at an index is on a storage, the list has the storage
pub storage_there : (ps : List ReplicaId) (s at : ℕ) (p : ReplicaId) → at < length ps → ((get_or ps at p).storage == s) ≡ true → has_storage ps s ≡ true
unfolding has_storage
storage_there ps s at p within same = list_any_at (λ (q : ReplicaId). q.storage == s) ps at p within same

-- the marks of a replica, by the result of looking for its storage in a list
module _ (ps : List ReplicaId) (s : ℕ) (m : Marks) (r : Bool) (held_is : r ≡ has_storage ps s) where
  marks_by : (b : Bool) → r ≡ b → excess_on ps s m ≡ cond b (as_excess m) m
  marks_by b is = ap (λ t. cond t (as_excess m) m) (sym held_is ∙ is)

  pub listed_marks : (new : Marks) → new ≡ as_excess m → r ≡ true → new ≡ excess_on ps s m
  listed_marks new is there = is ∙ sym (marks_by true there)

  pub other_marks : r ≡ false → m ≡ excess_on ps s m
  other_marks absent = sym (marks_by false absent)

-- a list of one block has a replica of the block on each of its storages
tests_meet : (x b h : Bool) → ((x && b) || (b && h)) ≡ (b && (x || h))
tests_meet true true h = refl
tests_meet true false h = refl
tests_meet false b h = refl

none_there : (b : Bool) → false ≡ (b && false)
none_there true = refl
none_there false = refl

module _ (b : ℕ) where
  pub of_one_block : (ps : List ReplicaId) → AreOfBlock b ps → (q : ReplicaId) → has_replica ps q ≡ ((q.block == b) && has_storage ps q.storage)
  unfolding has_replica has_storage
  of_one_block [] all q = none_there (q.block == b)
  of_one_block (p ∷ ps) all q =
      let here : (p.block == q.block) ≡ (q.block == b) = ap (λ z. z == q.block) (all 0 p (omega arith)) ∙ eqb_turned b q.block in
      let rest = of_one_block ps (λ i d lt. all (suc i) d (omega (arith, lt))) q in
      (λ i. ((p.storage == q.storage) && here i) || rest i) ∙ tests_meet (p.storage == q.storage) (q.block == b) (has_storage ps q.storage)

  both_tests : (s t : Bool) (x m : Marks) → cond s (cond t x m) m ≡ cond (s && t) x m
  both_tests true t x m = refl
  both_tests false t x m = refl

  pub group_marks : (ps : List ReplicaId) → AreOfBlock b ps → (q : ReplicaId) (m : Marks) → (if q.block == b then excess_on ps q.storage m else m) ≡ excess_by ps q m
  group_marks ps all q m = both_tests (q.block == b) (has_storage ps q.storage) (as_excess m) m ∙ ap (λ t. cond t (as_excess m) m) (sym (of_one_block ps all q))

  -- a list that is not empty, all of one block, has the block
  pub some_of_block : (ps : List ReplicaId) → 0 < length ps → AreOfBlock b ps → has_block ps b ≡ true
  unfolding has_block
  some_of_block [] some all = absurd (omega (arith, some))
  some_of_block (p ∷ ps) some all = or_left (p.block == b) (list_any (λ (q : ReplicaId). q.block == b) ps) (eq-eqb p.block b (all 0 p (omega arith)))

  -- whether a replica is of another block; the list's head ends at the first such
  abbrev pub other_block : ReplicaId → Bool
  other_block q = not (q.block == b)

  count_replica : (p : ReplicaId) (ps : List ReplicaId) → (p.block == b) ≡ true → AreOfBlock b ps → AreOfBlock b (p ∷ ps)
  count_replica p ps here all zero d lt = eqb-true p.block b here
  count_replica p ps here all (suc i) d lt = all i d (omega (arith, lt))

  pub head_of_block : (ps : List ReplicaId) → AreOfBlock b (take (position_or_len other_block ps) ps)
  head_of_block [] = λ i d lt. absurd (omega (arith, lt))
  head_of_block (p ∷ ps) =
      elim (p.block == b) as (λ t. (p.block == b) ≡ t → AreOfBlock b (take (cond (not (not t)) (1 + position_or_len other_block ps) 0) (p ∷ ps))) [
        | true ↦ λ here.
            let more : suc (position_or_len other_block ps) ≡ 1 + position_or_len other_block ps = omega arith in
            subst (λ n. AreOfBlock b (take n (p ∷ ps))) more (count_replica p (take (position_or_len other_block ps) ps) here (head_of_block ps))
        | false ↦ λ there. λ i d lt. absurd (omega (arith, lt))
      ] refl

-- the index of the first that passes, or the length
pub place_or_length : {X : Type 0} (p : X → Bool) (xs : List X) → unwrap_or (position p xs) (length xs) ≡ position_or_len p xs
place_or_length p xs =
    elim (cases_lt (position_or_len p xs) (length xs)) [
      | inl below ↦ ap (λ t. unwrap_or (cond t (Some (position_or_len p xs)) None) (length xs)) (lt-ltb (position_or_len p xs) (length xs) below)
      | inr above ↦
          let most = prefix_len-le-length (λ x. not (p x)) xs in
          let whole : length xs ≡ position_or_len p xs = omega (arith, most, above) in
          elim (nat_lt (position_or_len p xs) (length xs)) as (λ t. unwrap_or (cond t (Some (position_or_len p xs)) None) (length xs) ≡ position_or_len p xs) [ true ↦ refl | false ↦ whole ]
    ]

pub none_left : (ps : List ReplicaId) → None ≡ slice_get ps 0 → ps ≡ []
none_left [] none = refl
none_left (p ∷ ps) none = absurd (cc)

-- the marks that two parts set one after the other are those that the whole sets
pub excess_parts : (m : Map by_replica Marks) (xs ys : List ReplicaId) → revise (revise m (excess_by xs)) (excess_by ys) ≡ revise m (excess_by (xs ++ ys))
excess_parts m [] ys = ap (λ z. revise z (excess_by ys)) (excess_end m)
excess_parts m (x ∷ xs) ys =
    ap (λ z. revise z (excess_by ys)) (sym (excess_next m x xs)) ∙ excess_parts (revise_at m x as_excess) xs ys ∙ excess_next m x (xs ++ ys)

pub blocks_of_parts : (xs ys : List ReplicaId) (b : ℕ) → has_block (xs ++ ys) b ≡ false → (has_block xs b ≡ false) × (has_block ys b ≡ false)
unfolding has_block
blocks_of_parts xs ys b none =
    or_parts (list_any (λ (q : ReplicaId). q.block == b) xs) (list_any (λ (q : ReplicaId). q.block == b) ys) (sym (list_any-append (λ (q : ReplicaId). q.block == b) xs ys) ∙ none)

-- the parts of an ordered list are ordered
module _ (xs ys : List ReplicaId) (order : AreInOrder (xs ++ ys)) where
  whole_length : length (xs ++ ys) ≡ length xs + length ys
  whole_length = length-append xs ys

  pub order_behind : AreInOrder ys
  order_behind i j d le within same =
      let at : (k : ℕ) → get_or (xs ++ ys) (length xs + k) d ≡ get_or ys k d = λ k. get_or-append-add xs ys k d in
      let blocks : (k : ℕ) → (get_or (xs ++ ys) (length xs + k) d).block ≡ (get_or ys k d).block = λ k. ap (λ (q : ReplicaId). q.block) (at k) in
      let storages : (k : ℕ) → (get_or (xs ++ ys) (length xs + k) d).storage ≡ (get_or ys k d).storage = λ k. ap (λ (q : ReplicaId). q.storage) (at k) in
      let up = order (length xs + i) (length xs + j) d (omega (arith, le)) (omega (arith, within, whole_length)) (blocks i ∙ same ∙ sym (blocks j)) in
      omega (arith, up, storages i, storages j)

  pub order_of_block : (b : ℕ) → AreOfBlock b xs → AreByStorage xs
  order_of_block b all i j d le within =
      let at : (k : ℕ) → k < length xs → get_or (xs ++ ys) k d ≡ get_or xs k d = λ k lt. get_or_append_left xs ys d k lt in
      let blocks : (k : ℕ) → k < length xs → (get_or (xs ++ ys) k d).block ≡ b = λ k lt. ap (λ (q : ReplicaId). q.block) (at k lt) ∙ all k d lt in
      let low : i < length xs = omega (arith, le, within) in
      let up = order i j d le (omega (arith, within, whole_length)) (blocks i low ∙ sym (blocks j within)) in
      omega (arith, up, ap (λ (q : ReplicaId). q.storage) (at i low), ap (λ (q : ReplicaId). q.storage) (at j within))

-- if one of two replicas of a block comes first, its storage is not the greater
storage_first : (s t : ℕ) (lt eq : Bool) → nat_lt s t ≡ lt → T (is_lt (cond lt Less (cond eq Equal Greater))) → s ≤ t
storage_first s t true eq l h = let less = ltb-true s t l in omega (arith, less)
storage_first s t false true l h = absurd h
storage_first s t false false l h = absurd h

by_storage : (a b : ℕ) (lt eq : Bool) (r : Ordering) → a ≡ b → nat_lt a b ≡ lt → (a == b) ≡ eq → T (is_lt (ordering_then (cond lt Less (cond eq Equal Greater)) r)) → T (is_lt r)
by_storage a b true eq r same l e h = let less = ltb-true a b l in absurd (omega (arith, less, same))
by_storage a b false true r same l e h = h
by_storage a b false false r same l e h = absurd h

ascending_storages : (p q : ReplicaId) → T (is_lt (replica_cmp p q)) → p.block ≡ q.block → p.storage ≤ q.storage
ascending_storages p q h same =
    storage_first p.storage q.storage (nat_lt p.storage q.storage) (p.storage == q.storage) refl
    (by_storage p.block q.block (nat_lt p.block q.block) (p.block == q.block) (nat_cmp p.storage q.storage) same refl refl h)

module _ {X : Type 0} where
  abbrev named : List (ReplicaId × X) → List ReplicaId
  named es = map (λ (e : ReplicaId × X). e.0) es

  behind_it : (p : ReplicaId) (es : List (ReplicaId × X)) (i : ℕ) (d : ReplicaId) → T (below_all replica_cmp p es) → i < length (named es) → T (is_lt (replica_cmp p (get_or (named es) i d)))
  behind_it p [] i d h lt = absurd (omega (arith, lt))
  behind_it p (e ∷ es) zero d h lt = first _ _ h
  behind_it p (e ∷ es) (suc i) d h lt = behind_it p es i d (second _ _ h) (omega (arith, lt))

  sorted_in_order : (es : List (ReplicaId × X)) → T (is_sorted replica_cmp es) → AreInOrder (named es)
  sorted_in_order [] h i j d le within same = absurd (omega (arith, within))
  sorted_in_order (e ∷ es) h zero zero d le within same = omega arith
  sorted_in_order (e ∷ es) h zero (suc j) d le within same = ascending_storages e.0 (get_or (named es) j d) (behind_it e.0 es j d (first _ _ h) (omega (arith, within))) same
  sorted_in_order (e ∷ es) h (suc i) zero d le within same = absurd (omega (arith, le))
  sorted_in_order (e ∷ es) h (suc i) (suc j) d le within same = sorted_in_order es (second _ _ h) i j d (omega (arith, le)) (omega (arith, within)) same

pub surplus_in_order : (C : Cluster) (H : Holdings) → AreInOrder (surplus C H)
unfolding surplus entries
surplus_in_order C H =
    let those = keep H.replicas (λ q _. has (excess_in C H q.block) q.storage) in
    subst (λ es. AreInOrder (named es)) (entries-keep by_replica H.replicas (λ q _. has (excess_in C H q.block) q.storage)) (sorted_in_order those.list those.sorted)
