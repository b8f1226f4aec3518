-- What is saved of holdings with a restored block: what was saved before, and then the block.
use Rattle.std.proofs.Common.{◌≡◌, ℕ, ◌<◌, Bool, true, false, cond, not, ◌&&◌, ◌||◌, List, [], ◌∷◌, ◌++◌, map, filter, length, Option, Some, None, is_some, refl, sym, ap, subst, ◌∙◌, ◌⊎◌, inl, inr, arith, T, Less, eqb-true, ne_eqb}
use Rattle.std.specs.Prelude.{◌==◌, is_none}
use Rattle.std.specs.Option.{option_map_or}
use Rattle.std.specs.Ordering.{is_lt, nat_cmp, ordering_then}
use Rattle.std.specs.Cmp.{tied_itself, nat_cmp_total, nat_cmp_is}
use Rattle.std.specs.FinMap.{is_sorted}
use Rattle.std.specs.FinMap.Entries.{below_all}
use Rattle.std.specs.List.{list_any}
use Rattle.std.proofs.lemmas.Bool.{or_parts}
use Rattle.std.proofs.lemmas.List.{append-nil, map-append}
use Rattle.std.proofs.lemmas.List.Folds.{list_any-append}
use Rattle.bm_base.specs.declared.replica.ReplicaId.{ReplicaId}
use Rattle.bm_base.specs.declared.replica.BlockInfo.{BlockInfo}
use Rattle.bm_base.specs.Words.{Map, by_replica, replica_at, replica_cmp, entries, get, keys, insert, insert_all, has, Holdings}
use Rattle.bm_base.specs.Maps.Conjunction.{both}
use Rattle.bm_base.proofs.ForEach.{Each, each_mapped, each_of, each_then}
use Rattle.bm_base.proofs.ListTests.{filter_append, same_again}
use Rattle.bm_base.proofs.Clusters.{eqb_turned}
use Rattle.bm_base.proofs.MapEntries.{each_entry, entry_passes, get_here, get_other}
use Rattle.bm_base.proofs.MapLaws.{get-insert}
use Rattle.bm_base.proofs.Options.{is_there}
use Rattle.bm_base.proofs.Sets.{has_keys}
use Rattle.bm_base.proofs.Ties.{number_tie}
use Rattle.bm_parts.proofs.Filters.{filter_none}
use Rattle.bm_saved.specs.Saved.{SavedBlock, entries_of_block, saved_replica, saved_transfer, saved_block, held_numbers, saved_blocks}
use Rattle.bm_saved.specs.Restoring.{replica_entry, transfer_entry, restore_block}
use Rattle.bm_saved.specs.Faults.{is_above, ascend, storages_of_block, targets_of_block, saved_block_checks, block_fault}
use Rattle.bm_saved.specs.Laws as law
use Rattle.bm_saved.proofs.Checks.{all_fail, known_by, not_empty, map_twice, mapped_back, all_greater, unbounded}
use Rattle.bm_saved.proofs.SortedEntries.{below_each, entries_after, less_by_number, same_list, same_ascending, ascend_to}
use Rattle.bm_saved.proofs.RestoredHoldings.{has_held, of_replicas, of_pending}
use Rattle.bm_saved.proofs.BlocksWithoutFaults.{either, among, each_has, ascending_distinct}
use Rattle.bm_saved.proofs.LawfulBlocks.{IsBelow, all_below}

-- Tests.

never : (x : Bool) → (x && false) ≡ false
never true = refl
never false = refl

once : (a z : Bool) → (a || (a && z)) ≡ (a && true)
once true z = refl
once false z = refl

one_more : {X : Type 0} (e : Bool) (o : Option X) (i : X) → is_some (cond e (Some i) o) ≡ (is_some o || (e && true))
one_more true None i = refl
one_more true (Some x) i = refl
one_more false None i = refl
one_more false (Some x) i = refl

none_more : (x e : Bool) → x ≡ (x || (e && false))
none_more true e = refl
none_more false true = refl
none_more false false = refl

none_is : {X : Type 0} (o : Option X) → is_none o ≡ not (is_some o)
none_is None = refl
none_is (Some x) = refl

-- what is held with the block of number e: known, or with replicas, and perhaps with transfers
mixed : (K R P e i z w : Bool) → (not i && z) ≡ false → (not i && not w) ≡ false → (((K || (e && i)) || (R || (e && not z))) || (P || (e && not w))) ≡ (((K || R) || P) || (e || false))
mixed true true true false i z w h k = refl
mixed true true true true true z w h k = refl
mixed true true true true false false w h k = refl
mixed true true true true false true w h k = cc
mixed true true false false i z w h k = refl
mixed true true false true true z w h k = refl
mixed true true false true false false w h k = refl
mixed true true false true false true w h k = cc
mixed true false true false i z w h k = refl
mixed true false true true true z w h k = refl
mixed true false true true false false w h k = refl
mixed true false true true false true w h k = cc
mixed true false false false i z w h k = refl
mixed true false false true true z w h k = refl
mixed true false false true false false w h k = refl
mixed true false false true false true w h k = cc
mixed false true true false i z w h k = refl
mixed false true true true true z w h k = refl
mixed false true true true false false w h k = refl
mixed false true true true false true w h k = cc
mixed false true false false i z w h k = refl
mixed false true false true true z w h k = refl
mixed false true false true false false w h k = refl
mixed false true false true false true w h k = cc
mixed false false true false i z w h k = refl
mixed false false true true true z w h k = refl
mixed false false true true false false w h k = refl
mixed false false true true false true w h k = cc
mixed false false false false i z w h k = refl
mixed false false false true true z w h k = refl
mixed false false false true false false w h k = refl
mixed false false false true false true w h k = cc

-- The order of replicas.

less_in_block : (b s t : ℕ) → s < t → T (is_lt (replica_cmp (replica_at b s) (replica_at b t)))
less_in_block b s t less = subst (λ r. T (is_lt (ordering_then r (nat_cmp s t)))) (sym (tied_itself nat_cmp_total b)) (less_by_number s t less)

less_by_block : (p q : ReplicaId) → p.block < q.block → T (is_lt (replica_cmp p q))
less_by_block p q less = subst (λ r. T (is_lt (ordering_then r (nat_cmp p.storage q.storage)))) (nat_cmp_is p.block q.block Less less) tt

filter_whole : {X : Type 0} (p : X → Bool) (xs : List X) → Each (λ x. p x ≡ true) xs → filter p xs ≡ xs
filter_whole p [] each = refl
filter_whole p (x ∷ xs) each = ap (λ b. cond b (x ∷ filter p xs) (filter p xs)) each.0 ∙ ap (λ ys. x ∷ ys) (filter_whole p xs each.1)

-- Entries of one block, each from a storage and a value.
module _ {X Y : Type 0} (b : ℕ) (at : Y → ℕ) (value : Y → X) where
  abbrev entry : Y → ReplicaId × X
  entry y = (replica_at b (at y), value y)

  sorted_entry : (ys : List Y) → ascend (map at ys) ≡ true → T (is_sorted replica_cmp (map entry ys))
  sorted_entry [] up = tt
  sorted_entry (y ∷ ys) up =
      both _ _
      (below_each by_replica (entry y).0 (map entry ys) (each_mapped (λ e. T (is_lt (replica_cmp (entry y).0 e.0))) entry ys (each_then (λ z. at y < at z) (λ z. T (is_lt (replica_cmp (entry y).0 (entry z).0))) ys (mapped_back (λ t. at y < t) at ys (all_greater (at y) (map at ys) up)) (λ z less. less_in_block b (at y) (at z) less))))
      (sorted_entry ys (unbounded (Some (at y)) (map at ys) up))

  module _ (m : Map by_replica X) (below : (q : ReplicaId) → is_some (get m q) ≡ true → q.block < b) (ys : List Y) (up : ascend (map at ys) ≡ true) where
    low : Each (λ x. T (below_all replica_cmp x.0 (map entry ys))) (entries m)
    low =
        each_then (λ x. get m x.0 ≡ Some x.1) (λ x. T (below_all replica_cmp x.0 (map entry ys))) (entries m) (each_entry m)
        (λ x e. below_each by_replica x.0 (map entry ys) (each_mapped (λ e. T (is_lt (replica_cmp x.0 e.0))) entry ys (each_of (λ y. T (is_lt (replica_cmp x.0 (entry y).0))) ys (λ y. less_by_block x.0 (entry y).0 (below x.0 (is_there (get m x.0) x.1 e))))))

    pub all_entries : entries (insert_all m (map entry ys)) ≡ entries m ++ map entry ys
    all_entries = entries_after by_replica m (map entry ys) (sorted_entry ys up) low

    pub own_entries_after : entries_of_block (insert_all m (map entry ys)) b ≡ map entry ys
    unfolding entries_of_block
    own_entries_after =
        ap (filter (λ e. e.0.block == b)) all_entries ∙ filter_append (λ e. e.0.block == b) (entries m) (map entry ys)
        ∙ (λ i. filter_none (λ e. e.0.block == b) (entries m) none i ++ filter_whole (λ e. e.0.block == b) (map entry ys) whole i)
      where
        none : Each (λ e. (e.0.block == b) ≡ false) (entries m)
        none = each_then (λ x. get m x.0 ≡ Some x.1) (λ e. (e.0.block == b) ≡ false) (entries m) (each_entry m) (λ x e. let less = below x.0 (is_there (get m x.0) x.1 e) in ne_eqb x.0.block b (λ is. omega (arith, less, is)))

        whole : Each (λ e. (e.0.block == b) ≡ true) (map entry ys)
        whole = each_mapped (λ e. (e.0.block == b) ≡ true) entry ys (each_of (λ _. (b == b) ≡ true) ys (λ _. same_again b))

    pub other_entries_after : (c : ℕ) → c < b → entries_of_block (insert_all m (map entry ys)) c ≡ entries_of_block m c
    unfolding entries_of_block
    other_entries_after c less =
        ap (filter (λ e. e.0.block == c)) all_entries ∙ filter_append (λ e. e.0.block == c) (entries m) (map entry ys)
        ∙ ap (λ es. filter (λ e. e.0.block == c) (entries m) ++ es) (filter_none (λ e. e.0.block == c) (map entry ys) none) ∙ append-nil (filter (λ e. e.0.block == c) (entries m))
      where
        none : Each (λ e. (e.0.block == c) ≡ false) (map entry ys)
        none = each_mapped (λ e. (e.0.block == c) ≡ false) entry ys (each_of (λ _. (b == c) ≡ false) ys (λ _. ne_eqb b c (λ is. omega (arith, less, is))))

    -- of which blocks there is an entry
    pub blocks_after : (c : ℕ) → has (map (λ q. q.block) (keys (insert_all m (map entry ys)))) c ≡ (has (map (λ q. q.block) (keys m)) c || ((b == c) && not (length ys == 0)))
    blocks_after c =
        among (insert_all m (map entry ys)) c ∙ ap (list_any (λ e. e.0.block == c)) all_entries ∙ list_any-append (λ e. e.0.block == c) (entries m) (map entry ys)
        ∙ (λ i. sym (among m c) i || any_entry ys i)
      where
        any_entry : (ys : List Y) → list_any (λ e. e.0.block == c) (map entry ys) ≡ ((b == c) && not (length ys == 0))
        any_entry [] = sym (never (b == c))
        any_entry (y ∷ ys) = ap (λ t. (b == c) || t) (any_entry ys) ∙ once (b == c) (not (length ys == 0)) ∙ ap (λ t. (b == c) && not t) (sym (not_empty (length ys)))

module _ (H : Holdings) (s : SavedBlock) (below : IsBelow H s.id) (up : ascend (storages_of_block s) ≡ true) (up_to : ascend (targets_of_block s) ≡ true) where
  -- what is saved of the block, and of the others

  info_after : (o : Option BlockInfo) → get (option_map_or (λ i. insert H.blocks s.id i) o H.blocks) s.id ≡ o
  info_after None = by (get H.blocks s.id) refl
    where
      by : (o : Option BlockInfo) → get H.blocks s.id ≡ o → get H.blocks s.id ≡ None
      by None e = e
      by (Some i) e = let less = below.blocks s.id (is_there (get H.blocks s.id) i e) in absurd (omega (arith, less))
  info_after (Some i) = get_here H.blocks s.id i

  other_info : (o : Option BlockInfo) (c : ℕ) → c < s.id → get (option_map_or (λ i. insert H.blocks s.id i) o H.blocks) c ≡ get H.blocks c
  other_info None c less = refl
  other_info (Some i) c less = get_other H.blocks s.id i c (λ e. omega (arith, less, e))

  block_after : saved_block (restore_block H s) s.id ≡ s
  unfolding saved_block restore_block
  block_after = λ i. record {
    id = s.id;
    info = info_after s.info i;
    replicas = (ap (map saved_replica) (own_entries_after s.id (λ r. r.storage) (λ r. r.marks) H.replicas below.replicas s.replicas up) ∙ map_twice saved_replica (replica_entry s.id) s.replicas ∙ same_list s.replicas) i;
    pending = (ap (map saved_transfer) (own_entries_after s.id (λ t. t.target) (λ t. t.round) H.pending below.pending s.pending up_to) ∙ map_twice saved_transfer (transfer_entry s.id) s.pending ∙ same_list s.pending) i;
  }

  other_block : (c : ℕ) → c < s.id → saved_block (restore_block H s) c ≡ saved_block H c
  unfolding saved_block restore_block
  other_block c less = λ i. record {
    id = c;
    info = other_info s.info c less i;
    replicas = map saved_replica (other_entries_after s.id (λ r. r.storage) (λ r. r.marks) H.replicas below.replicas s.replicas up c less i);
    pending = map saved_transfer (other_entries_after s.id (λ t. t.target) (λ t. t.round) H.pending below.pending s.pending up_to c less i);
  }

  other_blocks : (cs : List ℕ) → Each (λ c. c < s.id) cs → map (saved_block (restore_block H s)) cs ≡ map (saved_block H) cs
  other_blocks [] each = refl
  other_blocks (c ∷ cs) each = λ i. other_block c each.0 i ∷ other_blocks cs each.1 i

  -- of which numbers something is held

  known_after : (o : Option BlockInfo) (c : ℕ) → has (keys (option_map_or (λ i. insert H.blocks s.id i) o H.blocks)) c ≡ (has (keys H.blocks) c || ((s.id == c) && is_some o))
  known_after None c = none_more (has (keys H.blocks) c) (s.id == c)
  known_after (Some i) c =
      has_keys (insert H.blocks s.id i) c
      ∙ ap is_some (get-insert H.blocks s.id i c ∙ ap (λ b. cond b (Some i) (get H.blocks c)) (number_tie c s.id ∙ eqb_turned c s.id))
      ∙ one_more (s.id == c) (get H.blocks c) i ∙ ap (λ b. b || ((s.id == c) && true)) (sym (has_keys H.blocks c))

  numbers_after : (is_none s.info && (length s.replicas == 0)) ≡ false → (is_none s.info && not (length s.pending == 0)) ≡ false
      → (c : ℕ) → has (held_numbers (restore_block H s)) c ≡ has (held_numbers H ++ (s.id ∷ [])) c
  unfolding restore_block
  numbers_after held known c =
      has_held (restore_block H s) c
      ∙ (λ i. (known_after s.info c i || blocks_after s.id (λ r. r.storage) (λ r. r.marks) H.replicas below.replicas s.replicas up c i)
      || blocks_after s.id (λ t. t.target) (λ t. t.round) H.pending below.pending s.pending up_to c i)
      ∙ mixed (has (keys H.blocks) c) (has (of_replicas H) c) (has (of_pending H) c) (s.id == c) (is_some s.info) (length s.replicas == 0) (length s.pending == 0)
      (ap (λ b. b && (length s.replicas == 0)) (sym (none_is s.info)) ∙ held) (ap (λ b. b && not (length s.pending == 0)) (sym (none_is s.info)) ∙ known)
      ∙ sym (list_any-append (λ y. y == c) (held_numbers H) (s.id ∷ []) ∙ ap (λ b. b || ((s.id == c) || false)) (has_held H c))

  held_below : Each (λ c. c < s.id) (held_numbers H)
  held_below = each_then (λ c. has (held_numbers H) c ≡ true) (λ c. c < s.id) (held_numbers H) (each_has (held_numbers H)) (λ c h. by c (either _ _ (sym (has_held H c) ∙ h)))
    where
      by : (c : ℕ) → ((has (keys H.blocks) c || has (of_replicas H) c) ≡ true) ⊎ (has (of_pending H) c ≡ true) → c < s.id
      by c (inr e) =
          let x = entry_passes H.pending (λ e. e.0.block == c) (sym (among H.pending c) ∙ e) in
          let is = eqb-true x.0.block c x.3 in
          let less = below.pending x.0 (is_there (get H.pending x.0) x.1 x.2) in
          omega (arith, is, less)
      by c (inl e) = elim (either _ _ e) [
        | inl k ↦ below.blocks c (sym (has_keys H.blocks c) ∙ k)
        | inr r ↦
            let x = entry_passes H.replicas (λ e. e.0.block == c) (sym (among H.replicas c) ∙ r) in
            let is = eqb-true x.0.block c x.3 in
            let less = below.replicas x.0 (is_there (get H.replicas x.0) x.1 x.2) in
            omega (arith, is, less)
      ]

ascending_held : (H : Holdings) → ascend (held_numbers H) ≡ true
unfolding held_numbers
ascending_held H = ascending_distinct _

pub restored_block_is_saved : law.restored_block_is_saved
unfolding saved_blocks block_fault saved_block_checks
restored_block_is_saved C H round last s up_to none =
    let e = all_fail (saved_block_checks C round last s) none in
    let below = all_below last H s.id up_to (known_by (is_above last s.id) e.0) in
    let orders = or_parts (not (ascend (storages_of_block s))) (not (ascend (targets_of_block s))) e.1.1.1.1.0 in
    let storages = known_by (ascend (storages_of_block s)) orders.0 in
    let targets = known_by (ascend (targets_of_block s)) orders.1 in
    let G = restore_block H s in
    let each = held_below H s below storages targets in
    let numbers = same_ascending (held_numbers G) (held_numbers H ++ (s.id ∷ [])) (ascending_held G) (ascend_to None (held_numbers H) s.id (ascending_held H) refl each)
    (numbers_after H s below storages targets e.1.0 e.1.1.1.1.1.1.1.1.0) in
    ap (map (saved_block G)) numbers ∙ map-append (saved_block G) (held_numbers H) (s.id ∷ [])
    ∙ (λ i. other_blocks H s below storages targets (held_numbers H) each i ++ (block_after H s below storages targets i ∷ []))
