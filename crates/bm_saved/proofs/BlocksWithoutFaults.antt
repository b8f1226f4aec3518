-- No block that is saved of lawful holdings has a fault.
use Rattle.std.proofs.Common.{◌≡◌, ℕ, ◌<◌, Bool, true, false, cond, not, ◌&&◌, ◌||◌, List, [], ◌∷◌, map, filter, length, filter_map, Option, Some, None, is_some, refl, sym, ap, subst, ◌∙◌, ◌⊎◌, inl, inr, arith, T, eqb-true, lt-ltb, le-ltb, ne_eqb}
use Rattle.std.specs.Prelude.{◌==◌, if◌then◌else◌, nat_lt, is_none}
use Rattle.std.specs.Option.{option_map_or}
use Rattle.std.specs.List.{list_any, cons_option}
use Rattle.std.specs.FinMap.{is_sorted}
use Rattle.std.specs.FinMap.Entries.{below_all}
use Rattle.std.proofs.lemmas.Bool.{false≢true, true≢false, and_parts, or_left, or_right}
use Rattle.bm_base.specs.declared.replica.ReplicaId.{ReplicaId}
use Rattle.bm_base.specs.declared.replica.Marks.{Marks}
use Rattle.bm_base.specs.declared.replica.BlockInfo.{BlockInfo}
use Rattle.bm_base.specs.declared.limits.TheConstants.{MAX_REPLICATION}
use Rattle.bm_base.specs.Words.{Map, Set, by_number, by_replica, replica_cmp, entries, get, keys, keep, contains_key, Cluster, Holdings, has, has_some, has_repeats, distinct, insert_all, empty, is_good, is_stray, node_of, knows_storage, is_bad_replication}
use Rattle.bm_base.specs.Maps.Conjunction.{first, second}
use Rattle.bm_base.specs.Promises.Lawful.{IsLawfulHoldings}
use Rattle.bm_base.proofs.ForEach.{Each, each_then, each_both, each_filtered, each_passing, each_mapped}
use Rattle.bm_base.proofs.MapLaws.{entries-keep}
use Rattle.bm_base.proofs.MapEntries.{each_entry, entry_passes}
use Rattle.bm_base.proofs.Options.{is_there}
use Rattle.bm_base.proofs.Orderings.{less_number, lesser_storage}
use Rattle.bm_base.proofs.Sets.{has_keys, has_filter_map}
use Rattle.bm_base.proofs.Clusters.{siblings_by}
use Rattle.bm_base.proofs.ListTests.{any_map, same_again}
use Rattle.bm_saved.specs.Saved.{entries_of_block, saved_replica, saved_transfer, saved_block, held_numbers, saved_blocks}
use Rattle.bm_saved.specs.Faults.{is_above, ascend_above, ascend, has_unknown, share_a_node, has_wrong_tag, has_wrong_excess, saved_block_checks, block_fault, HaveNoBlockFaults}
use Rattle.bm_saved.specs.Laws as law
use Rattle.bm_saved.specs.Laws.{AreCommandedBy}
use Rattle.bm_saved.proofs.Checks.{none_of, map_twice, not_empty, mapped_back, no_faults, all_greater, unbounded, ascending_keys}
use Rattle.bm_saved.proofs.RestoredHoldings.{has_held, of_replicas, of_pending}

-- the storages of one block's entries, in the order of a map

above_storages : {X : Type 0} (b : ℕ) (q : ReplicaId) (es : List (ReplicaId × X)) → (q.block == b) ≡ true → T (below_all replica_cmp q es) → Each (λ e. (e.0.block == b) ≡ true) es
    → ascend (map (λ e. e.0.storage) es) ≡ true → ascend_above (Some q.storage) (map (λ e. e.0.storage) es) ≡ true
above_storages b q [] own low each up = refl
above_storages b q (e ∷ es) own low each up =
    ap (λ t. t && ascend_above (Some e.0.storage) (map (λ e. e.0.storage) es))
    (lt-ltb q.storage e.0.storage (less_number q.storage e.0.storage (lesser_storage q e.0 (eqb-true q.block b own ∙ sym (eqb-true e.0.block b each.0)) (first _ _ low)))) ∙ up

ascending_storages : {X : Type 0} (b : ℕ) (es : List (ReplicaId × X)) → T (is_sorted replica_cmp es) → Each (λ e. (e.0.block == b) ≡ true) es → ascend (map (λ e. e.0.storage) es) ≡ true
ascending_storages b [] h each = refl
ascending_storages b (e ∷ es) h each = above_storages b e.0 es each.0 (first _ _ h) each.1 (ascending_storages b es (second _ _ h) each.1)

sorted_entries : {X : Type 0} (m : Map by_replica X) → T (is_sorted replica_cmp (entries m))
unfolding entries
sorted_entries m = m.sorted

module _ {X : Type 0} (m : Map by_replica X) (b : ℕ) where
  sorted_of : T (is_sorted replica_cmp (entries_of_block m b))
  unfolding entries_of_block
  sorted_of = subst (λ es. T (is_sorted replica_cmp es)) (entries-keep by_replica m (λ q _. q.block == b)) (sorted_entries (keep m (λ q _. q.block == b)))

  own_of : Each (λ e. (e.0.block == b) ≡ true) (entries_of_block m b)
  unfolding entries_of_block
  own_of = each_passing (λ (e : ReplicaId × X). e.0.block == b) (entries m)

  there_of : Each (λ e. get m e.0 ≡ Some e.1) (entries_of_block m b)
  unfolding entries_of_block
  there_of = each_filtered (λ e. get m e.0 ≡ Some e.1) (λ e. e.0.block == b) (entries m) (each_entry m)

tag_fits : (o : Option BlockInfo) (stray : Bool) → stray ≡ not (is_some o) → (if is_some o then stray else not stray) ≡ false
tag_fits (Some i) stray e = e
tag_fits None stray e = ap not e

good_fits : (excess good : Bool) → (excess ≡ true → good ≡ true) → (excess && not good) ≡ false
good_fits true true h = refl
good_fits true false h = sym (h refl)
good_fits false good h = refl

known_fits : (b : Bool) → b ≡ true → not b ≡ false
known_fits true e = refl
known_fits false e = cc

pub either : (x y : Bool) → (x || y) ≡ true → (x ≡ true) ⊎ (y ≡ true)
either true y e = inl refl
either false y e = inr e

-- a filtered list with something in it is not empty
some_left : {X Y : Type 0} (p : X → Bool) (f : X → Y) (xs : List X) → list_any p xs ≡ true → (length (map f (filter p xs)) == 0) ≡ false
some_left p f [] e = absurd (false≢true e)
some_left p f (x ∷ xs) e =
    (elim (p x) as (λ t. (t || list_any p xs) ≡ true → (length (map f (cond t (x ∷ filter p xs) (filter p xs))) == 0) ≡ false) [
      | true ↦ λ _. not_empty (length (map f (filter p xs)))
      | false ↦ λ h. some_left p f xs h
    ]) e

pub among : {X : Type 0} (m : Map by_replica X) (b : ℕ) → has (map (λ q. q.block) (keys m)) b ≡ list_any (λ e. e.0.block == b) (entries m)
unfolding keys
among m b = any_map (λ y. y == b) (λ (q : ReplicaId). q.block) (map (λ e. e.0) (entries m)) ∙ any_map (λ (q : ReplicaId). q.block == b) (λ e. e.0) (entries m)

module _ (C : Cluster) (H : Holdings) (round : ℕ) (L : IsLawfulHoldings C H) (by_now : AreCommandedBy round H) where
  module _ (b : ℕ) where
    abbrev rs : List (ReplicaId × Marks)
    rs = entries_of_block H.replicas b

    abbrev ts : List (ReplicaId × ℕ)
    ts = entries_of_block H.pending b

    replication : (o : Option BlockInfo) → get H.blocks b ≡ o → has_some o (λ i. is_bad_replication i.repl) ≡ false
    replication None e = refl
    replication (Some i) e =
        let r = L.replicated b i e in
        (λ j. ne_eqb i.repl 0 (λ z. omega (arith, r.0, z)) j || le-ltb MAX_REPLICATION i.repl r.1 j)

    known_storages : {X : Type 0} (es : List (ReplicaId × X)) → Each (λ e. contains_key C.storages e.0.storage ≡ true) es → has_unknown C (map (λ e. e.0.storage) es) ≡ false
    unfolding knows_storage
    known_storages es each =
        none_of (λ t. not (contains_key C.storages t)) (map (λ e. e.0.storage) es)
        (each_mapped (λ t. not (contains_key C.storages t) ≡ false) (λ e. e.0.storage) es (each_then (λ e. contains_key C.storages e.0.storage ≡ true) (λ e. not (contains_key C.storages e.0.storage) ≡ false) es each (λ e. known_fits _)))

    -- replicas of one block are on different nodes
    abbrev Own : ReplicaId × Marks → Type 0
    Own e = (get H.replicas e.0 ≡ Some e.1) × ((e.0.block == b) ≡ true)

    other_node : (e f : ReplicaId × Marks) (n : ℕ) → Own e → Own f → e.0.storage < f.0.storage → node_of C e.0.storage ≡ Some n → option_map_or (λ m. m == n) (node_of C f.0.storage) false ≡ false
    other_node e f n at here less is =
        let differ : (f.0.storage == e.0.storage) ≡ false = ne_eqb f.0.storage e.0.storage (λ same. omega (arith, less, same)) in
        sym (siblings_by C e.0.storage f.0.storage
        ∙ (λ i. not (differ i) && option_map_or (λ k. option_map_or (λ m. m == k) (node_of C f.0.storage) false) (is i) false))
        ∙ L.once e.0 f.0 (is_there (get H.replicas e.0) e.1 at.0) (is_there (get H.replicas f.0) f.1 here.0) (eqb-true e.0.block b at.1 ∙ sym (eqb-true f.0.block b here.1))

    apart : (es : List (ReplicaId × Marks)) → Each Own es → ascend (map (λ f. f.0.storage) es) ≡ true → share_a_node C (map (λ f. f.0.storage) es) ≡ false
    apart [] each up = refl
    apart (e ∷ es) each up = by (node_of C e.0.storage) refl (apart es each.1 (unbounded (Some e.0.storage) (map (λ f. f.0.storage) es) up))
      where
        ns : List ℕ
        ns = filter_map (node_of C) (map (λ f. f.0.storage) es)

        by : (o : Option ℕ) → node_of C e.0.storage ≡ o → has_repeats ns ≡ false → has_repeats (cons_option o ns) ≡ false
        by None is rest = rest
        by (Some n) is rest =
            let greater = mapped_back (λ t. e.0.storage < t) (λ (f : ReplicaId × Marks). f.0.storage) es (all_greater e.0.storage (map (λ f. f.0.storage) es) up) in
            let others = each_then (λ f. Own f × (e.0.storage < f.0.storage)) (λ f. option_map_or (λ m. m == n) (node_of C f.0.storage) false ≡ false) es (each_both Own (λ f. e.0.storage < f.0.storage) es each.1 greater) (λ f h. other_node e f n each.0 h.0 h.1 is) in
            let none : has ns n ≡ false =
            has_filter_map (node_of C) (map (λ f. f.0.storage) es) n
            ∙ none_of (λ t. option_map_or (λ m. m == n) (node_of C t) false) (map (λ f. f.0.storage) es) (each_mapped (λ t. option_map_or (λ m. m == n) (node_of C t) false ≡ false) (λ f. f.0.storage) es others) in
            (λ i. none i || rest i)

    each_at : (P : ReplicaId → Marks → Type 0) → ((q : ReplicaId) (m : Marks) → get H.replicas q ≡ Some m → q.block ≡ b → P q m) → Each (λ e. P e.0 e.1) rs
    each_at P h = each_then (λ e. (get H.replicas e.0 ≡ Some e.1) × ((e.0.block == b) ≡ true)) (λ e. P e.0 e.1) rs (each_both (λ e. get H.replicas e.0 ≡ Some e.1) (λ e. (e.0.block == b) ≡ true) rs (there_of H.replicas b) (own_of H.replicas b)) (λ e at. h e.0 e.1 at.0 (eqb-true e.0.block b at.1))

    each_to : (P : ReplicaId → ℕ → Type 0) → ((q : ReplicaId) (r : ℕ) → get H.pending q ≡ Some r → q.block ≡ b → P q r) → Each (λ e. P e.0 e.1) ts
    each_to P h = each_then (λ e. (get H.pending e.0 ≡ Some e.1) × ((e.0.block == b) ≡ true)) (λ e. P e.0 e.1) ts (each_both (λ e. get H.pending e.0 ≡ Some e.1) (λ e. (e.0.block == b) ≡ true) ts (there_of H.pending b) (own_of H.pending b)) (λ e at. h e.0 e.1 at.0 (eqb-true e.0.block b at.1))

    -- a transfer is of a known block
    no_transfer : (o : Option BlockInfo) (es : List (ReplicaId × ℕ)) → Each (λ _. is_some o ≡ true) es → (is_none o && not (length (map saved_transfer es) == 0)) ≡ false
    no_transfer (Some i) es each = refl
    no_transfer None [] each = refl
    no_transfer None (e ∷ es) each = absurd (false≢true each.0)

    -- something but transfers is held of each number
    held : has (held_numbers H) b ≡ true → (is_none (get H.blocks b) && (length (map saved_replica rs) == 0)) ≡ false
    unfolding entries_of_block
    held h = by (get H.blocks b) refl (either _ _ (sym (has_held H b) ∙ h))
      where
        some : list_any (λ e. e.0.block == b) (entries H.replicas) ≡ true → (length (map saved_replica rs) == 0) ≡ false
        some e = some_left (λ e. e.0.block == b) saved_replica (entries H.replicas) e

        pends : list_any (λ e. e.0.block == b) (entries H.pending) ≡ true → is_some (get H.blocks b) ≡ true
        pends e =
            let x = entry_passes H.pending (λ e. e.0.block == b) e in
            ap (contains_key H.blocks) (sym (eqb-true x.0.block b x.3)) ∙ L.pending_known x.0 (is_there (get H.pending x.0) x.1 x.2)

        by : (o : Option BlockInfo) → get H.blocks b ≡ o → ((has (keys H.blocks) b || has (of_replicas H) b) ≡ true) ⊎ (has (of_pending H) b ≡ true) → (is_none o && (length (map saved_replica rs) == 0)) ≡ false
        by (Some i) is any = refl
        by None is (inr e) = absurd (true≢false (sym (pends (sym (among H.pending b) ∙ e)) ∙ ap is_some is))
        by None is (inl e) = elim (either _ _ e) [
          | inl k ↦ absurd (true≢false (sym (sym (has_keys H.blocks b) ∙ k) ∙ ap is_some is))
          | inr r ↦ some (sym (among H.replicas b) ∙ r)
        ]

    all_known : (has_unknown C (map (λ r. r.storage) (map saved_replica rs)) || has_unknown C (map (λ t. t.target) (map saved_transfer ts))) ≡ false
    all_known =
        (λ i. has_unknown C (map_twice (λ r. r.storage) saved_replica rs i) || has_unknown C (map_twice (λ t. t.target) saved_transfer ts i))
        ∙ (λ i. known_storages rs (each_at (λ q _. contains_key C.storages q.storage ≡ true) (λ q m e _. L.stored q (is_there (get H.replicas q) m e))) i
        || known_storages ts (each_to (λ q _. contains_key C.storages q.storage ≡ true) (λ q r e _. L.pending_stored q (is_there (get H.pending q) r e))) i)

    replicas_ascend : ascend (map (λ e. e.0.storage) rs) ≡ true
    replicas_ascend = ascending_storages b rs (sorted_of H.replicas b) (own_of H.replicas b)

    in_order : (not (ascend (map (λ r. r.storage) (map saved_replica rs))) || not (ascend (map (λ t. t.target) (map saved_transfer ts)))) ≡ false
    in_order =
        (λ i. not (ascend (map_twice (λ r. r.storage) saved_replica rs i)) || not (ascend (map_twice (λ t. t.target) saved_transfer ts i)))
        ∙ (λ i. not (replicas_ascend i) || not (ascending_storages b ts (sorted_of H.pending b) (own_of H.pending b) i))

    no_node_twice : share_a_node C (map (λ r. r.storage) (map saved_replica rs)) ≡ false
    no_node_twice = ap (share_a_node C) (map_twice (λ r. r.storage) saved_replica rs) ∙ apart rs (each_both (λ e. get H.replicas e.0 ≡ Some e.1) (λ e. (e.0.block == b) ≡ true) rs (there_of H.replicas b) (own_of H.replicas b)) replicas_ascend

    right_tags : list_any (has_wrong_tag (get H.blocks b)) (map saved_replica rs) ≡ false
    right_tags =
        none_of (has_wrong_tag (get H.blocks b)) (map saved_replica rs)
        (each_mapped (λ r. has_wrong_tag (get H.blocks b) r ≡ false) saved_replica rs
        (each_at (λ q m. (if is_some (get H.blocks b) then is_stray m.tag else not (is_stray m.tag)) ≡ false)
        (λ q m e own. tag_fits (get H.blocks b) (is_stray m.tag) (L.strays q m e ∙ ap (λ c. not (contains_key H.blocks c)) own))))

    right_excess : list_any has_wrong_excess (map saved_replica rs) ≡ false
    right_excess =
        none_of has_wrong_excess (map saved_replica rs)
        (each_mapped (λ r. has_wrong_excess r ≡ false) saved_replica rs
        (each_at (λ q m. (m.excess && not (is_good m.tag)) ≡ false) (λ q m e own. good_fits m.excess (is_good m.tag) (L.excess_is_good q m e))))

    known_pending : (is_none (get H.blocks b) && not (length (map saved_transfer ts) == 0)) ≡ false
    known_pending = no_transfer (get H.blocks b) ts (each_to (λ _ _. is_some (get H.blocks b) ≡ true) (λ q r e own. ap (contains_key H.blocks) (sym own) ∙ L.pending_known q (is_there (get H.pending q) r e)))

    no_future : list_any (λ t. nat_lt round t.round) (map saved_transfer ts) ≡ false
    no_future =
        none_of (λ t. nat_lt round t.round) (map saved_transfer ts)
        (each_mapped (λ t. nat_lt round t.round ≡ false) saved_transfer ts (each_to (λ q r. nat_lt round r ≡ false) (λ q r e own. le-ltb round r (by_now q r e))))

    pub no_fault : (last : Option ℕ) → is_above last b ≡ true → has (held_numbers H) b ≡ true → block_fault C round last (saved_block H b) ≡ None
    unfolding block_fault saved_block_checks saved_block
    no_fault last above here =
        no_faults (saved_block_checks C round last (saved_block H b))
        (ap not above, (held here, (replication (get H.blocks b) refl, (all_known, (in_order, (no_node_twice, (right_tags, (right_excess, (known_pending, (no_future, tt))))))))))

  all_fine : (last : Option ℕ) (bs : List ℕ) → ascend_above last bs ≡ true → Each (λ b. has (held_numbers H) b ≡ true) bs → HaveNoBlockFaults C round last (map (saved_block H) bs)
  unfolding saved_block
  all_fine last [] up each = tt
  all_fine last (b ∷ bs) up each = let p = and_parts (is_above last b) (ascend_above (Some b) bs) up in (no_fault b last p.0 each.0, all_fine (Some b) bs p.1 each.1)

-- each element is in the list
each_head : (x : ℕ) (xs : List ℕ) → Each (λ t. has xs t ≡ true) xs → Each (λ t. has (x ∷ xs) t ≡ true) xs
each_head x xs each = each_then (λ t. has xs t ≡ true) (λ t. has (x ∷ xs) t ≡ true) xs each (λ t h. or_right (x == t) (has xs t) h)

pub each_has : (xs : List ℕ) → Each (λ t. has xs t ≡ true) xs
each_has [] = tt
each_has (x ∷ xs) = (or_left (x == x) (has xs x) (same_again x), each_head x xs (each_has xs))

pub ascending_distinct : (xs : List ℕ) → ascend (distinct xs) ≡ true
unfolding distinct keys entries
ascending_distinct xs = let m : Set by_number = insert_all (empty {X = Unit {0}}) (map (λ x. (x, tt)) xs) in ascending_keys m.list m.sorted

pub saved_blocks_have_no_faults : law.saved_blocks_have_no_faults
unfolding saved_blocks held_numbers
saved_blocks_have_no_faults C H round L by_now = all_fine C H round L by_now None (held_numbers H) (ascending_distinct _) (each_has (held_numbers H))
