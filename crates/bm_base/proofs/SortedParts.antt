-- The wishes and the deletes of holdings are ascending by their keys.
use Rattle.std.proofs.Common.{◌≡◌, ℕ, Bool, true, false, cond, ◌&&◌, List, [], ◌∷◌, ◌++◌, map, filter, flat_map, Option, Some, None, Ordering, Less, Equal, Greater, refl, sym, ap, subst, ◌∙◌, eqb-true, T}
use Rattle.std.proofs.lemmas.List.Elements.{filter-append}
use Rattle.std.specs.Prelude.{◌==◌, if◌then◌else◌, nat_lt, option_and_then, filter_map}
use Rattle.std.specs.Ordering.{is_lt, nat_cmp, ordering_then}
use Rattle.std.specs.Cmp.{tied_itself, nat_cmp_total}
use Rattle.std.specs.List.{cons_option}
use Rattle.std.specs.FinMap.{is_sorted}
use Rattle.std.specs.FinMap.Entries.{below_all}
use Rattle.bm_base.specs.Maps.Conjunction.{both, first, second}
use Rattle.bm_base.specs.declared.replica.ReplicaId.{ReplicaId}
use Rattle.bm_base.specs.declared.replica.Marks.{Marks}
use Rattle.bm_base.specs.declared.replica.BlockInfo.{BlockInfo}
use Rattle.bm_base.specs.declared.replica.Level.{Level}
use Rattle.bm_base.specs.declared.replica.Level.TheVariants.{Highest, VeryUnderReplicated, UnderReplicated, BadlyDistributed}
use Rattle.bm_base.specs.declared.commands.Delete.{Delete}
use Rattle.bm_base.specs.Maps.Map.{Map, by_number, get, entries, keys}
use Rattle.bm_base.specs.Machine.State.{Cluster, Holdings, replica_cmp}
use Rattle.bm_base.specs.Machine.Levels.{level, is_at, level_number}
use Rattle.bm_base.specs.Machine.Transfers.{requested_count}
use Rattle.bm_base.specs.Machine.Deletes.{is_deletable, deletable_on}
use Rattle.bm_base.specs.declared.round.Wish.{Wish}
use Rattle.bm_base.specs.Ordered.{pair_cmp}
use Rattle.bm_base.specs.RoundParts.{wish_of, wish_at, wishes_by_block, deletable, wish_key, delete_key}
use Rattle.bm_base.proofs.ForEach.{Each}
use Rattle.bm_base.proofs.Orderings.{lesser_block}
use Rattle.bm_base.proofs.ListTests.{and_first}

-- The fields of a wish that exists.

wished : (t : Bool) (p : BlockInfo → Bool) (f : BlockInfo → Wish) (o : Option BlockInfo) (w : Wish) → (if t then option_and_then (λ i. if p i then Some (f i) else None) o else None) ≡ Some w
    → (i : BlockInfo) × (o ≡ Some i) × (f i ≡ w)
wished true p f None w e = cc
wished false p f o w e = cc
wished true p f (Some i) w e = by (p i) e
  where
    by : (b : Bool) → (if b then Some (f i) else None) ≡ Some w → (k : BlockInfo) × (Some i ≡ Some k) × (f k ≡ w)
    by true g = (i, refl, (cc))
    by false g = cc

pub wish_is : (C : Cluster) (H : Holdings) (urgency : Level) (b : ℕ) (w : Wish) → wish_at C H urgency b ≡ Some w → (i : BlockInfo) × (get H.blocks b ≡ Some i) × (wish_of C H urgency b i ≡ w)
unfolding wish_at
wish_is C H urgency b w e = wished (is_at urgency (level C H b)) (λ i. nat_lt 0 (requested_count C H urgency i.repl b)) (wish_of C H urgency b) (get H.blocks b) w e

pub wish_block : (C : Cluster) (H : Holdings) (urgency : Level) (b : ℕ) (w : Wish) → wish_at C H urgency b ≡ Some w → w.block ≡ b
wish_block C H urgency b w e = ap (λ v. v.block) (sym (wish_is C H urgency b w e).2)

pub filter_flat_map : {X Y : Type 0} (q : Y → Bool) (f g : X → List Y) → ((x : X) → g x ≡ filter q (f x)) → (xs : List X) → flat_map g xs ≡ filter q (flat_map f xs)
filter_flat_map q f g same [] = refl
filter_flat_map q f g same (x ∷ xs) = (λ j. same x j ++ filter_flat_map q f g same xs j) ∙ sym (filter-append q (f x) (flat_map f xs))

less_then : (r s : Ordering) → T (is_lt r) → T (is_lt (ordering_then r s))
less_then Less s h = tt
less_then Equal s h = absurd h
less_then Greater s h = absurd h

same_then : (n : ℕ) (s : Ordering) → ordering_then (nat_cmp n n) s ≡ s
same_then n s = ap (λ r. ordering_then r s) (tied_itself nat_cmp_total n)

module _ {Y : Type 0} (key : Y → ℕ × ℕ) where
  abbrev pub Ascends : List Y → Type 0
  Ascends ys = T (is_sorted pair_cmp (map (λ y. (key y, y)) ys))

  abbrev Below : ℕ × ℕ → List Y → Type 0
  Below k ys = T (below_all pair_cmp k (map (λ y. (key y, y)) ys))

  below_append : (k : ℕ × ℕ) (xs ys : List Y) → Below k xs → Below k ys → Below k (xs ++ ys)
  below_append k [] ys h g = g
  below_append k (x ∷ xs) ys h g = both _ _ (first _ _ h) (below_append k xs ys (second _ _ h) g)

  ascends_append : (xs ys : List Y) → Ascends xs → Ascends ys → Each (λ x. Below (key x) ys) xs → Ascends (xs ++ ys)
  ascends_append [] ys h g each = g
  ascends_append (x ∷ xs) ys h g each = both _ _ (below_append (key x) xs ys (first _ _ h) each.0) (ascends_append xs ys (second _ _ h) g each.1)

  -- keys with a lesser first number come before
  below_group : (n m : ℕ) (k : ℕ × ℕ) → k.0 ≡ n → T (is_lt (nat_cmp n m)) → (ys : List Y) → Each (λ y. (key y).0 ≡ m) ys → Below k ys
  below_group n m k is less [] each = tt
  below_group n m k is less (y ∷ ys) each =
      both _ _ (less_then (nat_cmp k.0 (key y).0) (nat_cmp k.1 (key y).1) (subst (λ a. T (is_lt (nat_cmp a (key y).0))) (sym is) (subst (λ c. T (is_lt (nat_cmp n c))) (sym each.0) less)))
      (below_group n m k is less ys each.1)

  module _ {I : Type 0} (f : I → List Y) (number : I → ℕ) (each : (i : I) → Each (λ y. (key y).0 ≡ number i) (f i)) (ascends : (i : I) → Ascends (f i)) where
    below_groups : (i : I) (is : List I) (k : ℕ × ℕ) → k.0 ≡ number i → T (below_all nat_cmp (number i) (map (λ j. (number j, j)) is)) → Below k (flat_map f is)
    below_groups i [] k e h = tt
    below_groups i (j ∷ is) k e h = below_append k (f j) (flat_map f is) (below_group (number i) (number j) k e (first _ _ h) (f j) (each j)) (below_groups i is k e (second _ _ h))

    each_below : (i : I) (is : List I) (ys : List Y) → Each (λ y. (key y).0 ≡ number i) ys → T (below_all nat_cmp (number i) (map (λ j. (number j, j)) is)) → Each (λ y. Below (key y) (flat_map f is)) ys
    each_below i is [] h below = tt
    each_below i is (y ∷ ys) h below = (below_groups i is (key y) h.0 below, each_below i is ys h.1 below)

    pub groups_ascend : (is : List I) → T (is_sorted nat_cmp (map (λ j. (number j, j)) is)) → Ascends (flat_map f is)
    groups_ascend [] h = tt
    groups_ascend (i ∷ is) h = ascends_append (f i) (flat_map f is) (ascends i) (groups_ascend is (second _ _ h)) (each_below i is (f i) (each i) (first _ _ h))

  -- The results for ascending numbers, each with its number, are ascending.
  module _ (n : ℕ) (f : ℕ → Option Y) (is : (b : ℕ) (y : Y) → f b ≡ Some y → key y ≡ (n, b)) where
    below_made : (b : ℕ) (bs : List ℕ) → T (below_all nat_cmp b (map (λ c. (c, c)) bs)) → Below (n, b) (filter_map f bs)
    below_made b [] h = tt
    below_made b (c ∷ bs) h = by (f c) refl (below_made b bs (second _ _ h))
      where
        by : (o : Option Y) → f c ≡ o → Below (n, b) (filter_map f bs) → Below (n, b) (cons_option o (filter_map f bs))
        by None e rest = rest
        by (Some y) e rest = both _ _ (subst (λ k. T (is_lt (pair_cmp (n, b) k))) (sym (is c y e)) (subst (λ r. T (is_lt r)) (sym (same_then n (nat_cmp b c))) (first _ _ h))) rest

    pub made_ascend : (bs : List ℕ) → T (is_sorted nat_cmp (map (λ c. (c, c)) bs)) → Ascends (filter_map f bs)
    made_ascend [] h = tt
    made_ascend (b ∷ bs) h = by (f b) refl (made_ascend bs (second _ _ h))
      where
        by : (o : Option Y) → f b ≡ o → Ascends (filter_map f bs) → Ascends (cons_option o (filter_map f bs))
        by None e rest = rest
        by (Some y) e rest = both _ _ (subst (λ k. Below k (filter_map f bs)) (sym (is b y e)) (below_made b bs (first _ _ h))) rest

    pub made_numbered : (bs : List ℕ) → Each (λ y. (key y).0 ≡ n) (filter_map f bs)
    made_numbered [] = tt
    made_numbered (b ∷ bs) = by (f b) refl (made_numbered bs)
      where
        by : (o : Option Y) → f b ≡ o → Each (λ y. (key y).0 ≡ n) (filter_map f bs) → Each (λ y. (key y).0 ≡ n) (cons_option o (filter_map f bs))
        by None e rest = rest
        by (Some y) e rest = (ap (λ k. k.0) (is b y e), rest)

-- The keys of a map are ascending.
ascending_below : {X : Type 0} (k : ℕ) (es : List (ℕ × X)) → T (below_all nat_cmp k es) → T (below_all nat_cmp k (map (λ c. (c, c)) (map (λ e. e.0) es)))
ascending_below k [] h = tt
ascending_below k (e ∷ es) h = both _ _ (first _ _ h) (ascending_below k es (second _ _ h))

ascending_list : {X : Type 0} (es : List (ℕ × X)) → T (is_sorted nat_cmp es) → T (is_sorted nat_cmp (map (λ c. (c, c)) (map (λ e. e.0) es)))
ascending_list [] h = tt
ascending_list (e ∷ es) h = both _ _ (ascending_below e.0 es (first _ _ h)) (ascending_list es (second _ _ h))

pub keys_ascend : {X : Type 0} (m : Map by_number X) → T (is_sorted nat_cmp (map (λ c. (c, c)) (keys m)))
unfolding keys entries
keys_ascend m = ascending_list m.list m.sorted

wish_key_is : (C : Cluster) (H : Holdings) (urgency : Level) (b : ℕ) (w : Wish) → wish_at C H urgency b ≡ Some w → wish_key w ≡ (level_number urgency, b)
wish_key_is C H urgency b w e = ap wish_key (sym (wish_is C H urgency b w e).2)

pub wishes_ascend : (C : Cluster) (H : Holdings) → Ascends wish_key (wishes_by_block C H)
unfolding wishes_by_block
wishes_ascend C H =
    groups_ascend wish_key (λ urgency. filter_map (wish_at C H urgency) (keys H.blocks)) level_number
    (λ urgency. made_numbered wish_key (level_number urgency) (wish_at C H urgency) (wish_key_is C H urgency) (keys H.blocks))
    (λ urgency. made_ascend wish_key (level_number urgency) (wish_at C H urgency) (wish_key_is C H urgency) (keys H.blocks) (keys_ascend H.blocks))
    (Highest ∷ VeryUnderReplicated ∷ UnderReplicated ∷ BadlyDistributed ∷ []) tt

-- Deletes are ascending.

module _ (C : Cluster) (H : Holdings) (s : ℕ) where
  abbrev made_delete : ReplicaId × Marks → Delete
  made_delete e = record { storage = s; block = e.0.block }

  abbrev wanted : ReplicaId × Marks → Bool
  wanted e = (e.0.storage == s) && is_deletable C H e.0 e.1

  below_deletes : (p : ReplicaId) (es : List (ReplicaId × Marks)) → p.storage ≡ s → T (below_all replica_cmp p es) → Below delete_key (s, p.block) (map made_delete (filter wanted es))
  below_deletes p [] at h = tt
  below_deletes p (e ∷ es) at h = by (wanted e) refl (below_deletes p es at (second _ _ h))
    where
      by : (b : Bool) → wanted e ≡ b → Below delete_key (s, p.block) (map made_delete (filter wanted es)) → Below delete_key (s, p.block) (map made_delete (cond b (e ∷ filter wanted es) (filter wanted es)))
      by false t rest = rest
      by true t rest =
          let here : e.0.storage ≡ s = eqb-true e.0.storage s (and_first (e.0.storage == s) (is_deletable C H e.0 e.1) t) in
          both _ _ (subst (λ r. T (is_lt r)) (sym (same_then s (nat_cmp p.block e.0.block))) (lesser_block p e.0 (at ∙ sym here) (first _ _ h))) rest

  deletes_on_ascend : (es : List (ReplicaId × Marks)) → T (is_sorted replica_cmp es) → Ascends delete_key (map made_delete (filter wanted es))
  deletes_on_ascend [] h = tt
  deletes_on_ascend (e ∷ es) h = by (wanted e) refl (deletes_on_ascend es (second _ _ h))
    where
      by : (b : Bool) → wanted e ≡ b → Ascends delete_key (map made_delete (filter wanted es)) → Ascends delete_key (map made_delete (cond b (e ∷ filter wanted es) (filter wanted es)))
      by false t rest = rest
      by true t rest =
          let here : e.0.storage ≡ s = eqb-true e.0.storage s (and_first (e.0.storage == s) (is_deletable C H e.0 e.1) t) in
          both _ _ (below_deletes e.0 es here (first _ _ h)) rest

  each_on : (es : List (ReplicaId × Marks)) → Each (λ (d : Delete). d.storage ≡ s) (map made_delete es)
  each_on [] = tt
  each_on (e ∷ es) = (refl, each_on es)

pub each_on_storage : (C : Cluster) (H : Holdings) (s : ℕ) → Each (λ d. d.storage ≡ s) (deletable_on C H s)
unfolding deletable_on
each_on_storage C H s = each_on C H s (filter (wanted C H s) (entries H.replicas))

deletable_on_ascends : (C : Cluster) (H : Holdings) (s : ℕ) → Ascends delete_key (deletable_on C H s)
unfolding deletable_on entries
deletable_on_ascends C H s = deletes_on_ascend C H s H.replicas.list H.replicas.sorted

pub deletes_ascend : (C : Cluster) (H : Holdings) → Ascends delete_key (deletable C H)
unfolding deletable
deletes_ascend C H = groups_ascend delete_key (deletable_on C H) (λ s. s) (each_on_storage C H) (deletable_on_ascends C H) (keys C.storages) (keys_ascend C.storages)
