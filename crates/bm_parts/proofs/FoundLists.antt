-- A round part has exactly the elements that a round finds, each once and in order.
use Rattle.std.proofs.Common.{◌≡◌, ℕ, ◌-◌, Bool, true, false, ◌&&◌, ◌||◌, List, [], ◌∷◌, ◌++◌, map, filter, flat_map, Option, Some, None, is_some, refl, sym, ap, ◌∙◌, eqb-true, eq-eqb}
use Rattle.std.specs.Prelude.{◌==◌, nat_le, nat_lt, if◌then◌else◌, option_and_then, filter_map}
use Rattle.std.specs.Ordering.{eq_by_cmp}
use Rattle.std.specs.List.{list_any, cons_option}
use Rattle.std.proofs.lemmas.Option.{same_Some}
use Rattle.std.proofs.lemmas.Bool.{and_parts, and_from, or_left, or_right, false≢true}
use Rattle.std.proofs.lemmas.List.Folds.{list_any-append}
use Rattle.bm_base.specs.declared.replica.ReplicaId.{ReplicaId}
use Rattle.bm_base.specs.declared.replica.Marks.{Marks}
use Rattle.bm_base.specs.declared.replica.BlockInfo.{BlockInfo}
use Rattle.bm_base.specs.declared.replica.Level.{Level}
use Rattle.bm_base.specs.declared.replica.Level.TheVariants.{Highest, VeryUnderReplicated, UnderReplicated, BadlyDistributed, NoUsableReplica}
use Rattle.bm_base.specs.declared.commands.Delete.{Delete}
use Rattle.bm_base.specs.declared.round.Wish.{Wish}
use Rattle.bm_base.specs.declared.round.RoundPart.{RoundPart}
use Rattle.bm_base.specs.Words.{Map, by_number, get, entries, keys, contains_key, Cluster, Holdings, by_replica, replica_at, replica_cmp, has, level, is_at, excess_in, without_expired, without_unordered_excess, is_deletable, deletable_on}
use Rattle.bm_base.specs.LevelNumbers.{level_of_number, level_again}
use Rattle.bm_base.specs.Ordered.{by_pair, pair_cmp}
use Rattle.bm_base.specs.RoundParts.{holdings_at_choice, expired, surplus, wish_of, wish_at, wishes_by_block, deletable, round_part, wish_key, delete_key}
use Rattle.bm_base.proofs.ForEach.{Each, each_mapped, each_then, each_both, each_filtered, each_passing, each_appended, each_flat}
use Rattle.bm_base.proofs.MapEntries.{key_itself, each_entry, each_key, passes_entry}
use Rattle.bm_base.proofs.Options.{is_there, there}
use Rattle.bm_base.proofs.SortedParts.{wish_is, wishes_ascend, deletes_ascend}
use Rattle.bm_parts.specs.Findings as law
use Rattle.bm_parts.specs.Findings.{IsGathered, IsExpired, IsSurplus, IsRequested, IsDeletable, IsFound}
use Rattle.bm_parts.proofs.Filters.{any_shown, all_each}
use Rattle.bm_base.proofs.ListTests.{any_map}
use Rattle.bm_parts.proofs.JoinedReplicas.{listed_ascends}
use Rattle.bm_parts.proofs.EqualLists.{gathered_alike}

-- The keys of the entries that pass, in a map by replica.

module _ {X : Type 0} (m : Map by_replica X) (p : ReplicaId × X → Bool) where
  abbrev passing_keys : List ReplicaId
  passing_keys = map (λ e. e.0) (filter p (entries m))

  keys_gathered : (P : ReplicaId → Type 0) → ((q : ReplicaId) (x : X) → get m q ≡ Some x → p (q, x) ≡ true → P q) → ((q : ReplicaId) → P q → (x : X) × (get m q ≡ Some x) × (p (q, x) ≡ true))
      → IsGathered by_replica (λ (q : ReplicaId). q) P passing_keys
  unfolding entries
  keys_gathered P means shown = record {
    ascends = listed_ascends replica_cmp (λ (e : ReplicaId × X). e.0) p (λ q. q) (λ _. refl) m.list m.sorted;
    only =
        all_each P passing_keys
        (each_mapped P (λ (e : ReplicaId × X). e.0) (filter p (entries m))
        (each_then (λ e. (get m e.0 ≡ Some e.1) × (p e ≡ true)) (λ e. P e.0) (filter p (entries m))
        (each_both (λ e. get m e.0 ≡ Some e.1) (λ e. p e ≡ true) (filter p (entries m)) (each_filtered (λ e. get m e.0 ≡ Some e.1) p (entries m) (each_entry m)) (each_passing p (entries m)))
        (λ e h. means e.0 e.1 h.0 h.1)));
    all = λ q is.
        let x = shown q is in
        any_shown (λ (k : ReplicaId). eq_by_cmp replica_cmp q k) (λ (e : ReplicaId × X). e.0) p (entries m)
        ∙ passes_entry m (λ e. p e && eq_by_cmp replica_cmp q e.0) q x.0 x.1 (and_from (p (q, x.0)) (eq_by_cmp replica_cmp q q) x.2 (key_itself by_replica q));
  }

expired_gathered : (pend r : ℕ) (H : Holdings) → IsGathered by_replica (λ (q : ReplicaId). q) (IsExpired pend r H) (expired pend r H)
unfolding expired
expired_gathered pend r H = keys_gathered H.pending (λ e. nat_le pend (r - e.1)) (IsExpired pend r H) (λ q t there old. (t, there, old)) (λ q is. is)

surplus_gathered : (C : Cluster) (H : Holdings) → IsGathered by_replica (λ (q : ReplicaId). q) (IsSurplus C H) (surplus C H)
unfolding surplus
surplus_gathered C H =
    keys_gathered H.replicas (λ e. has (excess_in C H e.0.block) e.0.storage) (IsSurplus C H) (λ q m there many. (is_there (get H.replicas q) m there, many))
    (λ q is. let m = there (get H.replicas q) is.0 in (m.0, m.1, is.1))

-- Deletes.

pub any_flat_at : {Y : Type 0} (t : Y → Bool) (f : ℕ → List Y) (ss : List ℕ) (s : ℕ) → has ss s ≡ true → list_any t (f s) ≡ true → list_any t (flat_map f ss) ≡ true
any_flat_at t f [] s e h = cc
any_flat_at t f (u ∷ ss) s e h = list_any-append t (f u) (flat_map f ss) ∙ by_test (u == s) refl e (any_flat_at t f ss s)
  where
    by_test : (b : Bool) → (u == s) ≡ b → (b || has ss s) ≡ true → (has ss s ≡ true → list_any t (f s) ≡ true → list_any t (flat_map f ss) ≡ true) → (list_any t (f u) || list_any t (flat_map f ss)) ≡ true
    by_test true is e rest = or_left (list_any t (f u)) (list_any t (flat_map f ss)) (ap (λ k. list_any t (f k)) (eqb-true u s is) ∙ h)
    by_test false is e rest = or_right (list_any t (f u)) (list_any t (flat_map f ss)) (rest e h)

has_key : {X : Type 0} (m : Map by_number X) (b : ℕ) (x : X) → get m b ≡ Some x → has (keys m) b ≡ true
unfolding keys
has_key m b x e = any_map (λ y. y == b) (λ e. e.0) (entries m) ∙ passes_entry m (λ e. e.0 == b) b x e (eq-eqb b b refl)

module _ (C : Cluster) (H : Holdings) where
  deletes_on : (s : ℕ) → contains_key C.storages s ≡ true → Each (IsDeletable C H) (deletable_on C H s)
  unfolding deletable_on
  deletes_on s known =
      let test : ReplicaId × Marks → Bool = λ e. (e.0.storage == s) && is_deletable C H e.0 e.1 in
      let found : ReplicaId × Marks → Type 0 = λ e. get H.replicas e.0 ≡ Some e.1 in
      each_mapped (IsDeletable C H) (λ e. record { storage = s; block = e.0.block }) (filter test (entries H.replicas))
      (each_then (λ e. found e × (test e ≡ true)) (λ e. IsDeletable C H (record { storage = s; block = e.0.block })) (filter test (entries H.replicas))
      (each_both found (λ e. test e ≡ true) (filter test (entries H.replicas)) (each_filtered found test (entries H.replicas) (each_entry H.replicas)) (each_passing test (entries H.replicas)))
      (λ e h.
      let two = and_parts (e.0.storage == s) (is_deletable C H e.0 e.1) h.1 in
      let at : e.0.storage ≡ s = eqb-true e.0.storage s two.0 in
      (known, (e.1, ap (λ t. get H.replicas (replica_at e.0.block t)) (sym at) ∙ h.0, ap (λ t. is_deletable C H (replica_at e.0.block t) e.1) (sym at) ∙ two.1))))

  deletes_gathered : IsGathered by_pair delete_key (IsDeletable C H) (deletable C H)
  unfolding deletable deletable_on
  deletes_gathered = record {
    ascends = deletes_ascend C H;
    only =
        all_each (IsDeletable C H) (flat_map (deletable_on C H) (keys C.storages))
        (each_flat (IsDeletable C H) (deletable_on C H) (keys C.storages)
        (each_then (λ s. contains_key C.storages s ≡ true) (λ s. Each (IsDeletable C H) (deletable_on C H s)) (keys C.storages) (each_key C.storages) deletes_on));
    all = λ d is.
        let i = there (get C.storages d.storage) is.0 in
        let t : Delete → Bool = λ y. eq_by_cmp pair_cmp (delete_key d) (delete_key y) in
        let test : ReplicaId × Marks → Bool = λ e. (e.0.storage == d.storage) && is_deletable C H e.0 e.1 in
        let made : ReplicaId × Marks → Delete = λ e. record { storage = d.storage; block = e.0.block } in
        any_flat_at t (deletable_on C H) (keys C.storages) d.storage (has_key C.storages d.storage i.0 i.1)
        (any_shown t made test (entries H.replicas)
        ∙ passes_entry H.replicas (λ e. test e && t (made e)) (replica_at d.block d.storage) is.1.0 is.1.1
        (and_from (test (replica_at d.block d.storage, is.1.0)) (t d) (and_from (d.storage == d.storage) _ (eq-eqb d.storage d.storage refl) is.1.2) (key_itself by_pair (delete_key d))));
  }

-- Wishes.

any_made : (t : Wish → Bool) (f : ℕ → Option Wish) (bs : List ℕ) (b : ℕ) (w : Wish) → has bs b ≡ true → f b ≡ Some w → t w ≡ true → list_any t (filter_map f bs) ≡ true
any_made t f [] b w e is h = cc
any_made t f (c ∷ bs) b w e is h = by_test (c == b) refl e (any_made t f bs b w)
  where
    more : (o : Option Wish) → list_any t (filter_map f bs) ≡ true → list_any t (cons_option o (filter_map f bs)) ≡ true
    more None rest = rest
    more (Some v) rest = or_right (t v) (list_any t (filter_map f bs)) rest

    by_test : (u : Bool) → (c == b) ≡ u → (u || has bs b) ≡ true → (has bs b ≡ true → f b ≡ Some w → t w ≡ true → list_any t (filter_map f bs) ≡ true) → list_any t (cons_option (f c) (filter_map f bs)) ≡ true
    by_test true at e rest = ap (λ o. list_any t (cons_option o (filter_map f bs))) (ap f (eqb-true c b at) ∙ is) ∙ or_left (t w) (list_any t (filter_map f bs)) h
    by_test false at e rest = more (f c) (rest e is h)

module _ (C : Cluster) (H : Holdings) where
  -- each wish that is made at a level is a wish of that level
  wished_at : (l : Level) (b : ℕ) (w : Wish) → wish_at C H l b ≡ Some w → IsRequested C H w
  wished_at l b w e = let is = wish_is C H l b w e in ap (λ (v : Wish). wish_at C H v.level v.block) (sym is.2) ∙ e

  pub one_wish : (v w : Wish) → IsRequested C H v → IsRequested C H w → wish_key v ≡ wish_key w → v ≡ w
  one_wish v w is too same =
      let levels : v.level ≡ w.level = sym (level_again v.level) ∙ ap (λ k. level_of_number k.0) same ∙ level_again w.level in
      let blocks : v.block ≡ w.block = ap (λ k. k.1) same in
      same_Some v w (sym is ∙ (λ i. wish_at C H (levels i) (blocks i)) ∙ too)

  each_made : (l : Level) (bs : List ℕ) → Each (IsRequested C H) (filter_map (wish_at C H l) bs)
  each_made l [] = tt
  each_made l (b ∷ bs) = by_wish (wish_at C H l b) refl (each_made l bs)
    where
      by_wish : (o : Option Wish) → wish_at C H l b ≡ o → Each (IsRequested C H) (filter_map (wish_at C H l) bs) → Each (IsRequested C H) (cons_option o (filter_map (wish_at C H l) bs))
      by_wish None e rest = rest
      by_wish (Some w) e rest = (wished_at l b w e, rest)

  -- a block without a usable replica has no wish
  none_unusable : (b : ℕ) (w : Wish) → wish_at C H NoUsableReplica b ≡ Some w → ⊥
  unfolding wish_at
  none_unusable b w e = never (is_at NoUsableReplica (level C H b)) (get H.blocks b) e
    where
      never : (t : Bool) (o : Option BlockInfo) → (if t then option_and_then (λ i. if nat_lt 0 0 then Some (wish_of C H NoUsableReplica b i) else None) o else None) ≡ Some w → ⊥
      never true None e = false≢true (ap is_some e)
      never true (Some i) e = false≢true (ap is_some e)
      never false o e = false≢true (ap is_some e)

  abbrev made_at : Level → List Wish
  made_at l = filter_map (wish_at C H l) (keys H.blocks)

  any_at : (t : Wish → Bool) (w : Wish) → IsRequested C H w → t w ≡ true → list_any t (made_at w.level) ≡ true
  any_at t w is h =
      let known = wish_is C H w.level w.block w is in
      any_made t (wish_at C H w.level) (keys H.blocks) w.block w (has_key H.blocks w.block known.0 known.1) is h

  among_levels : (t : Wish → Bool) (l : Level) (b : ℕ) (w : Wish) → wish_at C H l b ≡ Some w → list_any t (made_at l) ≡ true
      → list_any t (made_at Highest ++ (made_at VeryUnderReplicated ++ (made_at UnderReplicated ++ (made_at BadlyDistributed ++ [])))) ≡ true
  among_levels t l b w is h = levels l is h
    where
      first : (xs ys : List Wish) → list_any t xs ≡ true → list_any t (xs ++ ys) ≡ true
      first xs ys g = list_any-append t xs ys ∙ or_left (list_any t xs) (list_any t ys) g

      later : (xs ys : List Wish) → list_any t ys ≡ true → list_any t (xs ++ ys) ≡ true
      later xs ys g = list_any-append t xs ys ∙ or_right (list_any t xs) (list_any t ys) g

      levels : (k : Level) → wish_at C H k b ≡ Some w → list_any t (made_at k) ≡ true
          → list_any t (made_at Highest ++ (made_at VeryUnderReplicated ++ (made_at UnderReplicated ++ (made_at BadlyDistributed ++ [])))) ≡ true
      levels Highest e g = first (made_at Highest) _ g
      levels VeryUnderReplicated e g = later (made_at Highest) _ (first (made_at VeryUnderReplicated) _ g)
      levels UnderReplicated e g = later (made_at Highest) _ (later (made_at VeryUnderReplicated) _ (first (made_at UnderReplicated) _ g))
      levels BadlyDistributed e g = later (made_at Highest) _ (later (made_at VeryUnderReplicated) _ (later (made_at UnderReplicated) _ (first (made_at BadlyDistributed) _ g)))
      levels NoUsableReplica e g = absurd (none_unusable b w e)

  wishes_gathered : IsGathered by_pair wish_key (IsRequested C H) (wishes_by_block C H)
  unfolding wishes_by_block
  wishes_gathered = record {
    ascends = wishes_ascend C H;
    only =
        all_each (IsRequested C H) _
        (each_appended (IsRequested C H) _ _ (each_made Highest (keys H.blocks)) (each_appended (IsRequested C H) _ _ (each_made VeryUnderReplicated (keys H.blocks))
        (each_appended (IsRequested C H) _ _ (each_made UnderReplicated (keys H.blocks)) (each_appended (IsRequested C H) _ _ (each_made BadlyDistributed (keys H.blocks)) tt))));
    all = λ w is.
        let t : Wish → Bool = λ y. eq_by_cmp pair_cmp (wish_key w) (wish_key y) in
        among_levels t w.level w.block w is (any_at t w is (key_itself by_pair (wish_key w)));
  }

-- All four lists.

pub round_part_is_found : law.round_part_is_found
unfolding round_part
round_part_is_found C pend r H = record {
  expired = expired_gathered pend r H;
  excess = surplus_gathered C (without_unordered_excess (without_expired pend r H));
  wishes = wishes_gathered C (holdings_at_choice C pend r H);
  deletes = deletes_gathered C (holdings_at_choice C pend r H);
}

one_delete : (d e : Delete) → delete_key d ≡ delete_key e → d ≡ e
one_delete d e same = λ i. record { storage = (same i).0; block = (same i).1 }

pub found_is_round_part : law.found_is_round_part
found_is_round_part C pend r H p is =
    let q : RoundPart = round_part C pend r H in
    let too : IsFound C pend r H q = round_part_is_found C pend r H in
    let G : Holdings = holdings_at_choice C pend r H in
    let old = gathered_alike by_replica (λ (k : ReplicaId). k) (IsExpired pend r H) (λ _ _ _ _ same. same) p.expired q.expired is.expired too.expired in
    let many = gathered_alike by_replica (λ (k : ReplicaId). k) (IsSurplus C (without_unordered_excess (without_expired pend r H))) (λ _ _ _ _ same. same) p.excess q.excess is.excess too.excess in
    let wished = gathered_alike by_pair wish_key (IsRequested C G) (one_wish C G) p.wishes q.wishes is.wishes too.wishes in
    let gone = gathered_alike by_pair delete_key (IsDeletable C G) (λ d e _ _ same. one_delete d e same) p.deletes q.deletes is.deletes too.deletes in
    (λ i. record { expired = old i; excess = many i; wishes = wished i; deletes = gone i })
