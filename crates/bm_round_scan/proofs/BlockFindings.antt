-- A block's lists of excess, wishes and deletes hold exactly the block's own elements, each once.
use Rattle.std.specs.Prelude.{◌≡◌, ℕ, Bool, true, false, ◌&&◌, ◌==◌, ◌||◌, if◌then◌else◌, List, [], ◌∷◌, map, filter, Option, Some, None, option_map, option_and_then, option_to_list, IsSome, is_some, T}
use Rattle.std.specs.declared.cmp.Ordering.{Ordering}
use Rattle.std.specs.Ordering.{eq_by_cmp}
use Rattle.std.specs.FinMap.{is_sorted}
use Rattle.std.specs.FinMap.Entries.{below_all}
use Rattle.std.specs.List.{list_any, IsDistinct, AllByRecursion}
use Rattle.std.proofs.Common.{cond, refl, sym, ap, ◌∙◌, eqb-true, eq-eqb}
use Rattle.std.proofs.lemmas.Bool.{and_from, false≢true, and_left, and_right}
use Rattle.std.proofs.Math.Bool.{and_comm}
use Rattle.bm_base.specs.Maps.Conjunction.{first, second}
use Rattle.bm_base.specs.declared.replica.ReplicaId.{ReplicaId}
use Rattle.bm_base.specs.declared.replica.Marks.{Marks}
use Rattle.bm_base.specs.declared.commands.Delete.{Delete}
use Rattle.bm_base.specs.declared.round.Wish.{Wish}
use Rattle.bm_base.specs.declared.replica.Level.{Level}
use Rattle.bm_base.specs.Words.{Map, get, entries, contains_key, Cluster, Holdings, by_replica, replica_cmp, replica_at, has, has_enough_live, level, level_number, is_at, without_expired, without_unordered_excess, excess_in, with_surplus_marked, is_deletable}
use Rattle.bm_base.specs.Ordered.{by_pair, pair_cmp}
use Rattle.bm_base.specs.RoundParts.{holdings_at_choice, wish_at, wish_key, delete_key}
use Rattle.bm_base.proofs.MapLaws.{get-revise, not_equal}
use Rattle.bm_base.proofs.AtLevel.{at_level}
use Rattle.bm_base.proofs.ForEach.{Each, each_mapped, each_then, each_both, each_filtered, each_passing, each_optional}
use Rattle.bm_base.proofs.MapEntries.{get_kept, get_keeps, get_revised, each_entry, passes_entry, key_itself}
use Rattle.bm_base.proofs.Options.{there, is_there, chained}
use Rattle.bm_base.proofs.SortedParts.{wish_is, wish_block}
use Rattle.bm_base.proofs.Ties.{replica_tie}
use Rattle.bm_parts.specs.Findings.{IsSurplus, IsRequested, IsDeletable}
use Rattle.bm_parts.proofs.Filters.{any_shown}
use Rattle.bm_round_scan.specs.BlockScans.{own_replicas, surplus_of, needs_delete}
use Rattle.bm_round_scan.specs.Requests.{wish_in}
use Rattle.bm_round_scan.specs.BlockFindings.{excess_at, wishes_at, deletes_at}
use Rattle.bm_round_scan.proofs.CollectedFindings.{IsListed}
use Rattle.bm_round_scan.proofs.SortedElements.{tie}

-- Elements that are made of entries with different keys differ.

module _ {K X Y : Type 0} (R : K → K → Ordering) (e : Y → Y → Bool) (g : K × X → Y) (same : (c d : K × X) → e (g c) (g d) ≡ eq_by_cmp R c.0 d.0) (p : K × X → Bool) where
  below_differ : (c : K × X) (es : List (K × X)) → T (below_all R c.0 es) → AllByRecursion (λ y. e (g c) y ≡ false) (map g (filter p es))
  below_differ c [] h = tt
  below_differ c (d ∷ es) h = by (p d) (below_differ c es (second _ _ h))
    where
      by : (t : Bool) → AllByRecursion (λ y. e (g c) y ≡ false) (map g (filter p es)) → AllByRecursion (λ y. e (g c) y ≡ false) (map g (cond t (d ∷ filter p es) (filter p es)))
      by true rest = (same c d ∙ not_equal (R c.0 d.0) (first _ _ h), rest)
      by false rest = rest

  made_differ : (es : List (K × X)) → T (is_sorted R es) → IsDistinct e (map g (filter p es))
  unfolding IsDistinct
  made_differ [] h = tt
  made_differ (c ∷ es) h = by (p c) (made_differ es (second _ _ h))
    where
      by : (t : Bool) → IsDistinct e (map g (filter p es)) → IsDistinct e (map g (cond t (c ∷ filter p es) (filter p es)))
      by true rest = (below_differ c es (first _ _ h), rest)
      by false rest = rest

-- Entries of one block that pass.

module _ (G : Holdings) (b : ℕ) (p : ReplicaId × Marks → Bool) where
  -- a replica of the block, which passes
  abbrev IsOwn : ReplicaId × Marks → Type 0
  IsOwn e = (get G.replicas e.0 ≡ Some e.1) × (e.0.block ≡ b) × (p e ≡ true)

  own_entries : Each IsOwn (filter p (entries (own_replicas G b)))
  own_entries =
      let m : Map by_replica Marks = own_replicas G b in
      let found : ReplicaId × Marks → Type 0 = λ e. get m e.0 ≡ Some e.1 in
      each_then (λ e. found e × (p e ≡ true)) IsOwn (filter p (entries m)) (each_both found (λ e. p e ≡ true) (filter p (entries m)) (each_filtered found p (entries m) (each_entry m)) (each_passing p (entries m)))
      (λ e h. let is = get_kept G.replicas (λ q _. q.block == b) e.0 e.1 h.0 in (is.0, eqb-true e.0.block b is.1, h.1))

  own_differ : {Y : Type 0} (e : Y → Y → Bool) (g : ReplicaId × Marks → Y) → ((c d : ReplicaId × Marks) → e (g c) (g d) ≡ eq_by_cmp replica_cmp c.0 d.0) → IsDistinct e (map g (filter p (entries (own_replicas G b))))
  unfolding entries
  own_differ e g same = made_differ replica_cmp e g same p (own_replicas G b).list (own_replicas G b).sorted

  own_found : {Y : Type 0} (t : Y → Bool) (g : ReplicaId × Marks → Y) (q : ReplicaId) (m : Marks) → get G.replicas q ≡ Some m → q.block ≡ b → p (q, m) ≡ true → t (g (q, m)) ≡ true → list_any t (map g (filter p (entries (own_replicas G b)))) ≡ true
  own_found t g q m is at passes shown =
      any_shown t g p (entries (own_replicas G b))
      ∙ passes_entry (own_replicas G b) (λ e. p e && t (g e)) q m (get_keeps G.replicas (λ k _. k.block == b) q m is (eq-eqb q.block b at)) (and_from (p (q, m)) (t (g (q, m))) passes shown)

-- Keys.

pair_tie : (p q : ℕ × ℕ) → eq_by_cmp pair_cmp p q ≡ ((p.0 == q.0) && (p.1 == q.1))
pair_tie p q = replica_tie (replica_at p.0 p.1) (replica_at q.0 q.1)

delete_tie : (c d : ReplicaId × Marks) → eq_by_cmp pair_cmp (c.0.storage, c.0.block) (d.0.storage, d.0.block) ≡ eq_by_cmp replica_cmp c.0 d.0
delete_tie c d = pair_tie (c.0.storage, c.0.block) (d.0.storage, d.0.block) ∙ and_comm (c.0.storage == d.0.storage) (c.0.block == d.0.block) ∙ sym (replica_tie c.0 d.0)

module _ (C : Cluster) (pend r : ℕ) (H : Holdings) where
  abbrev U : Holdings
  U = without_unordered_excess (without_expired pend r H)

  abbrev G : Holdings
  G = holdings_at_choice C pend r H

  marking : ReplicaId → Marks → Marks
  marking q m = if has (excess_in C U q.block) q.storage then record m { excess = true } else m

  -- Replicas in excess.

  was_there : (q : ReplicaId) (m : Marks) → get G.replicas q ≡ Some m → IsSome (get U.replicas q)
  unfolding holdings_at_choice with_surplus_marked marking
  was_there q m e = let was = get_revised U.replicas marking q m e in is_there (get U.replicas q) was.0 was.1

  is_still : (q : ReplicaId) → IsSome (get U.replicas q) → (m : Marks) × (get G.replicas q ≡ Some m)
  unfolding holdings_at_choice with_surplus_marked marking
  is_still q h = let was = there (get U.replicas q) h in (marking q was.0, get-revise U.replicas marking q ∙ ap (option_map (marking q)) was.1)

  abbrev is_excess : ℕ → ReplicaId × Marks → Bool
  is_excess b e = has (surplus_of C pend r H b) e.0.storage

  pub excess_listed : IsListed by_replica (λ (q : ReplicaId). q) (λ q. q.block) (IsSurplus C U) (excess_at C pend r H)
  excess_listed = record {
    differ = λ x y other. replica_tie x y ∙ and_left (x.block == y.block) (x.storage == y.storage) other;
    of_block = λ b. each_mapped (λ q. q.block ≡ b) (λ (e : ReplicaId × Marks). e.0) (filter (is_excess b) (entries (own_replicas G b))) (each_then (IsOwn G b (is_excess b)) (λ e. e.0.block ≡ b) (filter (is_excess b) (entries (own_replicas G b))) (own_entries G b (is_excess b)) (λ e h. h.1));
    apart = λ b. own_differ G b (is_excess b) (tie by_replica (λ (q : ReplicaId). q)) (λ e. e.0) (λ c d. refl);
    only = λ b.
        each_mapped (IsSurplus C U) (λ (e : ReplicaId × Marks). e.0) (filter (is_excess b) (entries (own_replicas G b)))
        (each_then (IsOwn G b (is_excess b)) (λ e. IsSurplus C U e.0) (filter (is_excess b) (entries (own_replicas G b))) (own_entries G b (is_excess b))
        (λ e h. (was_there e.0 e.1 h.0, ap (λ c. has (excess_in C U c) e.0.storage) h.1 ∙ h.2)));
    all = λ q is.
        let now = is_still q is.0 in
        own_found G q.block (is_excess q.block) (tie by_replica (λ (k : ReplicaId). k) q) (λ e. e.0) q now.0 now.1 refl is.1 (key_itself by_replica q);
  }

  -- Replicas to be deleted.

  abbrev is_gone : ℕ → ReplicaId × Marks → Bool
  is_gone b e = needs_delete (has_enough_live C G b) e.1

  abbrev delete_of : ReplicaId × Marks → Delete
  delete_of e = record { storage = e.0.storage; block = e.0.block }

  goes : (q : ReplicaId) (m : Marks) → is_deletable C G q m ≡ needs_delete (has_enough_live C G q.block) m
  unfolding is_deletable
  goes q m = refl

  pub deletes_listed : ((q : ReplicaId) (m : Marks) → get G.replicas q ≡ Some m → contains_key C.storages q.storage ≡ true) → IsListed by_pair delete_key (λ (d : Delete). d.block) (IsDeletable C G) (deletes_at C pend r H)
  deletes_listed stored = record {
    differ = λ x y other. pair_tie (delete_key x) (delete_key y) ∙ and_right (x.storage == y.storage) (x.block == y.block) other;
    of_block = λ b. each_mapped (λ (d : Delete). d.block ≡ b) delete_of (filter (is_gone b) (entries (own_replicas G b))) (each_then (IsOwn G b (is_gone b)) (λ e. e.0.block ≡ b) (filter (is_gone b) (entries (own_replicas G b))) (own_entries G b (is_gone b)) (λ e h. h.1));
    apart = λ b. own_differ G b (is_gone b) (tie by_pair delete_key) delete_of delete_tie;
    only = λ b.
        each_mapped (IsDeletable C G) delete_of (filter (is_gone b) (entries (own_replicas G b)))
        (each_then (IsOwn G b (is_gone b)) (λ e. IsDeletable C G (delete_of e)) (filter (is_gone b) (entries (own_replicas G b))) (own_entries G b (is_gone b))
        (λ e h. (stored e.0 e.1 h.0, (e.1, h.0, goes e.0 e.1 ∙ ap (λ c. needs_delete (has_enough_live C G c) e.1) h.1 ∙ h.2))));
    all = λ d is.
        own_found G d.block (is_gone d.block) (tie by_pair delete_key d) delete_of (replica_at d.block d.storage) is.1.0 is.1.1 refl (sym (goes (replica_at d.block d.storage) is.1.0) ∙ is.1.2) (key_itself by_pair (delete_key d));
  }

  -- Wishes.

  if_true : {X : Type 0} (t : Bool) (o : Option X) (x : X) → (if t then o else None) ≡ Some x → t ≡ true
  if_true true o x e = refl
  if_true false o x e = absurd (false≢true (ap is_some e))

  -- a wish of a block is at the block's own level
  pub wish_level : (l : Level) (b : ℕ) (w : Wish) → wish_at C G l b ≡ Some w → level C G b ≡ Some l
  unfolding wish_at
  wish_level l b w e = at_level l (level C G b) (if_true (is_at l (level C G b)) _ w e)

  wish_made : (b : ℕ) (w : Wish) → wish_in C G b ≡ Some w → IsRequested C G w × (w.block ≡ b)
  unfolding wish_in
  wish_made b w e =
      let l = chained (λ urgency. wish_at C G urgency b) (level C G b) w e in
      let is = wish_is C G l.0 b w l.2 in
      (ap (λ (v : Wish). wish_at C G v.level v.block) (sym is.2) ∙ l.2, wish_block C G l.0 b w l.2)

  wish_there : (w : Wish) → IsRequested C G w → wish_in C G w.block ≡ Some w
  unfolding wish_in
  wish_there w is = ap (option_and_then (λ urgency. wish_at C G urgency w.block)) (wish_level w.level w.block w is) ∙ is

  one_apart : {X : Type 0} (e : X → X → Bool) (o : Option X) → IsDistinct e (option_to_list o)
  unfolding IsDistinct
  one_apart e None = tt
  one_apart e (Some x) = (tt, tt)

  pub wishes_listed : IsListed by_pair wish_key (λ (w : Wish). w.block) (IsRequested C G) (wishes_at C pend r H)
  wishes_listed = record {
    differ = λ x y other. pair_tie (wish_key x) (wish_key y) ∙ and_right (level_number x.level == level_number y.level) (x.block == y.block) other;
    of_block = λ b. each_optional (λ (w : Wish). w.block ≡ b) (wish_in C G b) (λ w e. (wish_made b w e).1);
    apart = λ b. one_apart (tie by_pair wish_key) (wish_in C G b);
    only = λ b. each_optional (IsRequested C G) (wish_in C G b) (λ w e. (wish_made b w e).0);
    all = λ w is. ap (λ o. list_any (tie by_pair wish_key w) (option_to_list o)) (wish_there w is) ∙ ap (λ t. t || false) (key_itself by_pair (wish_key w));
  }
