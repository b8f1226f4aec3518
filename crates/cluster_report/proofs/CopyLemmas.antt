-- The pending copies after a round are the unexpired ones and those that its commands order.
use Rattle.std.proofs.Common.{◌≡◌, ℕ, ◌+◌, ◌-◌, ◌<◌, Bool, true, false, cond, not, ◌&&◌, ◌||◌, Option, Some, List, [], ◌∷◌, ◌++◌, map, filter, length, take, get_or, refl, ap, sym, ◌∙◌, append-nil, arith}
use Rattle.std.specs.Prelude.{nat_lt, nat_le}
use Rattle.std.specs.Ordering.{eq_by_cmp}
use Rattle.std.specs.Cmp.{both_ways}
use Rattle.std.specs.List.{flat_map, list_any}
use Rattle.std.proofs.lemmas.Bool.{lt-ltb, or_left, and_from, or_right}
use Rattle.std.proofs.lemmas.List.{take_more, map-append}
use Rattle.std.proofs.lemmas.Grind.{flat_map-append}
use Rattle.std.proofs.Math.Bool.{and-false}
use Rattle.bm_base.specs.declared.replica.ReplicaId.{ReplicaId}
use Rattle.bm_base.specs.declared.commands.Transfer.{Transfer}
use Rattle.bm_base.specs.declared.commands.Delete.{Delete}
use Rattle.bm_base.specs.Words.{Map, Order, get, insert, insert_all, keep, keys, Cluster, State, by_replica, replica_at, has_storage, state_after_expiry, state_at_choice, with_surplus_marked, without_unordered_excess, without_expired, transfers, deletes, node_commands, has_commands, commands_of, end_round, whole_round}
use Rattle.bm_base.specs.Promises.Lawful.{IsLawful}
use Rattle.bm_base.proofs.MapLaws.{same_map, get-insert}
use Rattle.bm_base.proofs.ForEach.{Each, each_of, each_mapped, each_flat, each_any}
use Rattle.bm_base.proofs.ListTests.{and_second, any_filter, any_map, any_weaker, any_agree}
use Rattle.cluster_report.specs.Copies.{commanded_to}
use Rattle.cluster_report.proofs.SentLemmas.{each_sent}
use Rattle.bm_parts.proofs.HeldBack.{any_flat}

first_or_later : {X : Type 0} (a b : Bool) (v : X) (old : Option X) → cond b (Some v) (cond a (Some v) old) ≡ cond (a || b) (Some v) old
first_or_later true true v old = refl
first_or_later true false v old = refl
first_or_later false b v old = refl

module _ {K X : Type 0} {o : Order K} where
  insert_all-append : (m : Map o X) (xs ys : List (K × X)) → insert_all m (xs ++ ys) ≡ insert_all (insert_all m xs) ys
  insert_all-append m [] ys = refl
  insert_all-append m (x ∷ xs) ys = insert_all-append (insert m x.0 x.1) xs ys

  -- one more is put
  pub insert_more : {Y : Type 0} (m : Map o X) (f : Y → K × X) (ys : List Y) (i : ℕ) (y : Y) → i < length ys → get_or ys i y ≡ y
      → insert_all m (map f (take (i + 1) ys)) ≡ insert (insert_all m (map f (take i ys))) (f y).0 (f y).1
  insert_more m f ys i y low is =
      ap (λ zs. insert_all m (map f zs)) (take_more ys i y low)
      ∙ ap (λ z. insert_all m (map f (take i ys ++ z ∷ []))) is
      ∙ ap (insert_all m) (map-append f (take i ys) (y ∷ []))
      ∙ insert_all-append m (map f (take i ys)) (f y ∷ [])

  -- all entries of one more element are inserted
  pub insert_more_all : {Y : Type 0} (m : Map o X) (f : Y → List (K × X)) (ys : List Y) (i : ℕ) (y : Y) → i < length ys → get_or ys i y ≡ y
      → insert_all m (flat_map f (take (i + 1) ys)) ≡ insert_all (insert_all m (flat_map f (take i ys))) (f y)
  insert_more_all m f ys i y low is =
      ap (λ zs. insert_all m (flat_map f zs)) (take_more ys i y low)
      ∙ ap (λ z. insert_all m (flat_map f (take i ys ++ z ∷ []))) is
      ∙ ap (insert_all m) (flat_map-append f (take i ys) (y ∷ []))
      ∙ insert_all-append m (flat_map f (take i ys)) (f y ++ [])
      ∙ ap (insert_all (insert_all m (flat_map f (take i ys)))) (append-nil (f y))

  -- if all inserted values are equal
  get_insert_all : (m : Map o X) (v : X) (es : List (K × X)) (q : K) → Each (λ e. e.1 ≡ v) es → get (insert_all m es) q ≡ cond (list_any (λ e. eq_by_cmp o.cmp q e.0) es) (Some v) (get m q)
  get_insert_all m v [] q h = refl
  get_insert_all m v (e ∷ es) q h =
      get_insert_all (insert m e.0 e.1) v es q h.1
      ∙ ap (cond (list_any (λ d. eq_by_cmp o.cmp q d.0) es) (Some v)) (get-insert m e.0 e.1 q ∙ ap (λ x. cond (eq_by_cmp o.cmp q e.0) (Some x) (get m q)) h.0)
      ∙ first_or_later (eq_by_cmp o.cmp q e.0) (list_any (λ d. eq_by_cmp o.cmp q d.0) es) v (get m q)

  -- one value is inserted at the keys of two lists with the same keys
  insert_alike : (m : Map o X) (v : X) (xs ys : List (K × X)) → Each (λ e. e.1 ≡ v) xs → Each (λ e. e.1 ≡ v) ys
      → ((p : K × X → Bool) → list_any p xs ≡ list_any p ys) → insert_all m xs ≡ insert_all m ys
  insert_alike m v xs ys all_xs all_ys same =
      same_map (insert_all m xs) (insert_all m ys) (λ q.
      get_insert_all m v xs q all_xs ∙ ap (λ b. cond b (Some v) (get m q)) (same (λ e. eq_by_cmp o.cmp q e.0)) ∙ sym (get_insert_all m v ys q all_ys))

-- The commands of all nodes.

or_second : (a b : Bool) → a ≡ false → (a || b) ≡ true → b ≡ true
or_second true b e h = cc
or_second false b e h = h

module _ (C : Cluster) (ns : List ℕ) (p : Transfer → Bool) where
  abbrev sent_to : List Transfer → ℕ → Bool
  sent_to ts n = list_any (λ t. has_storage C n t.source && p t) ts

  sent_one : (t : Transfer) (ts : List Transfer) (b : Bool) → p t ≡ b → list_any (λ n. has_storage C n t.source) ns ≡ true → (p t || list_any p ts) ≡ true
      → (list_any p ts ≡ true → list_any (sent_to ts) ns ≡ true) → list_any (sent_to (t ∷ ts)) ns ≡ true
  sent_one t ts true e at h rest =
      any_weaker (λ n. has_storage C n t.source) (sent_to (t ∷ ts)) (λ n k. or_left (has_storage C n t.source && p t) (sent_to ts n) (and_from _ _ k e)) ns at
  sent_one t ts false e at h rest =
      any_weaker (sent_to ts) (sent_to (t ∷ ts)) (λ n k. or_right (has_storage C n t.source && p t) (sent_to ts n) k) ns (rest (or_second (p t) (list_any p ts) e h))

  all_sent : (ts : List Transfer) → Each (λ t. list_any (λ n. has_storage C n t.source) ns ≡ true) ts → list_any p ts ≡ true → list_any (sent_to ts) ns ≡ true
  all_sent [] h e = cc
  all_sent (t ∷ ts) h e = sent_one t ts (p t) refl h.0 e (all_sent ts h.1)

  of_sent : (ts : List Transfer) → list_any (sent_to ts) ns ≡ true → list_any p ts ≡ true
  of_sent ts e =
      let n = each_any (λ _. Unit {0}) (sent_to ts) ns (each_of (λ _. Unit {0}) ns (λ _. tt)) e in
      any_weaker (λ t. has_storage C n.0 t.source && p t) p (λ t k. and_second (has_storage C n.0 t.source) (p t) k) ts n.2

some_commands : {X Y : Type 0} (p : Y → Bool) (f : X → Y) (xs : List X) (n : ℕ) → (nat_lt 0 (length xs + n) && list_any p (map f xs)) ≡ list_any p (map f xs)
some_commands p f [] n = and-false (nat_lt 0 (0 + n))
some_commands p f (x ∷ xs) n = ap (λ b. b && list_any p (map f (x ∷ xs))) (lt-ltb 0 (length (x ∷ xs) + n) (omega arith))

module _ (C : Cluster) (r : ℕ) (ts : List Transfer) (ds : List Delete) where
  abbrev sent : Transfer → ReplicaId × ℕ
  sent t = (replica_at t.block t.target, r)

  one_commanded : (p : ReplicaId × ℕ → Bool) (n : ℕ) → (has_commands (node_commands C ts ds n) && list_any p (commanded_to r (node_commands C ts ds n))) ≡ list_any (λ t. has_storage C n t.source && p (sent t)) ts
  unfolding node_commands
  one_commanded p n =
      some_commands p sent (filter (λ t. has_storage C n t.source) ts) _
      ∙ any_map p sent (filter (λ t. has_storage C n t.source) ts)
      ∙ any_filter (λ t. p (sent t)) (λ t. has_storage C n t.source) ts

  all_commanded : (p : ReplicaId × ℕ → Bool) (ns : List ℕ) → Each (λ t. list_any (λ n. has_storage C n t.source) ns ≡ true) ts
      → list_any p (flat_map (commanded_to r) (filter has_commands (map (node_commands C ts ds) ns))) ≡ list_any p (map sent ts)
  all_commanded p ns each =
      any_flat p (commanded_to r) (filter has_commands (map (node_commands C ts ds) ns))
      ∙ any_filter (λ k. list_any p (commanded_to r k)) has_commands (map (node_commands C ts ds) ns)
      ∙ any_map (λ k. has_commands k && list_any p (commanded_to r k)) (node_commands C ts ds) ns
      ∙ any_agree _ (λ n. list_any (λ t. has_storage C n t.source && p (sent t)) ts) (one_commanded p) ns
      ∙ both_ways _ _ (of_sent C ns (λ t. p (sent t)) ts) (all_sent C ns (λ t. p (sent t)) ts each)
      ∙ sym (any_map p sent ts)

  all_put : (m : Map by_replica ℕ) (ns : List ℕ) → Each (λ t. list_any (λ n. has_storage C n t.source) ns ≡ true) ts
      → insert_all m (flat_map (commanded_to r) (filter has_commands (map (node_commands C ts ds) ns))) ≡ insert_all m (map sent ts)
  all_put m ns each =
      insert_alike m r _ _
      (each_flat (λ e. e.1 ≡ r) (commanded_to r) (filter has_commands (map (node_commands C ts ds) ns))
      (each_of _ (filter has_commands (map (node_commands C ts ds) ns)) (λ k. each_mapped (λ e. e.1 ≡ r) sent k.transfers (each_of _ k.transfers (λ t. refl)))))
      (each_mapped (λ e. e.1 ≡ r) sent ts (each_of _ ts (λ t. refl)))
      (λ p. all_commanded p ns each)

-- the pending copies after a round, by its commands
pub round_copies : (M : State) → IsLawful M
    → insert_all (keep M.holdings.pending (λ _ r. not (nat_le M.limits.pend ((whole_round M).0.round - r)))) (flat_map (commanded_to (whole_round M).0.round) (whole_round M).0.nodes)
    ≡ (whole_round M).1.holdings.pending
unfolding whole_round state_at_choice state_after_expiry with_surplus_marked without_unordered_excess without_expired commands_of end_round
round_copies M L =
    all_put M.cluster (M.round + 1) (transfers M.limits M.cluster (state_at_choice M).holdings) (deletes M.limits M.cluster (state_at_choice M).holdings) _ (keys M.cluster.nodes) (each_sent M L)
