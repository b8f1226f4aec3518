-- Adding a transfer to the tables of sources and targets gives the tables of all chosen ones.
use Rattle.std.specs.Prelude.{unwrap_or, option_map, if◌then◌else◌}
use Rattle.std.proofs.Common.{◌≡◌, ◌<◌, ◌≤◌, nat_lt, subst, ℕ, ◌+◌, Bool, true, false, cond, ◌||◌, List, [], ◌∷◌, ◌++◌, map, count_by, Option, Some, None, is_some, refl, sym, ap, ◌∙◌, ◌==◌, arith}
use Rattle.std.specs.Ordering.{eq_by_cmp, nat_cmp}
use Rattle.std.specs.declared.cmp.Ordering.{Ordering}
use Rattle.std.specs.Option.{option_map_or, IfSome}
use Rattle.std.proofs.lemmas.List.Sums.{sum_by_push}
use Rattle.std.proofs.lemmas.Bool.{eqb-true, eq-eqb, ltb-true}
use Rattle.std.proofs.Math.Bool.{or-true}
use Rattle.bm_base.specs.declared.commands.Transfer.{Transfer}
use Rattle.bm_base.specs.declared.replica.Level.{Level}
use Rattle.bm_base.specs.declared.replica.Level.TheVariants.{Highest, VeryUnderReplicated, UnderReplicated, BadlyDistributed, NoUsableReplica}
use Rattle.bm_base.specs.declared.storage.StorageInfo.{StorageInfo}
use Rattle.bm_base.specs.Words.{has, Map, by_number, get, keys, revise_at, Cluster, node_of, has_storage, is_draining, node_number, streams_from, scheduled_to, stream_limit}
use Rattle.bm_base.proofs.MapLaws.{same_map, get-revise}
use Rattle.bm_base.proofs.Ties.{number_tie}
use Rattle.bm_base.proofs.Sets.{has_keys}
use Rattle.bm_place.specs.Tables.{table, count_at}
use Rattle.bm_place.specs.Least.{IsLeastOf}
use Rattle.bm_place.specs.Sources.{max_transfers, Senders, sender_table, transfers_by, streams_by, with_one_from}
use Rattle.bm_place.specs.Targets.{target_at, target_table}
use Rattle.bm_place.proofs.Tables.{get-table, equal_back, node_table}

-- A changed row.

module _ {X : Type 0} (f g : ℕ → X) (k : ℕ) (h : X → X) (is : (q : ℕ) → g q ≡ cond (k == q) (h (f q)) (f q)) where
  changed_row : (there : Bool) (q : ℕ) (b : Bool) → g q ≡ cond b (h (f q)) (f q) → option_map (λ x. cond b (h x) x) (cond there (Some (f q)) None) ≡ cond there (Some (g q)) None
  changed_row true q b e = ap Some (sym e)
  changed_row false q b e = refl

  -- a table with a changed row at one number
  pub table-revised : (ks : List ℕ) → revise_at (table f ks) k h ≡ table g ks
  unfolding revise_at
  table-revised ks =
      same_map (revise_at (table f ks) k h) (table g ks) (λ q.
      get-revise (table f ks) (λ q x. cond (eq_by_cmp nat_cmp q k) (h x) x) q
      ∙ (λ i. option_map (λ x. cond ((number_tie q k ∙ sym (equal_back q k (q == k) refl)) i) (h x) x) (get-table f ks q i))
      ∙ changed_row (has ks q) q (k == q) (is q)
      ∙ sym (get-table g ks q))

-- Sums with one more summand.

pub count_none : {X : Type 0} (xs : List X) → count_by (λ _. false) xs ≡ 0
count_none [] = refl
count_none (x ∷ xs) = omega (arith, count_none xs)

-- Targets.

more_or : (n len : ℕ) (b : Bool) → n + cond b len 0 ≡ cond b (n + len) n
more_or n len true = refl
more_or n len false = omega arith

pub target_more : (C : Cluster) (sent : ℕ → ℕ) (target len s : ℕ)
    → target_at C (λ q. sent q + cond (target == q) len 0) s ≡ cond (target == s) (record (target_at C sent s) { scheduled = sent s + len }) (target_at C sent s)
target_more C sent target len s =
    ap (λ n. record (target_at C sent s) { scheduled = n }) (more_or (sent s) len (target == s)) ∙ either (target == s)
  where
    either : (b : Bool) → record (target_at C sent s) { scheduled = cond b (sent s + len) (sent s) } ≡ cond b (record (target_at C sent s) { scheduled = sent s + len }) (target_at C sent s)
    either true = refl
    either false = refl

-- n bytes more are scheduled to a storage
pub targets-more : (C : Cluster) (sent : ℕ → ℕ) (target len : ℕ)
    → revise_at (target_table C sent) target (λ t. record t { scheduled = t.scheduled + len }) ≡ target_table C (λ s. sent s + cond (target == s) len 0)
targets-more C sent target len =
    table-revised (target_at C sent) (target_at C (λ s. sent s + cond (target == s) len 0)) target (λ t. record t { scheduled = t.scheduled + len }) (target_more C sent target len) (keys C.storages)

pub scheduled-more : (chosen : List Transfer) (t : Transfer) (s : ℕ) → scheduled_to (chosen ++ t ∷ []) s ≡ scheduled_to chosen s + cond (t.target == s) t.stamp.len 0
unfolding scheduled_to
scheduled-more chosen t s = sum_by_push (λ u. if u.target == s then u.stamp.len else 0) chosen t

-- one more transfer is chosen
pub targets-chosen : (C : Cluster) (chosen : List Transfer) (t : Transfer)
    → revise_at (target_table C (scheduled_to chosen)) t.target (λ u. record u { scheduled = u.scheduled + t.stamp.len }) ≡ target_table C (scheduled_to (chosen ++ t ∷ []))
targets-chosen C chosen t =
    targets-more C (scheduled_to chosen) t.target t.stamp.len ∙ ap (λ sent. target_table C sent) (λ i s. sym (scheduled-more chosen t s) i)

-- Sources.

has_mapped : (f : ℕ → ℕ) (ks : List ℕ) (s : ℕ) → has ks s ≡ true → has (map f ks) (f s) ≡ true
has_mapped f [] s h = cc
has_mapped f (k ∷ ks) s h = by (k == s) refl h (has_mapped f ks s)
  where
    by : (b : Bool) → (k == s) ≡ b → (b || has ks s) ≡ true → (has ks s ≡ true → has (map f ks) (f s) ≡ true) → ((f k == f s) || has (map f ks) (f s)) ≡ true
    by true e h rest = ap (λ t. t || has (map f ks) (f s)) (eq-eqb (f k) (f s) (ap f (eqb-true k s e)))
    by false e h rest = ap (λ t. (f k == f s) || t) (rest h) ∙ or-true (f k == f s)

some_mapped : (o : Option StorageInfo) (n : ℕ) → option_map (λ (i : StorageInfo). i.node) o ≡ Some n → is_some o ≡ true
some_mapped None n e = cc
some_mapped (Some i) n e = refl

-- the node of a storage is among the nodes of the storages
node_listed : (C : Cluster) (s n : ℕ) → node_of C s ≡ Some n → has (map (node_number C) (keys C.storages)) n ≡ true
unfolding node_of node_number
node_listed C s n e =
    ap (λ m. has (map (node_number C) (keys C.storages)) m) (sym (ap (λ o. unwrap_or o 0) e))
    ∙ has_mapped (node_number C) (keys C.storages) s (has_keys C.storages s ∙ some_mapped (get C.storages s) n e)

-- the count in the table for the node of a storage
pub count_as : (C : Cluster) (sends : ℕ → ℕ) (s : ℕ) → streams_by C (count_at (sender_table C sends).counts) s ≡ streams_by C sends s
unfolding count_at
count_as C sends s = by (node_of C s) refl
  where
    by : (o : Option ℕ) → node_of C s ≡ o → option_map_or (λ n. unwrap_or (get (table sends (map (node_number C) (keys C.storages))) n) 0) o 0 ≡ option_map_or sends o 0
    by None e = refl
    by (Some n) e =
        ap (λ o. unwrap_or o 0) (get-table sends (map (node_number C) (keys C.storages)) n) ∙ ap (λ b. unwrap_or (cond b (Some (sends n)) None) 0) (node_listed C s n e)

-- the transfers that the node of a storage sends are those from its storages
pub streams_as : (C : Cluster) (chosen : List Transfer) (s : ℕ) → streams_by C (transfers_by C chosen) s ≡ streams_from C chosen s
unfolding transfers_by streams_from
streams_as C chosen s = by (node_of C s)
  where
    by : (o : Option ℕ) → option_map_or (λ n. count_by (λ t. has_storage C n t.source) chosen) o 0 ≡ count_by (λ t. option_map_or (λ n. has_storage C n t.source) o false) chosen
    by None = sym (count_none chosen)
    by (Some n) = refl

pub sent-more : (C : Cluster) (chosen : List Transfer) (t : Transfer) (n : ℕ) → transfers_by C (chosen ++ t ∷ []) n ≡ transfers_by C chosen n + cond (has_storage C n t.source) 1 0
unfolding transfers_by
sent-more C chosen t n = sum_by_push (λ u. if has_storage C n u.source then 1 else 0) chosen t

more_node : (C : Cluster) (sends more : ℕ → ℕ) (s : ℕ) → ((n : ℕ) → more n ≡ sends n + cond (has_storage C n s) 1 0) → with_one_from s (sender_table C sends) ≡ sender_table C more
unfolding with_one_from has_storage
more_node C sends more s is =
    ap (λ o. option_map_or (λ n. record (sender_table C sends) { counts = revise_at (sender_table C sends).counts n (λ k. k + 1) }) o (sender_table C sends)) (node_table C s)
    ∙ by (node_of C s) (λ n. is n)
  where
    none_more : (n : ℕ) → n ≡ n + 0
    none_more n = omega arith

    by : (o : Option ℕ) → ((n : ℕ) → more n ≡ sends n + cond (option_map_or (λ m. m == n) o false) 1 0)
        → option_map_or (λ n. record (sender_table C sends) { counts = revise_at (sender_table C sends).counts n (λ k. k + 1) }) o (sender_table C sends) ≡ sender_table C more
    by None h = ap (λ f. sender_table C f) (λ i n. (none_more (sends n) ∙ sym (h n)) i)
    by (Some m) h =
        ap (λ t. record (sender_table C sends) { counts = t })
        (table-revised sends more m (λ k. k + 1) (λ q. h q ∙ more_or (sends q) 1 (m == q)) (map (node_number C) (keys C.storages)))

-- one more transfer is sent from a storage
pub senders-more : (C : Cluster) (sends : ℕ → ℕ) (s : ℕ) → with_one_from s (sender_table C sends) ≡ sender_table C (λ n. sends n + cond (has_storage C n s) 1 0)
senders-more C sends s = more_node C sends (λ n. sends n + cond (has_storage C n s) 1 0) s (λ n. refl)

-- one more transfer is chosen
pub senders-chosen : (C : Cluster) (chosen : List Transfer) (t : Transfer) → with_one_from t.source (sender_table C (transfers_by C chosen)) ≡ sender_table C (transfers_by C (chosen ++ t ∷ []))
senders-chosen C chosen t = more_node C (transfers_by C chosen) (transfers_by C (chosen ++ t ∷ [])) t.source (sent-more C chosen t)

-- the count if the node of the storage is known, and if it is not
pub one_counted : (S : Senders) (s n : ℕ) (counts : Map by_number ℕ) → get S.nodes s ≡ Some n → counts ≡ revise_at S.counts n (λ k. k + 1) → record S { counts = counts } ≡ with_one_from s S
unfolding with_one_from
one_counted S s n counts there is =
    ap (λ m. record S { counts = m }) is ∙ sym (ap (λ o. option_map_or (λ m. record S { counts = revise_at S.counts m (λ k. k + 1) }) o S) there)

pub none_counted : (S : Senders) (s : ℕ) → get S.nodes s ≡ None → S ≡ with_one_from s S
unfolding with_one_from
none_counted S s none = sym (ap (λ o. option_map_or (λ m. record S { counts = revise_at S.counts m (λ k. k + 1) }) o S) none)

-- The node of a source that was found sends few transfers.

few_at : (counts : Map by_number ℕ) (o : Option ℕ) (limit : ℕ) → limit ≤ 4 → option_map_or (count_at counts) o 0 < limit → IfSome o (λ n. count_at counts n < max_transfers)
few_at counts None limit most few = tt
few_at counts (Some n) limit most few = omega (arith, most, few)

limit_most : (urgency : Level) (is_drained : Bool) → stream_limit urgency is_drained ≤ 4
limit_most Highest is_drained = omega arith
limit_most VeryUnderReplicated true = omega arith
limit_most VeryUnderReplicated false = omega arith
limit_most UnderReplicated true = omega arith
limit_most UnderReplicated false = omega arith
limit_most BadlyDistributed true = omega arith
limit_most BadlyDistributed false = omega arith
limit_most NoUsableReplica true = omega arith
limit_most NoUsableReplica false = omega arith

pub countable : (C : Cluster) (sends : ℕ → ℕ) (urgency : Level) (R : ℕ → ℕ → Ordering) (usable : List ℕ) (m : Option ℕ)
    → IsLeastOf R (λ s. nat_lt (streams_by C sends s) (stream_limit urgency (is_draining C s))) usable m
    → IfSome m (λ s. IfSome (get (sender_table C sends).nodes s) (λ n. count_at (sender_table C sends).counts n < max_transfers))
countable C sends urgency R usable None h = tt
countable C sends urgency R usable (Some s) h =
    let limit = stream_limit urgency (is_draining C s) in
    subst (λ o. IfSome o (λ n. count_at (sender_table C sends).counts n < max_transfers)) (sym (node_table C s))
    (few_at (sender_table C sends).counts (node_of C s) limit (limit_most urgency (is_draining C s)) (subst (λ k. k < limit) (sym (count_as C sends s)) (ltb-true (streams_by C sends s) limit h.0)))
