-- The pass: what it has counted are the tallies of the blocks before the current one.
use Rattle.std.proofs.Common.{◌≡◌, ◌∙◌, ◌⊎◌, inl, inr, ℕ, ◌+◌, ◌<◌, ◌≤◌, Bool, true, false, cond, not, List, [], ◌∷◌, ◌++◌, Option, Some, None, IfSome, is_some, refl, sym, ap, subst, map, filter, length, drop, append-nil, append_assoc, arith, T, ⊎_elim}
use Rattle.std.specs.Prelude.{◌==◌, ◌&&◌, zero, suc, nat_lt, sum_by, option_map, slice_get}
use Rattle.std.specs.Option.{option_map_or}
use Rattle.std.proofs.lemmas.Bool.Decides.{nat_tests}
use Rattle.std.specs.FinMap.{is_sorted}
use Rattle.bm_base.specs.Maps.Conjunction.{second}
use Rattle.std.proofs.lemmas.Bool.{eqb-true, eq-eqb, ne_eqb, lt-ltb, ltb-true, le-ltb}
use Rattle.bm_base.specs.declared.replica.ReplicaId.{ReplicaId}
use Rattle.bm_base.specs.declared.replica.Replica.{Replica}
use Rattle.bm_base.specs.declared.replica.BlockInfo.{BlockInfo}
use Rattle.bm_base.specs.declared.replica.Tag.{Tag}
use Rattle.bm_base.specs.declared.replica.Tag.TheVariants.{Good, Stale, Bad, Stray}
use Rattle.bm_base.specs.Promises.Lawful.{IsLawfulHoldings}
use Rattle.bm_base.specs.Words.{State, Cluster, Holdings, all_replicas, get, keys, entries, contains_key, has, is_usable, is_good, is_stray, replica_cmp, excess_replicas, replicas_where}
use Rattle.bm_base.proofs.ForEach.{Each, each_then}
use Rattle.bm_base.proofs.MapEntries.{each_entry}
use Rattle.bm_base.proofs.OneWish.{once_keys}
use Rattle.bm_base.proofs.Sets.{has_keys}
use Rattle.bm_base.proofs.Options.{not_there}
use Rattle.cluster_lost.specs.Sources.{IsFew, source_of, touches, left_without}
use Rattle.cluster_lost.specs.Tallies.{AreWithin, Value, weigh, tally_of, with_block, no_blocks}
use Rattle.cluster_lost.specs.Rows.{AreNew, AreAdded, AreRowsWithin, IsRowWithin, new_row, with_row_block, with_touching}
use Rattle.cluster_lost.specs.Passes.{Marked, Ascends, AreAddedIf, AreOver, IsCounted, IsFinished, IsNext, IsPassed, IsRowOver, IsStart, IsSwitched, IsWhole, IsPassWithin, excess_in, is_next, loses_all, replica_of, sources, sources_in, sum_over, value_after, value_before, value_by}
use Rattle.cluster_lost.specs.declared.sources.Source.{Source}
use Rattle.cluster_lost.specs.declared.tally.Tally.{Tally}
use Rattle.cluster_lost.specs.declared.block_pass.BlockPass.{BlockPass}
use Rattle.cluster_lost.specs.declared.block_pass.RowTally.{RowTally}
use Rattle.cluster_lost.proofs.RowLemmas.{rows_within, some_mapped, within_larger, within_more}
use Rattle.cluster_lost.proofs.SortedReplicas.{above_block, ascends, excess_passed, next_excess}
use Rattle.cluster_lost.proofs.Sums.{differ, differ_above, filter_with, keys_rise, sum_none, sum_with}

-- One more block.

and_nothing : (n : ℕ) → n ≡ n + 0
and_nothing n = omega arith

module _ (M : State) (row_of : ℕ → Option ℕ) (p : ℕ → Bool) (t : ℕ) (low : (b : ℕ) → b ≤ t → p b ≡ true)
    (high : (b : ℕ) → t < b → p b ≡ true → sources M row_of b ≡ []) where
  abbrev before : ℕ → Bool
  before b = nat_lt b t

  abbrev ks : List ℕ
  ks = keys M.holdings.blocks

  abbrev info : Option BlockInfo
  info = get M.holdings.blocks t

  abbrev us : List Source
  us = sources M row_of t

  unknown : has ks t ≡ false → info ≡ None
  unknown none = not_there info (sym (has_keys M.holdings.blocks t) ∙ none)

  summed : (f : ℕ → ℕ) → ((b : ℕ) → sources M row_of b ≡ [] → f b ≡ 0) → (info ≡ None → f t ≡ 0) → sum_over M p f ≡ sum_over M before f + f t
  summed f empty none = sum_with p t low f (λ b later passes. empty b (high b later passes)) ks (once_keys M.holdings.blocks) (λ h. none (unknown h))

  no_value : (v : Value) (b : ℕ) → value_by M v b [] ≡ 0
  no_value v b = by (get M.holdings.blocks b)
    where
      by : (o : Option BlockInfo) → option_map_or (λ i. weigh v i []) o 0 ≡ 0
      by None = refl
      by (Some i) = refl

  none_of : (v : Value) (b : ℕ) (xs : List Source) → get M.holdings.blocks b ≡ None → value_by M v b xs ≡ 0
  none_of v b xs none = ap (λ o. option_map_or (λ i. weigh v i xs) o 0) none

  -- what all blocks add, and what they add to row k
  abbrev all_of : Value → ℕ → ℕ
  all_of v b = value_by M v b (sources M row_of b)

  all_summed : (v : Value) → sum_over M p (all_of v) ≡ sum_over M before (all_of v) + all_of v t
  all_summed v = summed (all_of v) (λ b none. ap (value_by M v b) none ∙ no_value v b) (none_of v t us)

  before_summed : (k : ℕ) (v : Value) → sum_over M p (value_before M row_of k v) ≡ sum_over M before (value_before M row_of k v) + value_before M row_of k v t
  before_summed k v =
      summed (value_before M row_of k v) (λ b none. ap (λ xs. cond (touches k xs) (value_by M v b xs) 0) none)
      (λ none. by (touches k us) (none_of v t us none))
    where
      by : (x : Bool) → value_by M v t us ≡ 0 → cond x (value_by M v t us) 0 ≡ 0
      by true e = e
      by false e = refl

  after_summed : (k : ℕ) (v : Value) → sum_over M p (value_after M row_of k v) ≡ sum_over M before (value_after M row_of k v) + value_after M row_of k v t
  after_summed k v =
      summed (value_after M row_of k v) (λ b none. ap (λ xs. cond (touches k xs) (value_by M v b (left_without k xs)) 0) none)
      (λ none. by (touches k us) (none_of v t (left_without k us) none))
    where
      by : (x : Bool) → value_by M v t (left_without k us) ≡ 0 → cond x (value_by M v t (left_without k us)) 0 ≡ 0
      by true e = e
      by false e = refl

  tally_same : (f g : Value → ℕ) → ((v : Value) → f v ≡ g v) → tally_of f ≡ tally_of g
  tally_same f g same = λ i. tally_of (λ v. same v i)

  all_counted : (old new : Tally) → old ≡ tally_of (λ v. sum_over M before (all_of v)) → new ≡ option_map_or (λ i. with_block i us old) info old
      → new ≡ tally_of (λ v. sum_over M p (all_of v))
  all_counted old new was is = is ∙ by info refl ∙ sym (tally_same (λ v. sum_over M p (all_of v)) (λ v. sum_over M before (all_of v) + all_of v t) all_summed)
    where
      by : (o : Option BlockInfo) → info ≡ o → option_map_or (λ i. with_block i us old) o old ≡ tally_of (λ v. sum_over M before (all_of v) + all_of v t)
      by None e = was ∙ tally_same _ _ (λ v. and_nothing (sum_over M before (all_of v)) ∙ ap (λ n. sum_over M before (all_of v) + n) (sym (none_of v t us e)))
      by (Some i) e = ap (with_block i us) was ∙ tally_same (λ v. sum_over M before (all_of v) + weigh v i us) _ (λ v. ap (λ o. sum_over M before (all_of v) + option_map_or (λ i. weigh v i us) o 0) (sym e))

  row_counted : (k : ℕ) (old new : RowTally) → IsRowOver M row_of before k old
      → new ≡ option_map_or (λ i. with_touching i t us us k old) info old
      → (info ≡ None → us ≡ []) → IsRowOver M row_of p k new
  row_counted k old new was is known = by info refl is
    where
      lost : filter (λ b. p b && loses_all k (sources M row_of b)) ks ≡ filter (λ b. before b && loses_all k (sources M row_of b)) ks ++ cond (loses_all k us) (t ∷ []) []
      lost =
          filter_with p t low (λ b. loses_all k (sources M row_of b)) (λ b later passes. ap (loses_all k) (high b later passes)) ks (keys_rise M.holdings.blocks)
          (λ h. ap (loses_all k) (known (unknown h)))

      same : (x : Bool) → loses_all k us ≡ x → x ≡ false → (touches k us ≡ false) ⊎ (us ≡ []) → IsRowOver M row_of p k old
      same x is_x none untouched = record {
        before = was.before ∙ tally_same _ _ (λ v. and_nothing _ ∙ ap (λ n. sum_over M before (value_before M row_of k v) + n) (sym (zero_if (value_by M v t us))) ∙ sym (before_summed k v));
        after = was.after ∙ tally_same _ _ (λ v. and_nothing _ ∙ ap (λ n. sum_over M before (value_after M row_of k v) + n) (sym (zero_if (value_by M v t (left_without k us)))) ∙ sym (after_summed k v));
        lost = was.lost ∙ sym (lost ∙ ap (λ y. filter (λ b. before b && loses_all k (sources M row_of b)) ks ++ cond y (t ∷ []) []) (is_x ∙ none) ∙ append-nil _);
      }
        where
          zero_if : (n : ℕ) → cond (touches k us) n 0 ≡ 0
          zero_if n = ⊎_elim (λ h. ap (λ y. cond y n 0) h) (λ h. ap (λ xs. cond (touches k xs) n 0) h) untouched

      by : (o : Option BlockInfo) → info ≡ o → new ≡ option_map_or (λ i. with_touching i t us us k old) o old → IsRowOver M row_of p k new
      by None e h = subst (IsRowOver M row_of p k) (sym h) (same (loses_all k us) refl (ap (loses_all k) (known e)) (inr (known e)))
      by (Some i) e h = touched (touches k us) refl h
        where
          touched : (x : Bool) → touches k us ≡ x → new ≡ cond x (with_row_block i t us (left_without k us) old) old → IsRowOver M row_of p k new
          touched false none h = subst (IsRowOver M row_of p k) (sym h) (same (loses_all k us) refl (ap (λ y. y && (length (left_without k us) == 0)) none) (inl none))
          touched true some h = subst (IsRowOver M row_of p k) (sym h) (record {
            before =
                ap (with_block i us) was.before
                ∙ tally_same (λ v. sum_over M before (value_before M row_of k v) + weigh v i us) _
                (λ v. ap (λ n. sum_over M before (value_before M row_of k v) + n) (sym (ap (λ y. cond y (value_by M v t us) 0) some ∙ ap (λ o. option_map_or (λ i. weigh v i us) o 0) e)) ∙ sym (before_summed k v));
            after =
                ap (with_block i (left_without k us)) was.after
                ∙ tally_same (λ v. sum_over M before (value_after M row_of k v) + weigh v i (left_without k us)) _
                (λ v. ap (λ n. sum_over M before (value_after M row_of k v) + n) (sym (ap (λ y. cond y (value_by M v t (left_without k us)) 0) some ∙ ap (λ o. option_map_or (λ i. weigh v i (left_without k us)) o 0) e)) ∙ sym (after_summed k v));
            lost =
                added (length (left_without k us) == 0)
                ∙ ap (λ xs. xs ++ cond (length (left_without k us) == 0) (t ∷ []) []) was.lost
                ∙ sym (lost ∙ ap (λ y. filter (λ b. before b && loses_all k (sources M row_of b)) ks ++ cond (y && (length (left_without k us) == 0)) (t ∷ []) []) some);
          })
            where
              added : (x : Bool) → cond x (old.lost ++ t ∷ []) old.lost ≡ old.lost ++ cond x (t ∷ []) []
              added true = refl
              added false = sym (append-nil old.lost)

  rows_counted : (known : info ≡ None → us ≡ []) (old new : List RowTally) → ((k : ℕ) (r : RowTally) → slice_get old k ≡ Some r → IsRowOver M row_of before k r)
      → AreAddedIf info t us old new → (k : ℕ) (r : RowTally) → slice_get new k ≡ Some r → IsRowOver M row_of p k r
  rows_counted known old new was is k r here = by info refl is
    where
      by : (o : Option BlockInfo) → info ≡ o → AreAddedIf o t us old new → IsRowOver M row_of p k r
      by None e same = row_counted k r r (was k r (ap (λ xs. slice_get xs k) (sym same) ∙ here)) (sym (ap (λ o. option_map_or (λ i. with_touching i t us us k r) o r) e)) known
      by (Some i) e added =
          let row = some_mapped (with_touching i t us us k) (slice_get old k) r (sym (added.each k) ∙ here) in
          row_counted k row.0 r (was k row.0 row.1) (sym row.2 ∙ sym (ap (λ o. option_map_or (λ i. with_touching i t us us k row.0) o row.0) e)) known

  pub counted : (known : info ≡ None → us ≡ []) (s s1 : BlockPass) → s.block ≡ t → s.sources.items ≡ us → AreOver M row_of before s.all s.rows.items
      → IsCounted info s s1 → AreOver M row_of p s1.all s1.rows.items
  counted known s s1 at sources_are was is = record {
    all = all_counted s.all s1.all was.all (is.all ∙ ap (λ xs. option_map_or (λ i. with_block i xs s.all) info s.all) sources_are);
    each = rows_counted known s.rows.items s1.rows.items was.each (subst (λ b. AreAddedIf info b us s.rows.items s1.rows.items) at (subst (λ xs. AreAddedIf info s.block xs s.rows.items s1.rows.items) sources_are is.rows));
  }

count_same : (o : Option BlockInfo) (b : ℕ) (xs : List Source) (old new : List RowTally) → AreAddedIf o b xs old new → length new ≡ length old
count_same None b xs old new is = ap length is
count_same (Some i) b xs old new is = is.count

-- The replicas of one block.

module _ (C : Cluster) (row_of : ℕ → Option ℕ) where
  abbrev of_block : List Marked → ℕ → List Marked
  of_block es b = filter (λ f. (f.0.block == b) && is_usable f.1) es

  abbrev shown : List Marked → List Source
  shown es = map (λ e. source_of C row_of e.0.storage) es

  other_block : (e : Marked) (es : List Marked) (b : ℕ) → (e.0.block == b) ≡ false → sources_in C row_of (e ∷ es) b ≡ sources_in C row_of es b
  other_block e es b apart = ap (λ x. shown (cond (x && is_usable e.1) (e ∷ of_block es b) (of_block es b))) apart

  none_in : (es : List Marked) (t b : ℕ) → Ascends t es → b < t → sources_in C row_of es b ≡ []
  none_in [] t b up less = refl
  none_in (e ∷ es) t b up less =
      let later : b < e.0.block = omega (arith, up.0, less) in
      other_block e es b (differ e.0.block b later) ∙ none_in es e.0.block b up.1 later

  this_block : (e : Marked) (es : List Marked) (b : ℕ) → (e.0.block == b) ≡ true
      → sources_in C row_of (e ∷ es) b ≡ cond (is_usable e.1) (source_of C row_of e.0.storage ∷ []) [] ++ sources_in C row_of es b
  this_block e es b same = ap (λ x. shown (cond (x && is_usable e.1) (e ∷ of_block es b) (of_block es b))) same ∙ by (is_usable e.1)
    where
      by : (x : Bool) → shown (cond x (e ∷ of_block es b) (of_block es b)) ≡ cond x (source_of C row_of e.0.storage ∷ []) [] ++ sources_in C row_of es b
      by true = refl
      by false = refl

-- Steps.

switched_passed : (M : State) (row_of : ℕ → Option ℕ) (n : ℕ) (excess : List ReplicaId) (e : Marked) (es : List Marked) (info : Option BlockInfo) (s s1 : BlockPass)
    → info ≡ get M.holdings.blocks s.block → IsSwitched info e.0.block s s1 → IsPassed M row_of n excess (e ∷ es) s
    → IsPassed M row_of n excess (e ∷ es) s1 × (s1.block ≡ e.0.block)
switched_passed M row_of n excess e es info s s1 known (inl h) was =
    (subst (IsPassed M row_of n excess (e ∷ es)) (sym h.1) was, ap (λ (p : BlockPass). p.block) h.1 ∙ eqb-true s.block e.0.block h.0)
switched_passed M row_of n excess e es info s s1 known (inr h) was =
    let C = M.cluster in
    let next = h.1 in
    let above : s.block ≤ e.0.block = was.later.0 in
    let apart = h.0 in
    let less : s.block < e.0.block = grind (arith, nat_tests, apart, above) in
    let up : Ascends e.0.block (e ∷ es) = (omega arith, above_block e es was.sorted) in
    let us_is : s.sources.items ≡ sources M row_of s.block =
    sym (was.current ∙ ap (λ xs. s.sources.items ++ xs) (none_in C row_of (e ∷ es) e.0.block s.block up less) ∙ append-nil s.sources.items) in (
      record {
        known = was.known;
        sorted = was.sorted;
        later = subst (λ b. Ascends b (e ∷ es)) (sym next.block) up;
        excess_left = ap (λ k. drop k excess) next.passed ∙ was.excess_left;
        current =
            ap (sources M row_of) next.block ∙ was.next e.0.block less ∙ ap (λ xs. xs ++ sources_in C row_of (e ∷ es) e.0.block) (sym next.sources)
            ∙ ap (λ b. s1.sources.items ++ sources_in C row_of (e ∷ es) b) (sym next.block);
        next = λ b later. was.next b (after_it b s.block e.0.block s1.block less next.block later);
        tallies =
            subst (λ c. AreOver M row_of (λ b. nat_lt b c) s1.all s1.rows.items) (sym next.block)
            (counted M row_of (λ b. nat_lt b e.0.block) s.block (λ b le. lt-ltb b e.0.block (omega (arith, le, less)))
            (λ b later passes. was.next b later ∙ none_in C row_of (e ∷ es) e.0.block b up (ltb-true b e.0.block passes))
            (was.known s.block) s s1 refl us_is was.tallies (subst (λ o. IsCounted o s s1) known next.counted));
        count = count_same info s.block s.sources.items s.rows.items s1.rows.items next.counted.rows ∙ was.count;
      },
      next.block,
    )
  where
    after_it : (b t u w : ℕ) → t < u → w ≡ u → w < b → t < b
    after_it b t u w less is later = omega (arith, less, is, later)

noted_passed : (M : State) (row_of : ℕ → Option ℕ) (n : ℕ) (excess : List ReplicaId) (e : Marked) (es : List Marked) (s s1 : BlockPass) → s.block ≡ e.0.block
    → s1.sources.items ≡ s.sources.items ++ cond (is_usable e.1) (source_of M.cluster row_of e.0.storage ∷ []) []
    → s1.all ≡ s.all → s1.rows ≡ s.rows → s1.block ≡ s.block → drop s1.passed excess ≡ excess_in es
    → T (is_sorted replica_cmp es) → IsPassed M row_of n excess (e ∷ es) s → IsPassed M row_of n excess es s1
noted_passed M row_of n excess e es s s1 at noted all rows block excess_left sorted was =
    let C = M.cluster in
    record {
      known = was.known;
      sorted = sorted;
      later = subst (λ b. Ascends b es) (sym (block ∙ at)) (above_block e es was.sorted);
      excess_left = excess_left;
      current =
          ap (sources M row_of) block ∙ was.current
          ∙ ap (λ xs. s.sources.items ++ xs) (this_block C row_of e es s.block (eq-eqb e.0.block s.block (sym at)))
          ∙ sym (append_assoc s.sources.items (cond (is_usable e.1) (source_of C row_of e.0.storage ∷ []) []) (sources_in C row_of es s.block))
          ∙ ap (λ xs. xs ++ sources_in C row_of es s.block) (sym noted)
          ∙ ap (λ b. s1.sources.items ++ sources_in C row_of es b) (sym block);
      next = λ b later. let after : s.block < b = subst (λ c. c < b) block later in was.next b after ∙ other_block C row_of e es b (differ_above e.0.block b (subst (λ c. c < b) at after));
      tallies =
          subst (λ c. AreOver M row_of (λ b. nat_lt b c) s1.all s1.rows.items) (sym block)
          (subst (λ t. AreOver M row_of (λ b. nat_lt b s.block) t s1.rows.items) (sym all) (subst (λ rs. AreOver M row_of (λ b. nat_lt b s.block) s.all rs.items) (sym rows) was.tallies));
      count = ap (λ rs. length rs.items) rows ∙ was.count;
    }

pub taken_passed : (M : State) (row_of : ℕ → Option ℕ) (n : ℕ) (excess : List ReplicaId) (e : Marked) (es : List Marked) (r : Replica) (info : Option BlockInfo) (source : Source)
    (s s1 s2 s3 : BlockPass) (x u : Bool)
    → r ≡ replica_of e → info ≡ get M.holdings.blocks s.block → source ≡ source_of M.cluster row_of e.0.storage
    → IsSwitched info r.block s s1
    → x ≡ is_next excess s1.passed (record { block = r.block; storage = r.storage })
    → s2 ≡ record s1 { passed = cond x (s1.passed + 1) s1.passed }
    → u ≡ (is_good r.tag && not x)
    → s3.sources.items ≡ s2.sources.items ++ cond u (source ∷ []) []
    → s3.all ≡ s2.all → s3.rows ≡ s2.rows → s3.block ≡ s2.block → s3.passed ≡ s2.passed
    → IsPassed M row_of n excess (e ∷ es) s → IsPassed M row_of n excess es s3
taken_passed M row_of n excess e es r info source s s1 s2 s3 x u one known src switched asks passes uses noted all rows block passed was =
    let first = switched_passed M row_of n excess e es info s s1 known (subst (λ (q : Replica). IsSwitched info q.block s s1) one switched) was in
    let now = first.0 in
    let excess_is : x ≡ e.1.excess =
    asks ∙ ap (λ (q : Replica). is_next excess s1.passed (record { block = q.block; storage = q.storage })) one ∙ next_excess excess s1.passed e es now.sorted now.excess_left in
    let usable_is : u ≡ is_usable e.1 = uses ∙ (λ i. is_good (one i).tag && not (excess_is i)) in
    noted_passed M row_of n excess e es s1 s3 first.1
    (noted ∙ (λ i. (passes i).sources.items ++ cond (usable_is i) (src i ∷ []) []))
    (all ∙ ap (λ (p : BlockPass). p.all) passes) (rows ∙ ap (λ (p : BlockPass). p.rows) passes) (block ∙ ap (λ (p : BlockPass). p.block) passes)
    (ap (λ k. drop k excess) (passed ∙ ap (λ (p : BlockPass). p.passed) passes ∙ ap (λ y. cond y (s1.passed + 1) s1.passed) excess_is) ∙ excess_passed excess s1.passed e es now.excess_left)
    (second _ _ now.sorted) now

pub finished_passed : (M : State) (row_of : ℕ → Option ℕ) (n : ℕ) (excess : List ReplicaId) (info : Option BlockInfo) (s s1 : BlockPass) → info ≡ get M.holdings.blocks s.block
    → IsFinished info s s1 → IsPassed M row_of n excess [] s → IsWhole M row_of n s1
finished_passed M row_of n excess info s s1 known is was = record {
  tallies =
      counted M row_of (λ _. true) s.block (λ b le. refl) (λ b later passes. was.next b later) (was.known s.block) s s1 refl (sym (was.current ∙ append-nil s.sources.items)) was.tallies
      (subst (λ o. IsCounted o s s1) known is.counted);
  count = count_same info s.block s.sources.items s.rows.items s1.rows.items is.counted.rows ∙ was.count;
}

none_before : (M : State) (f : ℕ → ℕ) → sum_over M (λ b. nat_lt b 0) f ≡ 0
none_before M f = sum_none (λ b. cond (nat_lt b 0) (f b) 0) (keys M.holdings.blocks) (λ b. ap (λ x. cond x (f b) 0) (le-ltb b 0 (omega arith)))

none_listed : (q : ℕ → Bool) (ks : List ℕ) → [] ≡ filter (λ b. nat_lt b 0 && q b) ks
none_listed q [] = refl
none_listed q (k ∷ ks) = none_listed q ks ∙ ap (λ x. cond (x && q k) (k ∷ filter (λ b. nat_lt b 0 && q b) ks) (filter (λ b. nat_lt b 0 && q b) ks)) (sym (le-ltb k 0 (omega arith)))

pub start_passed : (M : State) (row_of : ℕ → Option ℕ) (n : ℕ) (excess : List ReplicaId) (p : BlockPass) → ((b : ℕ) → get M.holdings.blocks b ≡ None → sources M row_of b ≡ [])
    → excess ≡ excess_in (entries M.holdings.replicas) → IsStart n p → IsPassed M row_of n excess (entries M.holdings.replicas) p
unfolding entries
start_passed M row_of n excess p known excess_is start = record {
  known = known;
  sorted = M.holdings.replicas.sorted;
  later = ascends M.holdings.replicas.list p.block M.holdings.replicas.sorted (λ e rest is. subst (λ b. b ≤ e.0.block) (sym start.block) (omega arith));
  excess_left = ap (λ k. drop k excess) start.passed ∙ excess_is;
  current = ap (λ xs. xs ++ sources_in M.cluster row_of M.holdings.replicas.list p.block) (sym start.sources);
  next = λ b later. refl;
  tallies = subst (λ c. AreOver M row_of (λ b. nat_lt b c) p.all p.rows.items) (sym start.block) (record {
    all = start.all ∙ (λ i. tally_of (λ v. sym (none_before M (λ b. value_by M v b (sources M row_of b))) i));
    each = λ k r here. subst (IsRowOver M row_of (λ b. nat_lt b 0) k) (sym (start.rows.each k r here)) (record {
      before = λ i. tally_of (λ v. sym (none_before M (value_before M row_of k v)) i);
      after = λ i. tally_of (λ v. sym (none_before M (value_after M row_of k v)) i);
      lost = none_listed (λ b. loses_all k (sources M row_of b)) (keys M.holdings.blocks);
    });
  });
  count = start.rows.count;
}

-- Only known blocks have usable replicas, and no count overflows.

not_usable : (t : Tag) (excess : Bool) → is_stray t ≡ true → (is_good t && not excess) ≡ false
not_usable Good excess h = cc
not_usable Stale excess h = cc
not_usable Bad excess h = cc
not_usable Stray excess h = refl

none_known : (M : State) (row_of : ℕ → Option ℕ) (b : ℕ) → get M.holdings.blocks b ≡ None → (es : List Marked)
    → Each (λ e. is_stray e.1.tag ≡ not (contains_key M.holdings.blocks e.0.block)) es → sources_in M.cluster row_of es b ≡ []
none_known M row_of b none [] h = refl
none_known M row_of b none (e ∷ es) h =
    ap (λ x. shown M.cluster row_of (cond x (e ∷ of_block M.cluster row_of es b) (of_block M.cluster row_of es b))) (by (e.0.block == b) refl) ∙ none_known M row_of b none es h.1
  where
    by : (x : Bool) → (e.0.block == b) ≡ x → (x && is_usable e.1) ≡ false
    by false apart = refl
    by true same = not_usable e.1.tag e.1.excess (h.0 ∙ ap (λ c. not (contains_key M.holdings.blocks c)) (eqb-true e.0.block b same) ∙ ap (λ o. not (is_some o)) none)

pub only_known : (M : State) (row_of : ℕ → Option ℕ) → IsLawfulHoldings M.cluster M.holdings → (b : ℕ) → get M.holdings.blocks b ≡ None → sources M row_of b ≡ []
only_known M row_of lawful b none =
    none_known M row_of b none (entries M.holdings.replicas)
    (each_then (λ e. get M.holdings.replicas e.0 ≡ Some e.1) (λ e. is_stray e.1.tag ≡ not (contains_key M.holdings.blocks e.0.block)) (entries M.holdings.replicas) (each_entry M.holdings.replicas) (λ e here. lawful.strays e.0 e.1 here))

pub excess_are : (M : State) (excess : List ReplicaId) → excess ≡ excess_replicas M.holdings → excess ≡ excess_in (entries M.holdings.replicas)
unfolding replicas_where
excess_are M excess is = is

pub counted_within : (n : ℕ) (o : Option BlockInfo) (s s1 : BlockPass) → IfSome o IsFew → IsCounted o s s1 → IsPassWithin n s → IsPassWithin (n + 1) s1
counted_within n None s s1 few is was = record {
  all = subst (AreWithin (n + 1)) (sym is.all) (within_larger n (n + 1) s.all (omega arith) was.all);
  rows = λ k r here. larger k r (was.rows k r (ap (λ xs. slice_get xs k) (sym is.rows) ∙ here));
}
  where
    larger : (k : ℕ) (r : RowTally) → IsRowWithin n r → IsRowWithin (n + 1) r
    larger k r w = record { before = within_larger n (n + 1) r.before (omega arith) w.before; after = within_larger n (n + 1) r.after (omega arith) w.after }
counted_within n (Some i) s s1 few is was = record {
  all = subst (AreWithin (n + 1)) (sym is.all) (within_more n i s.sources.items s.all few was.all);
  rows = rows_within n i s.block s.sources.items s.sources.items s.rows.items s1.rows.items few was.rows is.rows;
}

pub switched_within : (n next : ℕ) (info : Option BlockInfo) (s s1 : BlockPass) → IfSome info IsFew → IsSwitched info next s s1 → IsPassWithin n s → IsPassWithin (n + 1) s1
switched_within n next info s s1 few (inl h) was = subst (IsPassWithin (n + 1)) (sym h.1) (record {
  all = within_larger n (n + 1) s.all (omega arith) was.all;
  rows = λ k r here. let w = was.rows k r here in record { before = within_larger n (n + 1) r.before (omega arith) w.before; after = within_larger n (n + 1) r.after (omega arith) w.after };
})
switched_within n next info s s1 few (inr h) was = counted_within n info s s1 few h.1.counted was

none_within : AreWithin 0 no_blocks
none_within = record { highest = omega arith; very_under_replicated = omega arith; under_replicated = omega arith; badly_distributed = omega arith; none = omega arith; lacking = omega arith }

pub start_within : (n : ℕ) (p : BlockPass) → IsStart n p → IsPassWithin 0 p
start_within n p start = record {
  all = subst (AreWithin 0) (sym start.all) none_within;
  rows = λ k r here. subst (IsRowWithin 0) (sym (start.rows.each k r here)) (record { before = none_within; after = none_within });
}

pub pass_larger : (m n : ℕ) (s : BlockPass) → m ≤ n → IsPassWithin m s → IsPassWithin n s
pass_larger m n s le was = record {
  all = within_larger m n s.all le was.all;
  rows = λ k r here. let w = was.rows k r here in record { before = within_larger m n r.before le w.before; after = within_larger m n r.after le w.after };
}

pub next_replica : (es : List Marked) (rs : List Replica) (i : ℕ) (r : Replica) → rs ≡ map replica_of es → slice_get rs i ≡ Some r
    → (e : Marked) × (r ≡ replica_of e) × (drop i es ≡ e ∷ drop (i + 1) es)
next_replica es rs i r are here =
    let found = by es i (ap (λ xs. slice_get xs i) (sym are) ∙ here) in
    (found.0, found.1, found.2 ∙ ap (λ n. found.0 ∷ drop n es) (one i))
  where
    one : (i : ℕ) → suc i ≡ i + 1
    one i = omega arith

    by : (es : List Marked) (i : ℕ) → slice_get (map replica_of es) i ≡ Some r → (e : Marked) × (r ≡ replica_of e) × (drop i es ≡ e ∷ drop (suc i) es)
    by [] zero h = cc
    by [] (suc i) h = cc
    by (e ∷ es) zero h = (e, (cc), refl)
    by (e ∷ es) (suc i) h = by es i h

pub replicas_are : (H : Holdings) → all_replicas H ≡ map replica_of (entries H.replicas)
unfolding all_replicas
replicas_are H = refl

pub within_by : (n : ℕ) (s s1 : BlockPass) → s1.all ≡ s.all → s1.rows ≡ s.rows → IsPassWithin n s → IsPassWithin n s1
within_by n s s1 all rows was = record {
  all = subst (AreWithin n) (sym all) was.all;
  rows = subst (λ rs. AreRowsWithin n rs.items) (sym rows) was.rows;
}
