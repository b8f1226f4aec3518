-- The tallies give the counts of the state, and of the state after a loss.
use Rattle.std.proofs.Common.{◌≡◌, ◌∙◌, ℕ, ◌+◌, ◌-◌, ◌<◌, ◌≤◌, Bool, true, false, cond, not, ◌&&◌, ◌||◌, List, [], ◌∷◌, Option, Some, None, is_some, is_none, refl, sym, ap, subst, map, filter, length, arith}
use Rattle.std.specs.Prelude.{◌==◌, nat_eq, sum_by, count_by, option_and_then}
use Rattle.std.specs.List.{list_any, dedup}
use Rattle.std.specs.Option.{option_map_or}
use Rattle.std.proofs.lemmas.Bool.{eqb-true, false≢true}
use Rattle.std.proofs.lemmas.List.Sums.{sum_by-cons, length-filter}
use Rattle.bm_base.specs.declared.replica.BlockInfo.{BlockInfo}
use Rattle.bm_base.specs.declared.replica.Level.{Level}
use Rattle.bm_base.specs.declared.replica.Level.TheVariants.{Highest, VeryUnderReplicated, UnderReplicated, BadlyDistributed, NoUsableReplica}
use Rattle.bm_base.specs.declared.replica.Tag.{Tag}
use Rattle.bm_base.specs.declared.replica.Tag.TheVariants.{Good, Stale, Bad, Stray}
use Rattle.bm_base.specs.Promises.Lawful.{IsLawfulHoldings}
use Rattle.bm_base.specs.Words.{State, Cluster, Map, by_number, get, keys, entries, contains_key, has, has_repeats, level, live, usable, storages_where, all_replicas, is_at, is_multi_rack, is_usable, is_good, is_stray}
use Rattle.bm_base.proofs.ForEach.{Each, each_mapped, each_then, each_filtered}
use Rattle.bm_base.proofs.ListTests.{any_weaker}
use Rattle.bm_base.proofs.MapEntries.{each_entry}
use Rattle.bm_base.proofs.OneWish.{once_keys}
use Rattle.bm_base.proofs.Options.{is_there}
use Rattle.bm_base.proofs.Sets.{has_keys}
use Rattle.cluster_lost.specs.Sources.{touches, left_without, level_by, lacking_by, bytes_to_copy, live_by, is_of, source_of}
use Rattle.cluster_lost.specs.Tallies.{Value, at, weigh, without_level}
use Rattle.cluster_lost.specs.Passes.{Marked, replica_of, sources, sum_over, value_after, value_before, value_by}
use Rattle.cluster_lost.specs.Deaths.{IsWithout}
use Rattle.cluster_lost.specs.After.{seen}
use Rattle.cluster_lost.specs.declared.sources.Source.{Source}
use Rattle.cluster_lost.proofs.After.{level_after, level_empty, live_count, shown, usable_count, usable_left}
use Rattle.cluster_lost.proofs.Held.{Up, blocks_of, blocks_up, has_block, once_dedup, same_count}
use Rattle.cluster_lost.proofs.SortedReplicas.{ascends}
use Rattle.cluster_lost.proofs.Sums.{sum_both, sum_none, sum_same}

pub sum_each : {X : Type 0} (f g : X → ℕ) (xs : List X) → Each (λ x. f x ≡ g x) xs → sum_by f xs ≡ sum_by g xs
sum_each f g [] h = refl
sum_each f g (x ∷ xs) h = let here = h.0 in let rest = sum_each f g xs h.1 in let l = sum_by-cons f x xs in let r = sum_by-cons g x xs in omega (arith, here, rest, l, r)

pub each_key : {X : Type 0} (P : ℕ → Type 0) (m : Map by_number X) → ((b : ℕ) (x : X) → get m b ≡ Some x → P b) → Each P (keys m)
unfolding keys
each_key P m is = each_mapped P (λ e. e.0) (entries m) (each_then (λ e. get m e.0 ≡ Some e.1) (λ e. P e.0) (entries m) (each_entry m) (λ e h. is e.0 e.1 h))

-- The loss of a row, by the blocks that it touches.

untouched : (k : ℕ) (us : List Source) → touches k us ≡ false → left_without k us ≡ us
untouched k [] h = refl
untouched k (u ∷ us) h = by (is_of k u) h (untouched k us)
  where
    by : (x : Bool) → (x || touches k us) ≡ false → (touches k us ≡ false → left_without k us ≡ us) → cond (not x) (u ∷ left_without k us) (left_without k us) ≡ u ∷ us
    by true h rest = absurd (false≢true (sym h))
    by false h rest = ap (λ vs. u ∷ vs) (rest h)

-- with what the touched blocks have without the row, and then without what they had
pub row_total : (M : State) (row_of : ℕ → Option ℕ) (k : ℕ) (v : Value)
    → sum_over M (λ _. true) (λ b. value_by M v b (sources M row_of b)) + sum_over M (λ _. true) (value_after M row_of k v)
    ≡ sum_over M (λ _. true) (value_before M row_of k v) + sum_over M (λ _. true) (λ b. value_by M v b (left_without k (sources M row_of b)))
row_total M row_of k v =
    sym (sum_both (λ b. value_by M v b (sources M row_of b)) (value_after M row_of k v) (keys M.holdings.blocks))
    ∙ sum_same _ _ (keys M.holdings.blocks) (λ b. by b (touches k (sources M row_of b)) refl)
    ∙ sum_both (value_before M row_of k v) (λ b. value_by M v b (left_without k (sources M row_of b))) (keys M.holdings.blocks)
  where
    by : (b : ℕ) (x : Bool) → touches k (sources M row_of b) ≡ x
        → value_by M v b (sources M row_of b) + cond x (value_by M v b (left_without k (sources M row_of b))) 0
        ≡ cond x (value_by M v b (sources M row_of b)) 0 + value_by M v b (left_without k (sources M row_of b))
    by b true is = refl
    by b false is = let same : value_by M v b (left_without k (sources M row_of b)) ≡ value_by M v b (sources M row_of b) = ap (value_by M v b) (untouched k (sources M row_of b) is) in omega (arith, same)

-- Levels.

abbrev level_value : Bool → (Option Level → Bool) → Value
level_value multi q i us = cond (q (seen multi (level_by i us))) 1 0

never_missing : (multi : Bool) (q : Option Level → Bool) → q (Some NoUsableReplica) ≡ false → q (seen multi (Some NoUsableReplica)) ≡ false
never_missing true q h = h
never_missing false q h = h

good_not_stray : (t : Tag) (excess : Bool) → (is_good t && not excess) ≡ true → not (is_stray t) ≡ true
good_not_stray Good excess h = refl
good_not_stray Stale excess h = cc
good_not_stray Bad excess h = cc
good_not_stray Stray excess h = cc

module _ (M N : State) (gone dead : ℕ → Bool) (w : IsWithout M N gone dead) (row_of : ℕ → Option ℕ) (lawful : IsLawfulHoldings M.cluster M.holdings) where
  -- the usable replicas of a block that are left
  abbrev picked : ℕ → List Source
  picked b = shown M.cluster row_of (filter (λ s. not (gone s)) (usable M.holdings b))

  abbrev held : List ℕ
  held = dedup nat_eq (blocks_of (all_replicas N.holdings))

  abbrev es : List Marked
  es = entries N.holdings.replicas

  held_is : (b : ℕ) → has held b ≡ list_any (λ e. (e.0.block == b) && not (is_stray e.1.tag)) es
  unfolding all_replicas
  held_is b = has_block es b

  held_once : has_repeats held ≡ false
  unfolding all_replicas entries
  held_once = once_dedup (blocks_of (all_replicas N.holdings)) 0 (blocks_up es 0 (ascends N.holdings.replicas.list 0 N.holdings.replicas.sorted (λ e rest is. omega arith)))

  tags_known : Each (λ e. is_stray e.1.tag ≡ not (contains_key M.holdings.blocks e.0.block)) es
  tags_known =
      subst (λ xs. Each (λ e. is_stray e.1.tag ≡ not (contains_key M.holdings.blocks e.0.block)) xs) (sym w.replicas)
      (each_filtered (λ e. is_stray e.1.tag ≡ not (contains_key M.holdings.blocks e.0.block)) (λ e. not (gone e.0.storage)) (entries M.holdings.replicas)
      (each_then (λ e. get M.holdings.replicas e.0 ≡ Some e.1) (λ e. is_stray e.1.tag ≡ not (contains_key M.holdings.blocks e.0.block)) (entries M.holdings.replicas) (each_entry M.holdings.replicas) (λ e h. lawful.strays e.0 e.1 h)))

  none_held : (b : ℕ) → get M.holdings.blocks b ≡ None → (xs : List Marked) → Each (λ e. is_stray e.1.tag ≡ not (contains_key M.holdings.blocks e.0.block)) xs
      → list_any (λ e. (e.0.block == b) && not (is_stray e.1.tag)) xs ≡ false
  none_held b none [] h = refl
  none_held b none (e ∷ xs) h = ap (λ z. z || list_any (λ e. (e.0.block == b) && not (is_stray e.1.tag)) xs) (by (e.0.block == b) refl) ∙ none_held b none xs h.1
    where
      by : (x : Bool) → (e.0.block == b) ≡ x → (x && not (is_stray e.1.tag)) ≡ false
      by false apart = refl
      by true same = ap not (h.0 ∙ ap (λ c. not (contains_key M.holdings.blocks c)) (eqb-true e.0.block b same) ∙ ap (λ o. not (is_some o)) none)

  none_usable : (b : ℕ) (xs : List Marked) → list_any (λ e. (e.0.block == b) && is_usable e.1) xs ≡ false → filter (λ e. (e.0.block == b) && is_usable e.1) xs ≡ []
  none_usable b [] h = refl
  none_usable b (e ∷ xs) h = by ((e.0.block == b) && is_usable e.1) h (none_usable b xs)
    where
      by : (x : Bool) → (x || list_any (λ e. (e.0.block == b) && is_usable e.1) xs) ≡ false
          → (list_any (λ e. (e.0.block == b) && is_usable e.1) xs ≡ false → filter (λ e. (e.0.block == b) && is_usable e.1) xs ≡ []) → cond x (e ∷ filter (λ e. (e.0.block == b) && is_usable e.1) xs) (filter (λ e. (e.0.block == b) && is_usable e.1) xs) ≡ []
      by true h rest = absurd (false≢true (sym h))
      by false h rest = rest h

  nothing_left : (b : ℕ) → list_any (λ e. (e.0.block == b) && is_usable e.1) es ≡ false → picked b ≡ []
  unfolding storages_where
  nothing_left b none = ap (shown M.cluster row_of) (sym (usable_left M N gone dead w row_of b) ∙ ap (map (λ e. e.0.storage)) (none_usable b es none))

  module _ (q : Option Level → Bool) (never : q (Some NoUsableReplica) ≡ false) where
    abbrev multi : Bool
    multi = is_multi_rack N.cluster

    abbrev passes : ℕ → Bool
    passes b = q (level N.cluster N.holdings b)

    empty_fails : (b : ℕ) (i : BlockInfo) → get M.holdings.blocks b ≡ Some i → (us : List Source) → us ≡ [] → q (seen multi (level_by i us)) ≡ false
    empty_fails b i known us none = ap (λ xs. q (seen multi (level_by i xs))) none ∙ ap (λ f. q (seen multi f)) (level_empty i (lawful.replicated b i known).0) ∙ never_missing multi q never

    as_known : (b : ℕ) → passes b ≡ true → has held b ≡ has (keys M.holdings.blocks) b
    as_known b h = by (get M.holdings.blocks b) refl
      where
        there : (i : BlockInfo) → get M.holdings.blocks b ≡ Some i → (x : Bool) → list_any (λ e. (e.0.block == b) && is_usable e.1) es ≡ x → list_any (λ e. (e.0.block == b) && not (is_stray e.1.tag)) es ≡ true
        there i known true some = any_weaker (λ (e : Marked). (e.0.block == b) && is_usable e.1) (λ (e : Marked). (e.0.block == b) && not (is_stray e.1.tag)) (λ e t. weaker e (e.0.block == b) t) es some
          where
            weaker : (e : Marked) (x : Bool) → (x && is_usable e.1) ≡ true → (x && not (is_stray e.1.tag)) ≡ true
            weaker e true t = good_not_stray e.1.tag e.1.excess t
            weaker e false t = absurd (false≢true t)
        there i known false none =
            absurd (false≢true (sym (ap q (level_after M N gone dead w row_of b i known) ∙ empty_fails b i known (picked b) (nothing_left b none)) ∙ h))

        by : (o : Option BlockInfo) → get M.holdings.blocks b ≡ o → has held b ≡ has (keys M.holdings.blocks) b
        by None none = held_is b ∙ none_held b none es tags_known ∙ sym (has_keys M.holdings.blocks b ∙ ap is_some none)
        by (Some i) known = held_is b ∙ there i known (list_any (λ e. (e.0.block == b) && is_usable e.1) es) refl ∙ sym (has_keys M.holdings.blocks b ∙ ap is_some known)

    value_is : (b : ℕ) (i : BlockInfo) → get M.holdings.blocks b ≡ Some i → cond (passes b) 1 0 ≡ value_by M (level_value multi q) b (picked b)
    value_is b i known =
        ap (λ f. cond (q f) 1 0) (level_after M N gone dead w row_of b i known) ∙ by (picked b) refl ∙ sym (ap (λ o. option_map_or (λ i. weigh (level_value multi q) i (picked b)) o 0) known)
      where
        by : (us : List Source) → picked b ≡ us → cond (q (seen multi (level_by i us))) 1 0 ≡ weigh (level_value multi q) i us
        by [] is = ap (λ x. cond x 1 0) (empty_fails b i known [] refl)
        by (u ∷ us) is = refl

    pub level_total : count_by (λ b. q (level N.cluster N.holdings b)) held ≡ sum_by (λ b. value_by M (level_value multi q) b (picked b)) (keys M.holdings.blocks)
    level_total =
        sym (length-filter passes held) ∙ same_count passes held (keys M.holdings.blocks) held_once (once_keys M.holdings.blocks) as_known ∙ length-filter passes (keys M.holdings.blocks)
        ∙ sum_each (λ b. cond (passes b) 1 0) (λ b. value_by M (level_value multi q) b (picked b)) (keys M.holdings.blocks) (each_key (λ b. cond (passes b) 1 0 ≡ value_by M (level_value multi q) b (picked b)) M.holdings.blocks value_is)

  -- the sum of a value over the known blocks, by what is left of them
  abbrev pub sum_of : Value → ℕ
  sum_of v = sum_by (λ b. value_by M v b (picked b)) (keys M.holdings.blocks)

  pub highest_total : count_by (λ b. is_at Highest (level N.cluster N.holdings b)) held ≡ sum_of (at Highest)
  highest_total = level_total (is_at Highest) refl ∙ (λ j. sum_of (λ i us. cond (same (is_multi_rack N.cluster) (level_by i us) j) 1 0))
    where
      same : (multi : Bool) (f : Option Level) → is_at Highest (seen multi f) ≡ is_at Highest f
      same true f = refl
      same false None = refl
      same false (Some Highest) = refl
      same false (Some VeryUnderReplicated) = refl
      same false (Some UnderReplicated) = refl
      same false (Some BadlyDistributed) = refl
      same false (Some NoUsableReplica) = refl

  pub very_total : count_by (λ b. is_at VeryUnderReplicated (level N.cluster N.holdings b)) held ≡ sum_of (at VeryUnderReplicated)
  very_total = level_total (is_at VeryUnderReplicated) refl ∙ (λ j. sum_of (λ i us. cond (same (is_multi_rack N.cluster) (level_by i us) j) 1 0))
    where
      same : (multi : Bool) (f : Option Level) → is_at VeryUnderReplicated (seen multi f) ≡ is_at VeryUnderReplicated f
      same true f = refl
      same false None = refl
      same false (Some Highest) = refl
      same false (Some VeryUnderReplicated) = refl
      same false (Some UnderReplicated) = refl
      same false (Some BadlyDistributed) = refl
      same false (Some NoUsableReplica) = refl

  pub under_total : count_by (λ b. is_at UnderReplicated (level N.cluster N.holdings b)) held ≡ sum_of (at UnderReplicated)
  under_total = level_total (is_at UnderReplicated) refl ∙ (λ j. sum_of (λ i us. cond (same (is_multi_rack N.cluster) (level_by i us) j) 1 0))
    where
      same : (multi : Bool) (f : Option Level) → is_at UnderReplicated (seen multi f) ≡ is_at UnderReplicated f
      same true f = refl
      same false None = refl
      same false (Some Highest) = refl
      same false (Some VeryUnderReplicated) = refl
      same false (Some UnderReplicated) = refl
      same false (Some BadlyDistributed) = refl
      same false (Some NoUsableReplica) = refl

  -- a value by its value of each block with a usable replica
  same_values : (v u : Value) → ((i : BlockInfo) (us : List Source) → v i us ≡ u i us) → sum_of v ≡ sum_of u
  same_values v u same = λ j. sum_of (λ i us. same i us j)

  pub badly_total : count_by (λ b. is_at BadlyDistributed (level N.cluster N.holdings b)) held ≡ cond (is_multi_rack N.cluster) (sum_of (at BadlyDistributed)) 0
  badly_total = level_total (is_at BadlyDistributed) refl ∙ by (is_multi_rack N.cluster)
    where
      never : (f : Option Level) → cond {A = ℕ} (is_at BadlyDistributed (seen false f)) 1 0 ≡ 0
      never None = refl
      never (Some Highest) = refl
      never (Some VeryUnderReplicated) = refl
      never (Some UnderReplicated) = refl
      never (Some BadlyDistributed) = refl
      never (Some NoUsableReplica) = refl

      zero_value : (o : Option BlockInfo) (us : List Source) → option_map_or (λ i. weigh (λ _ _. 0) i us) o 0 ≡ 0
      zero_value None us = refl
      zero_value (Some i) [] = refl
      zero_value (Some i) (u ∷ us) = refl

      by : (multi : Bool) → sum_of (level_value multi (is_at BadlyDistributed)) ≡ cond multi (sum_of (at BadlyDistributed)) 0
      by true = refl
      by false = same_values (level_value false (is_at BadlyDistributed)) (λ _ _. 0) (λ i us. never (level_by i us)) ∙ sum_none (λ b. value_by M (λ _ _. 0) b (picked b)) (keys M.holdings.blocks) (λ b. zero_value (get M.holdings.blocks b) (picked b))

  pub none_total : count_by (λ b. is_none (level N.cluster N.holdings b)) held ≡ cond (is_multi_rack N.cluster) (sum_of without_level) (sum_of without_level + sum_of (at BadlyDistributed))
  none_total = level_total is_none refl ∙ by (is_multi_rack N.cluster)
    where
      either : (f : Option Level) → cond {A = ℕ} (is_none (seen false f)) 1 0 ≡ cond {A = ℕ} (is_none f) 1 0 + cond (is_at BadlyDistributed f) 1 0
      either None = refl
      either (Some Highest) = refl
      either (Some VeryUnderReplicated) = refl
      either (Some UnderReplicated) = refl
      either (Some BadlyDistributed) = refl
      either (Some NoUsableReplica) = refl

      parted : (o : Option BlockInfo) (us : List Source)
          → option_map_or (λ i. weigh (λ i us. without_level i us + at BadlyDistributed i us) i us) o 0 ≡ option_map_or (λ i. weigh without_level i us) o 0 + option_map_or (λ i. weigh (at BadlyDistributed) i us) o 0
      parted None us = refl
      parted (Some i) [] = refl
      parted (Some i) (u ∷ us) = refl

      by : (multi : Bool) → sum_of (level_value multi is_none) ≡ cond multi (sum_of without_level) (sum_of without_level + sum_of (at BadlyDistributed))
      by true = refl
      by false =
          same_values (level_value false is_none) (λ i us. without_level i us + at BadlyDistributed i us) (λ i us. either (level_by i us))
          ∙ sum_same _ _ (keys M.holdings.blocks) (λ b. parted (get M.holdings.blocks b) (picked b))
          ∙ sum_both (λ b. value_by M without_level b (picked b)) (λ b. value_by M (at BadlyDistributed) b (picked b)) (keys M.holdings.blocks)

  -- bytes
  pub lacking_total : sum_by (λ b. option_map_or (λ i. bytes_to_copy i (length (live N.cluster N.holdings b)) (length (usable N.holdings b))) (get N.holdings.blocks b) 0) (keys N.holdings.blocks) ≡ sum_of lacking_by
  lacking_total =
      ap (λ m. sum_by (λ b. option_map_or (λ i. bytes_to_copy i (length (live N.cluster N.holdings b)) (length (usable N.holdings b))) (get m b) 0) (keys m)) w.blocks
      ∙ sum_same _ _ (keys M.holdings.blocks) (λ b. (λ j. option_map_or (λ i. bytes_to_copy i (live_count M N gone dead w row_of b j) (usable_count M N gone dead w row_of b j)) (get M.holdings.blocks b) 0) ∙ by (get M.holdings.blocks b) (picked b))
    where
      by : (o : Option BlockInfo) (us : List Source) → option_map_or (λ i. bytes_to_copy i (live_by us) (length us)) o 0 ≡ option_map_or (λ i. weigh lacking_by i us) o 0
      by None us = refl
      by (Some i) [] = refl
      by (Some i) (u ∷ us) = refl
