-- The tallies of a row give the counts of the state after the deaths of its nodes.
use Rattle.std.proofs.Common.{◌≡◌, ◌∙◌, ℕ, ◌+◌, ◌-◌, ◌*◌, ◌^◌, ◌≤◌, Bool, true, false, cond, not, ◌&&◌, ◌||◌, List, [], ◌∷◌, Option, Some, None, refl, sym, ap, map, filter, length, arith}
use Rattle.std.specs.Prelude.{◌==◌, option_and_then, slice_get}
use Rattle.std.specs.List.{list_any}
use Rattle.std.specs.Option.{option_map_or}
use Rattle.std.proofs.Math.Bool.{and-true}
use Rattle.std.proofs.lemmas.List.{length-map}
use Rattle.bm_base.specs.Promises.Lawful.{IsLawful}
use Rattle.bm_base.specs.declared.replica.Level.TheVariants.{Highest, VeryUnderReplicated, UnderReplicated, BadlyDistributed}
use Rattle.bm_base.specs.Words.{State, Cluster, has_storage, is_multi_rack, keys, node_of, usable}
use Rattle.bm_base.proofs.ListTests.{any_agree, any_filter, any_map}
use Rattle.cluster_lost.specs.Deaths.{death, is_among}
use Rattle.cluster_lost.specs.Losses.{after_losses, is_taken, lost_blocks}
use Rattle.cluster_lost.specs.Passes.{IsPassWithin, IsWhole, loses_all, sources, sum_over, value_after, value_before, value_by}
use Rattle.cluster_lost.specs.Sources.{is_of, lacking_by, left_without, source_of, touches}
use Rattle.cluster_lost.specs.Tallies.{Value, at, tally_of, without_level}
use Rattle.cluster_lost.specs.declared.block_pass.BlockPass.{BlockPass}
use Rattle.cluster_lost.specs.declared.block_pass.RowTally.{RowTally}
use Rattle.cluster_lost.specs.declared.tally.Tally.{Tally}
use Rattle.cluster_lost.proofs.After.{left_shown, shown, sources_are}
use Rattle.cluster_lost.proofs.Deaths.{without_dead}
use Rattle.cluster_lost.proofs.Sums.{sum_same}
use Rattle.cluster_lost.proofs.Tests.{any_either, none_if_empty}
use Rattle.cluster_lost.proofs.Totals.{row_total, sum_of}
use Rattle.cluster_report.specs.Levels.{levels_counted}
use Rattle.cluster_report.specs.Reports.{levels_held}
use Rattle.cluster_losses.specs.LackingBytes.{lacking_bytes}
use Rattle.cluster_losses.specs.Outcomes.{IsTallied, left_of, levels_by}
use Rattle.cluster_losses.specs.RowIndex.{is_row}
use Rattle.cluster_losses.proofs.Counts.{capped, lacking_is, levels_are}

pub gone_by_node : (C : Cluster) (ns : List ℕ) (s : ℕ) → is_taken C (map death ns) s ≡ option_map_or (is_among ns) (node_of C s) false
unfolding has_storage
gone_by_node C [] s = elim (node_of C s) as (λ o. false ≡ option_map_or (is_among []) o false) [ None ↦ refl | Some m ↦ refl ]
gone_by_node C (n ∷ ns) s =
    ap (λ b. option_map_or (λ m. m == n) (node_of C s) false || b) (gone_by_node C ns s)
    ∙ (elim (node_of C s) as (λ o. (option_map_or (λ m. m == n) o false || option_map_or (is_among ns) o false) ≡ option_map_or (is_among (n ∷ ns)) o false) [
      | None ↦ refl
      | Some m ↦ refl
    ])

difference : (f a b s : ℕ) → f + a ≡ b + s → (f + a) - b ≡ s
difference f a b s h = omega (arith, h)

tally_left : (F A B S : Value → ℕ) (all : Tally) (r : RowTally) → all ≡ tally_of F → r.after ≡ tally_of A → r.before ≡ tally_of B → ((v : Value) → F v + A v ≡ B v + S v) → left_of all r ≡ tally_of S
tally_left F A B S all r f a b h =
    (λ i. record {
      highest = ((f i).highest + (a i).highest) - (b i).highest;
      very_under_replicated = ((f i).very_under_replicated + (a i).very_under_replicated) - (b i).very_under_replicated;
      under_replicated = ((f i).under_replicated + (a i).under_replicated) - (b i).under_replicated;
      badly_distributed = ((f i).badly_distributed + (a i).badly_distributed) - (b i).badly_distributed;
      none = ((f i).none + (a i).none) - (b i).none;
      lacking = ((f i).lacking + (a i).lacking) - (b i).lacking;
    })
    ∙ (λ i. tally_of (λ v. difference (F v) (A v) (B v) (S v) (h v) i))

some_gone : (g s : Bool) → (g && not s) ≡ ((g || s) && not s)
some_gone true s = refl
some_gone false true = refl
some_gone false false = refl

always : (x : Bool) → (x || not x) ≡ true
always true = refl
always false = refl

lost_same : (gone : ℕ → Bool) (ss : List ℕ) → (list_any gone ss && (length (filter (λ s. not (gone s)) ss) == 0)) ≡ (not (length ss == 0) && not (list_any (λ s. not (gone s)) ss))
lost_same gone ss =
    ap (λ b. list_any gone ss && b) (none_if_empty (filter (λ s. not (gone s)) ss) ∙ ap not (any_filter (λ _. true) (λ s. not (gone s)) ss ∙ any_agree (λ s. not (gone s) && true) (λ s. not (gone s)) (λ s. and-true (not (gone s))) ss))
    ∙ some_gone (list_any gone ss) (list_any (λ s. not (gone s)) ss)
    ∙ ap (λ b. b && not (list_any (λ s. not (gone s)) ss)) (any_either gone (λ s. not (gone s)) ss ∙ any_agree (λ s. gone s || not (gone s)) (λ _. true) (λ s. always (gone s)) ss ∙ sym (ap not (none_if_empty ss) ∙ twice (list_any (λ _. true) ss)))
  where
    twice : (x : Bool) → not (not x) ≡ x
    twice true = refl
    twice false = refl

module _ (M : State) (ns : List ℕ) (row_of : ℕ → Option ℕ) (k : ℕ) (lawful : IsLawful M) (own : (n : ℕ) → is_row k (row_of n) ≡ is_among ns n) where
  abbrev N : State
  N = after_losses M (map death ns)

  abbrev gone : ℕ → Bool
  gone s = is_taken M.cluster (map death ns) s

  abbrev sum_left : Value → ℕ
  sum_left v = sum_of M N gone (is_among ns) (without_dead M ns) row_of lawful.holdings v

  same : (s : ℕ) → is_of k (source_of M.cluster row_of s) ≡ gone s
  same s =
      (elim (node_of M.cluster s) as (λ o. option_map_or (λ own. own == k) (option_and_then row_of o) false ≡ option_map_or (is_among ns) o false) [
        | None ↦ refl
        | Some m ↦ own m
      ])
      ∙ sym (gone_by_node M.cluster ns s)

  row_sums : (v : Value) → sum_over M (λ _. true) (λ b. value_by M v b (sources M row_of b)) + sum_over M (λ _. true) (value_after M row_of k v) ≡ sum_over M (λ _. true) (value_before M row_of k v) + sum_left v
  row_sums v =
      row_total M row_of k v
      ∙ ap (λ n. sum_over M (λ _. true) (value_before M row_of k v) + n)
      (sum_same _ _ (keys M.holdings.blocks) (λ b. ap (value_by M v b) (left_shown M N gone (is_among ns) (without_dead M ns) row_of k same b)))

  module _ (n : ℕ) (p : BlockPass) (whole : IsWhole M row_of n p) (r : RowTally) (here : slice_get p.rows.items k ≡ Some r) where
    pub left_is : left_of p.all r ≡ tally_of sum_left
    left_is = let row = whole.tallies.each k r here in tally_left _ _ _ sum_left p.all r whole.tallies.all row.after row.before row_sums

    pub row_levels : (m : ℕ) → levels_by (left_of p.all r) (is_multi_rack N.cluster) m ≡ levels_counted (levels_held N) m
    row_levels m = levels_are M N gone (is_among ns) (without_dead M ns) row_of lawful.holdings (left_of p.all r) m left_is

    pub row_lacking : lacking_bytes N ≡ (left_of p.all r).lacking
    row_lacking = lacking_is M N gone (is_among ns) (without_dead M ns) row_of lawful.holdings (left_of p.all r) left_is

    pub row_lost : r.lost ≡ lost_blocks M (map death ns)
    unfolding lost_blocks
    row_lost = (whole.tallies.each k r here).lost ∙ (λ i. filter (λ b. lost_at b i) (keys M.holdings.blocks))
      where
        touched : (b : ℕ) → touches k (sources M row_of b) ≡ list_any gone (usable M.holdings b)
        touched b =
            ap (touches k) (sources_are M row_of b) ∙ any_map (is_of k) (source_of M.cluster row_of) (usable M.holdings b)
            ∙ any_agree (λ s. is_of k (source_of M.cluster row_of s)) gone same (usable M.holdings b)

        lost_at : (b : ℕ) → loses_all k (sources M row_of b) ≡ (not (length (usable M.holdings b) == 0) && not (list_any (λ s. not (gone s)) (usable M.holdings b)))
        lost_at b =
            (λ i. touched b i && (length (left_shown M N gone (is_among ns) (without_dead M ns) row_of k same b i) == 0))
            ∙ ap (λ n. list_any gone (usable M.holdings b) && (n == 0)) (length-map (filter (λ s. not (gone s)) (usable M.holdings b)) (source_of M.cluster row_of))
            ∙ lost_same gone (usable M.holdings b)

    least : (f a b : ℕ) (v : Value) → f ≡ sum_over M (λ _. true) (λ b. value_by M v b (sources M row_of b)) → a ≡ sum_over M (λ _. true) (value_after M row_of k v) → b ≡ sum_over M (λ _. true) (value_before M row_of k v) → b ≤ f + a
    least f a b v f_is a_is b_is = let total = row_sums v in omega (arith, f_is, a_is, b_is, total)

    pub tallied : IsPassWithin (2 ^ 59) p → IsTallied M ns p.all r
    tallied within =
        let row = whole.tallies.each k r here in
        let all = whole.tallies.all in
        let small = within.all in
        let small_row = within.rows k r here in
        record {
          can = record {
            small = small;
            small_row = small_row;
            highest = least p.all.highest r.after.highest r.before.highest (at Highest) (ap (λ (t : Tally). t.highest) all) (ap (λ (t : Tally). t.highest) row.after) (ap (λ (t : Tally). t.highest) row.before);
            very_under_replicated = least p.all.very_under_replicated r.after.very_under_replicated r.before.very_under_replicated (at VeryUnderReplicated) (ap (λ (t : Tally). t.very_under_replicated) all) (ap (λ (t : Tally). t.very_under_replicated) row.after) (ap (λ (t : Tally). t.very_under_replicated) row.before);
            under_replicated = least p.all.under_replicated r.after.under_replicated r.before.under_replicated (at UnderReplicated) (ap (λ (t : Tally). t.under_replicated) all) (ap (λ (t : Tally). t.under_replicated) row.after) (ap (λ (t : Tally). t.under_replicated) row.before);
            badly_distributed = least p.all.badly_distributed r.after.badly_distributed r.before.badly_distributed (at BadlyDistributed) (ap (λ (t : Tally). t.badly_distributed) all) (ap (λ (t : Tally). t.badly_distributed) row.after) (ap (λ (t : Tally). t.badly_distributed) row.before);
            none = least p.all.none r.after.none r.before.none without_level (ap (λ (t : Tally). t.none) all) (ap (λ (t : Tally). t.none) row.after) (ap (λ (t : Tally). t.none) row.before);
            lacking = least p.all.lacking r.after.lacking r.before.lacking lacking_by (ap (λ (t : Tally). t.lacking) all) (ap (λ (t : Tally). t.lacking) row.after) (ap (λ (t : Tally). t.lacking) row.before);
          };
          levels = row_levels;
          lacking = capped (lacking_bytes N) ((left_of p.all r).lacking) row_lacking (fits (lacking_bytes N) p.all.lacking r.after.lacking r.before.lacking row_lacking small.lacking small_row.after.lacking);
          lost = row_lost;
        }
      where
        fits : (n f a b : ℕ) → n ≡ (f + a) - b → f ≤ 2 ^ 59 * (2 ^ 68 - 16) → a ≤ 2 ^ 59 * (2 ^ 68 - 16) → n ≤ 2 ^ 128 - 1
        fits n f a b is small more = omega (arith, is, small, more)
