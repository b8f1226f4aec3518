-- The tallies of a pass give the counts of a state.
use Rattle.std.proofs.Common.{◌≡◌, ◌∙◌, ℕ, ◌+◌, ◌-◌, ◌^◌, ◌≤◌, Bool, true, false, cond, not, List, [], ◌∷◌, Option, Some, None, IfSome, refl, sym, ap, map, filter, arith}
use Rattle.std.specs.Prelude.{is_none, count_by, sum_by, min}
use Rattle.std.proofs.lemmas.List.Sums.{sum_by-cons}
use Rattle.bm_base.specs.declared.replica.BlockInfo.{BlockInfo}
use Rattle.bm_base.specs.declared.replica.Level.{Level}
use Rattle.bm_base.specs.declared.replica.Level.TheVariants.{Highest, VeryUnderReplicated, UnderReplicated, BadlyDistributed}
use Rattle.bm_base.specs.Promises.Lawful.{IsLawful, IsLawfulHoldings}
use Rattle.bm_base.specs.Words.{State, all_replicas, get, is_at, is_multi_rack, keys, level, usable}
use Rattle.cluster_lost.specs.Deaths.{IsWithout}
use Rattle.cluster_lost.specs.Passes.{IsWhole, sources, sum_over, value_by}
use Rattle.cluster_lost.specs.Sources.{IsFew, lacking_by}
use Rattle.cluster_lost.specs.Tallies.{Value, tally_of}
use Rattle.cluster_lost.specs.declared.block_pass.BlockPass.{BlockPass}
use Rattle.cluster_lost.specs.declared.tally.Tally.{Tally}
use Rattle.cluster_lost.proofs.After.{shown, sources_are}
use Rattle.cluster_lost.proofs.Deaths.{without_none}
use Rattle.cluster_lost.proofs.Sums.{sum_same}
use Rattle.cluster_lost.proofs.Totals.{badly_total, highest_total, lacking_total, none_total, sum_of, under_total, very_total}
use Rattle.cluster_report.specs.Levels.{leveled, levels_counted}
use Rattle.cluster_report.specs.Reports.{levels_held}
use Rattle.cluster_report.specs.TagTotals.{blocks_held}
use Rattle.cluster_report.specs.declared.levels.Leveled.{Leveled}
use Rattle.cluster_losses.specs.LackingBytes.{in_128_bits, lacking_bytes}
use Rattle.cluster_losses.specs.Outcomes.{levels_by}

count_of_map : {X Y : Type 0} (q : Y → Bool) (f : X → Y) (xs : List X) → count_by q (map f xs) ≡ count_by (λ x. q (f x)) xs
count_of_map q f [] = refl
count_of_map q f (x ∷ xs) = sum_by-cons (λ y. cond (q y) 1 0) (f x) (map f xs) ∙ ap (λ n. cond (q (f x)) 1 0 + n) (count_of_map q f xs) ∙ sym (sum_by-cons (λ y. cond (q (f y)) 1 0) x xs)

module _ (M N : State) (gone dead : ℕ → Bool) (w : IsWithout M N gone dead) (row_of : ℕ → Option ℕ) (lawful : IsLawfulHoldings M.cluster M.holdings) where
  abbrev sum_left : Value → ℕ
  sum_left v = sum_of M N gone dead w row_of lawful v

  held_counted : (q : Option Level → Bool) → count_by (λ (l : Leveled). q l.level) (levels_held N) ≡ count_by (λ b. q (level N.cluster N.holdings b)) (blocks_held (all_replicas N.holdings))
  held_counted q = count_of_map (λ (l : Leveled). q l.level) (leveled N.cluster N.holdings) (blocks_held (all_replicas N.holdings))

  pub levels_are : (t : Tally) (m : ℕ) → t ≡ tally_of sum_left → levels_by t (is_multi_rack N.cluster) m ≡ levels_counted (levels_held N) m
  levels_are t m is =
      ap (λ u. levels_by u (is_multi_rack N.cluster) m) is
      ∙ sym (λ i. record {
        highest = (held_counted (is_at Highest) ∙ highest_total M N gone dead w row_of lawful) i;
        very_under_replicated = (held_counted (is_at VeryUnderReplicated) ∙ very_total M N gone dead w row_of lawful) i;
        under_replicated = (held_counted (is_at UnderReplicated) ∙ under_total M N gone dead w row_of lawful) i;
        badly_distributed = (held_counted (is_at BadlyDistributed) ∙ badly_total M N gone dead w row_of lawful) i;
        missing = m;
        none = (held_counted is_none ∙ none_total M N gone dead w row_of lawful) i;
      })

  pub lacking_is : (t : Tally) → t ≡ tally_of sum_left → lacking_bytes N ≡ t.lacking
  unfolding lacking_bytes
  lacking_is t is = lacking_total M N gone dead w row_of lawful ∙ sym (ap (λ (u : Tally). u.lacking) is)

all_stay : (xs : List ℕ) → xs ≡ filter (λ _. true) xs
all_stay [] = refl
all_stay (x ∷ xs) = ap (λ ys. x ∷ ys) (all_stay xs)

-- what a pass counts of all blocks, as they are
pub all_as_left : (M : State) (row_of : ℕ → Option ℕ) (lawful : IsLawfulHoldings M.cluster M.holdings) (t : Tally)
    → t ≡ tally_of (λ v. sum_over M (λ _. true) (λ b. value_by M v b (sources M row_of b)))
    → t ≡ tally_of (λ v. sum_of M M (λ _. false) (λ _. false) (without_none M) row_of lawful v)
all_as_left M row_of lawful t is = is ∙ (λ i. tally_of (λ v. same v i))
  where
    same : (v : Value) → sum_over M (λ _. true) (λ b. value_by M v b (sources M row_of b)) ≡ sum_of M M (λ _. false) (λ _. false) (without_none M) row_of lawful v
    same v = sum_same _ _ (keys M.holdings.blocks) (λ b. ap (value_by M v b) (sources_are M row_of b ∙ ap (shown M.cluster row_of) (all_stay (usable M.holdings b))))

pub all_levels : (M : State) (row_of : ℕ → Option ℕ) (n m : ℕ) (p : BlockPass) → IsLawful M → IsWhole M row_of n p → levels_by p.all (is_multi_rack M.cluster) m ≡ levels_counted (levels_held M) m
all_levels M row_of n m p lawful whole =
    levels_are M M (λ _. false) (λ _. false) (without_none M) row_of lawful.holdings p.all m (all_as_left M row_of lawful.holdings p.all whole.tallies.all)

pub capped : (n m : ℕ) → n ≡ m → n ≤ 2 ^ 128 - 1 → m ≡ in_128_bits n
capped n m is small = omega (arith, is, small)

pub all_lacking : (M : State) (row_of : ℕ → Option ℕ) (n : ℕ) (p : BlockPass) → IsLawful M → IsWhole M row_of n p → lacking_bytes M ≡ p.all.lacking
all_lacking M row_of n p lawful whole =
    lacking_is M M (λ _. false) (λ _. false) (without_none M) row_of lawful.holdings p.all (all_as_left M row_of lawful.holdings p.all whole.tallies.all)

-- the wanted replicas and the length of a known block
pub few_known : (M : State) (b : ℕ) (info : Option BlockInfo) → IsLawful M → info ≡ get M.holdings.blocks b → IfSome info IsFew
few_known M b info lawful is = by info (sym is)
  where
    by : (o : Option BlockInfo) → get M.holdings.blocks b ≡ o → IfSome o IsFew
    by None none = tt
    by (Some i) some = record { repl = (lawful.holdings.replicated b i some).1; len = (lawful.numbers.blocks b i some).2 }
