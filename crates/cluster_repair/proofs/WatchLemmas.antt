-- The watched blocks include all with a level, so counting them counts all blocks by level.
use Rattle.std.proofs.Common.{◌≡◌, ◌∙◌, ℕ, true, false, List, [], ◌∷◌, None, refl, sym, ap, subst, map, length, filter, cond, is_some, arith}
use Rattle.std.specs.Prelude.{◌==◌, nat_eq}
use Rattle.std.specs.List.{dedup, list_any}
use Rattle.std.specs.Map.{lookup, keys_of}
use Rattle.std.specs.Ordering.{nat_cmp}
use Rattle.std.specs.List.Sorted.{IsPermutation, IsSorted, IsStrictlyIncreasing}
use Rattle.std.proofs.lemmas.List.Kept.{IsStrictlyIncreasing-filter}
use Rattle.std.proofs.lemmas.List.Sums.{length-filter}
use Rattle.std.proofs.lemmas.Map.Keys.{IsStrictlyIncreasing-dedup}
use Rattle.std.proofs.lemmas.Map.Made.{is_some-lookup}
use Rattle.bm_base.specs.declared.replica.Level.{Level}
use Rattle.bm_base.specs.declared.replica.Level.TheVariants.{Highest, VeryUnderReplicated, UnderReplicated, BadlyDistributed}
use Rattle.bm_base.specs.Words.{State, has, keys, is_at, level, missing_blocks}
use Rattle.bm_base.proofs.Clusters.{eqb_turned}
use Rattle.bm_base.proofs.ListTests.{any_agree}
use Rattle.bm_base.proofs.Options.{not_there}
use Rattle.bm_topo.proofs.Repeats.{no_repeats-ascending}
use Rattle.cluster_report.specs.Catalogues.{Lists, info_in}
use Rattle.cluster_report.specs.Levels.{leveled, levels_counted, count_at}
use Rattle.cluster_report.specs.declared.catalogue.Catalogue.{Catalogue}
use Rattle.cluster_report.specs.declared.levels.Leveled.{Leveled}
use Rattle.cluster_report.specs.declared.levels.LevelCounts.{LevelCounts}
use Rattle.laws_of_repairs.specs.Repairs.{Covers, blocks_at}
use Rattle.laws_of_repairs.proofs.WatchedBlocks.{has_level, count_as_all, covers_sorted, covers_leveled, leveled_all, unknown_has_none}
use Rattle.cluster_repair.specs.Rows.{AreCounts, AreLeveled}

-- a block that is no key is not known
pub no_such_key : (c : Catalogue) (ks : List ℕ) (b : ℕ) → ks ≡ keys_of c.blocks.entries → has ks b ≡ false → info_in c b ≡ None
no_such_key c ks b is none =
    not_there (lookup (nat_eq b) c.blocks.entries)
    (is_some-lookup (nat_eq b) c.blocks.entries ∙ ap (list_any (nat_eq b)) (sym is) ∙ any_agree (nat_eq b) (λ x. x == b) (λ x. eqb_turned b x) ks ∙ none)

as_many_at : (M : State) (urgency : Level) (bs : List ℕ)
    → length (filter (λ l. is_at urgency l.level) (map (leveled M.cluster M.holdings) bs)) ≡ length (filter (λ b. is_at urgency (level M.cluster M.holdings b)) bs)
as_many_at M urgency [] = refl
as_many_at M urgency (b ∷ bs) =
    let rest = as_many_at M urgency bs in
    elim (is_at urgency (level M.cluster M.holdings b)) as (λ t. length (cond t (leveled M.cluster M.holdings b ∷ filter (λ (l : Leveled). is_at urgency l.level) (map (leveled M.cluster M.holdings) bs)) (filter (λ (l : Leveled). is_at urgency l.level) (map (leveled M.cluster M.holdings) bs)))
    ≡ length (cond t (b ∷ filter (λ c. is_at urgency (level M.cluster M.holdings c)) bs) (filter (λ c. is_at urgency (level M.cluster M.holdings c)) bs))) [
      | true ↦ omega (arith, rest)
      | false ↦ rest
    ]

count_mapped : (M : State) (urgency : Level) (bs : List ℕ) → count_at urgency (map (leveled M.cluster M.holdings) bs) ≡ blocks_at M urgency bs
count_mapped M urgency bs =
    sym (length-filter (λ (l : Leveled). is_at urgency l.level) (map (leveled M.cluster M.holdings) bs))
    ∙ as_many_at M urgency bs ∙ length-filter (λ b. is_at urgency (level M.cluster M.holdings b)) bs

leveled_filter : (M : State) (bs : List ℕ) → map (λ l. l.block) (filter (λ l. is_some l.level) (map (leveled M.cluster M.holdings) bs)) ≡ filter (has_level M) bs
leveled_filter M [] = refl
leveled_filter M (b ∷ bs) =
    elim (has_level M b) as (λ t. map (λ (l : Leveled). l.block) (cond t (leveled M.cluster M.holdings b ∷ filter (λ l. is_some l.level) (map (leveled M.cluster M.holdings) bs)) (filter (λ l. is_some l.level) (map (leveled M.cluster M.holdings) bs)))
    ≡ cond t (b ∷ filter (has_level M) bs) (filter (has_level M) bs)) [
      | true ↦ ap (λ cs. b ∷ cs) (leveled_filter M bs)
      | false ↦ leveled_filter M bs
    ]

-- the blocks with a level among these
leveled_of : (M : State) (bs kept : List ℕ) (levels : List Leveled) → levels ≡ map (leveled M.cluster M.holdings) bs
    → kept ≡ map (λ l. l.block) (filter (λ l. is_some l.level) levels) → kept ≡ filter (has_level M) bs
leveled_of M bs kept levels asked is = is ∙ ap (λ ls. map (λ (l : Leveled). l.block) (filter (λ l. is_some l.level) ls)) asked ∙ leveled_filter M bs

-- the blocks with a level among all known ones
pub covers_known : (M : State) (c : Catalogue) (bs kept : List ℕ) (levels : List Leveled) → Lists c M.holdings.blocks
    → ((b : ℕ) → has bs b ≡ false → info_in c b ≡ None) → levels ≡ map (leveled M.cluster M.holdings) bs
    → kept ≡ map (λ l. l.block) (filter (λ l. is_some l.level) levels) → Covers M kept
covers_known M c bs kept levels lists absent asked is =
    subst (Covers M) (sym (leveled_of M bs kept levels asked is)) (covers_leveled M bs (λ b none. unknown_has_none M b (sym (lists b) ∙ absent b none)))

module _ (M : State) (old ys bs : List ℕ) (levels : List Leveled) (covers : Covers M old) (same : IsPermutation old ys) (sorted : IsSorted nat_cmp ys) (once : bs ≡ dedup nat_eq ys) (asked : levels ≡ map (leveled M.cluster M.holdings) bs) where
  increasing : IsStrictlyIncreasing bs
  increasing = subst IsStrictlyIncreasing (sym once) (IsStrictlyIncreasing-dedup ys sorted)

  covered : Covers M bs
  covered = subst (Covers M) (sym once) (covers_sorted M old ys same covers)

  counted : (urgency : Level) → count_at urgency levels ≡ blocks_at M urgency (keys M.holdings.blocks)
  counted urgency = ap (count_at urgency) asked ∙ count_mapped M urgency bs ∙ count_as_all M bs urgency (no_repeats-ascending bs increasing) covered

  pub all_counted : (missing : List ℕ) (c : LevelCounts) → missing ≡ missing_blocks M.cluster M.holdings → c ≡ levels_counted levels (length missing) → AreCounts M c
  all_counted missing c are is = record {
    highest = ap (λ (d : LevelCounts). d.highest) is ∙ counted Highest;
    very_under_replicated = ap (λ (d : LevelCounts). d.very_under_replicated) is ∙ counted VeryUnderReplicated;
    under_replicated = ap (λ (d : LevelCounts). d.under_replicated) is ∙ counted UnderReplicated;
    badly_distributed = ap (λ (d : LevelCounts). d.badly_distributed) is ∙ counted BadlyDistributed;
    missing = ap (λ (d : LevelCounts). d.missing) is ∙ ap length are;
  }

  pub all_leveled : (kept : List ℕ) → kept ≡ map (λ l. l.block) (filter (λ l. is_some l.level) levels) → AreLeveled M kept
  all_leveled kept is =
      let are = leveled_of M bs kept levels asked is in
      record {
        ascending = subst IsStrictlyIncreasing (sym are) (IsStrictlyIncreasing-filter (has_level M) bs increasing);
        all = λ b. ap (λ xs. has xs b) are ∙ leveled_all M bs covered b;
      }
