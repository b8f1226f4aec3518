-- Rows that are added one by one match their racks or nodes one by one, and can be sorted.
use Rattle.std.proofs.Common.{◌≡◌, ◌∙◌, ℕ, Bool, cond, List, [], ◌∷◌, ◌++◌, sym, ap, subst, length, map}
use Rattle.std.specs.Prelude.{nat_lt, sum_by}
use Rattle.std.specs.Ordering.{is_lt}
use Rattle.std.specs.List.{AllZip}
use Rattle.std.specs.Cmp.{IsTotalOrder, IsStrictWeakOrder, nat_cmp_total}
use Rattle.std.proofs.lemmas.Cmp.{on_total, then_total, back_total}
use Rattle.std.proofs.lemmas.List.MinMax.{ranks_by}
use Rattle.bm_base.specs.Promises.Lawful.{IsLawful}
use Rattle.bm_base.specs.Spread.{spread}
use Rattle.bm_base.specs.Words.{State, Cluster, is_multi_rack, keys, missing_blocks}
use Rattle.cluster_lost.specs.Losses.{after_losses, lost_blocks}
use Rattle.cluster_lost.specs.declared.block_pass.RowTally.{RowTally}
use Rattle.cluster_lost.specs.declared.tally.Tally.{Tally}
use Rattle.cluster_report.specs.Levels.{levels_counted}
use Rattle.cluster_report.specs.Reports.{levels_held}
use Rattle.cluster_names.specs.FileTable.{FileTable}
use Rattle.cluster_report.specs.declared.levels.LevelCounts.{LevelCounts}
use Rattle.cluster_pages.specs.AtRisk.{AreAtRisk}
use Rattle.cluster_pages.specs.declared.files_at_risk.AtRisk.{AtRisk}
use Rattle.cluster_losses.specs.Events.{death}
use Rattle.cluster_losses.specs.LackingBytes.{free_on}
use Rattle.cluster_losses.specs.Outcomes.{IsTallied, left_of, levels_by}
use Rattle.cluster_losses.specs.RowCounts.{IsMerged, is_on_any, racks_without}
use Rattle.cluster_losses.specs.declared.failure_domains.FailureDomain.{FailureDomain}
use Rattle.cluster_losses.specs.declared.single_losses.Row.{Row}
use Rattle.cluster_losses.specs.Tables.{IsRowAt, levels_cmp, row_cmp}
use Rattle.cluster_losses.proofs.Missing.{free_left, merged_missing, racks_left}

module _ {A B : Type 0} (R : A → B → Type 0) where
  zip_push : (xs : List A) (ys : List B) (x : A) (y : B) → AllZip R xs ys → R x y → AllZip R (xs ++ x ∷ []) (ys ++ y ∷ [])
  zip_push [] [] x y h r = (r, tt)
  zip_push [] (z ∷ ys) x y h r = absurd h
  zip_push (z ∷ xs) [] x y h r = absurd h
  zip_push (z ∷ xs) (w ∷ ys) x y h r = (h.0, zip_push xs ys x y h.1 r)

  pub zip_and : (xs more : List A) (ys new : List B) (x : A) (y : B) → more ≡ xs ++ x ∷ [] → new ≡ ys ++ y ∷ [] → AllZip R xs ys → R x y → AllZip R more new
  zip_and xs more ys new x y is now h r = subst (λ zs. AllZip R zs new) (sym is) (subst (λ ws. AllZip R (xs ++ x ∷ []) ws) (sym now) (zip_push xs ys x y h r))

levels_total : IsTotalOrder levels_cmp
levels_total =
    then_total (on_total (λ (c : LevelCounts). c.highest) (back_total nat_cmp_total))
    (then_total (on_total (λ (c : LevelCounts). c.very_under_replicated) (back_total nat_cmp_total)) (on_total (λ (c : LevelCounts). c.under_replicated) (back_total nat_cmp_total)))

pub rows_rank : IsStrictWeakOrder (λ (a b : Row). is_lt (row_cmp a b))
rows_rank =
    ranks_by
    (then_total (on_total (λ (r : Row). length r.without.lost) (back_total nat_cmp_total))
    (then_total (on_total (λ (r : Row). r.without.after.levels) levels_total) (on_total (λ (r : Row). r.number) nat_cmp_total)))
    (λ (r : Row). r)

-- a row, by what the code computes
pub row_made : (f : FileTable) (M : State) (C : Cluster) (domain : FailureDomain) (all left : Tally) (r : RowTally) (multi : Bool) (missing lost : List ℕ) (risk : AtRisk) (row : Row)
    → IsLawful M → C ≡ M.cluster → IsTallied M domain.nodes all r → left ≡ left_of all r → missing ≡ missing_blocks M.cluster M.holdings → lost ≡ r.lost
    → multi ≡ nat_lt 1 (spread (racks_without C domain.nodes))
    → row.number ≡ domain.number → row.nodes ≡ length domain.nodes
    → row.without.after.levels ≡ levels_by left multi (length row.without.after.missing)
    → IsMerged missing lost row.without.after.missing
    → row.without.after.lacking ≡ left.lacking
    → row.without.after.free ≡ sum_by (λ s. cond (is_on_any C domain.nodes s) 0 (free_on C s)) (keys C.storages)
    → row.without.lost ≡ lost → AreAtRisk f lost [] risk → row.lost_files ≡ length risk.lost
    → IsRowAt f M domain row
row_made f M C domain all left r multi missing lost risk row lawful same tallied left_is was lost_is multi_is number nodes levels merged lacking free lost_row files count =
    let ns = domain.nodes in
    let N = after_losses M (map death ns) in
    let now : row.without.after.missing ≡ missing_blocks N.cluster N.holdings =
    merged_missing M ns row.without.after.missing lawful (subst (λ xs. IsMerged xs (lost_blocks M (map death ns)) row.without.after.missing) was (subst (λ xs. IsMerged missing xs row.without.after.missing) (lost_is ∙ tallied.lost) merged)) in
    let on_racks : multi ≡ is_multi_rack N.cluster = multi_is ∙ ap (λ D. nat_lt 1 (spread (racks_without D ns))) same ∙ racks_left M ns in
    record {
      number = number;
      nodes = nodes;
      outcome = record {
        lost = lost_row ∙ lost_is ∙ tallied.lost;
        counts = record {
          levels =
              levels ∙ (λ i. levels_by (left_is i) (on_racks i) (length row.without.after.missing)) ∙ tallied.levels (length row.without.after.missing)
              ∙ ap (λ xs. levels_counted (levels_held N) (length xs)) now;
          missing = now;
          lacking = lacking ∙ ap (λ (t : Tally). t.lacking) left_is ∙ tallied.lacking;
          free = free ∙ ap (λ D. sum_by (λ s. cond (is_on_any D ns s) 0 (free_on D s)) (keys D.storages)) same ∙ free_left M ns;
        };
      };
      files = record { risk = risk; files = subst (λ bs. AreAtRisk f bs [] risk) (sym lost_row) files; count = count };
    }
