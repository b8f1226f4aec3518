-- The rows of a table are ascending by the numbers of their blocks.
use Rattle.std.specs.Prelude.{◌<◌, ℕ, List, [], ◌∷◌, map, take, T}
use Rattle.std.specs.List.{All}
use Rattle.std.specs.FinMap.{is_sorted}
use Rattle.std.specs.FinMap.Entries.{below_all}
use Rattle.std.specs.Ordering.{nat_cmp}
use Rattle.std.proofs.Common.{arith}
use Rattle.std.proofs.lemmas.List.Elements.{All-nil, All-cons}
use Rattle.std.proofs.lemmas.List.Kept.{AllPairs-cons}
use Rattle.bm_base.specs.Maps.Conjunction.{first, second}
use Rattle.bm_base.specs.declared.limits.TheConstants.{MAX_PLACES}
use Rattle.bm_base.specs.declared.replica.BlockInfo.{BlockInfo}
use Rattle.bm_base.specs.Words.{keys, entries, Holdings, places}
use Rattle.bm_base.specs.Promises.Versions.{Row, table}
use Rattle.bm_view.specs.Version.{AscendsById}
use Rattle.bm_base.proofs.Orderings.{less_number}

module _ (f : ℕ → List ℕ) where
  abbrev rows : List (ℕ × BlockInfo) → List Row
  rows es = map (λ (b : ℕ). (b, f b)) (map (λ (e : ℕ × BlockInfo). e.0) es)

  below_rows : (b : ℕ) (es : List (ℕ × BlockInfo)) → T (below_all nat_cmp b es) → All (λ (r : Row). b < r.0) (rows es)
  below_rows b [] h = All-nil (λ (r : Row). b < r.0)
  below_rows b (e ∷ es) h = All-cons (λ (r : Row). b < r.0) (e.0, f e.0) (rows es) (less_number b e.0 (first _ _ h)) (below_rows b es (second _ _ h))

  rows_ascend : (es : List (ℕ × BlockInfo)) → T (is_sorted nat_cmp es) → AscendsById (rows es)
  rows_ascend [] h = λ i j d lt within. absurd (omega (arith, within))
  rows_ascend (e ∷ es) h = AllPairs-cons (λ (r s : Row). r.0 < s.0) (e.0, f e.0) (rows es) (below_rows e.0 es (first _ _ h)) (rows_ascend es (second _ _ h))

pub table_ascends : (H : Holdings) → AscendsById (table H)
unfolding table keys entries
table_ascends H = rows_ascend (λ b. take MAX_PLACES (places H b)) H.blocks.list H.blocks.sorted
