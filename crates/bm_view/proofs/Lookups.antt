-- A binary search among rows sorted by block number finds a block's row, or that it has none.
use Rattle.std.proofs.Common.{◌≡◌, ◌≢◌, ℕ, zero, suc, ◌<◌, ◌≤◌, List, [], ◌∷◌, length, get_or, Result, Ok, Err, MatchResult, refl, ap, sym, arith}
use Rattle.std.specs.List.Sorted.{IsSearchInRange, IsBinarySearchResult, IsNonDecreasingBy}
use Rattle.std.specs.Ordering.{nat_cmp, ordering_index}
use Rattle.std.proofs.lemmas.Cmp.{ranked}
use Rattle.std.proofs.lemmas.Bool.Decides.{nat_tests}
use Rattle.bm_base.specs.Promises.Versions.{Row}
use Rattle.bm_view.specs.Version.{AscendsById, places_in}

-- the row at an index is the one that a look-up of its number finds
pub places_in-at : (rows : List Row) (at : ℕ) (d : Row) (id : ℕ) → AscendsById rows → at < length rows → (get_or rows at d).0 ≡ id → places_in rows id ≡ (get_or rows at d).1
places_in-at [] at d id ascends within is = absurd (omega arith)
places_in-at (r ∷ rs) zero d id ascends within is = grind (arith, nat_tests)
places_in-at (r ∷ rs) (suc at) d id ascends within is =
    let below : r.0 < (get_or rs at d).0 = ascends zero (suc at) d (omega arith) within in
    let rest : places_in rs id ≡ (get_or rs at d).1 = places_in-at rs at d id (λ i j e lt h. ascends (suc i) (suc j) e (omega arith) (omega arith)) (omega arith) is in
    grind (arith, nat_tests)

pub places_in-absent : (rows : List Row) (id : ℕ) → ((k : ℕ) (d : Row) → k < length rows → (get_or rows k d).0 ≢ id) → places_in rows id ≡ []
places_in-absent [] id absent = refl
places_in-absent (r ∷ rs) id absent =
    let other : r.0 ≢ id = absent zero r (omega arith) in
    let rest : places_in rs id ≡ [] = places_in-absent rs id (λ k d h. absent (suc k) d (omega arith)) in
    grind (arith, nat_tests)

module _ (rows : List Row) (ascends : AscendsById rows) (id : ℕ) where
  comparisons_ascend : IsNonDecreasingBy (λ (r : Row). ordering_index (nat_cmp r.0 id)) rows
  comparisons_ascend i j d le within =
      let ids_ascend : (get_or rows i d).0 ≤ (get_or rows j d).0 = grind (arith, ascends i j d, λ (same : i ≡ j). ap (λ (k : ℕ). (get_or rows k d).0) same) in
      grind (arith, nat_tests)

  -- a binary search finds the row of the block, if it exists
  pub searched : (r : Result ℕ ℕ) → IsSearchInRange r (length rows) → IsBinarySearchResult (λ (r : Row). nat_cmp r.0 id) rows r
      → MatchResult r (λ at. (d : Row) → places_in rows id ≡ (get_or rows at d).1) (λ _. places_in rows id ≡ [])
  searched (Ok at) within equal = λ d. places_in-at rows at d id ascends within (ranked _ id _ (sym (equal d)))
  searched (Err at) within parted = places_in-absent rows id (λ k d h same. grind (arith, λ (lt : k < at). ranked _ id _ (sym ((parted comparisons_ascend).0 k d (omega arith) lt)), λ (le : at ≤ k). ranked _ id _ (sym ((parted comparisons_ascend).1 k d le h))))
