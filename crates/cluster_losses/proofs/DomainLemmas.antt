-- The alive nodes' racks, sorted and without duplicates, are the racks with nodes, ascending.
use Rattle.std.proofs.Common.{◌≡◌, ◌∙◌, ◌++◌, ℕ, List, map, sym, ap, subst}
use Rattle.std.proofs.lemmas.List.Folds.{list_any-append}
use Rattle.std.specs.Prelude.{◌==◌, nat_eq}
use Rattle.std.specs.List.{dedup}
use Rattle.std.specs.Ordering.{nat_cmp}
use Rattle.std.specs.List.Sorted.{IsPermutation, IsSorted, IsStrictlyIncreasing}
use Rattle.std.proofs.lemmas.List.Sorted.{list_any-IsPermutation}
use Rattle.std.proofs.lemmas.Map.Keys.{IsStrictlyIncreasing-dedup}
use Rattle.bm_base.proofs.Sets.{has_once}
use Rattle.bm_base.specs.Words.{Cluster, has, keys}
use Rattle.cluster_losses.specs.FailureDomains.{rack_number, AreRackNumbers}
use Rattle.cluster_losses.specs.RowCounts.{IsMerged}

-- the racks of all nodes, in order and each once
pub racks_once : (C : Cluster) (all sorted once : List ℕ) → all ≡ map (rack_number C) (keys C.nodes) → IsPermutation all sorted → IsSorted nat_cmp sorted → once ≡ dedup nat_eq sorted
    → AreRackNumbers C once
racks_once C all sorted once are moved order is = record {
  ascending = subst IsStrictlyIncreasing (sym is) (IsStrictlyIncreasing-dedup sorted order);
  all = λ r. ap (λ xs. has xs r) is ∙ has_once sorted r ∙ sym (list_any-IsPermutation (λ x. x == r) all sorted moved) ∙ ap (λ xs. has xs r) are;
}

-- two lists, one after the other, in order and each number once
pub merged : (xs ys all sorted once : List ℕ) → all ≡ xs ++ ys → IsPermutation all sorted → IsSorted nat_cmp sorted → once ≡ dedup nat_eq sorted → IsMerged xs ys once
merged xs ys all sorted once are moved order is = record {
  ascending = subst IsStrictlyIncreasing (sym is) (IsStrictlyIncreasing-dedup sorted order);
  all = λ b.
      ap (λ zs. has zs b) is ∙ has_once sorted b ∙ sym (list_any-IsPermutation (λ x. x == b) all sorted moved) ∙ ap (λ zs. has zs b) are
      ∙ list_any-append (λ x. x == b) xs ys;
}
