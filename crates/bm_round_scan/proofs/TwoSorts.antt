-- Deletes sorted by block, then stably sorted by storage, are sorted by storage and block.
use Rattle.std.specs.Prelude.{◌≡◌, ◌≤◌, ℕ, false, List}
use Rattle.std.specs.declared.cmp.Ordering.{Ordering}
use Rattle.std.specs.declared.cmp.Ordering.TheVariants.{Less, Equal, Greater}
use Rattle.std.specs.Ordering.{nat_cmp, is_lt, ordering_then}
use Rattle.std.specs.List.Sorted.{IsSortedByKey, IsStableByKey}
use Rattle.std.proofs.Common.{◌+◌, get_or, refl, arith}
use Rattle.std.proofs.lemmas.Bool.Decides.{nat_tests}
use Rattle.std.proofs.lemmas.List.Sorted.{ties_still_rise}
use Rattle.bm_base.specs.declared.commands.Delete.{Delete}
use Rattle.bm_base.specs.Ordered.{pair_cmp}
use Rattle.bm_base.specs.RoundParts.{delete_key}

-- a pair is not less if its first number is not, and its second is not if the first ones are equal
not_less : (a b c d : ℕ) → is_lt (nat_cmp a c) ≡ false → (c ≡ a → d ≤ b) → is_lt (ordering_then (nat_cmp a c) (nat_cmp b d)) ≡ false
not_less a b c d first second = by (nat_cmp a c) refl first
  where
    by : (o : Ordering) → nat_cmp a c ≡ o → is_lt o ≡ false → is_lt (ordering_then o (nat_cmp b d)) ≡ false
    by Less is f = cc
    by Greater is f = refl
    by Equal is f =
        let same : c ≡ a = grind (arith, nat_tests, is) in
        let up : d ≤ b = second same in
        grind (arith, nat_tests, up)

pub two_sorts : (xs ys : List Delete) → IsSortedByKey (λ (d : Delete). d.block) nat_cmp xs → IsStableByKey (λ (d : Delete). d.storage) nat_cmp xs ys → IsSortedByKey (λ (d : Delete). d.storage) nat_cmp ys
    → IsSortedByKey delete_key pair_cmp ys
two_sorts xs ys by_block stable by_storage k d low within =
    let x : Delete = get_or ys k d in
    let y : Delete = get_or ys (k + 1) d in
    not_less y.storage y.block x.storage x.block (by_storage k d low within)
    (ties_still_rise (λ (e : Delete). e.block) (λ (e : Delete). e.storage) xs ys by_block stable k d within)
