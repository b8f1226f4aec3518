-- The whole holds a node back from retirement exactly if some part does.
use Rattle.std.proofs.Common.{◌≡◌, ℕ, ◌<◌, ◌≤◌, Bool, true, false, cond, not, ◌&&◌, ◌||◌, List, [], ◌∷◌, filter, flat_map, refl, sym, ap, ◌∙◌, arith, mod-lt}
use Rattle.std.specs.Prelude.{◌==◌}
use Rattle.std.specs.List.{list_any}
use Rattle.std.proofs.lemmas.List.Folds.{list_any-append}
use Rattle.bm_base.specs.Words.{keys, Cluster, Holdings, range_from, has_storage, drains, is_held_back_by, is_retired}
use Rattle.bm_base.specs.Shards.{shard_of, cut}
use Rattle.bm_base.proofs.ForEach.{Each, none_passes, each_filtered}
use Rattle.bm_parts.specs.QueryLaws as law
use Rattle.bm_parts.specs.QueryLaws.{holds_back}
use Rattle.bm_parts.specs.Whole.{parts}
use Rattle.bm_parts.proofs.Parts.{own}
use Rattle.bm_base.proofs.ListTests.{any_map, any_agree}
use Rattle.bm_parts.proofs.JoinedShares.{share, in_a_share, any_of_numbers, each_of_numbers}
use Rattle.bm_parts.proofs.CutParts.{keys_cut, drained_cut, enough_cut}

none_of : {X : Type 0} (t : X → Bool) (xs : List X) → Each (λ x. t x ≡ false) xs → list_any t xs ≡ false
none_of t [] h = refl
none_of t (x ∷ xs) h = ap (λ b. b || list_any t xs) h.0 ∙ none_of t xs h.1

pub any_flat : {X Y : Type 0} (t : Y → Bool) (f : X → List Y) (xs : List X) → list_any t (flat_map f xs) ≡ list_any (λ x. list_any t (f x)) xs
any_flat t f [] = refl
any_flat t f (x ∷ xs) = list_any-append t (f x) (flat_map f xs) ∙ ap (λ b. list_any t (f x) || b) (any_flat t f xs)

-- some element of the shares passes exactly if some element of the list does
any_share : {X : Type 0} (t : X → Bool) (shard : X → ℕ) (shards : ℕ) → ((x : X) → shard x < shards) → (xs : List X) → list_any t (flat_map (share shard xs) (range_from 0 shards)) ≡ list_any t xs
any_share t shard shards below xs = by_test (list_any t xs) refl
  where
    by_test : (b : Bool) → list_any t xs ≡ b → list_any t (flat_map (share shard xs) (range_from 0 shards)) ≡ b
    by_test true e = let at = in_a_share shard t shards below xs e in any_of_numbers t (share shard xs) 0 shards at.0 (omega arith) (omega (arith, at.1)) at.2
    by_test false e =
        none_of t (flat_map (share shard xs) (range_from 0 shards))
        (each_of_numbers (λ x. t x ≡ false) (share shard xs) 0 shards (λ i. each_filtered (λ x. t x ≡ false) (λ x. shard x == i) xs (none_passes t xs e)))

-- tests that agree on the elements that a filter keeps
any_alike : {X : Type 0} (p t u : X → Bool) → ((x : X) → p x ≡ true → t x ≡ u x) → (xs : List X) → list_any t (filter p xs) ≡ list_any u (filter p xs)
any_alike p t u same [] = refl
any_alike p t u same (x ∷ xs) = by_test (p x) refl (any_alike p t u same xs)
  where
    by_test : (b : Bool) → p x ≡ b → list_any t (filter p xs) ≡ list_any u (filter p xs) → list_any t (cond b (x ∷ filter p xs) (filter p xs)) ≡ list_any u (cond b (x ∷ filter p xs) (filter p xs))
    by_test true e rest = λ i. same x e i || rest i
    by_test false e rest = rest

module _ (C : Cluster) (n : ℕ) (H : Holdings) (shards : ℕ) where
  held_back_cut : (i b : ℕ) → own i shards b ≡ true → is_held_back_by C (cut H i shards) n b ≡ is_held_back_by C H n b
  unfolding is_held_back_by
  held_back_cut i b t = λ j. list_any (has_storage C n) (drained_cut i shards C H b t j) && not (enough_cut i shards C H b t j)

  held_back_in : (i : ℕ) → holds_back C n (cut H i shards) ≡ list_any (is_held_back_by C H n) (share (λ b. shard_of b shards) (keys H.blocks) i)
  unfolding holds_back
  held_back_in i =
      ap (list_any (is_held_back_by C (cut H i shards) n)) (keys_cut i shards H)
      ∙ any_alike (own i shards) (is_held_back_by C (cut H i shards) n) (is_held_back_by C H n) (held_back_cut i) (keys H.blocks)

  held_back : 1 ≤ shards → list_any (holds_back C n) (parts H shards) ≡ holds_back C n H
  unfolding holds_back
  held_back some =
      any_map (holds_back C n) (λ i. cut H i shards) (range_from 0 shards)
      ∙ any_agree (λ i. holds_back C n (cut H i shards)) (λ i. list_any (is_held_back_by C H n) (share (λ b. shard_of b shards) (keys H.blocks) i)) held_back_in (range_from 0 shards)
      ∙ sym (any_flat (is_held_back_by C H n) (share (λ b. shard_of b shards) (keys H.blocks)) (range_from 0 shards))
      ∙ any_share (is_held_back_by C H n) (λ b. shard_of b shards) shards (λ b. mod-lt b some) (keys H.blocks)

pub held_back_by_some_part : law.held_back_by_some_part
held_back_by_some_part C n H shards some = held_back C n H shards some

pub retired_by_all_parts : law.retired_by_all_parts
unfolding is_retired holds_back
retired_by_all_parts C n H shards some = ap (λ b. drains C n && not b) (sym (held_back C n H shards some))
