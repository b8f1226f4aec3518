-- If the wishes before a bound fill the round, all wishes give the same transfers.
use Rattle.std.proofs.Common.{◌≡◌, ℕ, Bool, true, false, cond, List, [], ◌∷◌, ◌++◌, map, filter, replicate, length, Some, refl, sym, ap, ◌∙◌, T, true≢false}
use Rattle.std.specs.Prelude.{◌*◌, nat_le}
use Rattle.std.specs.declared.cmp.Ordering.{Ordering}
use Rattle.std.specs.declared.cmp.Ordering.TheVariants.{Less, Equal, Greater}
use Rattle.std.specs.Ordering.{is_lt}
use Rattle.std.specs.FinMap.{is_sorted}
use Rattle.std.specs.FinMap.Entries.{below_all}
use Rattle.std.proofs.lemmas.Grind.{flat_map-append}
use Rattle.bm_base.specs.Maps.Conjunction.{first, second}
use Rattle.bm_base.specs.declared.round.Wish.{Wish}
use Rattle.bm_base.specs.declared.round.RoundPart.{RoundPart}
use Rattle.bm_base.specs.Words.{len, RoundLimits, Cluster}
use Rattle.bm_base.specs.Ordered.{pair_cmp, by_pair}
use Rattle.bm_base.specs.RoundParts.{wish_key}
use Rattle.bm_base.specs.Choices.{merged_wishes, one_by_one, transfers_over, chosen_transfers}
use Rattle.bm_base.proofs.ForEach.{Each}
use Rattle.bm_base.proofs.Orderings.{is_less}
use Rattle.bm_parts.specs.BoundedWishes.{part_before}
use Rattle.bm_parts.proofs.WishesBefore.{merged_before}
use Rattle.bm_parts.proofs.Filters.{filter_none}
use Rattle.bm_round.proofs.KeyedLists.{merged_wishes_ascend}
use Rattle.bm_round.proofs.WishCopies.{over_append, full_stays}

-- Those before a bound come first.

less_is : (o : Ordering) → is_lt o ≡ true → o ≡ Less
less_is Less e = refl
less_is Equal e = absurd (true≢false (sym e))
less_is Greater e = absurd (true≢false (sym e))

module _ {X : Type 0} (key : X → ℕ × ℕ) (bound : ℕ × ℕ) where
  abbrev before : X → Bool
  before x = is_lt (pair_cmp (key x) bound)

  none_further : (k : ℕ × ℕ) (xs : List X) → is_lt (pair_cmp k bound) ≡ false → T (below_all pair_cmp k (map (λ x. (key x, x)) xs)) → Each (λ x. before x ≡ false) xs
  none_further k [] late h = tt
  none_further k (x ∷ xs) late h = (by (before x) refl, none_further k xs late (second _ _ h))
    where
      by : (t : Bool) → before x ≡ t → before x ≡ false
      by false is = is
      by true is = absurd (true≢false (sym (ap is_lt (by_pair.total.trans k (key x) bound (is_less (pair_cmp k (key x)) (first _ _ h)) (less_is (pair_cmp (key x) bound) is))) ∙ late))

  first_ones : (xs : List X) → T (is_sorted pair_cmp (map (λ x. (key x, x)) xs)) → (rest : List X) × (xs ≡ filter before xs ++ rest)
  first_ones [] h = ([], refl)
  first_ones (x ∷ xs) h = by (before x) refl (first_ones xs (second _ _ h))
    where
      by : (t : Bool) → before x ≡ t → (rest : List X) × (xs ≡ filter before xs ++ rest) → (rest : List X) × (x ∷ xs ≡ cond t (x ∷ filter before xs) (filter before xs) ++ rest)
      by true is more = (more.0, ap (λ ys. x ∷ ys) more.1)
      by false is more = (x ∷ xs, sym (ap (λ ys. ys ++ x ∷ xs) (filter_none before xs (none_further (key x) xs is (first _ _ h)))))

-- The transfers of a round.

copies_append : (us vs : List Wish) → one_by_one (us ++ vs) ≡ one_by_one us ++ one_by_one vs
unfolding one_by_one
copies_append us vs = flat_map-append (λ (w : Wish). replicate w.count w) us vs

module _ (limits : RoundLimits) (C : Cluster) (bound : ℕ × ℕ) (ps : List RoundPart) where
  pub full_by_first : nat_le (limits.work * len C.nodes) (length (chosen_transfers limits C (map (part_before (Some bound)) ps))) ≡ true
      → chosen_transfers limits C (map (part_before (Some bound)) ps) ≡ chosen_transfers limits C ps
  unfolding chosen_transfers
  full_by_first full =
      let cut = merged_wishes (map (part_before (Some bound)) ps) in
      let early = first_ones wish_key bound (merged_wishes ps) (merged_wishes_ascend ps) in
      let whole : merged_wishes ps ≡ cut ++ early.0 = early.1 ∙ ap (λ ws. ws ++ early.0) (sym (merged_before (Some bound) ps)) in
      sym
      (ap (λ ws. transfers_over limits C [] (one_by_one ws)) whole ∙ ap (transfers_over limits C []) (copies_append cut early.0) ∙ over_append limits C [] (one_by_one cut) (one_by_one early.0)
      ∙ full_stays limits C (transfers_over limits C [] (one_by_one cut)) (one_by_one early.0) full)
