-- An event or a round applied to each part is applied to the whole; an event's counts add up.
use Rattle.std.proofs.Common.{◌≡◌, ℕ, zero, suc, ◌+◌, ◌≤◌, List, [], ◌∷◌, length, refl, sym, ap, subst, ◌∙◌, arith}
use Rattle.bm_base.specs.Words.{Cluster, Holdings, change_holdings, end_round, done}
use Rattle.bm_base.specs.declared.event.Event.{Event}
use Rattle.bm_base.specs.Shards.{cut}
use Rattle.bm_parts.specs.Parts.{change_part, sum_over, done_in}
use Rattle.bm_parts.specs.Whole.{whole_of, parts_from, parts, AreOwn, EachPart, done_of_all}
use Rattle.bm_base.specs.RoundParts.{holdings_at_choice, round_on_part}
use Rattle.bm_parts.specs.EventLaws as law
use Rattle.bm_parts.specs.EventLaws.{IsWholeOf}
use Rattle.bm_parts.specs.RoundLaws as round_law
use Rattle.bm_parts.proofs.Parts.{parts_changed}
use Rattle.bm_parts.proofs.PartSums.{answers_add_up}
use Rattle.bm_parts.proofs.CutParts.{ended_cut}
use Rattle.bm_parts.proofs.WholeParts.{whole_has_its_parts, parts_are_the_whole, cuts_are_own, length_numbers}

module _ (shards : ℕ) (change : ℕ → Holdings → Holdings) (F : Holdings → Holdings) (cuts : (H : Holdings) (i : ℕ) → cut (F H) i shards ≡ change i (cut H i shards)) where
  changed_parts : (H : Holdings) (index n : ℕ) (Qs : List Holdings) → EachPart (λ i P Q. Q ≡ change i P) index (parts_from H shards index n) Qs → Qs ≡ parts_from (F H) shards index n
  changed_parts H index zero [] each = refl
  changed_parts H index zero (Q ∷ Qs) each = absurd each
  changed_parts H index (suc n) [] each = absurd each
  changed_parts H index (suc n) (Q ∷ Qs) each = λ j. (each.0 ∙ sym (cuts H index)) j ∷ changed_parts H (suc index) n Qs each.1 j

  pub whole_changes : (Ps Qs : List Holdings) → 1 ≤ shards → shards ≡ length Ps → AreOwn shards 0 Ps → EachPart (λ i P Q. Q ≡ change i P) 0 Ps Qs
      → IsWholeOf (F (whole_of Ps)) shards Qs
  whole_changes Ps Qs some long own each =
      let again : parts (whole_of Ps) shards ≡ Ps = whole_has_its_parts Ps shards own long in
      let is : Qs ≡ parts (F (whole_of Ps)) shards = changed_parts (whole_of Ps) 0 shards Qs (subst (λ Rs. EachPart (λ i P Q. Q ≡ change i P) 0 Rs Qs) (sym again) each) in (
        ap whole_of is ∙ parts_are_the_whole (F (whole_of Ps)) shards some,
        subst (AreOwn shards 0) (sym is) (cuts_are_own (F (whole_of Ps)) shards 0 shards),
        sym (ap length is ∙ length_numbers Holdings (λ i. cut (F (whole_of Ps)) i shards) 0 shards),
      )

pub whole_changes_by_event : law.whole_changes_by_event
whole_changes_by_event C e shards Ps Qs some long own each =
    whole_changes shards (λ i P. change_part C P i shards e) (λ H. change_holdings C H e) (λ H i. parts_changed C H e i shards) Ps Qs some long own each

pub whole_changes_by_round : round_law.whole_changes_by_round
whole_changes_by_round C pend r ts ds shards Ps Qs some long own each =
    whole_changes shards (λ i P. round_on_part C pend r P i shards ts ds) (λ H. end_round r (holdings_at_choice C pend r H) ts ds) (λ H i. ended_cut i shards C pend r H ts ds) Ps Qs some long own each

-- Sums over the shards, from the first on.

sum_step : (f : ℕ → ℕ) (n : ℕ) → sum_over (suc n) f ≡ f 0 + sum_over n (λ i. f (suc i))
sum_step f zero = omega arith
sum_step f (suc n) = let rest = sum_step f n in omega (arith, rest)

module _ (C : Cluster) (e : Event) (shards : ℕ) (H : Holdings) where
  sums : (index n : ℕ) (Qs : List Holdings) → EachPart (λ i P Q. Q ≡ change_part C P i shards e) index (parts_from H shards index n) Qs
      → ((done_of_all (parts_from H shards index n) Qs).added ≡ sum_over n (λ i. (done_in C H e shards (index + i)).added))
      × ((done_of_all (parts_from H shards index n) Qs).removed ≡ sum_over n (λ i. (done_in C H e shards (index + i)).removed))
  sums index zero [] each = (refl, refl)
  sums index zero (Q ∷ Qs) each = absurd each
  sums index (suc n) [] each = absurd each
  sums index (suc n) (Q ∷ Qs) each =
      let rest = sums (suc index) n Qs each.1 in
      let here : done (cut H index shards) Q ≡ done_in C H e shards (index + 0) = ap (done (cut H index shards)) each.0 ∙ ap (done_in C H e shards) (zero_more index) in (
        (λ j. (here j).added + (rest.0 ∙ later (λ k. (done_in C H e shards k).added) n) j) ∙ sym (sum_step (λ i. (done_in C H e shards (index + i)).added) n),
        (λ j. (here j).removed + (rest.1 ∙ later (λ k. (done_in C H e shards k).removed) n) j) ∙ sym (sum_step (λ i. (done_in C H e shards (index + i)).removed) n),
      )
    where
      zero_more : (k : ℕ) → k ≡ k + 0
      zero_more k = omega arith

      later : (f : ℕ → ℕ) (n : ℕ) → sum_over n (λ i. f (suc index + i)) ≡ sum_over n (λ i. f (index + suc i))
      later f zero = refl
      later f (suc n) = let one : suc index + n ≡ index + suc n = omega arith in λ j. later f n j + f (one j)

pub done_adds_up : law.done_adds_up
done_adds_up C e shards Ps Qs some long own each =
    let H : Holdings = whole_of Ps in
    let again : parts H shards ≡ Ps = whole_has_its_parts Ps shards own long in
    let facts = sums C e shards H 0 shards Qs (subst (λ Rs. EachPart (λ i P Q. Q ≡ change_part C P i shards e) 0 Rs Qs) (sym again) each) in
    let all = answers_add_up C H e shards some in
    let after : whole_of Qs ≡ change_holdings C H e = (whole_changes_by_event C e shards Ps Qs some long own each).0 in
    ap (λ Rs. done_of_all Rs Qs) (sym again)
    ∙ (λ j. record { added = (facts.0 ∙ from_zero (λ k. (done_in C H e shards k).added) shards ∙ all.0) j; removed = (facts.1 ∙ from_zero (λ k. (done_in C H e shards k).removed) shards ∙ all.1) j })
    ∙ ap (done H) (sym after)
  where
    from_zero : (f : ℕ → ℕ) (n : ℕ) → sum_over n (λ i. f (0 + i)) ≡ sum_over n f
    from_zero f zero = refl
    from_zero f (suc n) = let one : 0 + n ≡ n = omega arith in λ j. from_zero f n j + f (one j)
