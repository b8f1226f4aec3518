-- In a total order, a scan that keeps the least so far ends at the least element that passes.
use Rattle.std.proofs.Common.{◌≡◌, Bool, true, false, cond, ◌&&◌, List, [], ◌∷◌, filter, Option, Some, None, refl, sym, ap, ◌∙◌}
use Rattle.std.specs.declared.cmp.Ordering.{Ordering}
use Rattle.std.specs.Ordering.{is_lt}
use Rattle.std.specs.Option.{option_map_or}
use Rattle.std.specs.Cmp.{IsTotalOrder, IsStrictWeakOrder}
use Rattle.std.proofs.lemmas.List.MinMax.{ranks_by}
use Rattle.bm_base.specs.Maps.Lists.{least}
use Rattle.bm_place.specs.Scan.{scan, is_better}

module _ {X : Type 0} (R : X → X → Ordering) where
  abbrev lt : X → X → Bool
  lt x y = is_lt (R x y)

  -- the best so far, or the least of the rest if that comes before it
  abbrev first_of : Option X → Option X → Option X
  first_of None m = m
  first_of (Some b) None = Some b
  first_of (Some b) (Some y) = Some (cond (lt y b) y b)

  nothing_left : (best : Option X) → best ≡ first_of best None
  nothing_left None = refl
  nothing_left (Some b) = refl

  module _ (o : IsStrictWeakOrder (λ x y. is_lt (R x y))) where
    below_too : (b x y : X) (r : Bool) → lt x b ≡ true → lt y x ≡ true → lt y b ≡ r → r ≡ true
    below_too b x y true e f g = refl
    below_too b x y false e f g = sym (o.chain y b x g (o.one_way x b e)) ∙ f

    -- the least of b and x, and then y, or the least of x and y, and then b
    swapped : (b x y : X) (p q : Bool) → lt x b ≡ p → lt y x ≡ q
        → cond (lt y (cond p x b)) y (cond p x b) ≡ cond (lt (cond q y x) b) (cond q y x) b
    swapped b x y true true e f = ap (λ t. cond t y x) f ∙ sym (ap (λ t. cond t y b) (below_too b x y (lt y b) e f refl))
    swapped b x y true false e f = ap (λ t. cond t y x) f ∙ sym (ap (λ t. cond t x b) e)
    swapped b x y false true e f = refl
    swapped b x y false false e f = ap (λ t. cond t y b) (o.chain y x b f e) ∙ sym (ap (λ t. cond t x b) e)

    chosen : (b x : X) (m : Option X) (t : Bool) → lt x b ≡ t
        → first_of (cond t (Some x) (Some b)) m ≡ first_of (Some b) (Some (option_map_or (λ y. cond (lt y x) y x) m x))
    chosen b x None true e = ap (λ t. Some (cond t x b)) (sym e)
    chosen b x None false e = ap (λ t. Some (cond t x b)) (sym e)
    chosen b x (Some y) true e = ap Some (swapped b x y true (lt y x) e refl)
    chosen b x (Some y) false e = ap Some (swapped b x y false (lt y x) e refl)

    one_more : (best : Option X) (x : X) (m : Option X)
        → first_of (cond (is_better R best x) (Some x) best) m ≡ first_of best (Some (option_map_or (λ y. cond (lt y x) y x) m x))
    one_more None x None = refl
    one_more None x (Some y) = refl
    one_more (Some b) x m = chosen b x m (lt x b) refl

    pub scan-first : (p : X → Bool) (best : Option X) (xs : List X) → scan R p best xs ≡ first_of best (least R (filter p xs))
    scan-first p best [] = nothing_left best
    scan-first p best (x ∷ xs) =
        scan-first p (cond (p x && is_better R best x) (Some x) best) xs
        ∙ elim (p x) as (λ t. first_of (cond (t && is_better R best x) (Some x) best) (least R (filter p xs)) ≡ first_of best (least R (cond t (x ∷ filter p xs) (filter p xs)))) [
          | true ↦ one_more best x (least R (filter p xs))
          | false ↦ refl
        ]

  pub scan-least : IsTotalOrder R → (p : X → Bool) (xs : List X) → scan R p None xs ≡ least R (filter p xs)
  scan-least total p xs = scan-first (ranks_by total (λ x. x)) p None xs
