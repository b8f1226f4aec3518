-- If rows compare and pass as their numbers do, a scan ends at the row of the least that passes.
use Rattle.std.specs.Prelude.{option_map}
use Rattle.std.proofs.Common.{◌≡◌, Bool, true, false, cond, ◌&&◌, List, [], ◌∷◌, map, filter, Option, Some, None, refl, ap, ◌∙◌}
use Rattle.std.specs.declared.cmp.Ordering.{Ordering}
use Rattle.std.specs.Cmp.{IsTotalOrder}
use Rattle.bm_base.specs.Maps.Lists.{least}
use Rattle.bm_place.specs.Scan.{scan, is_better}
use Rattle.bm_place.proofs.Least.{scan-least}

module _ {X Y : Type 0} (f : X → Y) (R : Y → Y → Ordering) (p : Y → Bool) where
  better_row : (best : Option X) (x : X) → is_better R (option_map f best) (f x) ≡ is_better (λ x y. R (f x) (f y)) best x
  better_row None x = refl
  better_row (Some b) x = refl

  taken_row : (t : Bool) (best : Option X) (x : X) → cond t (Some (f x)) (option_map f best) ≡ option_map f (cond t (Some x) best)
  taken_row true best x = refl
  taken_row false best x = refl

  scan-rows : (best : Option X) (xs : List X) → scan R p (option_map f best) (map f xs) ≡ option_map f (scan (λ x y. R (f x) (f y)) (λ x. p (f x)) best xs)
  scan-rows best [] = refl
  scan-rows best (x ∷ xs) =
      ap (λ t. scan R p (cond (p (f x) && t) (Some (f x)) (option_map f best)) (map f xs)) (better_row best x)
      ∙ ap (λ o. scan R p o (map f xs)) (taken_row (p (f x) && is_better (λ x y. R (f x) (f y)) best x) best x)
      ∙ scan-rows (cond (p (f x) && is_better (λ x y. R (f x) (f y)) best x) (Some x) best) xs

  -- if the order and the test on rows are those on the numbers
  pub scan-found : (order : X → X → Ordering) (test : X → Bool) → IsTotalOrder order → ((x y : X) → R (f x) (f y) ≡ order x y) → ((x : X) → p (f x) ≡ test x)
      → (xs : List X) → scan R p None (map f xs) ≡ option_map f (least order (filter test xs))
  scan-found order test total ordered tested xs =
      scan-rows None xs
      ∙ ap (option_map f) (ap (λ o. scan o (λ x. p (f x)) None xs) (λ i x y. ordered x y i) ∙ ap (λ t. scan order t None xs) (λ i x. tested x i) ∙ scan-least order total test xs)
