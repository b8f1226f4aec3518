-- Two lists of all elements with a property, ascending by keys that determine them, are equal.
use Rattle.std.proofs.Common.{◌≡◌, Bool, true, false, cond, ◌||◌, List, [], ◌∷◌, map, Option, Some, None, is_some, refl, sym, ap, subst, ◌∙◌}
use Rattle.std.specs.Ordering.{eq_by_cmp}
use Rattle.std.proofs.lemmas.Bool.{false≢true}
use Rattle.std.proofs.lemmas.Option.{same_Some}
use Rattle.std.specs.FinMap.{find}
use Rattle.std.specs.List.{list_any}
use Rattle.bm_base.specs.Maps.Map.{Map, Order, get, entries}
use Rattle.bm_base.specs.Maps.OfSorted.{of_sorted}
use Rattle.bm_base.proofs.OfSorted.{entries-of_sorted, get-of_sorted}
use Rattle.bm_base.proofs.MapLaws.{same_map}
use Rattle.bm_base.proofs.Options.{there}
use Rattle.bm_base.proofs.ForEach.{Each, each_all}
use Rattle.bm_base.proofs.MapEntries.{same_key}
use Rattle.bm_parts.specs.Findings.{IsGathered}
use Rattle.bm_parts.proofs.JoinedShares.{values_again}

module _ {K X : Type 0} (o : Order K) (key : X → K) (P : X → Type 0) where
  -- an element that is found by a key is in the list and has the key
  found_by : (xs : List X) → Each P xs → (q : K) (x : X) → find o.cmp q (map (λ x. (key x, x)) xs) ≡ Some x → P x × (key x ≡ q)
  found_by [] each q x e = cc
  found_by (y ∷ ys) each q x e = by_tie (eq_by_cmp o.cmp q (key y)) refl e (found_by ys each.1 q x)
    where
      by_tie : (b : Bool) → eq_by_cmp o.cmp q (key y) ≡ b → cond b (Some y) (find o.cmp q (map (λ x. (key x, x)) ys)) ≡ Some x → (find o.cmp q (map (λ x. (key x, x)) ys) ≡ Some x → P x × (key x ≡ q)) → P x × (key x ≡ q)
      by_tie true t is rest = let same = same_Some y x is in (subst P same each.0, sym (ap key same) ∙ sym (same_key o q (key y) t))
      by_tie false t is rest = rest is

  known_by : (xs : List X) (q : K) → is_some (find o.cmp q (map (λ x. (key x, x)) xs)) ≡ list_any (λ y. eq_by_cmp o.cmp q (key y)) xs
  known_by [] q = refl
  known_by (y ∷ ys) q = by_tie (eq_by_cmp o.cmp q (key y)) ∙ ap (λ b. eq_by_cmp o.cmp q (key y) || b) (known_by ys q)
    where
      by_tie : (b : Bool) → is_some (cond b (Some y) (find o.cmp q (map (λ x. (key x, x)) ys))) ≡ (b || is_some (find o.cmp q (map (λ x. (key x, x)) ys)))
      by_tie true = refl
      by_tie false = refl

  abbrev gathered_map : List X → Map o X
  gathered_map xs = of_sorted (map (λ x. (key x, x)) xs)

  module _ (xs : List X) (is : IsGathered o key P xs) where
    element : (q : K) (x : X) → get (gathered_map xs) q ≡ Some x → P x × (key x ≡ q)
    element q x e = found_by xs (each_all P xs is.only) q x (sym (get-of_sorted o (map (λ x. (key x, x)) xs) q is.ascends) ∙ e)

    has_its_key : (x : X) → P x → (y : X) × (get (gathered_map xs) (key x) ≡ Some y)
    has_its_key x p = there (get (gathered_map xs) (key x)) (ap is_some (get-of_sorted o (map (λ x. (key x, x)) xs) (key x) is.ascends) ∙ known_by xs (key x) ∙ is.all x p)

    own_values : map (λ (e : K × X). e.1) (entries (gathered_map xs)) ≡ xs
    own_values = ap (map (λ (e : K × X). e.1)) (entries-of_sorted o (map (λ x. (key x, x)) xs) is.ascends) ∙ values_again o key xs

  -- an element is determined by its key
  module _ (one : (x y : X) → P x → P y → key x ≡ key y → x ≡ y) (xs ys : List X) (is : IsGathered o key P xs) (too : IsGathered o key P ys) where
    agree : (q : K) (a b : Option X) → get (gathered_map xs) q ≡ a → get (gathered_map ys) q ≡ b → a ≡ b
    agree q None None e f = refl
    agree q (Some x) (Some y) e f =
        let left = element xs is q x e in
        let right = element ys too q y f in
        ap Some (one x y left.0 right.0 (left.1 ∙ sym right.1))
    agree q (Some x) None e f =
        let left = element xs is q x e in
        let other = has_its_key ys too x left.0 in
        absurd (false≢true (sym (ap is_some (sym other.1 ∙ ap (get (gathered_map ys)) left.1 ∙ f))))
    agree q None (Some y) e f =
        let right = element ys too q y f in
        let other = has_its_key xs is y right.0 in
        absurd (false≢true (sym (ap is_some (sym other.1 ∙ ap (get (gathered_map xs)) right.1 ∙ e))))

    pub gathered_alike : xs ≡ ys
    gathered_alike =
        let maps : gathered_map xs ≡ gathered_map ys = same_map (gathered_map xs) (gathered_map ys) (λ q. agree q (get (gathered_map xs) q) (get (gathered_map ys) q) refl refl) in
        sym (own_values xs is) ∙ ap (λ m. map (λ (e : K × X). e.1) (entries m)) maps ∙ own_values ys too
