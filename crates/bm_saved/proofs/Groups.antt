-- The entries of a map in groups, each with a number: all groups together give the map.
use Rattle.std.proofs.Common.{◌≡◌, ℕ, true, false, ◌&&◌, ◌||◌, List, [], ◌∷◌, filter, flat_map, Some, refl, sym, subst, ◌∙◌, eqb-true}
use Rattle.std.specs.Prelude.{◌==◌}
use Rattle.std.specs.List.{list_any}
use Rattle.std.specs.Ordering.{eq_by_cmp}
use Rattle.std.proofs.lemmas.Bool.{or_left, or_right, and_from, false≢true}
use Rattle.std.proofs.lemmas.List.Folds.{list_any-append}
use Rattle.bm_base.specs.Words.{Map, Order, empty, entries, get, insert_all, has}
use Rattle.bm_base.proofs.ForEach.{Each, each_appended, each_filtered}
use Rattle.bm_base.proofs.MapEntries.{each_entry, passes_entry, key_itself}
use Rattle.bm_base.proofs.ListTests.{same_again, any_filter}
use Rattle.bm_parts.proofs.JoinedShares.{gathered}

module _ {K X : Type 0} {o : Order K} (m : Map o X) (number : K × X → ℕ) where
  abbrev pub group : ℕ → List (K × X)
  group b = filter (λ e. number e == b) (entries m)

  agree : (bs : List ℕ) → Each (λ e. get m e.0 ≡ Some e.1) (flat_map group bs)
  agree [] = tt
  agree (b ∷ bs) = each_appended (λ e. get m e.0 ≡ Some e.1) (group b) (flat_map group bs) (each_filtered (λ e. get m e.0 ≡ Some e.1) (λ e. number e == b) (entries m) (each_entry m)) (agree bs)

  in_its_group : (q : K) (x : X) → get m q ≡ Some x → list_any (λ e. eq_by_cmp o.cmp q e.0) (group (number (q, x))) ≡ true
  in_its_group q x e =
      any_filter (λ f. eq_by_cmp o.cmp q f.0) (λ f. number f == number (q, x)) (entries m)
      ∙ passes_entry m (λ f. (number f == number (q, x)) && eq_by_cmp o.cmp q f.0) q x e (and_from (number (q, x) == number (q, x)) (eq_by_cmp o.cmp q q) (same_again (number (q, x))) (key_itself o q))

  listed : (bs : List ℕ) (q : K) (x : X) → get m q ≡ Some x → has bs (number (q, x)) ≡ true → list_any (λ e. eq_by_cmp o.cmp q e.0) (flat_map group bs) ≡ true
  listed [] q x e there = absurd (false≢true there)
  listed (b ∷ bs) q x e there =
      list_any-append (λ f. eq_by_cmp o.cmp q f.0) (group b) (flat_map group bs)
      ∙ (elim (b == number (q, x)) as (λ t. (b == number (q, x)) ≡ t → (t || has bs (number (q, x))) ≡ true → (list_any (λ f. eq_by_cmp o.cmp q f.0) (group b) || list_any (λ f. eq_by_cmp o.cmp q f.0) (flat_map group bs)) ≡ true) [
        | true ↦ λ t _. or_left _ _ (subst (λ c. list_any (λ f. eq_by_cmp o.cmp q f.0) (group c) ≡ true) (sym (eqb-true b (number (q, x)) t)) (in_its_group q x e))
        | false ↦ λ _ h. or_right _ _ (listed bs q x e h)
      ]) refl there

  -- inserting all groups into the empty map gives the map
  pub groups_again : (bs : List ℕ) → ((q : K) (x : X) → get m q ≡ Some x → has bs (number (q, x)) ≡ true) → insert_all (empty {o = o}) (flat_map group bs) ≡ m
  groups_again bs every = gathered m (flat_map group bs) (agree bs) (λ q x e. listed bs q x e (every q x e))
