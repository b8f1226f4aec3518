-- A look-up finds an entry exactly if some key in the map passes the test.
use Rattle.std.proofs.Common.{◌≡◌, Bool, true, false, cond, List, [], ◌∷◌, ◌||◌, Some, None, is_some, refl, sym}
use Rattle.std.specs.List.{list_any}
use Rattle.std.specs.Map.{lookup}
use Rattle.bm_base.proofs.Options.{not_there}

module _ {K X : Type 0} (test : K → Bool) where
  -- a look-up finds an entry exactly if a key passes the test
  pub is_some-lookup : (es : List (K × X)) → is_some (lookup test es) ≡ list_any (λ e. test e.0) es
  is_some-lookup [] = refl
  is_some-lookup (e ∷ es) = by (test e.0) (is_some-lookup es)
    where
      by : (b : Bool) → is_some (lookup test es) ≡ list_any (λ e. test e.0) es → is_some (cond b (Some e.1) (lookup test es)) ≡ (b || list_any (λ e. test e.0) es)
      by true same = refl
      by false same = same

  pub none-lookup : (es : List (K × X)) → false ≡ is_some (lookup test es) → lookup test es ≡ None
  none-lookup es e = not_there (lookup test es) (sym e)
