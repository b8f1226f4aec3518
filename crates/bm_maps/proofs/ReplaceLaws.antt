-- Setting a value in a sorted vector, if its key is there, sets it in the map of the vector.
--     same_change, no_change      equal changes of a key's value, and no change without a value
--     set_there                   the value that was set is the old value changed
--     replaced, sorted_by-replaced      a sorted vector in which the value at a known key was set
use Rattle.std.proofs.Common.{◌≡◌, Bool, true, false, cond, List, Option, Some, None, is_some, refl, sym, ap, subst, ◌∙◌, T}
use Rattle.std.specs.Prelude.{option_map}
use Rattle.std.specs.Ordering.{eq_by_cmp}
use Rattle.std.specs.FinMap.{find, put, is_sorted}
use Rattle.bm_base.specs.Maps.Map.{Map, Order, get, insert, revise_at, contains_key}
use Rattle.bm_base.specs.Maps.OfSorted.{of_sorted}
use Rattle.bm_base.proofs.MapLaws.{equal, same_map, get-insert, get-revise}
use Rattle.bm_base.proofs.OfSorted.{get-of_sorted}
use Rattle.bm_base.proofs.Options.{not_there}
use Rattle.bm_maps.proofs.SortedLaws.{sorted_by-put, insert_by-put}

put_there : {X : Type 0} (b : Bool) (v : X) (w : Option X) → is_some w ≡ true → option_map (λ x. cond b v x) w ≡ cond b (Some v) w
put_there true v None h = cc
put_there false v None h = refl
put_there true v (Some x) h = refl
put_there false v (Some x) h = refl

kept : {X : Type 0} (f : X → X) (v : Option X) → option_map (λ x. cond false (f x) x) v ≡ v
kept f None = refl
kept f (Some x) = refl

module _ {K X : Type 0} {o : Order K} (m : Map o X) (k : K) where
  at_key : (f : X → X) (q : K) → get (revise_at m k f) q ≡ option_map (λ x. cond (eq_by_cmp o.cmp q k) (f x) x) (get m q)
  unfolding revise_at
  at_key f q = get-revise m (λ q x. cond (eq_by_cmp o.cmp q k) (f x) x) q

  -- changes that give the same for the value of the key are equal
  pub same_change : (f g : X → X) → option_map f (get m k) ≡ option_map g (get m k) → revise_at m k f ≡ revise_at m k g
  same_change f g e =
      same_map (revise_at m k f) (revise_at m k g) (λ q.
      at_key f q
      ∙ elim (eq_by_cmp o.cmp q k) as (λ b. eq_by_cmp o.cmp q k ≡ b → option_map (λ x. cond b (f x) x) (get m q) ≡ option_map (λ x. cond b (g x) x) (get m q)) [
        | true ↦ λ t. let is = o.same q k (equal _ t) in ap (λ j. option_map f (get m j)) is ∙ e ∙ ap (λ j. option_map g (get m j)) (sym is)
        | false ↦ λ t. kept f (get m q) ∙ sym (kept g (get m q))
      ] refl
      ∙ sym (at_key g q))

  -- nothing changes without a value
  pub no_change : (f : X → X) → get m k ≡ None → m ≡ revise_at m k f
  no_change f none =
      same_map m (revise_at m k f) (λ q.
      sym (at_key f q
      ∙ elim (eq_by_cmp o.cmp q k) as (λ b. eq_by_cmp o.cmp q k ≡ b → option_map (λ x. cond b (f x) x) (get m q) ≡ get m q) [
        | true ↦ λ t. let absent = ap (get m) (o.same q k (equal _ t)) ∙ none in ap (option_map f) absent ∙ sym absent
        | false ↦ λ t. kept f (get m q)
      ] refl))

  pub insert_there : (v : X) → contains_key m k ≡ true → insert m k v ≡ revise_at m k (λ _. v)
  insert_there v there =
      same_map (insert m k v) (revise_at m k (λ _. v)) (λ q.
      get-insert m k v q
      ∙ elim (eq_by_cmp o.cmp q k) as (λ b. eq_by_cmp o.cmp q k ≡ b → cond b (Some v) (get m q) ≡ option_map (λ x. cond b v x) (get m q)) [
        | true ↦ λ t. sym (put_there true v (get m q) (ap (λ j. is_some (get m j)) (o.same q k (equal _ t)) ∙ there))
        | false ↦ λ t. sym (kept (λ _. v) (get m q))
      ] refl
      ∙ sym (at_key (λ _. v) q))

-- the value that was set at a key is the old value changed
pub set_there : {K X : Type 0} {o : Order K} (m new : Map o X) (k j : K) (x v : X) (f : X → X) → get m j ≡ Some x → k ≡ j → v ≡ f x → new ≡ revise_at m k (λ _. v) → new ≡ revise_at m j f
set_there m new k j x v f there same value is =
    is ∙ ap (λ q. revise_at m q (λ _. v)) same
    ∙ same_change m j (λ _. v) f (ap (option_map (λ _. v)) there ∙ ap Some value ∙ sym (ap (option_map f) there))

module _ {K X : Type 0} (o : Order K) where
  replaced_by : (es fs : List (K × X)) (k : K) (v : X) (m : Map o X) (b : Bool) → contains_key m k ≡ b → fs ≡ cond b (put o.cmp k v es) es → T (is_sorted o.cmp es) → of_sorted es ≡ m
      → of_sorted fs ≡ revise_at m k (λ _. v)
  replaced_by es fs k v m true there e h is = insert_by-put o es fs k v m e h is ∙ insert_there m k v there
  replaced_by es fs k v m false none e h is = ap (of_sorted {o = o}) e ∙ is ∙ no_change m k (λ _. v) (not_there (get m k) none)

  -- a sorted vector in which the value at a key was set, if it has the key
  pub replaced : (es fs : List (K × X)) (k : K) (v : X) (m : Map o X) → fs ≡ cond (is_some (find o.cmp k es)) (put o.cmp k v es) es → T (is_sorted o.cmp es) → of_sorted es ≡ m
      → of_sorted fs ≡ revise_at m k (λ _. v)
  replaced es fs k v m e h is =
      replaced_by es fs k v m (is_some (find o.cmp k es)) (ap (λ n. is_some (get n k)) (sym is) ∙ ap is_some (get-of_sorted o es k h)) e h is

  sorted_by_either : (es fs : List (K × X)) (k : K) (v : X) (b : Bool) → fs ≡ cond b (put o.cmp k v es) es → T (is_sorted o.cmp es) → T (is_sorted o.cmp fs)
  sorted_by_either es fs k v true e h = sorted_by-put o es fs k v e h
  sorted_by_either es fs k v false e h = subst (λ xs. T (is_sorted o.cmp xs)) (sym e) h

  pub sorted_by-replaced : (es fs : List (K × X)) (k : K) (v : X) → fs ≡ cond (is_some (find o.cmp k es)) (put o.cmp k v es) es → T (is_sorted o.cmp es) → T (is_sorted o.cmp fs)
  sorted_by-replaced es fs k v e h = sorted_by_either es fs k v (is_some (find o.cmp k es)) e h
