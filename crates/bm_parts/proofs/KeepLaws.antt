-- Filtering a map commutes with removals, other filters, and inserts of entries that pass.
use Rattle.std.proofs.Common.{◌≡◌, Bool, true, false, cond, ◌&&◌, Option, Some, None, refl, sym, ap, ◌∙◌}
use Rattle.std.specs.Prelude.{option_and_then}
use Rattle.std.specs.Ordering.{eq_by_cmp}
use Rattle.std.proofs.Math.Bool.{and_comm}
use Rattle.bm_base.specs.Maps.Map.{Map, Order, get, insert, keep, remove}
use Rattle.bm_base.proofs.MapLaws.{equal, same_map, get-keep, get-insert, get-remove}

abbrev passed : {X : Type 0} → Bool → X → Option X
passed b x = cond b (Some x) None

passed_then : {X : Type 0} (a : X → Bool) (t : Bool) (x : X) → option_and_then (λ y. passed (a y) y) (passed t x) ≡ passed (t && a x) x
passed_then a true x = refl
passed_then a false x = refl

both_pass : {X : Type 0} (a b : X → Bool) (v : Option X) → option_and_then (λ x. passed (a x) x) (option_and_then (λ x. passed (b x) x) v) ≡ option_and_then (λ x. passed (b x) x) (option_and_then (λ x. passed (a x) x) v)
both_pass a b None = refl
both_pass a b (Some x) = passed_then a (b x) x ∙ ap (λ t. passed t x) (and_comm (b x) (a x)) ∙ sym (passed_then b (a x) x)

all_pass : {X : Type 0} (b : Bool) (v : Option X) → b ≡ true → option_and_then (λ x. passed b x) v ≡ v
all_pass true None e = refl
all_pass true (Some x) e = refl
all_pass false v e = cc

none_either : {X : Type 0} (f : X → Option X) (b : Bool) (v : Option X) → option_and_then f (cond b None v) ≡ cond b None (option_and_then f v)
none_either f true v = refl
none_either f false v = refl

module _ {K X : Type 0} {o : Order K} where
  pub keep-insert : (m : Map o X) (p : K → X → Bool) (k : K) (v : X) → p k v ≡ true → keep (insert m k v) p ≡ insert (keep m p) k v
  keep-insert m p k v h =
      same_map (keep (insert m k v) p) (insert (keep m p) k v) (λ q.
      let mid = elim (eq_by_cmp o.cmp q k) as (λ b. eq_by_cmp o.cmp q k ≡ b → option_and_then (λ x. passed (p q x) x) (cond b (Some v) (get m q)) ≡ cond b (Some v) (option_and_then (λ x. passed (p q x) x) (get m q))) [
        | true ↦ λ t. ap (λ j. passed (p j v) v) (o.same q k (equal _ t)) ∙ ap (λ b. passed b v) h
        | false ↦ λ t. refl
      ] refl in
      get-keep (insert m k v) p q ∙ ap (option_and_then (λ x. passed (p q x) x)) (get-insert m k v q) ∙ mid
      ∙ ap (cond (eq_by_cmp o.cmp q k) (Some v)) (sym (get-keep m p q)) ∙ sym (get-insert (keep m p) k v q))

  pub keep-keep : (m : Map o X) (p r : K → X → Bool) → keep (keep m r) p ≡ keep (keep m p) r
  keep-keep m p r =
      same_map (keep (keep m r) p) (keep (keep m p) r) (λ q.
      get-keep (keep m r) p q ∙ ap (option_and_then (λ x. passed (p q x) x)) (get-keep m r q) ∙ both_pass (p q) (r q) (get m q)
      ∙ ap (option_and_then (λ x. passed (r q x) x)) (sym (get-keep m p q)) ∙ sym (get-keep (keep m p) r q))

  pub keep-remove : (m : Map o X) (p : K → X → Bool) (k : K) → keep (remove m k) p ≡ remove (keep m p) k
  keep-remove m p k =
      same_map (keep (remove m k) p) (remove (keep m p) k) (λ q.
      get-keep (remove m k) p q ∙ ap (option_and_then (λ x. passed (p q x) x)) (get-remove m k q) ∙ none_either (λ x. passed (p q x) x) (eq_by_cmp o.cmp q k) (get m q)
      ∙ ap (cond (eq_by_cmp o.cmp q k) None) (sym (get-keep m p q)) ∙ sym (get-remove (keep m p) k q))

  -- if a key passes a test of keys, the kept map answers as before
  pub get-keep_there : (m : Map o X) (p : K → Bool) (q : K) → p q ≡ true → get (keep m (λ k _. p k)) q ≡ get m q
  get-keep_there m p q h = get-keep m (λ k _. p k) q ∙ all_pass (p q) (get m q) h
