-- The part of a map with the keys that pass a test changes as the map does at these keys.
use Rattle.std.proofs.Common.{◌≡◌, Bool, true, false, cond, List, [], ◌∷◌, filter, Option, Some, None, refl, sym, ap, ◌∙◌, true≢false}
use Rattle.std.specs.Prelude.{option_and_then, option_map}
use Rattle.std.specs.Ordering.{eq_by_cmp}
use Rattle.bm_base.specs.Maps.Map.{Map, Order, get, insert, insert_all, keep, revise, remove}
use Rattle.bm_base.proofs.MapLaws.{same_map, get-keep, get-revise, get-remove}
use Rattle.bm_parts.proofs.KeepLaws.{keep-insert, get-keep_there}
use Rattle.bm_base.proofs.Options.{none_stays, all_stays, not_taken}
use Rattle.bm_base.proofs.MapEntries.{same_key, get_elsewhere}

mapped_same : {X : Type 0} (f : X → X) → ((x : X) → f x ≡ x) → (z : Option X) → option_map f z ≡ z
mapped_same f same None = refl
mapped_same f same (Some x) = ap Some (same x)

pub mapped_none : {X : Type 0} (f : X → X) (z : Option X) → z ≡ None → option_map f z ≡ None
mapped_none f None e = refl
mapped_none f (Some x) e = cc

other_key : {K : Type 0} (o : Order K) (p : K → Bool) (k q : K) → p k ≡ false → p q ≡ true → (b : Bool) → eq_by_cmp o.cmp q k ≡ b → b ≡ false
other_key o p k q none t true e = absurd (true≢false (sym t ∙ ap p (same_key o q k e) ∙ none))
other_key o p k q none t false e = refl

module _ {K X : Type 0} {o : Order K} (p : K → Bool) where
  abbrev pub part : Map o X → Map o X
  part m = keep m (λ k _. p k)

  pub get_in : (m : Map o X) (q : K) → p q ≡ true → get (part m) q ≡ get m q
  get_in m q h = get-keep_there m p q h

  pub get_out : (m : Map o X) (q : K) → p q ≡ false → get (part m) q ≡ None
  get_out m q h = get-keep m (λ k _. p k) q ∙ none_stays (p q) (get m q) h

  -- a map that answers as m for keys that pass, and has no others, is the part of m
  pub part_is : (m n : Map o X) → ((q : K) → p q ≡ true → get m q ≡ get n q) → ((q : K) → p q ≡ false → get n q ≡ None) → part m ≡ n
  part_is m n inside outside =
      same_map (part m) n (λ q.
      elim (p q) as (λ b. p q ≡ b → get (part m) q ≡ get n q) [
        | true ↦ λ t. get_in m q t ∙ inside q t
        | false ↦ λ t. get_out m q t ∙ sym (outside q t)
      ] refl)

  pub part_same : (m n : Map o X) → ((q : K) → p q ≡ true → get m q ≡ get n q) → part m ≡ part n
  part_same m n inside = part_is m (part n) (λ q t. inside q t ∙ sym (get_in n q t)) (λ q t. get_out n q t)

  pub part_revised : (m : Map o X) (f : K → X → X) → part (revise m f) ≡ revise (part m) f
  part_revised m f =
      part_is (revise m f) (revise (part m) f) (λ q t. get-revise m f q ∙ ap (option_map (f q)) (sym (get_in m q t)) ∙ sym (get-revise (part m) f q))
      (λ q t. get-revise (part m) f q ∙ mapped_none (f q) (get (part m) q) (get_out m q t))

  -- changes of keys that do not pass
  pub part_revised_others : (m : Map o X) (f : K → X → X) → ((q : K) → p q ≡ true → (x : X) → f q x ≡ x) → part (revise m f) ≡ part m
  part_revised_others m f same = part_same (revise m f) m (λ q t. get-revise m f q ∙ mapped_same (f q) (same q t) (get m q))

  pub part_kept_others : (m : Map o X) (r : K → Bool) → ((q : K) → p q ≡ true → r q ≡ true) → part (keep m (λ q _. r q)) ≡ part m
  part_kept_others m r all = part_same (keep m (λ q _. r q)) m (λ q t. get-keep m (λ q _. r q) q ∙ all_stays (r q) (get m q) (all q t))

  -- keeping by tests that agree on the keys that pass
  pub part_kept : (m : Map o X) (r s : K → Bool) → ((q : K) → p q ≡ true → r q ≡ s q) → part (keep m (λ q _. r q)) ≡ keep (part m) (λ q _. s q)
  part_kept m r s same =
      part_is (keep m (λ q _. r q)) (keep (part m) (λ q _. s q))
      (λ q t. get-keep m (λ q _. r q) q ∙ (λ i. option_and_then (λ x. cond (same q t i) (Some x) None) (sym (get_in m q t) i)) ∙ sym (get-keep (part m) (λ q _. s q) q))
      (λ q t. get-keep (part m) (λ q _. s q) q ∙ ap (option_and_then (λ x. cond (s q) (Some x) None)) (get_out m q t))

  pub part_inserted_other : (m : Map o X) (k : K) (v : X) → p k ≡ false → part (insert m k v) ≡ part m
  part_inserted_other m k v other = part_same (insert m k v) m (λ q t. get_elsewhere m k v q (other_key o p k q other t (eq_by_cmp o.cmp q k) refl))

  pub part_removed_other : (m : Map o X) (k : K) → p k ≡ false → part (remove m k) ≡ part m
  part_removed_other m k other = part_same (remove m k) m (λ q t. get-remove m k q ∙ not_taken (eq_by_cmp o.cmp q k) (get m q) (other_key o p k q other t (eq_by_cmp o.cmp q k) refl))

  inserted_by : (m : Map o X) (e : K × X) (es : List (K × X)) (b : Bool) → p e.0 ≡ b → insert_all (part (insert m e.0 e.1)) es ≡ insert_all (part m) (cond b (e ∷ es) es)
  inserted_by m e es true h = ap (λ n. insert_all n es) (keep-insert m (λ k _. p k) e.0 e.1 h)
  inserted_by m e es false h = ap (λ n. insert_all n es) (part_inserted_other m e.0 e.1 h)

  pub part_inserted_all : (m : Map o X) (es : List (K × X)) → part (insert_all m es) ≡ insert_all (part m) (filter (λ e. p e.0) es)
  part_inserted_all m [] = refl
  part_inserted_all m (e ∷ es) = part_inserted_all (insert m e.0 e.1) es ∙ inserted_by m e (filter (λ e. p e.0) es) (p e.0) refl
