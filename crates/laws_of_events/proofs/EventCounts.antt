-- An event's answer adds up: replicas before plus added equal replicas after plus removed.
use Rattle.std.proofs.Common.{◌≡◌, ◌+◌, Bool, true, false, cond, not, ◌&&◌, Option, Some, None, is_some, List, [], ◌∷◌, map, length, refl, sym, ap, subst, ◌∙◌, T, arith, Ordering}
use Rattle.std.specs.Prelude.{option_and_then}
use Rattle.std.specs.Ordering.{eq_by_cmp, is_lt}
use Rattle.std.specs.FinMap.{find, is_sorted}
use Rattle.std.specs.FinMap.Entries.{same_entries, below_all}
use Rattle.std.proofs.lemmas.List.{length-map}
use Rattle.std.proofs.lemmas.List.Sums.{length-filter}
use Rattle.std.proofs.Math.Bool.{and_comm}
use Rattle.bm_base.specs.declared.replica.Marks.{Marks}
use Rattle.bm_base.specs.Words.{Map, Order, get, keep, len, entries, contains_key, Holdings, by_replica, new_replicas, done, done_by, after_event}
use Rattle.bm_base.proofs.Differences.{both_parts}
use Rattle.bm_base.proofs.MapLaws.{get-keep, entries-keep}
use Rattle.bm_base.proofs.Options.{same_unit}
use Rattle.laws_of_events.specs.Changes as law
use Rattle.laws_of_events.specs.Reports.{held_after}

module _ {K X : Type 0} where
  abbrev keys_only : List (K × X) → List (K × Unit {0})
  keys_only es = map (λ e. (e.0, tt)) es

module _ {K X : Type 0} (R : K → K → Ordering) where
  below_keys : (k : K) (es : List (K × X)) → below_all R k (keys_only es) ≡ below_all R k es
  below_keys k [] = refl
  below_keys k (e ∷ es) = ap (λ b. is_lt (R k e.0) && b) (below_keys k es)

  sorted_keys : (es : List (K × X)) → is_sorted R (keys_only es) ≡ is_sorted R es
  sorted_keys [] = refl
  sorted_keys (e ∷ es) = λ i. below_keys e.0 es i && sorted_keys es i

  some_key : (b : Bool) (x : X) (u : Option (Unit {0})) (z : Option X) → is_some u ≡ is_some z → is_some (cond b (Some tt) u) ≡ is_some (cond b (Some x) z)
  some_key true x u z e = refl
  some_key false x u z e = e

  find_key : (q : K) (es : List (K × X)) → is_some (find R q (keys_only es)) ≡ is_some (find R q es)
  find_key q [] = refl
  find_key q (e ∷ es) = some_key (eq_by_cmp R q e.0) e.1 (find R q (keys_only es)) (find R q es) (find_key q es)

module _ {K X Y : Type 0} {o : Order K} where
  -- maps with the same keys have the same length
  pub same_len : (m : Map o X) (n : Map o Y) → ((q : K) → contains_key m q ≡ contains_key n q) → len m ≡ len n
  unfolding len entries get
  same_len m n same =
      let lists : keys_only m.list ≡ keys_only n.list =
      same_entries o.cmp o.total o.same (keys_only m.list) (keys_only n.list) (subst T (sym (sorted_keys o.cmp m.list)) m.sorted) (subst T (sym (sorted_keys o.cmp n.list)) n.sorted)
      (λ q. same_unit (find o.cmp q (keys_only m.list)) (find o.cmp q (keys_only n.list)) (find_key o.cmp q m.list ∙ same q ∙ sym (find_key o.cmp q n.list))) in
      sym (length-map m.list (λ e. (e.0, tt))) ∙ ap length lists ∙ length-map n.list (λ e. (e.0, tt))

abbrev Replicas : Type 0
Replicas = Map by_replica Marks

-- the entries of m whose keys n has too
abbrev shared : Replicas → Replicas → Replicas
shared m n = keep m (λ q _. contains_key n q)

new_and_shared : (old new : Replicas) → new_replicas old new + len (shared new old) ≡ len new
unfolding new_replicas len
new_and_shared old new =
    (λ i. sym (length-filter (λ e. not (contains_key old e.0)) (entries new)) i + length (entries-keep by_replica new (λ q _. contains_key old q) i))
    ∙ both_parts (λ e. contains_key old e.0) (entries new)

kept_some : (b : Bool) (z : Option Marks) → is_some (option_and_then (λ x. cond b (Some x) None) z) ≡ (b && is_some z)
kept_some true None = refl
kept_some true (Some x) = refl
kept_some false None = refl
kept_some false (Some x) = refl

shared_keys : (m n : Replicas) → len (shared m n) ≡ len (shared n m)
shared_keys m n =
    same_len (shared m n) (shared n m) (λ q.
    ap is_some (get-keep m (λ q _. contains_key n q) q) ∙ kept_some (contains_key n q) (get m q) ∙ and_comm (contains_key n q) (contains_key m q)
    ∙ sym (ap is_some (get-keep n (λ q _. contains_key m q) q) ∙ kept_some (contains_key m q) (get n q)))

done_adds_up : (H G : Holdings) → len G.replicas + (done H G).removed ≡ len H.replicas + (done H G).added
unfolding done
done_adds_up H G =
    let came = new_and_shared H.replicas G.replicas in
    let went = new_and_shared G.replicas H.replicas in
    let both = shared_keys G.replicas H.replicas in
    omega (arith, came, went, both)

pub adds_up : law.counts_add_up
unfolding done_by after_event
adds_up M e = done_adds_up M.holdings (held_after M e)
