-- A look-up in a changed map finds what was inserted, or what the change made of the old value.
use Rattle.std.proofs.Common.{◌≡◌, ◌+◌, ◌≤◌, Bool, true, false, cond, not, ◌||◌, List, [], ◌∷◌, length, Option, Some, None, is_some, is_eq, Ordering, Equal, refl, sym, ap, subst, ◌∙◌, arith, ◌⊎◌, inl, inr, T}
use Rattle.std.specs.Prelude.{option_and_then, option_map}
use Rattle.std.specs.Ordering.{eq_by_cmp}
use Rattle.std.specs.Cmp.{tied_itself}
use Rattle.std.specs.FinMap.{find, is_sorted}
use Rattle.std.specs.FinMap.Entries.{below_all}
use Rattle.std.specs.List.{list_any}
use Rattle.std.proofs.lemmas.List.{length-map}
use Rattle.std.proofs.lemmas.Bool.{or_left, or_right}
use Rattle.std.proofs.NetLemmas.Options.{cond_none}
use Rattle.bm_base.specs.Maps.Conjunction.{first, second}
use Rattle.bm_base.specs.Maps.Map.{Map, Order, entries, get, insert, insert_all, keep, revise, remove, len, keys, contains_key}
use Rattle.bm_base.proofs.MapLaws.{same_map, find_below, get-insert, get-keep, get-revise, get-remove, entries-revise, equal}
use Rattle.bm_base.proofs.Differences.{len-insert, len-keep-le}
use Rattle.bm_base.proofs.ForEach.{Each, each_then, each_mapped}
use Rattle.bm_base.proofs.Options.{there, is_there, kept, keeps, revised}

-- keys that tie are equal
pub same_key : {K : Type 0} (o : Order K) (p q : K) → eq_by_cmp o.cmp p q ≡ true → p ≡ q
same_key o p q e = o.same p q (equal _ e)

pub key_itself : {K : Type 0} (o : Order K) (q : K) → eq_by_cmp o.cmp q q ≡ true
key_itself o q = ap is_eq (tied_itself o.total q)

pub still_some : {X : Type 0} (b : Bool) (v : X) (z : Option X) → is_some z ≡ true → is_some (cond b (Some v) z) ≡ true
still_some true v z e = refl
still_some false v z e = e

pub one_out : {X : Type 0} (b : Bool) (z : Option X) → cond b None z ≡ option_and_then (λ x. cond (not b) (Some x) None) z
one_out true None = refl
one_out true (Some x) = refl
one_out false None = refl
one_out false (Some x) = refl

same_some : {X : Type 0} (f : X → X) (z : Option X) → is_some (option_map f z) ≡ is_some z
same_some f None = refl
same_some f (Some x) = refl

not_tied_by : {K : Type 0} (o : Order K) (p q : K) → (p ≡ q → ⊥) → (b : Bool) → eq_by_cmp o.cmp p q ≡ b → b ≡ false
not_tied_by o p q never true e = absurd (never (same_key o p q e))
not_tied_by o p q never false e = refl

pub not_tied : {K : Type 0} (o : Order K) (p q : K) → (p ≡ q → ⊥) → eq_by_cmp o.cmp p q ≡ false
not_tied o p q never = not_tied_by o p q never (eq_by_cmp o.cmp p q) refl

module _ {K X : Type 0} {o : Order K} where
  -- P holds of each entry
  abbrev pub Holds : (K → X → Type 0) → Map o X → Type 0
  Holds P m = (q : K) (x : X) → get m q ≡ Some x → P q x

  pub get_kept : (m : Map o X) (p : K → X → Bool) (q : K) (x : X) → get (keep m p) q ≡ Some x → (get m q ≡ Some x) × (p q x ≡ true)
  get_kept m p q x e = kept (p q) (get m q) x (sym (get-keep m p q) ∙ e)

  pub get_keeps : (m : Map o X) (p : K → X → Bool) (q : K) (x : X) → get m q ≡ Some x → p q x ≡ true → get (keep m p) q ≡ Some x
  get_keeps m p q x e h = get-keep m p q ∙ keeps (p q) (get m q) x e h

  pub get_revised : (m : Map o X) (f : K → X → X) (q : K) (x : X) → get (revise m f) q ≡ Some x → (y : X) × (get m q ≡ Some y) × (f q y ≡ x)
  get_revised m f q x e = revised (f q) (get m q) x (sym (get-revise m f q) ∙ e)

  pub get_removed : (m : Map o X) (k q : K) (x : X) → get (remove m k) q ≡ Some x → (eq_by_cmp o.cmp q k ≡ false) × (get m q ≡ Some x)
  get_removed m k q x e = cond_none (eq_by_cmp o.cmp q k) (get m q) x (sym (get-remove m k q) ∙ e)

  inserted : (m : Map o X) (k : K) (v : X) (q : K) (x : X) (b : Bool) → eq_by_cmp o.cmp q k ≡ b → cond b (Some v) (get m q) ≡ Some x → ((q ≡ k) × (v ≡ x)) ⊎ ((eq_by_cmp o.cmp q k ≡ false) × (get m q ≡ Some x))
  inserted m k v q x true t e = inl (same_key o q k t, (cc))
  inserted m k v q x false t e = inr (t, e)

  pub get_inserted : (m : Map o X) (k : K) (v : X) (q : K) (x : X) → get (insert m k v) q ≡ Some x → ((q ≡ k) × (v ≡ x)) ⊎ ((eq_by_cmp o.cmp q k ≡ false) × (get m q ≡ Some x))
  get_inserted m k v q x e = inserted m k v q x (eq_by_cmp o.cmp q k) refl (sym (get-insert m k v q) ∙ e)

  pub get_here : (m : Map o X) (k : K) (v : X) → get (insert m k v) k ≡ Some v
  get_here m k v = get-insert m k v k ∙ ap (λ b. cond b (Some v) (get m k)) (key_itself o k)

  pub get_elsewhere : (m : Map o X) (k : K) (v : X) (q : K) → eq_by_cmp o.cmp q k ≡ false → get (insert m k v) q ≡ get m q
  get_elsewhere m k v q e = get-insert m k v q ∙ ap (λ b. cond b (Some v) (get m q)) e

  pub get_taken : (m : Map o X) (k : K) → get (remove m k) k ≡ None
  get_taken m k = get-remove m k k ∙ ap (λ b. cond b None (get m k)) (key_itself o k)

  pub get_left : (m : Map o X) (k q : K) → (q ≡ k → ⊥) → get (remove m k) q ≡ get m q
  get_left m k q never = get-remove m k q ∙ ap (λ b. cond b None (get m q)) (not_tied o q k never)

  pub get_other : (m : Map o X) (k : K) (v : X) (q : K) → (q ≡ k → ⊥) → get (insert m k v) q ≡ get m q
  get_other m k v q never = get_elsewhere m k v q (not_tied o q k never)

  -- a known key stays known after an insert
  pub known_inserted : (m : Map o X) (k : K) (v : X) (q : K) → contains_key m q ≡ true → contains_key (insert m k v) q ≡ true
  known_inserted m k v q e = ap is_some (get-insert m k v q) ∙ still_some (eq_by_cmp o.cmp q k) v (get m q) e

  -- a property of all entries and of the inserted one holds after the insert
  pub holds_inserted : (P : K → X → Type 0) (m : Map o X) (k : K) (v : X) → Holds P m → P k v → Holds P (insert m k v)
  holds_inserted P m k v h here q x e = by_case (get_inserted m k v q x e)
    where
      by_case : ((q ≡ k) × (v ≡ x)) ⊎ ((eq_by_cmp o.cmp q k ≡ false) × (get m q ≡ Some x)) → P q x
      by_case (inl is) = subst (λ y. P q y) is.1 (subst (λ j. P j v) (sym is.0) here)
      by_case (inr was) = h q x was.1

  pub holds_insert_all : (P : K → X → Type 0) (m : Map o X) (es : List (K × X)) → Holds P m → Each (λ e. P e.0 e.1) es → Holds P (insert_all m es)
  holds_insert_all P m [] h each = h
  holds_insert_all P m (e ∷ es) h each = holds_insert_all P (insert m e.0 e.1) es (holds_inserted P m e.0 e.1 h each.0) each.1

  -- keys that are not inserted answer as before
  pub get_insert_all_elsewhere : (m : Map o X) (es : List (K × X)) (q : K) → Each (λ e. eq_by_cmp o.cmp q e.0 ≡ false) es → get (insert_all m es) q ≡ get m q
  get_insert_all_elsewhere m [] q each = refl
  get_insert_all_elsewhere m (e ∷ es) q each = get_insert_all_elsewhere (insert m e.0 e.1) es q each.1 ∙ get_elsewhere m e.0 e.1 q each.0

  len_inserted_by : (m : Map o X) (k : K) (v : X) (b : Bool) → contains_key m k ≡ b → len (insert m k v) ≤ len m + 1
  len_inserted_by m k v true e = let n : len (insert m k v) ≡ len m = len-insert m k v ∙ ap (λ b. cond b (len m) (len m + 1)) e in omega (arith, n)
  len_inserted_by m k v false e = let n : len (insert m k v) ≡ len m + 1 = len-insert m k v ∙ ap (λ b. cond b (len m) (len m + 1)) e in omega (arith, n)

  pub len_inserted : (m : Map o X) (k : K) (v : X) → len (insert m k v) ≤ len m + 1
  len_inserted m k v = len_inserted_by m k v (contains_key m k) refl

  pub len_insert_all : (m : Map o X) (es : List (K × X)) → len (insert_all m es) ≤ len m + length es
  len_insert_all m [] = omega arith
  len_insert_all m (e ∷ es) = omega (arith, len_inserted m e.0 e.1, len_insert_all (insert m e.0 e.1) es)

  pub remove-keep : (m : Map o X) (k : K) → remove m k ≡ keep m (λ q _. not (eq_by_cmp o.cmp q k))
  remove-keep m k = same_map (remove m k) (keep m (λ q _. not (eq_by_cmp o.cmp q k))) (λ q. get-remove m k q ∙ one_out (eq_by_cmp o.cmp q k) (get m q) ∙ sym (get-keep m (λ j _. not (eq_by_cmp o.cmp j k)) q))

  pub len_removed : (m : Map o X) (k : K) → len (remove m k) ≤ len m
  len_removed m k = let e = ap len (remove-keep m k) in omega (arith, e, len-keep-le m (λ q _. not (eq_by_cmp o.cmp q k)))

  pub known_removed : (m : Map o X) (k q : K) → eq_by_cmp o.cmp q k ≡ false → contains_key m q ≡ true → contains_key (remove m k) q ≡ true
  known_removed m k q e h = ap is_some (get-remove m k q ∙ ap (λ b. cond b None (get m q)) e) ∙ h

  pub known_before : (m : Map o X) (k q : K) → contains_key (remove m k) q ≡ true → (eq_by_cmp o.cmp q k ≡ false) × (contains_key m q ≡ true)
  known_before m k q e = let x = there (get (remove m k) q) e in let r = get_removed m k q x.0 x.1 in (r.0, is_there (get m q) x.0 r.1)

  pub len_revised : (m : Map o X) (f : K → X → X) → len (revise m f) ≡ len m
  unfolding len
  len_revised m f = ap length (entries-revise o m f) ∙ length-map (entries m) (λ e. (e.0, f e.0 e.1))

  -- a revised map knows the same keys
  pub known_revised : (m : Map o X) (f : K → X → X) (q : K) → contains_key (revise m f) q ≡ contains_key m q
  known_revised m f q = ap is_some (get-revise m f q) ∙ same_some (f q) (get m q)

-- Entries and look-ups.

module _ {K X : Type 0} (R : K → K → Ordering) (same : (x y : K) → R x y ≡ Equal → x ≡ y) (itself : (q : K) → eq_by_cmp R q q ≡ true) where
  apart : (a : K × X) (es : List (K × X)) (q : K) (x : X) (b : Bool) → T (below_all R a.0 es) → eq_by_cmp R q a.0 ≡ b → find R q es ≡ Some x → cond b (Some a.1) (find R q es) ≡ Some x
  apart a es q x true h t is =
      let none : find R q es ≡ None = find_below R q es (subst (λ k. T (below_all R k es)) (sym (same q a.0 (equal _ t))) h) in
      let clash : None ≡ Some x = sym none ∙ is in
      cc
  apart a es q x false h t is = is

  -- an entry that passes is found by its key
  pub found_entry : (f : K × X → Bool) (es : List (K × X)) → T (is_sorted R es) → list_any f es ≡ true → (q : K) × (x : X) × (find R q es ≡ Some x) × (f (q, x) ≡ true)
  found_entry f [] h e = cc
  found_entry f (a ∷ es) h e =
      elim (f a) as (λ b. f a ≡ b → (b || list_any f es) ≡ true → (q : K) × (x : X) × (find R q (a ∷ es) ≡ Some x) × (f (q, x) ≡ true)) [
        | true ↦ λ t _. (a.0, a.1, ap (λ c. cond c (Some a.1) (find R a.0 es)) (itself a.0), t)
        | false ↦ λ _ rest.
            let r : (q : K) × (x : X) × (find R q es ≡ Some x) × (f (q, x) ≡ true) = found_entry f es (second _ _ h) rest in
            (r.0, r.1, apart a es r.0 r.1 (eq_by_cmp R r.0 a.0) (first _ _ h) refl r.2, r.3)
      ] refl e

  -- each entry is found by its key
  pub each_found : (es : List (K × X)) → T (is_sorted R es) → Each (λ e. find R e.0 es ≡ Some e.1) es
  each_found [] h = tt
  each_found (a ∷ es) h = (
    ap (λ c. cond c (Some a.1) (find R a.0 es)) (itself a.0),
    each_then (λ e. find R e.0 es ≡ Some e.1) (λ e. find R e.0 (a ∷ es) ≡ Some e.1) es (each_found es (second _ _ h)) (λ e is. apart a es e.0 e.1 (eq_by_cmp R e.0 a.0) (first _ _ h) refl is),
  )

  -- a found value is that of an entry
  pub entry_found : (f : K × X → Bool) (es : List (K × X)) (q : K) (x : X) → find R q es ≡ Some x → f (q, x) ≡ true → list_any f es ≡ true
  entry_found f [] q x e h = cc
  entry_found f (a ∷ es) q x e h =
      elim (eq_by_cmp R q a.0) as (λ b. eq_by_cmp R q a.0 ≡ b → cond b (Some a.1) (find R q es) ≡ Some x → list_any f (a ∷ es) ≡ true) [
        | true ↦ λ t is. let key : q ≡ a.0 = same q a.0 (equal _ t) in let value : a.1 ≡ x = (cc) in or_left (f a) _ ((λ i. f (sym key i, value i)) ∙ h)
        | false ↦ λ _ is. or_right (f a) _ (entry_found f es q x is h)
      ] refl e

module _ {K X : Type 0} {o : Order K} where
  pub entry_passes : (m : Map o X) (f : K × X → Bool) → list_any f (entries m) ≡ true → (q : K) × (x : X) × (get m q ≡ Some x) × (f (q, x) ≡ true)
  unfolding entries get
  entry_passes m f e = found_entry o.cmp o.same (key_itself o) f m.list m.sorted e

  pub passes_entry : (m : Map o X) (f : K × X → Bool) (q : K) (x : X) → get m q ≡ Some x → f (q, x) ≡ true → list_any f (entries m) ≡ true
  unfolding entries get
  passes_entry m f q x e h = entry_found o.cmp o.same (key_itself o) f m.list q x e h

  pub each_entry : (m : Map o X) → Each (λ e. get m e.0 ≡ Some e.1) (entries m)
  unfolding entries get
  each_entry m = each_found o.cmp o.same (key_itself o) m.list m.sorted

  pub each_key : (m : Map o X) → Each (λ k. contains_key m k ≡ true) (keys m)
  unfolding keys
  each_key m = each_mapped (λ k. contains_key m k ≡ true) (λ e. e.0) (entries m) (each_then (λ e. get m e.0 ≡ Some e.1) (λ e. contains_key m e.0 ≡ true) (entries m) (each_entry m) (λ e is. is_there (get m e.0) e.1 is))
