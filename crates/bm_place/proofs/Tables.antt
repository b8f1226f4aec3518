-- A table has entries for exactly its keys, and a change of one count changes no other.
use Rattle.std.specs.Prelude.{unwrap_or, option_map}
use Rattle.std.proofs.Common.{◌≡◌, ◌≤◌, ℕ, ◌+◌, suc, zero, Bool, true, false, cond, ◌||◌, List, [], ◌∷◌, map, drop, Option, Some, None, is_some, refl, sym, ap, ◌∙◌, arith}
use Rattle.std.specs.Prelude.{◌==◌, slice_get}
use Rattle.std.specs.Ordering.{nat_cmp, eq_by_cmp}
use Rattle.std.proofs.lemmas.Bool.{eqb-true}
use Rattle.std.proofs.lemmas.List.{length-map}
use Rattle.std.proofs.lemmas.Option.{slice_get_past}
use Rattle.std.proofs.lemmas.Bool.Decides.{nat_tests}
use Rattle.bm_base.specs.Words.{has, Map, by_number, empty, entries, get, insert, insert_all, keys, len, revise_at, Cluster, node_of, node_number}
use Rattle.bm_base.proofs.MapLaws.{same_map, get-insert, get-empty, get-revise}
use Rattle.bm_base.proofs.Ties.{number_tie}
use Rattle.bm_base.proofs.Sets.{has_keys}
use Rattle.bm_base.proofs.Slices.{drop_next}
use Rattle.bm_base.specs.declared.storage.StorageInfo.{StorageInfo}
use Rattle.bm_place.specs.Tables.{listed, table, count_at}

pub equal_back : (q k : ℕ) (b : Bool) → (q == k) ≡ b → (k == q) ≡ b
equal_back q k b e = grind (arith, nat_tests)

module _ {X : Type 0} (f : ℕ → X) where
  -- the number that is searched, or one after it
  here_or : (q k : ℕ) (rest : Bool) (o : Option X) (b : Bool) → (q == k) ≡ b → cond rest (Some (f q)) (cond b (Some (f k)) o) ≡ cond (b || rest) (Some (f q)) o
  here_or q k true o true e = refl
  here_or q k false o true e = ap (λ x. Some (f x)) (sym (eqb-true q k e))
  here_or q k true o false e = refl
  here_or q k false o false e = refl

  head_or : (q k : ℕ) (rest : Bool) (o : Option X) → cond rest (Some (f q)) (cond (eq_by_cmp nat_cmp q k) (Some (f k)) o) ≡ cond ((k == q) || rest) (Some (f q)) o
  head_or q k rest o =
      ap (λ b. cond rest (Some (f q)) (cond b (Some (f k)) o)) (number_tie q k)
      ∙ here_or q k rest o (q == k) refl
      ∙ ap (λ b. cond (b || rest) (Some (f q)) o) (sym (equal_back q k (q == k) refl))

  get-listed : (ks : List ℕ) (m : Map by_number X) (q : ℕ) → get (insert_all m (listed f ks)) q ≡ cond (has ks q) (Some (f q)) (get m q)
  get-listed [] m q = refl
  get-listed (k ∷ ks) m q =
      get-listed ks (insert m k (f k)) q ∙ ap (cond (has ks q) (Some (f q))) (get-insert m k (f k) q) ∙ head_or q k (has ks q) (get m q)

  pub get-table : (ks : List ℕ) (q : ℕ) → get (table f ks) q ≡ cond (has ks q) (Some (f q)) None
  unfolding table
  get-table ks q = get-listed ks empty q ∙ ap (cond (has ks q) (Some (f q))) (get-empty by_number q)

-- inserting the value that a key has already changes nothing
pub same_inserted : {X : Type 0} (m : Map by_number X) (k : ℕ) (v : X) → get m k ≡ Some v → m ≡ insert m k v
same_inserted m k v is = same_map m (insert m k v) (λ q. by q (eq_by_cmp nat_cmp q k) refl ∙ sym (get-insert m k v q))
  where
    by : (q : ℕ) (b : Bool) → eq_by_cmp nat_cmp q k ≡ b → get m q ≡ cond b (Some v) (get m q)
    by q true e = ap (get m) (eqb-true q k (sym (number_tie q k) ∙ e)) ∙ is
    by q false e = refl

-- the node of a storage, as a table of the nodes has it
pub node_table : (C : Cluster) (s : ℕ) → get (table (node_number C) (keys C.storages)) s ≡ node_of C s
unfolding node_number node_of
node_table C s = get-table (node_number C) (keys C.storages) s ∙ ap (λ b. cond b (Some (node_number C s)) None) (has_keys C.storages s) ∙ by (get C.storages s)
  where
    by : (o : Option StorageInfo) → cond (is_some o) (Some (unwrap_or (option_map (λ (i : StorageInfo). i.node) o) 0)) None ≡ option_map (λ (i : StorageInfo). i.node) o
    by None = refl
    by (Some i) = refl

-- Counts.

revised : (o : Option ℕ) (g : ℕ → ℕ) (b : Bool) → g 0 ≡ 0 → unwrap_or (option_map (λ x. cond b (g x) x) o) 0 ≡ cond b (g (unwrap_or o 0)) (unwrap_or o 0)
revised None g true z = sym z
revised None g false z = refl
revised (Some x) g true z = refl
revised (Some x) g false z = refl

-- a count after a change that keeps 0
pub count-revised : (m : Map by_number ℕ) (k : ℕ) (g : ℕ → ℕ) → g 0 ≡ 0 → (q : ℕ) → count_at (revise_at m k g) q ≡ cond (k == q) (g (count_at m q)) (count_at m q)
unfolding count_at revise_at
count-revised m k g z q =
    ap (λ o. unwrap_or o 0) (get-revise m (λ q x. cond (eq_by_cmp nat_cmp q k) (g x) x) q)
    ∙ revised (get m q) g (eq_by_cmp nat_cmp q k) z
    ∙ ap (λ b. cond b (g (unwrap_or (get m q) 0)) (unwrap_or (get m q) 0)) (number_tie q k ∙ sym (equal_back q k (q == k) refl))

set_or : (o : Option ℕ) (v : ℕ) (b : Bool) → unwrap_or (cond b (Some v) o) 0 ≡ cond b v (unwrap_or o 0)
set_or o v true = refl
set_or o v false = refl

-- a count that is set
pub count-insert : (m : Map by_number ℕ) (k v q : ℕ) → count_at (insert m k v) q ≡ cond (k == q) v (count_at m q)
unfolding count_at
count-insert m k v q =
    ap (λ o. unwrap_or o 0) (get-insert m k v q)
    ∙ set_or (get m q) v (eq_by_cmp nat_cmp q k)
    ∙ ap (λ b. cond b v (unwrap_or (get m q) 0)) (number_tie q k ∙ sym (equal_back q k (q == k) refl))

pub count-empty : (q : ℕ) → count_at empty q ≡ 0
unfolding count_at
count-empty q = ap (λ o. unwrap_or o 0) (get-empty by_number q)

-- Lists in loops.

none_past : {A : Type 0} (xs : List A) (i : ℕ) → slice_get xs i ≡ None → drop i xs ≡ []
none_past [] zero h = refl
none_past [] (suc i) h = refl
none_past (y ∷ xs) zero h = cc
none_past (y ∷ xs) (suc i) h = none_past xs i h

-- A table that is made row by row: the numbers from index i on are left.

module _ {X : Type 0} (f : ℕ → X) (ks : List ℕ) (i : ℕ) (whole : Map by_number X) where
  -- one row more
  pub row_made : (m more : Map by_number X) (s k : ℕ) (v : X) → slice_get ks i ≡ Some s → k ≡ s → v ≡ f s → more ≡ insert m k v
      → insert_all m (listed f (drop i ks)) ≡ whole → insert_all more (listed f (drop (i + 1) ks)) ≡ whole
  row_made m more s k v at same value is inv =
      ap (λ n. insert_all n (listed f (drop (i + 1) ks))) (is ∙ (λ j. insert m (same j) (value j))) ∙ sym (ap (λ xs. insert_all m (listed f xs)) (drop_next ks i s at)) ∙ inv

  -- `row_made` if the rows are of numbers that are computed from these
  pub row_made_of : (g : ℕ → ℕ) (m more : Map by_number X) (s k : ℕ) (v : X) → slice_get ks i ≡ Some s → k ≡ g s → v ≡ f (g s) → more ≡ insert m k v
      → insert_all m (listed f (map g (drop i ks))) ≡ whole → insert_all more (listed f (map g (drop (i + 1) ks))) ≡ whole
  row_made_of g m more s k v at same value is inv =
      ap (λ n. insert_all n (listed f (map g (drop (i + 1) ks)))) (is ∙ (λ j. insert m (same j) (value j))) ∙ sym (ap (λ xs. insert_all m (listed f (map g xs))) (drop_next ks i s at)) ∙ inv

  all_made : (m : Map by_number X) → drop i ks ≡ [] → insert_all m (listed f (drop i ks)) ≡ whole → m ≡ whole
  all_made m none inv = sym (ap (λ xs. insert_all m (listed f xs)) none) ∙ inv

  all_made_of : (g : ℕ → ℕ) (m : Map by_number X) → drop i ks ≡ [] → insert_all m (listed f (map g (drop i ks))) ≡ whole → m ≡ whole
  all_made_of g m none inv = sym (ap (λ xs. insert_all m (listed f (map g xs))) none) ∙ inv

  -- no row is left if there is no number at the index
  pub made_past : (m : Map by_number X) → slice_get ks i ≡ None → insert_all m (listed f (drop i ks)) ≡ whole → m ≡ whole
  made_past m none inv = all_made m (none_past ks i none) inv

  pub made_past_of : (g : ℕ → ℕ) (m : Map by_number X) → slice_get ks i ≡ None → insert_all m (listed f (map g (drop i ks))) ≡ whole → m ≡ whole
  made_past_of g m none inv = all_made_of g m (none_past ks i none) inv

-- there is no key at an index past the number of keys
pub none_behind : {Y : Type 0} (m : Map by_number Y) (i : ℕ) → len m ≤ i → slice_get (keys m) i ≡ None
unfolding keys len
none_behind m i h = slice_get_past (keys m) i (omega (arith, h, length-map (entries m) (λ e. e.0)))
