-- Rows of numbers and names: how look-ups find them, and that they stay one to one when a new
-- number with a new name is added.
use Rattle.std.proofs.Common.{◌≡◌, ℕ, ◌+◌, ◌≤◌, Bool, true, false, cond, not, List, [], ◌∷◌, ◌++◌, ◌||◌, map, find, length, nat_lt, position, Option, Some, None, IfSome, is_some, option_map, nat_eq, String, string_bytes, refl, sym, ap, subst, ◌∙◌, arith}
use Rattle.std.specs.Prelude.{option_and_then}
use Rattle.std.specs.List.{list_any, position_or_len, slice_get}
use Rattle.std.specs.Map.{lookup}
use Rattle.std.specs.Str.{bytes_eq}
use Rattle.std.specs.String.{string_eq}
use Rattle.std.proofs.lemmas.Slice.Eq.{bytes_eq-Decides}
use Rattle.std.proofs.lemmas.Bool.{eqb-true, eq-eqb, ltb-false}
use Rattle.std.specs.Borrow.{Bor}
use Rattle.std.proofs.lemmas.Option.{cond_some, slice_get_past}
use Rattle.std.proofs.lemmas.List.{map_push, length-map}
use Rattle.std.proofs.lemmas.List.Folds.{find_at}
use Rattle.indexmap.specs.IndexMap.{insert_entry, IndexMap}
use Rattle.indexmap.specs.IndexSet.{insert_key}
use Rattle.indexmap.proofs.CallerLemmas.{insert_entry-new}
use Rattle.cluster_names.specs.Names.{row_of, IsIndexed}
use Rattle.cluster_names.specs.Rows.{Text, Rows, name_of, number_of, IsOneToOne}
use Rattle.cluster_names.proofs.FileLemmas.{list_any-map, position_or_len-map}

-- Tests that hold both ways.

both_ways : (a b : Bool) → (a ≡ true → b ≡ true) → (b ≡ true → a ≡ true) → a ≡ b
both_ways true b f g = sym (f refl)
both_ways false true f g = g refl
both_ways false false f g = refl

same_number : (m n : ℕ) → nat_eq m n ≡ nat_eq n m
same_number m n = both_ways _ _ (λ e. eq-eqb n m (sym (eqb-true m n e))) (λ e. eq-eqb m n (sym (eqb-true n m e)))

same_text : (t u : Text) → bytes_eq t u ≡ bytes_eq u t
same_text t u = both_ways _ _ (λ e. (bytes_eq-Decides u t).1 (sym ((bytes_eq-Decides t u).0 e))) (λ e. (bytes_eq-Decides t u).1 (sym ((bytes_eq-Decides u t).0 e)))

-- a search among mapped items finds the image of the item found
pub find-map : {A B : Type 0} (p : B → Bool) (f : A → B) (xs : List A) → find p (map f xs) ≡ option_map f (find (λ x. p (f x)) xs)
find-map p f [] = refl
find-map p f (x ∷ xs) = by (p (f x)) (find-map p f xs)
  where
    by : (b : Bool) → find p (map f xs) ≡ option_map f (find (λ y. p (f y)) xs)
        → cond b (Some (f x)) (find p (map f xs)) ≡ option_map f (cond b (Some x) (find (λ y. p (f y)) xs))
    by true same = refl
    by false same = same

position-map : {A B : Type 0} (p : B → Bool) (f : A → B) (xs : List A) → position p (map f xs) ≡ position (λ x. p (f x)) xs
position-map p f xs =
    ap (λ n. cond (nat_lt n (length (map f xs))) (Some n) None) (position_or_len-map p f xs)
    ∙ ap (λ m. cond (nat_lt (position_or_len (λ x. p (f x)) xs) m) (Some (position_or_len (λ x. p (f x)) xs)) None) (length-map xs f)

module _ {Y : Type 0} where
  name_mapped : (o : Option (String Y × ℕ)) → option_map (λ r. r.1) (option_map row_of o) ≡ option_map (λ e. string_bytes e.0) o
  name_mapped None = refl
  name_mapped (Some e) = refl

  number_mapped : (o : Option (String Y × ℕ)) → option_map (λ r. r.0) (option_map row_of o) ≡ option_map (λ e. e.1) o
  number_mapped None = refl
  number_mapped (Some e) = refl

  -- the name at an index, if the index is of the number
  abbrev name_at : List (String Y × ℕ) → Option ℕ → Option Text
  name_at es i = option_and_then (λ k. option_map (λ e. string_bytes e.0) (slice_get es k)) i

  by_index : (es : List (String Y × ℕ)) (n : ℕ) (b : Bool) → nat_lt n (length es) ≡ b → name_at es (cond b (Some n) None) ≡ option_map (λ e. string_bytes e.0) (slice_get es n)
  by_index es n true e = refl
  by_index es n false e = sym (ap (option_map (λ x. string_bytes x.0)) (slice_get_past es n (ltb-false n (length es) e)))

  -- the index of a number is that of its name
  pub name_found : (es : List (String Y × ℕ)) (ns : List ℕ) (number : ℕ) (i : Option ℕ) → ns ≡ map (λ e. e.1) es → i ≡ position (nat_eq number) ns
      → name_at es i ≡ name_of (map row_of es) number
  name_found es ns number i same at =
      let test : String Y × ℕ → Bool = λ e. nat_eq number e.1 in
      let n = position_or_len test es in
      ap (name_at es) (at ∙ ap (position (nat_eq number)) same ∙ position-map (nat_eq number) (λ e. e.1) es)
      ∙ by_index es n (nat_lt n (length es)) refl
      ∙ ap (option_map (λ e. string_bytes e.0)) (sym (find_at test es) ∙ (λ j. find (λ e. same_number number e.1 j) es))
      ∙ sym (ap (option_map (λ r. r.1)) (find-map (λ r. nat_eq r.0 number) row_of es) ∙ name_mapped (find (λ e. nat_eq e.1 number) es))

  -- a look-up by name gives its number
  pub number_found : (es : List (String Y × ℕ)) (name : Text) → lookup (λ k. bytes_eq name (string_bytes k)) es ≡ number_of (map row_of es) name
  number_found es name =
      looked es
      ∙ (λ j. option_map (λ e. e.1) (find (λ e. same_text name (string_bytes e.0) j) es))
      ∙ sym (ap (option_map (λ r. r.0)) (find-map (λ r. bytes_eq r.1 name) row_of es) ∙ number_mapped (find (λ e. bytes_eq (string_bytes e.0) name) es))
    where
      looked : (xs : List (String Y × ℕ)) → lookup (λ k. bytes_eq name (string_bytes k)) xs ≡ option_map (λ e. e.1) (find (λ e. bytes_eq name (string_bytes e.0)) xs)
      looked [] = refl
      looked (x ∷ xs) = by (bytes_eq name (string_bytes x.0)) (looked xs)
        where
          by : (b : Bool) → lookup (λ k. bytes_eq name (string_bytes k)) xs ≡ option_map (λ e. e.1) (find (λ e. bytes_eq name (string_bytes e.0)) xs)
              → cond b (Some x.1) (lookup (λ k. bytes_eq name (string_bytes k)) xs) ≡ option_map (λ e. e.1) (cond b (Some x) (find (λ e. bytes_eq name (string_bytes e.0)) xs))
          by true e = refl
          by false e = e

abbrev or_else : {A : Type 0} → Option A → Option A → Option A
or_else (Some x) o = Some x
or_else None o = o

find-push : {A : Type 0} (p : A → Bool) (xs : List A) (y : A) → find p (xs ++ y ∷ []) ≡ or_else (find p xs) (find p (y ∷ []))
find-push p [] y = refl
find-push p (x ∷ xs) y = by (p x) (find-push p xs y)
  where
    by : (b : Bool) → find p (xs ++ y ∷ []) ≡ or_else (find p xs) (find p (y ∷ []))
        → cond b (Some x) (find p (xs ++ y ∷ [])) ≡ or_else (cond b (Some x) (find p xs)) (find p (y ∷ []))
    by true same = refl
    by false same = same

map-or_else : {A B : Type 0} (f : A → B) (o d : Option A) → option_map f (or_else o d) ≡ or_else (option_map f o) (option_map f d)
map-or_else f None d = refl
map-or_else f (Some x) d = refl

map-cond : {A B : Type 0} (f : A → B) (b : Bool) (x : A) → option_map f (cond b (Some x) None) ≡ cond b (Some (f x)) None
map-cond f true x = refl
map-cond f false x = refl

module _ (rows : Rows) (n : ℕ) (t : Text) where
  name_of-push : (m : ℕ) → name_of (rows ++ (n, t) ∷ []) m ≡ or_else (name_of rows m) (cond (nat_eq n m) (Some t) None)
  name_of-push m =
      ap (option_map (λ r. r.1)) (find-push (λ r. nat_eq r.0 m) rows (n, t))
      ∙ map-or_else (λ r. r.1) (find (λ r. nat_eq r.0 m) rows) _
      ∙ ap (or_else (name_of rows m)) (map-cond (λ r. r.1) (nat_eq n m) (n, t))

  number_of-push : (u : Text) → number_of (rows ++ (n, t) ∷ []) u ≡ or_else (number_of rows u) (cond (bytes_eq t u) (Some n) None)
  number_of-push u =
      ap (option_map (λ r. r.0)) (find-push (λ r. bytes_eq r.1 u) rows (n, t))
      ∙ map-or_else (λ r. r.0) (find (λ r. bytes_eq r.1 u) rows) _
      ∙ ap (or_else (number_of rows u)) (map-cond (λ r. r.0) (bytes_eq t u) (n, t))

module _ (rows : Rows) (n : ℕ) (t : Text) (one : IsOneToOne rows) (new_number : name_of rows n ≡ None) (new_name : number_of rows t ≡ None) where
  by_name : (m : ℕ) (u : Text) (found : Option Text) → name_of rows m ≡ found → or_else found (cond (nat_eq n m) (Some t) None) ≡ Some u
      → number_of (rows ++ (n, t) ∷ []) u ≡ Some m
  by_name m u (Some x) was e =
      number_of-push rows n t u ∙ ap (λ o. or_else o (cond (bytes_eq t u) (Some n) None)) (one.of_name m u (was ∙ e))
  by_name m u None was e =
      let same = cond_some (nat_eq n m) t u e in
      number_of-push rows n t u
      ∙ ap (λ v. or_else (number_of rows v) (cond (bytes_eq t v) (Some n) None)) (sym same.1)
      ∙ ap (λ o. or_else o (cond (bytes_eq t t) (Some n) None)) new_name
      ∙ ap (λ b. cond b (Some n) None) ((bytes_eq-Decides t t).1 refl)
      ∙ ap Some (eqb-true n m same.0)

  by_number : (m : ℕ) (u : Text) (found : Option ℕ) → number_of rows u ≡ found → or_else found (cond (bytes_eq t u) (Some n) None) ≡ Some m
      → name_of (rows ++ (n, t) ∷ []) m ≡ Some u
  by_number m u (Some x) was e =
      name_of-push rows n t m ∙ ap (λ o. or_else o (cond (nat_eq n m) (Some t) None)) (one.of_number m u (was ∙ e))
  by_number m u None was e =
      let same = cond_some (bytes_eq t u) n m e in
      name_of-push rows n t m
      ∙ ap (λ k. or_else (name_of rows k) (cond (nat_eq n k) (Some t) None)) (sym same.1)
      ∙ ap (λ o. or_else o (cond (nat_eq n n) (Some t) None)) new_number
      ∙ ap (λ b. cond b (Some t) None) (eq-eqb n n refl)
      ∙ ap Some ((bytes_eq-Decides t u).0 same.0)

  -- with one more row, if its number had no name and its name no number
  pub one_to_one-push : IsOneToOne (rows ++ (n, t) ∷ [])
  one_to_one-push = record {
    of_name = λ m u e. by_name m u (name_of rows m) refl (sym (name_of-push rows n t m) ∙ e);
    of_number = λ m u e. by_number m u (number_of rows u) refl (sym (number_of-push rows n t u) ∙ e);
  }

pub none_if : {A : Type 0} (o : Option A) → false ≡ is_some o → o ≡ None
none_if None e = refl
none_if (Some x) e = cc

none_mapped : {A B : Type 0} (f : A → B) (o : Option A) → o ≡ None → option_map f o ≡ None
none_mapped f o e = ap (option_map f) e

-- the number that a look-up by name finds has this name
pub back_found : (rows : Rows) → IsOneToOne rows → (name : Text) (o : Option ℕ) → o ≡ number_of rows name → IfSome o (λ n. name_of rows n ≡ Some name)
back_found rows one name None e = tt
back_found rows one name (Some n) e = one.of_number n name (sym e)

-- A new entry.

some_found : {A B : Type 0} (f : A → B) (p : A → Bool) (xs : List A) → is_some (option_map f (find p xs)) ≡ list_any p xs
some_found f p [] = refl
some_found f p (x ∷ xs) = by (p x) (some_found f p xs)
  where
    by : (b : Bool) → is_some (option_map f (find p xs)) ≡ list_any p xs → is_some (option_map f (cond b (Some x) (find p xs))) ≡ (b || list_any p xs)
    by true e = refl
    by false e = e

module _ {Y : Type 0} (es : List (String Y × ℕ)) (ns : List ℕ) (number : ℕ) (same : ns ≡ map (λ e. e.1) es) (new : name_of (map row_of es) number ≡ None) where
  -- no number is this one
  no_such : list_any (nat_eq number) ns ≡ false
  no_such =
      ap (list_any (nat_eq number)) same
      ∙ list_any-map (nat_eq number) (λ e. e.1) es
      ∙ (λ j. list_any (λ e. same_number number e.1 j) es)
      ∙ sym (list_any-map (λ r. nat_eq r.0 number) row_of es)
      ∙ sym (some_found (λ r. r.1) (λ r. nat_eq r.0 number) (map row_of es))
      ∙ ap is_some new

  pub number_put : insert_key nat_eq ns number ≡ ns ++ number ∷ []
  number_put = ap (λ b. cond b ns (ns ++ number ∷ [])) no_such

-- a new name goes last
pub name_put : {Y S : Type 0} (m : IndexMap (String Y) ℕ S) (key : String Y) (name : Text) (number : ℕ) → string_bytes key ≡ name → number_of (map row_of m.entries) name ≡ None
    → insert_entry string_eq m.entries key number ≡ m.entries ++ (key, number) ∷ []
name_put m key name number is new =
    insert_entry-new string_eq m key number (ap (λ t. lookup (λ k. bytes_eq t (string_bytes k)) m.entries) is ∙ number_found m.entries name ∙ new)

pub rows_put : {Y : Type 0} (es : List (String Y × ℕ)) (key : String Y) (number : ℕ) (name : Text) → string_bytes key ≡ name
    → map row_of (es ++ (key, number) ∷ []) ≡ map row_of es ++ (number, name) ∷ []
rows_put es key number name is = map_push row_of es (key, number) ∙ ap (λ t. map row_of es ++ (number, t) ∷ []) is

-- the table with one more name, if neither its number nor the name is in it
pub indexed_put : {Y : Type 0} (es : List (String Y × ℕ)) (ns : List ℕ) (key : String Y) (number : ℕ) (name : Text) → IsIndexed es ns → string_bytes key ≡ name
    → name_of (map row_of es) number ≡ None → number_of (map row_of es) name ≡ None → IsIndexed (es ++ (key, number) ∷ []) (ns ++ number ∷ [])
indexed_put es ns key number name before is new_number new_name = record {
  one = subst IsOneToOne (sym (map_push row_of es (key, number))) (one_to_one-push (map row_of es) number (string_bytes key) before.one new_number (ap (number_of (map row_of es)) is ∙ new_name));
  same = ap (λ t. t ++ number ∷ []) before.same ∙ sym (map_push (λ e. e.1) es (key, number));
}

-- a look-up that finds nothing means that no row has the key
pub no_name : (rows : Rows) (number : ℕ) (o : Option (Bor Text)) → option_map (λ t. t.now) o ≡ name_of rows number → false ≡ is_some o → name_of rows number ≡ None
no_name rows number o e none = sym e ∙ none_mapped (λ t. t.now) o (none_if o none)

pub no_number : (rows : Rows) (name : Text) (o : Option ℕ) → o ≡ number_of rows name → false ≡ is_some o → number_of rows name ≡ None
no_number rows name o e none = sym e ∙ none_if o none
