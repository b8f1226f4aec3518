-- A name that is put into a set of names, or found there, has its index plus 1 as its number.
use Rattle.std.proofs.Common.{◌≡◌, ℕ, suc, ◌+◌, Bool, true, false, not, cond, List, [], ◌∷◌, ◌++◌, ◌||◌, map, length, nat_lt, Some, None, position, String, string_bytes, refl, sym, ap, ◌∙◌}
use Rattle.std.specs.List.{list_any, position_or_len}
use Rattle.std.specs.Str.{bytes_eq}
use Rattle.std.specs.String.{string_eq}
use Rattle.std.proofs.lemmas.List.{map_push}
use Rattle.std.proofs.lemmas.Bool.{not-true}
use Rattle.indexmap.specs.IndexSet.{insert_key}
use Rattle.fsck_text.specs.Cuts.{Text}
use Rattle.fsck_cluster.specs.Names.{is_new, name_number, with_name}

module _ {A B : Type 0} (p : B → Bool) (f : A → B) where
  pub list_any-map : (xs : List A) → list_any p (map f xs) ≡ list_any (λ x. p (f x)) xs
  list_any-map [] = refl
  list_any-map (x ∷ xs) = ap (λ b. p (f x) || b) (list_any-map xs)

  pub position_or_len-map : (xs : List A) → position_or_len p (map f xs) ≡ position_or_len (λ x. p (f x)) xs
  position_or_len-map [] = refl
  position_or_len-map (x ∷ xs) = ap (λ n. cond (not (p (f x))) (1 + n) 0) (position_or_len-map xs)

  length-mapped : (xs : List A) → length (map f xs) ≡ length xs
  length-mapped [] = refl
  length-mapped (x ∷ xs) = ap suc (length-mapped xs)

  pub position-map : (xs : List A) → position p (map f xs) ≡ position (λ x. p (f x)) xs
  position-map xs =
      ap (λ n. cond (nat_lt n (length (map f xs))) (Some n) None) (position_or_len-map xs)
      ∙ ap (λ m. cond (nat_lt (position_or_len (λ x. p (f x)) xs) m) (Some (position_or_len (λ x. p (f x)) xs)) None) (length-mapped xs)

some_of_cond : (b : Bool) (n i : ℕ) → cond b (Some n) None ≡ Some i → n ≡ i
some_of_cond true n i e = cc
some_of_cond false n i e = cc

-- the index that a look-up found
pub place-found : {A : Type 0} (p : A → Bool) (xs : List A) (i : ℕ) → Some i ≡ position p xs → i ≡ position_or_len p xs
place-found p xs i e = sym (some_of_cond _ _ i (sym e))

-- a name that was found
pub number-found : (names : List Text) (name : Text) (i : ℕ) → Some i ≡ position (bytes_eq name) names → i + 1 ≡ name_number names name
number-found names name i e = ap (λ n. n + 1) (place-found (bytes_eq name) names i e)

pub names-found : (names : List Text) (name : Text) → false ≡ is_new names name → names ≡ with_name names name
names-found names name e = rw (← e) refl

module _ {Y : Type 0} (keys : List (String Y)) where
  pub new-known : (name : Text) (b : Bool) → b ≡ list_any (λ k. bytes_eq name (string_bytes k)) keys → not b ≡ is_new (map string_bytes keys) name
  new-known name b e = ap not (e ∙ sym (list_any-map (bytes_eq name) string_bytes keys))

  -- a name that was put in
  pub number-put : (k : String Y) (name : Text) → string_bytes k ≡ name → position_or_len (string_eq k) keys + 1 ≡ name_number (map string_bytes keys) name
  number-put k name e = ap (λ n. n + 1) (ap (λ t. position_or_len (λ x. bytes_eq t (string_bytes x)) keys) e ∙ sym (position_or_len-map (bytes_eq name) string_bytes keys))

  pub names-put : (k : String Y) (name : Text) → string_bytes k ≡ name → is_new (map string_bytes keys) name ≡ true → map string_bytes (insert_key string_eq keys k) ≡ with_name (map string_bytes keys) name
  names-put k name e here =
      let none : list_any (λ x. bytes_eq name (string_bytes x)) keys ≡ false = sym (list_any-map (bytes_eq name) string_bytes keys) ∙ not-true _ here in
      let any : list_any (string_eq k) keys ≡ false = ap (λ t. list_any (λ x. bytes_eq t (string_bytes x)) keys) e ∙ none in
      rw (any, here) (map_push string_bytes keys k ∙ ap (λ t. map string_bytes keys ++ t ∷ []) e)
