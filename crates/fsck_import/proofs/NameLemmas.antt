-- A number keeps its name as more names are added, and a known name's number leads back to it.
use Rattle.std.proofs.Common.{◌≡◌, ℕ, suc, ◌+◌, ◌-◌, ◌<◌, ◌||◌, Bool, true, false, not, cond, nat_eq, nat_lt, List, [], ◌∷◌, ◌++◌, Some, None, Result, Ok, Err, position, length, refl, sym, ap, ◌∙◌, arith, rules, true≢false, inl, inr, if◌then◌else◌}
use Rattle.std.specs.Prelude.{slice_index_or}
use Rattle.std.specs.List.{list_any, position_or_len}
use Rattle.std.specs.Str.{bytes_eq}
use Rattle.std.proofs.lemmas.Bool.Decides.{eqb_tells}
use Rattle.std.proofs.lemmas.List.{get_or_append_left}
use Rattle.std.proofs.lemmas.List.Folds.{list_any-append}
use Rattle.std.proofs.lemmas.Slice.Eq.{bytes_eq-Decides}
use Rattle.std.proofs.lemmas.Bool.{or_parts}
use Rattle.fsck_text.specs.Cuts.{Text}
use Rattle.fsck_text.specs.Wrongs.{after_ok}
use Rattle.fsck_cluster.specs.Names.{name_number, name_of, with_name}

-- Tests.

pub same_number : (a b : ℕ) → nat_eq a b ≡ true → a ≡ b
same_number a b h = elim (eqb_tells a b) [ inl e ↦ e.1 | inr e ↦ absurd (true≢false (sym h ∙ e.0)) ]

pub number_is_itself : (n : ℕ) → nat_eq n n ≡ true
number_is_itself n = elim (eqb_tells n n) [ inl e ↦ e.0 | inr e ↦ absurd (e.1 refl) ]

-- Results.

module _ {A E : Type 0} where
  pub same_ok : (x y : A) → ◌≡◌ {A = Result A E} (Ok x) (Ok y) → x ≡ y
  same_ok x y e = cc

  pub err_is_not_ok : (w : E) (y : A) → ◌≡◌ {A = Result A E} (Err w) (Ok y) → ⊥
  err_is_not_ok w y e = cc

  -- a result that is Ok only if a test passes
  pub if_ok : (b : Bool) (r : Result A E) (w : E) (y : A) → (if b then r else Err w) ≡ Ok y → (b ≡ true) × (r ≡ Ok y)
  if_ok true r w y e = (refl, e)
  if_ok false r w y e = absurd (err_is_not_ok w y e)

  pub if_not : (b : Bool) (r : Result A E) (w : E) (y : A) → (if b then Err w else r) ≡ Ok y → (b ≡ false) × (r ≡ Ok y)
  if_not true r w y e = absurd (err_is_not_ok w y e)
  if_not false r w y e = (refl, e)

-- if a step after a result is Ok, the result was Ok
pub came_of : {A B E : Type 0} (f : A → Result B E) (r : Result A E) (y : B) → after_ok f r ≡ Ok y → (x : A) × (r ≡ Ok x) × (f x ≡ Ok y)
came_of f (Ok x) y e = (x, refl, e)
came_of f (Err w) y e = absurd (err_is_not_ok w y e)

-- Positions.

module _ {A : Type 0} (p : A → Bool) where
  pub known_below : (xs : List A) → list_any p xs ≡ true → position_or_len p xs < length xs
  known_below [] h = absurd (true≢false (sym h))
  known_below (x ∷ xs) h = by (p x) h (known_below xs)
    where
      by : (b : Bool) → (b || list_any p xs) ≡ true → (list_any p xs ≡ true → position_or_len p xs < length xs) → cond (not b) (1 + position_or_len p xs) 0 < suc (length xs)
      by true e rest = omega arith
      by false e rest = omega (arith, rest e)

  pub new_position : (xs : List A) → list_any p xs ≡ false → position_or_len p xs ≡ length xs
  new_position [] h = refl
  new_position (x ∷ xs) h =
      let both = or_parts (p x) (list_any p xs) h in
      by (p x) both.0 (new_position xs both.1)
    where
      by : (b : Bool) → b ≡ false → position_or_len p xs ≡ length xs → cond (not b) (1 + position_or_len p xs) 0 ≡ suc (length xs)
      by true e rest = absurd (true≢false e)
      by false e rest = omega (arith, rest)

  below_is : (n m : ℕ) → n < m → nat_lt n m ≡ true
  below_is n m h = search (arith, rules)

  pub position-known : (xs : List A) → list_any p xs ≡ true → position p xs ≡ Some (position_or_len p xs)
  position-known xs h = ap (λ b. cond b (Some (position_or_len p xs)) None) (below_is _ _ (known_below xs h))

  not_below : (n m : ℕ) → n ≡ m → nat_lt n m ≡ false
  not_below n m h = search (arith, rules)

  pub position-new : (xs : List A) → list_any p xs ≡ false → position p xs ≡ None
  position-new xs h = ap (λ b. cond b (Some (position_or_len p xs)) None) (not_below _ _ (new_position xs h))

  pub known-push : (xs : List A) (x : A) → list_any p xs ≡ true → list_any p (xs ++ x ∷ []) ≡ true
  known-push xs x h = list_any-append p xs (x ∷ []) ∙ ap (λ b. b || list_any p (x ∷ [])) h

-- Names.

pub same_name : (a b : Text) → bytes_eq a b ≡ true → a ≡ b
same_name a b h = (bytes_eq-Decides a b).0 h

pub name_is_itself : (a : Text) → bytes_eq a a ≡ true
name_is_itself a = (bytes_eq-Decides a a).1 refl

pub known_last : (name : Text) (names : List Text) → list_any (bytes_eq name) (names ++ name ∷ []) ≡ true
known_last name [] = ap (λ b. b || false) (name_is_itself name)
known_last name (x ∷ names) = by (bytes_eq name x) (known_last name names)
  where
    by : (b : Bool) → list_any (bytes_eq name) (names ++ name ∷ []) ≡ true → (b || list_any (bytes_eq name) (names ++ name ∷ [])) ≡ true
    by true rest = refl
    by false rest = rest

pub last_position : (name : Text) (names : List Text) → list_any (bytes_eq name) names ≡ false → position_or_len (bytes_eq name) (names ++ name ∷ []) ≡ position_or_len (bytes_eq name) names
last_position name [] h = ap (λ b. cond (not b) 1 0) (name_is_itself name)
last_position name (x ∷ names) h = ap (λ n. cond (not (bytes_eq name x)) (1 + n) 0) (last_position name names (or_parts (bytes_eq name x) _ h).1)

pub with_known : (names : List Text) (name : Text) → list_any (bytes_eq name) names ≡ true → with_name names name ≡ names
with_known names name h = ap (λ b. if not b then names ++ name ∷ [] else names) h

pub with_new : (names : List Text) (name : Text) → list_any (bytes_eq name) names ≡ false → with_name names name ≡ names ++ name ∷ []
with_new names name h = ap (λ b. if not b then names ++ name ∷ [] else names) h

-- the name at a position
pub name-at : (names : List Text) (name : Text) → list_any (bytes_eq name) names ≡ true → slice_index_or names (position_or_len (bytes_eq name) names) [] ≡ name
name-at [] name h = absurd (true≢false (sym h))
name-at (x ∷ names) name h = by (bytes_eq name x) refl h (name-at names name)
  where
    by : (b : Bool) → bytes_eq name x ≡ b → (b || list_any (bytes_eq name) names) ≡ true
        → (list_any (bytes_eq name) names ≡ true → slice_index_or names (position_or_len (bytes_eq name) names) [] ≡ name)
        → slice_index_or (x ∷ names) (cond (not b) (1 + position_or_len (bytes_eq name) names) 0) [] ≡ name
    by true e k rest = sym (same_name name x e)
    by false e k rest =
        let next : suc (position_or_len (bytes_eq name) names) ≡ 1 + position_or_len (bytes_eq name) names = omega arith in
        ap (λ n. slice_index_or (x ∷ names) n []) (sym next) ∙ rest k

-- the number of a known name leads back to the name
pub name_of-number : (names : List Text) (name : Text) → list_any (bytes_eq name) names ≡ true → name_of names (name_number names name) ≡ name
name_of-number names name h =
    let at : position_or_len (bytes_eq name) names + 1 - 1 ≡ position_or_len (bytes_eq name) names = omega arith in
    ap (λ n. slice_index_or names n []) at ∙ name-at names name h

-- a number keeps its name when more names come
pub name_of-more : (names more : List Text) (number : ℕ) → number - 1 < length names → name_of (names ++ more) number ≡ name_of names number
name_of-more names more number h = get_or_append_left names more [] (number - 1) h
