-- Tests that agree on the elements of a list filter it alike, and two filters may be applied in
-- either order.
use Rattle.std.proofs.Common.{◌≡◌, ◌≤◌, Bool, true, false, cond, ◌&&◌, List, [], ◌∷◌, map, filter, length, arith, refl, sym, ap, ◌∙◌}
use Rattle.std.specs.List.{All, list_any}
use Rattle.std.proofs.lemmas.List.Elements.{All-nil, All-cons}
use Rattle.bm_base.proofs.ListTests.{any_map, any_filter, filter_filter}
use Rattle.bm_base.proofs.ForEach.{Each}

within : (a b c : Bool) → (a ≡ true → b ≡ c) → (c ≡ true → a ≡ true) → (a && b) ≡ c
within true b c h g = h refl
within false b true h g = g refl
within false b false h g = refl

swapped : (a b c : Bool) → (a ≡ true → b ≡ c) → (a && b) ≡ (c && a)
swapped true b true h = h refl
swapped true b false h = h refl
swapped false b true h = refl
swapped false b false h = refl

fewer_head : {X : Type 0} (b c : Bool) (x : X) (ys zs : List X) → (b ≡ true → c ≡ true) → length ys ≤ length zs → length (cond b (x ∷ ys) ys) ≤ length (cond c (x ∷ zs) zs)
fewer_head true true x ys zs more rest = omega (arith, rest)
fewer_head true false x ys zs more rest = let clash = more refl in cc
fewer_head false true x ys zs more rest = omega (arith, rest)
fewer_head false false x ys zs more rest = rest

module _ {X : Type 0} where
  pub filtered_alike : (p q : X → Bool) (xs : List X) → Each (λ x. p x ≡ q x) xs → filter p xs ≡ filter q xs
  filtered_alike p q [] h = refl
  filtered_alike p q (x ∷ xs) h = λ i. cond (h.0 i) (x ∷ filtered_alike p q xs h.1 i) (filtered_alike p q xs h.1 i)

  -- fewer elements pass a stronger test
  pub fewer_passing : (p q : X → Bool) → ((x : X) → p x ≡ true → q x ≡ true) → (xs : List X) → length (filter p xs) ≤ length (filter q xs)
  fewer_passing p q more [] = omega arith
  fewer_passing p q more (x ∷ xs) = fewer_head (p x) (q x) x (filter p xs) (filter q xs) (more x) (fewer_passing p q more xs)

  pub filter_none : (p : X → Bool) (xs : List X) → Each (λ x. p x ≡ false) xs → filter p xs ≡ []
  filter_none p [] h = refl
  filter_none p (x ∷ xs) h = ap (λ b. cond b (x ∷ filter p xs) (filter p xs)) h.0 ∙ filter_none p xs h.1

  pub filter_all : (xs : List X) → filter (λ _. true) xs ≡ xs
  filter_all [] = refl
  filter_all (x ∷ xs) = ap (λ ys. x ∷ ys) (filter_all xs)

  -- if the second test implies the first, filtering by both is filtering by the second
  pub filter_within : (p t u : X → Bool) → ((x : X) → p x ≡ true → t x ≡ u x) → ((x : X) → u x ≡ true → p x ≡ true) → (xs : List X) → filter t (filter p xs) ≡ filter u xs
  filter_within p t u same only xs = filter_filter t p xs ∙ ap (λ (s : X → Bool). filter s xs) (λ i x. within (p x) (t x) (u x) (same x) (only x) i)

  -- two filters may be swapped; of t and u, only the values on elements that pass p matter
  pub filter_swap : (p t u : X → Bool) → ((x : X) → p x ≡ true → t x ≡ u x) → (xs : List X) → filter t (filter p xs) ≡ filter p (filter u xs)
  filter_swap p t u same xs = filter_filter t p xs ∙ ap (λ (s : X → Bool). filter s xs) (λ i x. swapped (p x) (t x) (u x) (same x) i) ∙ sym (filter_filter p u xs)

pub map_filter : {X Y : Type 0} (f : X → Y) (p : Y → Bool) (xs : List X) → filter p (map f xs) ≡ map f (filter (λ x. p (f x)) xs)
map_filter f p [] = refl
map_filter f p (x ∷ xs) = ap (λ ys. cond (p (f x)) (f x ∷ ys) ys) (map_filter f p xs) ∙ by_test (p (f x)) (filter (λ y. p (f y)) xs)
  where
    by_test : (b : Bool) (ys : List _) → cond b (f x ∷ map f ys) (map f ys) ≡ map f (cond b (x ∷ ys) ys)
    by_test true ys = refl
    by_test false ys = refl

-- Whether some element passes.

-- g holds of some f x with p x exactly if it holds of an element of the filtered and mapped list
pub any_shown : {X Y : Type 0} (g : Y → Bool) (f : X → Y) (p : X → Bool) (xs : List X) → list_any g (map f (filter p xs)) ≡ list_any (λ x. p x && g (f x)) xs
any_shown g f p xs = any_map g f (filter p xs) ∙ any_filter (λ x. g (f x)) p xs

-- a property of each element, as std defines it
pub all_each : {X : Type 0} (P : X → Type 0) (xs : List X) → Each P xs → All P xs
all_each P [] h = All-nil P
all_each P (x ∷ xs) h = All-cons P x xs h.0 (all_each P xs h.1)
