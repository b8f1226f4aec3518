-- Filtering the findings of blocks by their keys gives exactly the findings whose keys pass.
use Rattle.std.specs.Prelude.{◌≡◌, ℕ, Bool, true, false, ◌||◌, List, [], ◌∷◌, filter}
use Rattle.std.specs.List.{list_any, IsDistinct, AllByRecursion}
use Rattle.std.proofs.Common.{cond, refl, sym, ap, ◌∙◌, true≢false}
use Rattle.bm_base.specs.Maps.Map.{Order}
use Rattle.bm_base.proofs.MapEntries.{same_key}
use Rattle.bm_base.proofs.ForEach.{each_all, each_both, each_filtered, each_passing}
use Rattle.bm_parts.specs.Findings.{IsGathered}
use Rattle.bm_parts.proofs.WishesBefore.{ascends_still}
use Rattle.bm_parts.proofs.Filters.{all_each}
use Rattle.bm_round_scan.proofs.CollectedFindings.{IsListed}
use Rattle.bm_round_scan.proofs.SortedElements.{tie}

module _ {K X : Type 0} (o : Order K) (key : X → K) (q : K → Bool) where
  abbrev pub passes : X → Bool
  passes x = q (key x)

  -- an element with the property that passes
  abbrev pub Passing : (X → Type 0) → X → Type 0
  Passing P x = P x × (q (key x) ≡ true)

  apart_from : (x : X) (ys : List X) → AllByRecursion (λ y. tie o key x y ≡ false) ys → AllByRecursion (λ y. tie o key x y ≡ false) (filter passes ys)
  apart_from x [] d = tt
  apart_from x (y ∷ ys) d = by (passes y) (apart_from x ys d.1)
    where
      by : (t : Bool) → AllByRecursion (λ y. tie o key x y ≡ false) (filter passes ys) → AllByRecursion (λ y. tie o key x y ≡ false) (cond t (y ∷ filter passes ys) (filter passes ys))
      by true rest = (d.0, rest)
      by false rest = rest

  apart_still : (xs : List X) → IsDistinct (tie o key) xs → IsDistinct (tie o key) (filter passes xs)
  unfolding IsDistinct
  apart_still [] d = tt
  apart_still (x ∷ xs) d = by (passes x) (apart_still xs d.1)
    where
      by : (t : Bool) → IsDistinct (tie o key) (filter passes xs) → IsDistinct (tie o key) (cond t (x ∷ filter passes xs) (filter passes xs))
      by true rest = (apart_from x xs d.0, rest)
      by false rest = rest

  still_there : (x : X) (xs : List X) → q (key x) ≡ true → list_any (tie o key x) xs ≡ true → list_any (tie o key x) (filter passes xs) ≡ true
  still_there x [] h e = e
  still_there x (y ∷ ys) h e = by (passes y) refl (tie o key x y) refl e (still_there x ys h)
    where
      rest_of : Bool → Bool
      rest_of t = t || list_any (tie o key x) (filter passes ys)

      by : (t : Bool) → passes y ≡ t → (u : Bool) → tie o key x y ≡ u → (u || list_any (tie o key x) ys) ≡ true → (list_any (tie o key x) ys ≡ true → list_any (tie o key x) (filter passes ys) ≡ true)
          → list_any (tie o key x) (cond t (y ∷ filter passes ys) (filter passes ys)) ≡ true
      by true is true at g rest = ap rest_of at
      by true is false at g rest = ap rest_of at ∙ rest g
      by false is true at g rest = absurd (true≢false (sym h ∙ ap q (same_key o (key x) (key y) at) ∙ is))
      by false is false at g rest = rest g

  -- the passing elements of each block's list
  pub passing_listed : (block : X → ℕ) (P : X → Type 0) (f : ℕ → List X) → IsListed o key block P f → IsListed o key block (Passing P) (λ b. filter passes (f b))
  passing_listed block P f is = record {
    differ = is.differ;
    of_block = λ b. each_filtered (λ x. block x ≡ b) passes (f b) (is.of_block b);
    apart = λ b. apart_still (f b) (is.apart b);
    only = λ b. each_both P (λ x. q (key x) ≡ true) (filter passes (f b)) (each_filtered P passes (f b) (is.only b)) (each_passing passes (f b));
    all = λ x p. still_there x (f (block x)) p.1 (is.all x p.0);
  }

  -- the passing elements of the gathered list
  pub passing_gathered : (P : X → Type 0) (xs : List X) → IsGathered o key P xs → IsGathered o key (Passing P) (filter passes xs)
  passing_gathered P xs is = record {
    ascends = ascends_still o key q xs is.ascends;
    only = all_each (Passing P) (filter passes xs) (each_both P (λ x. q (key x) ≡ true) (filter passes xs) (each_filtered P passes xs (each_all P xs is.only)) (each_passing passes xs));
    all = λ x p. still_there x xs p.1 (is.all x p.0);
  }
