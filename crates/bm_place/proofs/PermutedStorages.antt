-- Storages that are looked up and put in another order stay the same storages.
use Rattle.std.specs.Prelude.{if◌then◌else◌}
use Rattle.std.specs.List.Sorted.{IsPermutation}
use Rattle.std.proofs.Common.{◌≡◌, ℕ, Bool, List, [], ◌∷◌, map, count_by, refl, ap, ◌∙◌, arith}
use Rattle.std.proofs.lemmas.List.Elements.{All-map}
use Rattle.std.proofs.lemmas.List.Sorted.{All-permutation, sum_by-IsPermutation}
use Rattle.bm_base.specs.Words.{Map, by_number, Cluster}
use Rattle.bm_base.proofs.ForEach.{Each, each_all}
use Rattle.bm_place.specs.declared.holders.Holder.{Holder}
use Rattle.bm_place.specs.RackCounts.{CountsRacks}
use Rattle.bm_place.specs.Holders.{holder_at, count_among}
use Rattle.bm_place.specs.ReplicaSpread.{is_rack}
use Rattle.bm_place.specs.Tables.{count_at}
use Rattle.bm_place.proofs.OrderIndependence.{HaveAlike}
use Rattle.bm_topo.proofs.RackChanges.{count_cons}

count_mapped : {X Y : Type 0} (f : X → Y) (p : Y → Bool) (xs : List X) → count_by p (map f xs) ≡ count_by (λ x. p (f x)) xs
count_mapped f p [] = refl
count_mapped f p (x ∷ xs) =
    let one = count_cons p (f x) (map f xs) in
    let other = count_cons (λ y. p (f y)) x xs in
    omega (arith, one, other, count_mapped f p xs)

abbrev pub storages : List Holder → List ℕ
storages holders = map (λ h. h.storage) holders

-- a holder is the look-up of its storage
abbrev IsLookedUp : Cluster → Holder → Type 0
IsLookedUp C h = h ≡ holder_at C h.storage

looked_up : (C : Cluster) (holders : List Holder) → Each (IsLookedUp C) holders → holders ≡ map (holder_at C) (storages holders)
looked_up C [] each = refl
looked_up C (h ∷ hs) each = λ i. each.0 i ∷ looked_up C hs each.1 i

module _ (C : Cluster) (ss : List ℕ) (holders : List Holder) (moved : IsPermutation (map (holder_at C) ss) holders) where
  -- the holders are look-ups
  pub moved_looked_up : holders ≡ map (holder_at C) (storages holders)
  moved_looked_up =
      looked_up C holders
      (each_all (IsLookedUp C) holders (All-permutation (IsLookedUp C) (map (holder_at C) ss) holders moved (All-map (IsLookedUp C) (holder_at C) ss (λ k d lt. refl))))

  -- each of the storages occurs the same number of times
  pub moved_alike : HaveAlike (storages holders) ss
  moved_alike p =
      count_mapped (λ (h : Holder). h.storage) p holders
      ∙ sum_by-IsPermutation (λ (h : Holder). if p h.storage then 1 else 0) (map (holder_at C) ss) holders moved
      ∙ count_mapped (holder_at C) (λ (h : Holder). p h.storage) ss

-- counts of holders are counts of their storages
pub counts_storages : (C : Cluster) (ss : List ℕ) (holders : List Holder) (counts : Map by_number ℕ) → holders ≡ map (holder_at C) ss → ((r : ℕ) → count_at counts r ≡ count_among holders r) → CountsRacks C ss counts
counts_storages C ss holders counts is counted r = counted r ∙ ap (λ hs. count_among hs r) is ∙ count_mapped (holder_at C) (λ (h : Holder). is_rack r h.rack) ss
