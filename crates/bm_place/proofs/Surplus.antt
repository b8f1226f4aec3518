-- The order in which excess is chosen is total, and counts by rack show which storages share one.
use Rattle.std.specs.Option.{option_map_or}
use Rattle.std.proofs.Common.{◌≡◌, ◌≤◌, ◌+◌, ℕ, Bool, true, false, cond, nat_lt, List, ◌∷◌, drop, length, count_by, Option, Some, None, refl, sym, ap, ◌∙◌, ◌==◌, arith}
use Rattle.std.specs.Cmp.{IsTotalOrder, nat_cmp_total}
use Rattle.std.proofs.lemmas.Cmp.{on_total, then_total, back_total}
use Rattle.std.proofs.lemmas.Bool.{eqb-true, eq-eqb}
use Rattle.std.proofs.lemmas.List.Sums.{count_by-le-length}
use Rattle.bm_base.specs.Words.{Map, by_number, insert, Cluster, rack_of, remaining, share_rack, has_rack_mate, excess_cmp}
use Rattle.bm_place.specs.Tables.{count_at}
use Rattle.bm_place.specs.RackCounts.{is_on}
use Rattle.bm_place.specs.ReplicaSpread.{is_rack}
use Rattle.bm_place.proofs.TransferCounts.{count_none}
use Rattle.bm_place.proofs.Tables.{count-insert}
use Rattle.bm_topo.proofs.RackChanges.{count_cons}

pub excess_cmp_total : (C : Cluster) (left : List ℕ) → IsTotalOrder (excess_cmp C left)
unfolding excess_cmp
excess_cmp_total C left = then_total (on_total (λ s. cond (has_rack_mate C left s) 0 1) nat_cmp_total) (then_total (on_total (remaining C) nat_cmp_total) (back_total nat_cmp_total))

pub mate_as : (C : Cluster) (left : List ℕ) (count : ℕ → ℕ) → ((r : ℕ) → count r ≡ count_by (is_on C r) left) → (s : ℕ) → option_map_or (λ r. nat_lt 1 (count r)) (rack_of C s) false ≡ has_rack_mate C left s
unfolding has_rack_mate share_rack
mate_as C left count counted s = by (rack_of C s)
  where
    by : (o : Option ℕ) → option_map_or (λ r. nat_lt 1 (count r)) o false ≡ nat_lt 1 (count_by (λ t. option_map_or (λ r. option_map_or (λ q. q == r) (rack_of C t) false) o false) left)
    by None = sym (ap (λ n. nat_lt 1 n) (count_none left))
    by (Some r) = ap (λ n. nat_lt 1 n) (counted r)

-- Counting the racks of looked up storages.

module _ {X : Type 0} (rack : X → Option ℕ) where
  abbrev on_rack : ℕ → X → Bool
  on_rack r x = is_rack r (rack x)

  -- the count of a list by its first element and the rest
  count_left : (p : X → Bool) (xs : List X) (i : ℕ) (x : X) (b : Bool) → drop i xs ≡ x ∷ drop (i + 1) xs → p x ≡ b → count_by p (drop i xs) ≡ cond b 1 0 + count_by p (drop (i + 1) xs)
  count_left p xs i x b next is = ap (count_by p) next ∙ count_cons p x (drop (i + 1) xs) ∙ ap (λ t. cond t 1 0 + count_by p (drop (i + 1) xs)) is

  -- one with a rack is counted
  pub counted_next : (counts more : Map by_number ℕ) (xs : List X) (i : ℕ) (x : X) (k n : ℕ) (whole : ℕ → ℕ) → drop i xs ≡ x ∷ drop (i + 1) xs → rack x ≡ Some k → n ≡ count_at counts k + 1 → more ≡ insert counts k n
      → ((r : ℕ) → count_at counts r + count_by (on_rack r) (drop i xs) ≡ whole r) → (r : ℕ) → count_at more r + count_by (on_rack r) (drop (i + 1) xs) ≡ whole r
  counted_next counts more xs i x k n whole next on count is inv r =
      let here : on_rack r x ≡ (k == r) = ap (is_rack r) on in
      let new : count_at more r ≡ cond (k == r) n (count_at counts r) = ap (λ m. count_at m r) is ∙ count-insert counts k n r in
      by (k == r) refl (count_left (on_rack r) xs i x (k == r) next here) new (inv r)
    where
      by : (b : Bool) → (k == r) ≡ b → count_by (on_rack r) (drop i xs) ≡ cond b 1 0 + count_by (on_rack r) (drop (i + 1) xs) → count_at more r ≡ cond b n (count_at counts r)
          → count_at counts r + count_by (on_rack r) (drop i xs) ≡ whole r → count_at more r + count_by (on_rack r) (drop (i + 1) xs) ≡ whole r
      by true e left new inv = let same = ap (count_at counts) (eqb-true k r e) in omega (arith, inv, left, new, count, same)
      by false e left new inv = omega (arith, inv, left, new)

  -- one without a rack is not counted
  pub skipped_next : (counts : Map by_number ℕ) (xs : List X) (i : ℕ) (x : X) (whole : ℕ → ℕ) → drop i xs ≡ x ∷ drop (i + 1) xs → rack x ≡ None
      → ((r : ℕ) → count_at counts r + count_by (on_rack r) (drop i xs) ≡ whole r) → (r : ℕ) → count_at counts r + count_by (on_rack r) (drop (i + 1) xs) ≡ whole r
  skipped_next counts xs i x whole next none inv r =
      let left = count_left (on_rack r) xs i x false next (ap (is_rack r) none) in
      omega (arith, inv r, left)

  -- a count with one more is at most the number of the elements
  pub count_fits : (counts : Map by_number ℕ) (xs : List X) (i : ℕ) (x : X) (k : ℕ) → drop i xs ≡ x ∷ drop (i + 1) xs → rack x ≡ Some k
      → ((r : ℕ) → count_at counts r + count_by (on_rack r) (drop i xs) ≡ count_by (on_rack r) xs) → count_at counts k + 1 ≤ length xs
  count_fits counts xs i x k next on inv =
      let left = count_left (on_rack k) xs i x true next (ap (is_rack k) on ∙ eq-eqb k k refl) in
      omega (arith, inv k, left, count_by-le-length (on_rack k) xs)
