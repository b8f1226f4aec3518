-- Rows stay in the order of their rounds when one is added and when every second one is dropped.
use Rattle.std.proofs.Common.{◌≡◌, ◌∙◌, ◌++◌, ℕ, zero, suc, ◌+◌, ◌*◌, ◌<◌, ◌≤◌, Bool, true, false, List, [], ◌∷◌, length, refl, sym, ap, subst, eq-eqb, arith}
use Rattle.std.specs.Prelude.{◌-◌, ◌%◌, ◌==◌, ◌||◌, max}
use Rattle.std.specs.List.{All, AllPairs, filter, list_any}
use Rattle.std.specs.Int.{◌∣◌}
use Rattle.std.proofs.Math.Nat.{dvd_refl, dvd-mul_right, mod-mod_of_dvd, zero-mod}
use Rattle.std.proofs.lemmas.Bool.{eqb-true, eqb-false}
use Rattle.std.proofs.lemmas.List.Elements.{All-nil, All-push, All-filter}
use Rattle.std.proofs.lemmas.List.Folds.{list_any-append}
use Rattle.std.proofs.lemmas.List.Kept.{AllPairs-filter}
use Rattle.std.proofs.lemmas.List.Quantifiers.{all_pairs_push}
use Rattle.std.proofs.lemmas.Map.Views.{any-filter_same}
use Rattle.cluster_repair.specs.declared.rows.Row.{Row}
use Rattle.cluster_repair.specs.Rows.{AreInOrder, is_on_stride}

-- no row and no round
pub none_in_order : AreInOrder 0 1 []
none_in_order = record {
  ascend = λ i j d less below. absurd (omega (arith, below));
  before = All-nil (λ r. r.round < 0);
  each = λ k some below on. absurd (omega (arith, below));
  fine = λ below. refl;
}

-- Rows on a stride twice as long.

coarser : (stride : ℕ) → max stride 1 ∣ max (stride * 2) 1
coarser zero = dvd_refl 1
coarser (suc n) =
    let twice : max (suc n) 1 * 2 ≡ max (suc n * 2) 1 = omega arith in
    subst (λ k. max (suc n) 1 ∣ k) twice (dvd-mul_right (max (suc n) 1) 2)

-- a round on the longer stride is on the shorter one
finer : (k stride : ℕ) → is_on_stride k (stride * 2) ≡ true → is_on_stride k stride ≡ true
finer k stride on =
    eq-eqb ((k - 1) % max stride 1) 0
    (sym (mod-mod_of_dvd (max stride 1) (k - 1) (coarser stride)) ∙ ap (λ r. r % max stride 1) (eqb-true ((k - 1) % max (stride * 2) 1) 0 on) ∙ zero-mod (max stride 1))

-- there are no more rows than rounds
few_below : (n low : ℕ) (rows : List Row) → low ≤ n → AllPairs (λ a b. a.round < b.round) rows → All (λ r. low ≤ r.round) rows → All (λ r. r.round < n) rows → length rows + low ≤ n
few_below n low [] fits ascend above below = omega (arith, fits)
few_below n low (r ∷ rows) fits ascend above below =
    let least : low ≤ r.round = above zero r (omega arith) in
    let first : r.round < n = below zero r (omega arith) in
    let rest = few_below n (r.round + 1) rows (omega (arith, first)) (λ i j d less within. ascend (suc i) (suc j) d (omega (arith, less)) (omega (arith, within)))
    (λ k d within. let later = ascend zero (suc k) d (omega arith) (omega (arith, within)) in omega (arith, later))
    (λ k d within. below (suc k) d (omega (arith, within))) in
    omega (arith, least, rest)

many : (n next : ℕ) → n + 0 ≤ next → 64 ≤ n → next < 64 → ⊥
many n next few full below = omega (arith, few, full, below)

-- every second row is dropped
pub in_order_among : (next stride : ℕ) (rows new : List Row) → new ≡ filter (λ r. is_on_stride r.round (stride * 2)) rows → 64 ≤ length rows → AreInOrder next stride rows
    → AreInOrder next (stride * 2) new
in_order_among next stride rows new is full old = subst (AreInOrder next (stride * 2)) (sym is) (record {
  ascend = AllPairs-filter (λ a b. a.round < b.round) (λ r. is_on_stride r.round (stride * 2)) rows old.ascend;
  before = All-filter (λ r. is_on_stride r.round (stride * 2)) (λ r. r.round < next) rows old.before;
  each = λ k some below on.
      any-filter_same (λ (r : Row). r.round == k) (λ r. is_on_stride r.round (stride * 2)) true
      (λ r one. ap (λ j. is_on_stride j (stride * 2)) (eqb-true r.round k one) ∙ on) rows
      ∙ old.each k some below (finer k stride on);
  fine = λ below. absurd (many (length rows) next (few_below next 0 rows (omega arith) old.ascend (λ k d within. omega arith) old.before) full below);
})

or_first : (old is : Bool) → (is ≡ false → old ≡ true) → (old || (is || false)) ≡ true
or_first true is h = refl
or_first false true h = refl
or_first false false h = h refl

below_both : (k n : ℕ) → k < n + 1 → (n == k) ≡ false → k < n
below_both k n below apart = let differ = eqb-false n k apart in omega (arith, below, differ)

-- one more row
pub in_order_and : (stride : ℕ) (rows new : List Row) (row : Row) → new ≡ rows ++ row ∷ [] → AreInOrder row.round stride rows → AreInOrder (row.round + 1) stride new
in_order_and stride rows new row is old = subst (AreInOrder (row.round + 1) stride) (sym is) (record {
  ascend = all_pairs_push (λ a b. a.round < b.round) rows row old.ascend (λ k d below. old.before k d below);
  before = All-push (λ r. r.round < row.round + 1) rows row (λ k d below. let less = old.before k d below in omega (arith, less)) (omega arith);
  each = λ k some below on.
      list_any-append (λ (r : Row). r.round == k) rows (row ∷ [])
      ∙ or_first (list_any (λ (r : Row). r.round == k) rows) (row.round == k) (λ apart. old.each k some (below_both k row.round below apart) on);
  fine = λ below. old.fine (omega (arith, below));
})
