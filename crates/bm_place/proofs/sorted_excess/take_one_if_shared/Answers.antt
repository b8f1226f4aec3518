use Rattle.std.proofs.Common.{◌≡◌, ◌+◌, ◌-◌, ◌==◌, ◌∙◌, ◌<◌, cond, true, false, Bool, ℕ, ap, refl, arith}
use Rattle.std.proofs.lemmas.Bool.{eqb-true}
use Rattle.bm_place.specs.ReplicaSpread.{is_rack}
use Rattle.bm_place.specs.Tables.{count_at}
use Rattle.bm_place.proofs.Tables.{count-revised}
use Rattle.bm_place.proofs.sorted_excess.take_one_if_shared.Goals as goal

one_less : (before : ℕ → ℕ) (k r n : ℕ) → 1 < before k → n ≡ cond (k == r) (before r - 1) (before r) → n + cond (k == r) 1 0 ≡ before r
one_less before k r n most is = by (k == r) refl is
  where
    by : (b : Bool) → (k == r) ≡ b → n ≡ cond b (before r - 1) (before r) → n + cond b 1 0 ≡ before r
    by true e is = let same = ap before (eqb-true k r e) in omega (arith, is, same, most)
    by false e is = omega (arith, is)

pub returns-in-Some-clause-lowered : goal.returns-in-Some-clause-lowered
returns-in-Some-clause-lowered c r =
    let before = c.args.racks.now.map in
    let k = c.in-Some.rack in
    let most : 1 < count_at before k = omega (arith, c.if-count_on-gt1.true, c.count_on.ensures) in
    ap (λ o. count_at c.reduce_count.new.counts.map r + cond (is_rack r o) 1 0) c.in-Some.is
    ∙ one_less (count_at before) k r _ most (ap (λ m. count_at m r) c.reduce_count.ensures ∙ count-revised before k (λ n. n - 1) refl r)
