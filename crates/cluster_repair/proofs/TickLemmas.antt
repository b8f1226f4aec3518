-- The number of copies on their way never grows with time, so the computed tick is the next one.
use Rattle.std.proofs.Common.{◌≡◌, ℕ, ◌≤◌, ◌<◌, ◌+◌, ◌-◌, ◌*◌, List, [], ◌∷◌, ◌∙◌, false, cond, sym, ap, subst, take, length, get_or, arith}
use Rattle.std.specs.Prelude.{nat_lt, max, min}
use Rattle.std.specs.Int.{div_ceil}
use Rattle.std.proofs.lemmas.Grind.{div_ceil_times}
use Rattle.std.proofs.lemmas.Nat.{mul-le}
use Rattle.std.proofs.Math.Nat.{le_refl, le_trans}
use Rattle.std.proofs.lemmas.List.Sums.{sum_by-cons, count_by_more_no}
use Rattle.cluster_repair.specs.declared.awaited_copies.Sent.{Sent}
use Rattle.cluster_repair.specs.declared.ticks.Ticks.{Ticks}
use Rattle.cluster_repair.specs.LinkModel.{most}
use Rattle.cluster_repair.specs.Ticks.{on_way_after, IsNextTick}

one_fewer : (a t u : ℕ) → t ≤ u → cond (nat_lt u a) 1 0 ≤ cond (nat_lt t a) 1 0
one_fewer a t u h = grind (arith, h)

-- the number of copies on their way does not grow
pub fewer_later : (ss : List Sent) (t u : ℕ) → t ≤ u → on_way_after ss u ≤ on_way_after ss t
fewer_later [] t u h = omega arith
fewer_later (s ∷ ss) t u h = omega (arith, one_fewer s.arrival t u h, fewer_later ss t u h, sum_by-cons (λ (x : Sent). cond (nat_lt t x.arrival) 1 0) s ss, sum_by-cons (λ (x : Sent). cond (nat_lt u x.arrival) 1 0) s ss)

not_after : (a t : ℕ) → a ≤ t → nat_lt t a ≡ false
not_after a t h = grind (arith, h)

-- one more copy, which arrives by then
pub none_more : (ss : List Sent) (i t last : ℕ) (s : Sent) → i < length ss → s ≡ get_or ss i s → last ≤ t → s.arrival ≤ t
    → (last ≤ t → on_way_after (take i ss) t ≡ 0) → on_way_after (take (i + 1) ss) t ≡ 0
none_more ss i t last s within is by arrived before =
    count_by_more_no (λ (x : Sent). nat_lt t x.arrival) ss i s within (ap (λ (x : Sent). nat_lt t x.arrival) (sym is) ∙ not_after s.arrival t arrived) ∙ before by

-- Ticks.

reaches_at : (time last product next : ℕ) → time ≤ most → time - last ≤ product → next ≡ min (last + min product most) most → time ≤ next
reaches_at time last product next fits enough is = omega (arith, fits, enough, is)

greater : (d number : ℕ) → number ≡ max d 1 → d ≤ number
greater d number is = omega (arith, is)

-- the time is reached by the computed tick
reaches : (time last i number next : ℕ) → 0 < i → time ≤ most → number ≡ max (div_ceil (time - last) i) 1
    → next ≡ min (last + min (number * i) most) most → time ≤ next
reaches time last i number next positive fits ceil is =
    let d = div_ceil (time - last) i in
    reaches_at time last (number * i) next fits (le_trans (div_ceil_times (time - last) i positive).0 (mul-le d i number i (greater d number ceil) (le_refl i))) is

before_ceil : (k d number : ℕ) → number ≡ max d 1 → 0 < k → k < number → k + 1 ≤ d
before_ceil k d number is above below = omega (arith, is, above, below)

not_yet_at : (time last i less more : ℕ) → 0 < i → less + i ≤ more → more < time - last + i → last + less < time
not_yet_at time last i less more positive one bound = omega (arith, positive, one, bound)

one_more : (k i : ℕ) → k * i + i ≡ (k + 1) * i
one_more k i = grind arith

-- and at no tick before it
not_yet : (time last i number k : ℕ) → 0 < i → number ≡ max (div_ceil (time - last) i) 1 → 0 < k → k < number → last + k * i < time
not_yet time last i number k positive ceil above below =
    let d = div_ceil (time - last) i in
    not_yet_at time last i (k * i) (d * i) positive (subst (λ n. n ≤ d * i) (sym (one_more k i)) (mul-le (k + 1) i d i (before_ceil k d number ceil above below) (le_refl i))) (div_ceil_times (time - last) i positive).1

at_most : (last product next : ℕ) → next ≡ min (last + min product most) most → next ≡ min (last + product) most
at_most last product next is = omega (arith, is)

-- the tick that is computed is the first
pub is_next : (ticks : Ticks) (ss : List Sent) (last time i enough number next : ℕ) → i ≡ max ticks.interval 1 → enough ≡ max ticks.enough 1 → time ≤ most
    → number ≡ max (div_ceil (time - last) i) 1 → next ≡ min (last + min (number * i) most) most
    → ((t : ℕ) → time ≤ t → on_way_after ss t < enough) → ((t : ℕ) → t < time → enough ≤ on_way_after ss t)
    → IsNextTick ticks ss last next
is_next ticks ss last time i enough number next interval many fits ceil is fewer before =
    let positive : 0 < i = omega (arith, interval) in
    record {
      number = number;
      later = omega (arith, ceil);
      is = subst (λ n. next ≡ min (last + number * n) most) interval (at_most last (number * i) next is);
      fewer = subst (λ n. on_way_after ss next < n) many (fewer next (reaches time last i number next positive fits ceil is));
      first = λ k above below.
          subst (λ n. n ≤ on_way_after ss (last + k * max ticks.interval 1)) many
          (before (last + k * max ticks.interval 1) (subst (λ n. last + k * n < time) interval (not_yet time last i number k positive ceil above below)));
    }
