-- An event is refused by the first cluster or block check that fails, or if no call number is left.
use Rattle.std.proofs.Common.{◌≡◌, ◌<◌, Bool, true, false, Option, Some, None, [], ◌∷◌, Ok, Err, refl, ap, ◌∙◌, arith, cond}
use Rattle.std.specs.Prelude.{nat_le, not, IsTrue}
use Rattle.std.proofs.lemmas.Bool.Decides.{nat_tests}
use Rattle.bm_base.specs.declared.event.Event.{Event}
use Rattle.bm_base.specs.declared.limits.Limits.{Limits}
use Rattle.bm_base.specs.declared.refusal.Refusal.{Refusal}
use Rattle.bm_base.specs.declared.refusal.Refusal.TheVariants.{BadConfig, CallsSpent}
use Rattle.bm_base.specs.Words.{State, ◌before◌, ◌when◌, are_allowed, limits_refusal, standard_limits, refusal_of, first_of, cluster_checks, block_checks, calls_spent, round_refusal, last_number, checked}

checked-before_err : (x y : Option Refusal) (r : Refusal) → checked x ≡ Err r → checked (x before y) ≡ Err r
checked-before_err None y r e = cc
checked-before_err (Some s) y r e = e

before-passed : (x y : Option Refusal) (u : Unit {0}) → checked x ≡ Ok u → (x before y) ≡ y
before-passed None y u e = refl
before-passed (Some s) y u e = cc

pub refused_by_cluster : (M : State) (e : Event) (r : Refusal) → checked (first_of (cluster_checks M.cluster e)) ≡ Err r → checked (refusal_of M e) ≡ Err r
unfolding refusal_of
refused_by_cluster M e r h = checked-before_err (first_of (cluster_checks M.cluster e)) _ r h

pub passed_by_cluster : (M : State) (e : Event) (u : Unit {0}) → checked (first_of (cluster_checks M.cluster e)) ≡ Ok u
    → refusal_of M e ≡ (first_of (block_checks M.holdings e) before calls_spent M)
unfolding refusal_of
passed_by_cluster M e u h = before-passed (first_of (cluster_checks M.cluster e)) _ u h

pub refused_by_blocks : (M : State) (e : Event) (u : Unit {0}) (r : Refusal) → checked (first_of (cluster_checks M.cluster e)) ≡ Ok u → checked (first_of (block_checks M.holdings e)) ≡ Err r
    → checked (refusal_of M e) ≡ Err r
refused_by_blocks M e u r h k = ap checked (passed_by_cluster M e u h) ∙ checked-before_err (first_of (block_checks M.holdings e)) _ r k

pub passed_by_both : (M : State) (e : Event) (u v : Unit {0}) → checked (first_of (cluster_checks M.cluster e)) ≡ Ok u → checked (first_of (block_checks M.holdings e)) ≡ Ok v
    → refusal_of M e ≡ calls_spent M
passed_by_both M e u v h k = passed_by_cluster M e u h ∙ before-passed (first_of (block_checks M.holdings e)) _ v k

pub calls_spent-last : (M : State) → M.calls ≡ last_number → calls_spent M ≡ Some CallsSpent
unfolding calls_spent
calls_spent-last M e = ap (λ n. cond (nat_le last_number n) (Some CallsSpent) None) e

pub calls_spent-below : (M : State) → M.calls < last_number → calls_spent M ≡ None
unfolding calls_spent
calls_spent-below M lt = grind (arith, nat_tests, lt)

pub nothing_refused : (x : Option Refusal) (u : Unit {0}) → checked x ≡ Ok u → x ≡ None
nothing_refused None u e = refl
nothing_refused (Some r) u e = cc

pub round_passed : (M : State) → M.round < last_number → M.calls < last_number → round_refusal M ≡ None
unfolding round_refusal calls_spent
round_passed M r k = grind (arith, nat_tests, r, k)

-- The limits of a new manager.

abbrev refused_unless : Bool → Option Refusal
refused_unless b = first_of ((BadConfig when not b) ∷ [])

allowed_if_passed : (b : Bool) → refused_unless b ≡ None → IsTrue b
allowed_if_passed true none = refl
allowed_if_passed false none = let passed : Some BadConfig ≡ None = none in cc

pub limits_are_allowed : (l : Limits) → limits_refusal l ≡ None → IsTrue (are_allowed l)
limits_are_allowed l none = allowed_if_passed (are_allowed l) none

-- the standard limits refuse nothing
pub refused_alone : (x : Option Refusal) → (x before limits_refusal standard_limits) ≡ x
refused_alone None = refl
refused_alone (Some r) = refl
