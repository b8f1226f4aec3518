-- Targets of one node share rack and drain state, and are totally ordered: most free bytes first.
use Rattle.std.specs.Bool.{beq}
use Rattle.std.specs.Option.{option_eq}
use Rattle.std.specs.Ordering.{is_lt, nat_cmp, ordering_then}
use Rattle.std.proofs.Common.{◌≡◌, ℕ, ◌≤◌, Bool, true, false, ◌&&◌, ◌==◌, Option, Some, None, refl, sym, ap, ◌∙◌, arith}
use Rattle.std.specs.Cmp.{IsTotalOrder, IsStrictWeakOrder, nat_cmp_total}
use Rattle.std.proofs.lemmas.Cmp.{on_total, then_total, back_total, tied_itself}
use Rattle.std.proofs.lemmas.List.MinMax.{ranks_by}
use Rattle.std.proofs.lemmas.Bool.{eqb-true, eq-eqb}
use Rattle.std.proofs.lemmas.Bool.Decides.{nat_tests}
use Rattle.bm_place.specs.declared.scheduled_bytes.TargetRow.{TargetRow}
use Rattle.bm_place.specs.Targets.{free_bytes_on}
use Rattle.bm_place.specs.BestTargets.{are_of_one_node, cmp_of_one_node, is_better_than}

-- the common properties of two targets of one node
pub record IsLike (s t : TargetRow) : Type 0 where
  pub node : s.node ≡ t.node
  pub rack : s.rack ≡ t.rack
  pub is_draining : s.is_draining ≡ t.is_draining

same_number : (a b : Option ℕ) → option_eq (λ m n. m == n) a b ≡ true → a ≡ b
same_number None None e = refl
same_number None (Some n) e = cc
same_number (Some m) None e = cc
same_number (Some m) (Some n) e = ap Some (eqb-true m n e)

number_itself : (a : Option ℕ) → option_eq (λ m n. m == n) a a ≡ true
number_itself None = refl
number_itself (Some n) = eq-eqb n n refl

same_bool : (a b : Bool) → beq a b ≡ true → a ≡ b
same_bool true true e = refl
same_bool true false e = cc
same_bool false true e = cc
same_bool false false e = refl

bool_itself : (a : Bool) → beq a a ≡ true
bool_itself true = refl
bool_itself false = refl

three : (a b c : Bool) → (a && b && c) ≡ true → (a ≡ true) × (b ≡ true) × (c ≡ true)
three true true true e = (refl, refl, refl)
three true true false e = cc
three true false c e = cc
three false b c e = cc

pub like : (s t : TargetRow) → are_of_one_node s t ≡ true → IsLike s t
like s t e =
    let h = three (option_eq (λ m n. m == n) s.node t.node) (option_eq (λ m n. m == n) s.rack t.rack) (beq s.is_draining t.is_draining) e in
    record { node = same_number s.node t.node h.0; rack = same_number s.rack t.rack h.1; is_draining = same_bool s.is_draining t.is_draining h.2 }

pub alike : (s t : TargetRow) → IsLike s t → are_of_one_node s t ≡ true
alike s t h =
    (λ i. option_eq (λ m n. m == n) (h.node i) t.node && option_eq (λ m n. m == n) (h.rack i) t.rack && beq (h.is_draining i) t.is_draining)
    ∙ (λ i. number_itself t.node i && number_itself t.rack i && bool_itself t.is_draining i)

pub like_back : (s t : TargetRow) → IsLike s t → IsLike t s
like_back s t h = record { node = sym h.node; rack = sym h.rack; is_draining = sym h.is_draining }

pub like_then : (s t u : TargetRow) → IsLike s t → IsLike t u → IsLike s u
like_then s t u h g = record { node = h.node ∙ g.node; rack = h.rack ∙ g.rack; is_draining = h.is_draining ∙ g.is_draining }

pub like_itself : (t : TargetRow) → IsLike t t
like_itself t = record { node = refl; rack = refl; is_draining = refl }

pub cmp_alike_total : IsTotalOrder cmp_of_one_node
cmp_alike_total = then_total (back_total (on_total free_bytes_on nat_cmp_total)) (on_total (λ (t : TargetRow). t.storage) nat_cmp_total)

pub ranks : IsStrictWeakOrder (λ s t. is_lt (cmp_of_one_node s t))
ranks = ranks_by cmp_alike_total (λ t. t)

pub not_before_itself : (t : TargetRow) → is_better_than t t ≡ false
not_before_itself t = ap is_lt (tied_itself cmp_alike_total t)

-- if t is not better than c, c has at least as many free bytes
pub more_free_bytes : (c t : TargetRow) → is_better_than t c ≡ false → free_bytes_on t ≤ free_bytes_on c
more_free_bytes c t e = by (nat_cmp t.storage c.storage) e
  where
    by : (r : _) → is_lt (ordering_then (nat_cmp (free_bytes_on c) (free_bytes_on t)) r) ≡ false → free_bytes_on t ≤ free_bytes_on c
    by r e = grind (arith, nat_tests)

-- a row of a storage with no more free bytes than another row of it is not better
pub less_free_bytes : (s t : TargetRow) → s.storage ≡ t.storage → free_bytes_on s ≤ free_bytes_on t → is_better_than s t ≡ false
less_free_bytes s t same less = grind (arith, nat_tests)
