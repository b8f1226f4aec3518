-- A block with wanted replicas is missing exactly if none of its replicas is live or drained.
use Rattle.std.proofs.Common.{◌≡◌, ℕ, ◌*◌, ◌≤◌, Bool, true, false, not, ◌&&◌, ◌||◌, Some, None, List, [], ◌∷◌, length, refl, sym, ap, ◌∙◌, arith}
use Rattle.std.specs.Prelude.{◌==◌, nat_le, nat_lt, if◌then◌else◌}
use Rattle.std.specs.List.{list_any}
use Rattle.std.proofs.lemmas.Bool.{leb-true, ne_eqb}
use Rattle.bm_base.specs.declared.replica.Level.TheVariants.{Highest, VeryUnderReplicated, UnderReplicated, BadlyDistributed, NoUsableReplica}
use Rattle.bm_base.specs.Machine.Levels.{level_of, is_at}

pub none_if_empty : {X : Type 0} (xs : List X) → (length xs == 0) ≡ not (list_any (λ _. true) xs)
none_if_empty [] = refl
none_if_empty (x ∷ xs) = ne_eqb (length (x ∷ xs)) 0 (λ e. absurd (omega (arith, e)))

turn_or : (a b c d : Bool) → ((a || c) || (b || d)) ≡ ((a || b) || (c || d))
turn_or true b c d = refl
turn_or false true true d = refl
turn_or false true false d = refl
turn_or false false c d = refl

-- one of two tests passes
pub any_either : {X : Type 0} (p q : X → Bool) (xs : List X) → (list_any p xs || list_any q xs) ≡ list_any (λ x. p x || q x) xs
any_either p q [] = refl
any_either p q (x ∷ xs) = turn_or (p x) (q x) (list_any p xs) (list_any q xs) ∙ ap (λ b. (p x || q x) || b) (any_either p q xs)

pub neither : (a b : Bool) → (not a && not b) ≡ not (a || b)
neither true b = refl
neither false b = refl

by_number : (none one few none_drained : Bool)
    → is_at NoUsableReplica (Some (if none then (if none_drained then NoUsableReplica else Highest) else if one then Highest else if few then VeryUnderReplicated else UnderReplicated)) ≡ (none && none_drained)
by_number true one few true = refl
by_number true one few false = refl
by_number false true few none_drained = refl
by_number false false true none_drained = refl
by_number false false false none_drained = refl

-- A block of which at least one replica is wanted is missing exactly if none is live or drained.
pub level_is_missing : (n d repl racks : ℕ) (multi : Bool) → 1 ≤ repl → is_at NoUsableReplica (level_of (record { live = n; drained = d; wanted = repl; racks = racks; multi_rack = multi })) ≡ ((n == 0) && (d == 0))
unfolding level_of
level_is_missing n d repl racks multi h = by_enough (nat_le repl n) (nat_lt 1 repl && (racks == 1) && multi) some_live
  where
    some_live : nat_le repl n ≡ true → (n == 0) ≡ false
    some_live e = let low = leb-true repl n e in ne_eqb n 0 (λ z. absurd (omega (arith, low, h, z)))

    by_enough : (enough bad : Bool) → (enough ≡ true → (n == 0) ≡ false) → is_at NoUsableReplica (if enough then (if bad then Some BadlyDistributed else None)
        else Some (if n == 0 then (if d == 0 then NoUsableReplica else Highest) else if n == 1 then Highest else if nat_lt (n * 3) repl then VeryUnderReplicated else UnderReplicated)) ≡ ((n == 0) && (d == 0))
    by_enough true true f = sym (ap (λ b. b && (d == 0)) (f refl))
    by_enough true false f = sym (ap (λ b. b && (d == 0)) (f refl))
    by_enough false bad f = by_number (n == 0) (n == 1) (nat_lt (n * 3) repl) (d == 0)
