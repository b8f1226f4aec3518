-- Racks affect a level only if enough replicas are live, and other racks only if these share one.
use Rattle.std.specs.Prelude.{◌≡◌, ◌≢◌, ◌<◌, ◌*◌, ℕ, Bool, true, false, ◌&&◌, ◌==◌, if◌then◌else◌, nat_lt, nat_le, Option, Some, None}
use Rattle.std.proofs.Common.{refl, sym, ap, ◌∙◌, arith}
use Rattle.std.proofs.lemmas.Bool.Decides.{nat_tests}
use Rattle.bm_base.specs.declared.replica.Level.{Level}
use Rattle.bm_base.specs.declared.replica.Level.TheVariants.{Highest, VeryUnderReplicated, UnderReplicated, BadlyDistributed}
use Rattle.bm_base.specs.Machine.Levels.{level_of, level_without_live}

-- if fewer replicas are live than are wanted, racks do not matter
pub few_live : (live drained repl r s : ℕ) (m n : Bool) → live < repl → level_of (record { live = live; drained = drained; wanted = repl; racks = r; multi_rack = m }) ≡ level_of (record { live = live; drained = drained; wanted = repl; racks = s; multi_rack = n })
unfolding level_of
few_live live drained repl r s m n few =
    let less : nat_le repl live ≡ false = grind (arith, nat_tests, few) in
    ap (λ t. by t r m) less ∙ sym (ap (λ t. by t s n) less)
  where
    by : Bool → ℕ → Bool → Option Level
    by t r m =
        if t then (if nat_lt 1 repl && (r == 1) && m then Some BadlyDistributed else None)
        else Some (
        if live == 0 then level_without_live drained
        else if live == 1 then Highest
        else if nat_lt (live * 3) repl then VeryUnderReplicated
        else UnderReplicated)

alike : (t m n : Bool) → (t && false && m) ≡ (t && false && n)
alike true m n = refl
alike false m n = refl

-- if the live replicas are not on exactly one rack, it does not matter whether the cluster has
-- several racks
pub not_on_one : (live drained repl r : ℕ) (m n : Bool) → r ≢ 1 → level_of (record { live = live; drained = drained; wanted = repl; racks = r; multi_rack = m }) ≡ level_of (record { live = live; drained = drained; wanted = repl; racks = r; multi_rack = n })
unfolding level_of
not_on_one live drained repl r m n apart =
    let other : (r == 1) ≡ false = grind (arith, nat_tests, apart) in
    ap (λ t. by (nat_lt 1 repl && t && m)) other ∙ ap by (alike (nat_lt 1 repl) m n) ∙ sym (ap (λ t. by (nat_lt 1 repl && t && n)) other)
  where
    by : Bool → Option Level
    by t =
        if nat_le repl live then (if t then Some BadlyDistributed else None)
        else Some (
        if live == 0 then level_without_live drained
        else if live == 1 then Highest
        else if nat_lt (live * 3) repl then VeryUnderReplicated
        else UnderReplicated)
