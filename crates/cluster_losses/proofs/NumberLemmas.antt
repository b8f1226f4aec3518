-- Parsing a text gives the decimal number that it writes, if this fits into 32 bits.
use Rattle.std.proofs.Common.{◌≡◌, ◌∙◌, ℕ, ◌^◌, ◌<◌, Bool, true, false, cond, List, length, Some, None, Result, Ok, Err, refl, sym, ap}
use Rattle.std.specs.Prelude.{◌&&◌, nat_lt}
use Rattle.std.specs.Result.{result_ok}
use Rattle.std.specs.Str.{all_ascii_digits}
use Rattle.std.specs.Str.Parse.{ParsesUnsigned, IsNumeral, digits_value, without_leading_plus}
use Rattle.std.proofs.lemmas.Bool.{lt-ltb, ltb-true}
use Rattle.std.proofs.lemmas.Str.Parse.{IsNumeralModel, numerals_by_value, tells_all_ascii_digits}
use Rattle.bm_base.proofs.ListTests.{and_first, and_second}
use Rattle.cluster_losses.specs.NamedStorages.{number_written}

own : IsNumeralModel (λ ds. all_ascii_digits ds ≡ true) (digits_value 10)
own = numerals_by_value (λ ds. all_ascii_digits ds ≡ true) tells_all_ascii_digits

abbrev passes : List ℕ → Bool
passes ds = nat_lt 0 (length ds) && (all_ascii_digits ds && nat_lt (digits_value 10 ds) (2 ^ 32))

passed : (ds : List ℕ) → IsNumeral 10 ds → digits_value 10 ds < 2 ^ 32 → passes ds ≡ true
passed ds numeral small = λ i. lt-ltb 0 (length ds) numeral.0 i && (own.from ds numeral.1 i && lt-ltb (digits_value 10 ds) (2 ^ 32) small i)

pub parsed : {E : Type 0} (text : List ℕ) (r : Result ℕ E) → ParsesUnsigned 32 10 text r → result_ok r ≡ number_written text
parsed text (Ok n) h =
    let ds = without_leading_plus text in
    ap Some h.1 ∙ sym (ap (λ b. cond b (Some (digits_value 10 ds)) None) (passed ds h.0.0 h.0.1))
parsed text (Err e) h = by (passes ds) refl
  where
    ds : List ℕ
    ds = without_leading_plus text

    by : (b : Bool) → passes ds ≡ b → None ≡ cond b (Some (digits_value 10 ds)) None
    by false is = refl
    by true is =
        let some : nat_lt 0 (length ds) ≡ true = and_first (nat_lt 0 (length ds)) (all_ascii_digits ds && nat_lt (digits_value 10 ds) (2 ^ 32)) is in
        let rest = and_second (nat_lt 0 (length ds)) (all_ascii_digits ds && nat_lt (digits_value 10 ds) (2 ^ 32)) is in
        let digits : all_ascii_digits ds ≡ true = and_first (all_ascii_digits ds) (nat_lt (digits_value 10 ds) (2 ^ 32)) rest in
        let small : nat_lt (digits_value 10 ds) (2 ^ 32) ≡ true = and_second (all_ascii_digits ds) (nat_lt (digits_value 10 ds) (2 ^ 32)) rest in
        absurd (h ((ltb-true 0 (length ds) some, own.to ds digits), ltb-true (digits_value 10 ds) (2 ^ 32) small))
