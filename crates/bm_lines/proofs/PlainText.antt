-- A text of printable ASCII is UTF-8 and has no line end.
use Rattle.std.proofs.Common.{◌≡◌, ℕ, suc, ◌<◌, ◌≤◌, ◌^◌, Bool, true, ◌&&◌, nat_lt, nat_le, List, [], ◌∷◌, ◌++◌, length, get_or, decimal, IsUtf8, refl, arith, lt-ltb, le-leb, ne_eqb}
use Rattle.std.proofs.lemmas.Bool.{and_parts, and_from, leb-true}
use Rattle.std.proofs.lemmas.Fmt.{decimal_is_IsNumeral}
use Rattle.std.proofs.lemmas.Str.Parse.{digit_at}
use Rattle.json.proofs.Printed.Utf8.{are_ascii, IsUtf8-are_ascii}
use Rattle.bm_lines.specs.Lines.{IsPart}

abbrev pub is_plain : List ℕ → Bool
is_plain [] = true
is_plain (b ∷ bs) = (nat_le 32 b && nat_lt b 128) && is_plain bs

pub is_plain-append : (xs ys : List ℕ) → is_plain xs ≡ true → is_plain ys ≡ true → is_plain (xs ++ ys) ≡ true
is_plain-append [] ys e f = f
is_plain-append (x ∷ xs) ys e f = let p = and_parts _ _ e in and_from _ _ p.0 (is_plain-append xs ys p.1 f)

plain_digits : (ds : List ℕ) → ((i : ℕ) → i < length ds → (48 ≤ get_or ds i 0) × (get_or ds i 0 ≤ 57)) → is_plain ds ≡ true
plain_digits [] h = refl
plain_digits (d ∷ ds) h =
    let first = h 0 (omega arith) in
    let rest = plain_digits ds (λ i l. h (suc i) (omega arith)) in
    and_from _ _ (and_from _ _ (le-leb 32 d (omega (arith, first.0))) (lt-ltb d 128 (omega (arith, first.1)))) rest

pub is_plain-decimal : (n : ℕ) → n < 2 ^ 64 → is_plain (decimal n) ≡ true
is_plain-decimal n h = plain_digits _ (λ i l. digit_at _ i (decimal_is_IsNumeral n h).0.1 l)

pub IsPart-plain : (bs : List ℕ) → is_plain bs ≡ true → IsPart bs
IsPart-plain [] e = tt
IsPart-plain (b ∷ bs) e =
    let p = and_parts _ _ e in
    let low : 32 ≤ b = leb-true 32 b (and_parts _ _ p.0).0 in
    (ne_eqb b 10 (λ same. omega arith), IsPart-plain bs p.1)

plain_is_ascii : (bs : List ℕ) → is_plain bs ≡ true → are_ascii bs ≡ true
plain_is_ascii [] e = refl
plain_is_ascii (b ∷ bs) e = let p = and_parts _ _ e in and_from _ _ (and_parts _ _ p.0).1 (plain_is_ascii bs p.1)

pub IsUtf8-plain : (bs : List ℕ) → is_plain bs ≡ true → IsUtf8 bs
IsUtf8-plain bs e = IsUtf8-are_ascii bs (plain_is_ascii bs e)
