-- Names and words as they are printed.
use Rattle.std.specs.Prelude.{ℕ, ◌/◌, ◌%◌, ◌==◌, ◌&&◌, ◌||◌, Bool, nat_lt, nat_le, [], ◌∷◌, if◌then◌else◌, chars, encode_utf8}
use Rattle.std.specs.Char.{digit_char}
use Rattle.std.specs.List.{flat_map}
use Rattle.fsck_text.specs.Cuts.{Text}

-- the control characters U+0000 to U+001F and U+007F to U+009F, and the backslash, 92
abbrev pub is_escaped : ℕ → Bool
is_escaped c = nat_lt c 32 || (nat_le 127 c && nat_le c 159) || c == 92

-- a backslash, 92, an x, 120, and the two hexadecimal digits of a number
abbrev pub in_digits : ℕ → Text
in_digits c = 92 ∷ 120 ∷ digit_char (c / 16) ∷ digit_char (c % 16) ∷ []

abbrev pub printed : ℕ → Text
printed c = if is_escaped c then in_digits c else encode_utf8 c

-- a text as it is printed: each escaped character by its number, all others as they are
unfoldable pub escaped : Text → Text
escaped text = flat_map printed (chars text)
