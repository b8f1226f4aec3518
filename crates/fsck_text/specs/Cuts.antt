-- Cuts of a text in two, and numbers in decimal digits.
use Rattle.std.specs.Prelude.{ℕ, ◌+◌, ◌-◌, ◌*◌, ◌^◌, ◌==◌, ◌&&◌, Bool, List, [], ◌∷◌, Option, Some, None, is_some, option_map, option_and_then, if◌then◌else◌, length, nat_eq, nat_lt, nat_le}
use Rattle.std.specs.List.{ends_with}
use Rattle.std.specs.Option.{option_map_or}

-- bytes
abbrev pub Text : Type 0
Text = List ℕ

abbrev pub is_empty : Text → Bool
is_empty text = length text == 0

-- the two parts with one more byte at the start of the first
abbrev pub onto_cut : ℕ → Text × Text → Text × Text
onto_cut b parts = (b ∷ parts.0, parts.1)

-- the text before the first byte equal to the mark, and the text after it
abbrev pub cut_at : ℕ → Text → Option (Text × Text)
cut_at mark [] = None
cut_at mark (b ∷ bs) = if b == mark then Some ([], bs) else option_map (onto_cut b) (cut_at mark bs)

-- the last cut of a text that begins with b, from the last cut of the bytes after it
abbrev pub onto_last : ℕ → ℕ → Text → Option (Text × Text) → Option (Text × Text)
onto_last mark b bs (Some parts) = Some (onto_cut b parts)
onto_last mark b bs None = if b == mark then Some ([], bs) else None

-- the text before the last byte equal to the mark, and the text after it
abbrev pub last_cut_at : ℕ → Text → Option (Text × Text)
last_cut_at mark [] = None
last_cut_at mark (b ∷ bs) = onto_last mark b bs (last_cut_at mark bs)

-- the text after a prefix, if it begins with that
abbrev pub after_prefix : Text → Text → Option Text
after_prefix [] text = Some text
after_prefix (a ∷ prefix) [] = None
after_prefix (a ∷ prefix) (b ∷ bs) = if a == b then after_prefix prefix bs else None

-- the text after a mark, if it begins with it
abbrev pub after_first : ℕ → Text → Option Text
after_first mark text = option_and_then (λ p. if is_empty p.0 then Some p.1 else None) (cut_at mark text)

-- the text before a mark, if it ends with it
abbrev pub before_last : ℕ → Text → Option Text
before_last mark text = option_and_then (λ p. if is_empty p.1 then Some p.0 else None) (last_cut_at mark text)

-- the text before the first space, 32, and the text after it; the whole text and nothing if it has
-- no space
abbrev pub word_and_rest : Text → Text × Text
word_and_rest text = option_map_or (λ p. p) (cut_at 32 text) (text, [])

-- the number of bytes before the first occurrence of a word; all of them if it does not occur
abbrev pub bytes_before : Text → Text → ℕ
bytes_before word [] = 0
bytes_before word (b ∷ bs) = if is_some (after_prefix word (b ∷ bs)) then 0 else bytes_before word bs + 1

abbrev pub first_column_of : Text → Text → ℕ
first_column_of word line = bytes_before word line + 1

-- the column of a word: at the end of the line if the line ends with it, else at its first
-- occurrence
abbrev pub column_of : Text → Text → ℕ
column_of word line = if ends_with nat_eq line word then length line - length word + 1 else first_column_of word line

-- the value with one more digit; none if it does not fit into 64 bits
abbrev pub with_digit : ℕ → ℕ → Option ℕ
with_digit value digit =
    if nat_le 48 digit && nat_le digit 57 && nat_lt (value * 10 + (digit - 48)) (2 ^ 64)
    then Some (value * 10 + (digit - 48)) else None

-- the number that has the digits of the value and then these
abbrev pub number_after : ℕ → Text → Option ℕ
number_after value [] = Some value
number_after value (b ∷ bs) = option_and_then (λ v. number_after v bs) (with_digit value b)

-- the number in a text of one or more decimal digits and nothing else, if it is below 2^64
abbrev pub number_of : Text → Option ℕ
number_of [] = None
number_of (b ∷ bs) = number_after 0 (b ∷ bs)

-- the number in a text of decimal digits, if it is below 2^32
abbrev pub small_number_of : Text → Option ℕ
small_number_of text = option_and_then (λ n. if nat_lt n (2 ^ 32) then Some n else None) (number_of text)
