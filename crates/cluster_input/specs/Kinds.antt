-- The kind of a text, lines of the tool or fsck, by its first byte that is not blank.
use Rattle.std.specs.Prelude.{◌≡◌, ℕ, ◌==◌, ◌||◌, Bool, true, false, not, List, ◌++◌, Option, Some, None}
use Rattle.std.specs.List.{find, list_any}

-- a space, a tab, or the end of a line
abbrev pub is_blank : ℕ → Bool
is_blank b = (b == 32) || (b == 9) || (b == 10) || (b == 13)

abbrev pub is_brace : Option ℕ → Bool
is_brace None = false
is_brace (Some b) = b == 123

-- lines of the tool begin with an opening brace, 123
abbrev pub are_lines : List ℕ → Bool
are_lines text = is_brace (find (λ b. not (is_blank b)) text)

-- a text has more than blanks
abbrev pub has_word : List ℕ → Bool
has_word text = list_any (λ b. not (is_blank b)) text

-- the first bytes of a text that is not blank, which show its kind
pub record IsHead (text head rest : List ℕ) : Type 0 where
  pub filled : has_word text ≡ true
  pub parts : text ≡ head ++ rest
  pub alike : are_lines head ≡ are_lines text

-- the head of a text, and the rest of the text after it
pub record IsHeadOf (text head : List ℕ) (left : Option (List ℕ)) : Type 0 where
  pub rest : List ℕ
  pub left_is : left ≡ Some rest
  pub begins : IsHead text head rest
