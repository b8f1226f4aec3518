-- Columns of a table. A column ends with a blank.
use Rattle.std.specs.Prelude.{ℕ, ◌-◌, ◌^◌, List, ◌++◌, codes}
use Rattle.std.specs.Fmt.{format_spec, styled_decimal, styled_text}
use Rattle.cluster_report.specs.declared.levels.LevelCounts.{LevelCounts}

-- a number at the end of a column of this width, with blanks before it
abbrev pub number_in : ℕ → ℕ → List ℕ
number_in width n = styled_decimal (format_spec 32 3 0 width (2 ^ 64 - 1)) n

-- a word at the end of a column
abbrev pub word_in : ℕ → List ℕ → List ℕ
word_in width word = styled_text (format_spec 32 3 0 width (2 ^ 64 - 1)) word

-- a word at the start of a column
abbrev pub word_first : ℕ → List ℕ → List ℕ
word_first width word = styled_text (format_spec 32 1 0 width (2 ^ 64 - 1)) word

-- the heads of the columns below
unfoldable pub level_heads : List ℕ
level_heads = codes "  highest very_under_replicated under_replicated badly_distributed "

-- the blocks at each of the first four levels
unfoldable pub level_numbers : LevelCounts → List ℕ
level_numbers c =
    number_in 9 c.highest ++ (codes " "
    ++ (number_in 21 c.very_under_replicated ++ (codes " "
    ++ (number_in 16 c.under_replicated ++ (codes " "
    ++ (number_in 17 c.badly_distributed ++ codes " "))))))
