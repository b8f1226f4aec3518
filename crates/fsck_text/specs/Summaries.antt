-- The numbers of the summary.
use Rattle.std.specs.Prelude.{ℕ, Option, Some, None, Result, Ok, if◌then◌else◌, codes}
use Rattle.std.specs.Option.{option_map_or, option_or}
use Rattle.std.specs.Str.{bytes_eq}
use Rattle.fsck_text.specs.Cuts.{Text, cut_at, last_cut_at, word_and_rest, number_of}
use Rattle.fsck_text.specs.Wrongs.{after_ok, or_wrong}
use Rattle.fsck_text.specs.declared.summary.Count.{Count}
use Rattle.fsck_text.specs.declared.summary.Count.TheVariants as count
use Rattle.fsck_text.specs.declared.reason.Reason.TheVariants as reason
use Rattle.fsck_text.specs.declared.reason.Wrong.{Wrong}

-- the count that a line about replicated files has, from its text before the colon
abbrev pub blocks_named : Text → Option Count
blocks_named name =
    if bytes_eq name (codes " Total blocks (validated)") then Some count.Blocks
    else (if bytes_eq name (codes " Missing blocks") then Some count.Missing
    else (if bytes_eq name (codes "  MISSING BLOCKS") then Some count.Missing
    else (if bytes_eq name (codes " Corrupt blocks") then Some count.Corrupt
    else (if bytes_eq name (codes "  CORRUPT BLOCKS") then Some count.Corrupt
    else None))))

-- the count that a line about erasure coded files has, from its text before the colon
abbrev pub groups_named : Text → Option Count
groups_named name =
    if bytes_eq name (codes " Total block groups (validated)") then Some count.Groups
    else (if bytes_eq name (codes " Missing block groups") then Some count.MissingGroups
    else (if bytes_eq name (codes " Corrupt block groups") then Some count.CorruptGroups
    else None))

-- the word after the last tab, 9
abbrev pub after_tab : Text → Text
after_tab text = (word_and_rest (option_map_or (λ p. p.1) (last_cut_at 9 text) text)).0

abbrev pub sum_at : Text → Result ℕ Wrong
sum_at text = or_wrong reason.NotASum text (number_of (after_tab text))

abbrev pub sum_with : Text → Count → Result (Option (Count × ℕ)) Wrong
sum_with text count = after_ok (λ n. Ok (Some (count, n))) (sum_at text)

-- the count of a line of the summary, and its number; none for any other line
abbrev pub sum_of : Text → Result (Option (Count × ℕ)) Wrong
sum_of line =
    option_map_or (λ p. option_map_or (sum_with p.1) (option_or (blocks_named p.0) (groups_named p.0)) (Ok None)) (cut_at 58 line) (Ok None)
