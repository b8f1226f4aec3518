-- A line of fsck.
use Rattle.std.specs.Prelude.{ℕ, Bool, true, false, nat_eq, Option, Some, None, option_map, option_and_then, Result, Ok, if◌then◌else◌, codes}
use Rattle.std.specs.List.{starts_with, ends_with}
use Rattle.std.specs.Option.{option_map_or}
use Rattle.std.specs.Str.{bytes_eq}
use Rattle.fsck_text.specs.Cuts.{Text, cut_at, last_cut_at, after_prefix, before_last, number_of}
use Rattle.fsck_text.specs.Wrongs.{after_ok}
use Rattle.fsck_text.specs.Headings.{heading_of, target_of}
use Rattle.fsck_text.specs.Summaries.{sum_of}
use Rattle.fsck_text.specs.declared.line.Line.{Line}
use Rattle.fsck_text.specs.declared.line.Line.TheVariants as line
use Rattle.fsck_text.specs.declared.summary.Count.{Count}
use Rattle.fsck_text.specs.declared.reason.Wrong.{Wrong}

abbrev pub begins : Text → Text → Bool
begins line text = starts_with nat_eq line text

abbrev pub ends : Text → Text → Bool
ends line text = ends_with nat_eq line text

-- A line that begins with a path. If it has a colon, 58, which no path has, it is the heading of a
-- file, or reports a corrupt block.
abbrev pub path_line : Text → Result Line Wrong
path_line text =
    option_map_or (λ p. option_map_or (λ rest. Ok (line.Corrupt rest)) (after_prefix (codes " CORRUPT blockpool ") p.1)
    (after_ok (λ h. Ok (line.Heading h)) (heading_of p.0 p.1)))
    (cut_at 58 text) (Ok line.Other)

-- the index of a block, up to a full stop, 46, and a space, and the text after that
abbrev pub block_line : Text → Option (ℕ × Text)
block_line text =
    option_and_then (λ p. option_and_then (λ index. option_map (λ rest. (index, rest)) (after_prefix (codes " ") p.1)) (number_of p.0)) (cut_at 46 text)

-- whether the summary begins, and reports all files as healthy
abbrev pub health_of : Text → Option Bool
health_of text =
    if bytes_eq text (codes "Status: HEALTHY") then Some true
    else (if bytes_eq text (codes "Status: CORRUPT") then Some false else None)

-- whether this is the last line, and reports all files as healthy
abbrev pub last_of : Text → Option Bool
last_of text =
    if begins text (codes "The filesystem under path '")
    then (if ends text (codes "' is HEALTHY") then Some true else (if ends text (codes "' is CORRUPT") then Some false else None))
    else None

-- whether the last line is about the path /, and so about all files
abbrev pub is_of_all : Text → Bool
is_of_all text = begins text (codes "The filesystem under path '/' is ")

-- the number of open files that are not in the text, between the last parentheses, 40 and 41, of a
-- line
abbrev pub unlisted_of : Text → Option ℕ
unlisted_of text =
    option_and_then (λ p. option_and_then (λ rest. option_and_then number_of (before_last 41 rest)) (after_prefix (codes "Files currently being written: ") p.1)) (last_cut_at 40 text)

abbrev pub sum_line : Option (Count × ℕ) → Line
sum_line (Some p) = line.Sum p.0 p.1
sum_line None = line.Other

-- a line that is not about a file
abbrev pub summary_line : Text → Result Line Wrong
summary_line text =
    if begins text (codes "FSCK started by ") then Ok line.First
    else option_map_or (λ healthy. Ok (line.Status healthy)) (health_of text)
    (option_map_or (λ healthy. Ok (line.Last healthy (is_of_all text))) (last_of text)
    (option_map_or (λ files. Ok (line.Unlisted files)) (unlisted_of text)
    (after_ok (λ sum. Ok (sum_line sum)) (sum_of text))))

-- the parsed line
abbrev pub line_of : Text → Result Line Wrong
line_of text =
    if begins text (codes "/") then path_line text
    else option_map_or (λ rest. after_ok (λ n. Ok (line.Target n)) (target_of rest)) (after_prefix (codes " Under replicated ") text)
    (option_map_or (λ p. Ok (line.Block p.0 p.1)) (block_line text) (summary_line text))
