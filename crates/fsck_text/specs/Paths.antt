-- The path in the heading of a file.
use Rattle.std.specs.Prelude.{ℕ, ◌||◌, Option, None, is_none, is_some, option_map, option_and_then, if◌then◌else◌, codes}
use Rattle.std.specs.Str.{bytes_eq}
use Rattle.fsck_text.specs.Cuts.{Text, cut_at, last_cut_at, after_prefix}

-- the text before the last word; a space, 32, comes before each
abbrev pub without_word : Text → Option Text
without_word text = option_map (λ p. p.0) (last_cut_at 32 text)

-- the text before the size of the file, which is a number and `bytes,`
abbrev pub before_size : Text → Option Text
before_size text = option_and_then without_word (without_word text)

-- the path, by the last word before the colon and the text before that: in Hadoop 2 the number of
-- blocks comes before the colon
abbrev pub path_before : Text → Text → Option Text
path_before front last =
    if bytes_eq last (codes "block(s)") then option_and_then before_size (without_word front)
    else (if bytes_eq last (codes "OPENFORWRITE") then option_and_then before_size (option_and_then without_word (without_word front))
    else before_size front)

-- the path, from the text before the first colon
abbrev pub heading_path : Text → Option Text
heading_path before = option_and_then (λ p. path_before p.0 p.1) (last_cut_at 32 before)

-- the path of a file, if a line is its heading; a colon is 58
abbrev pub path_of : Text → Option Text
path_of line =
    option_and_then (λ p. if is_none (after_prefix (codes "/") line) || is_some (after_prefix (codes " CORRUPT blockpool ") p.1) then None
    else heading_path p.0) (cut_at 58 line)
