-- The lines of a path that has a line feed, 10. No path of HDFS has a colon, and each line with a
-- path of a file has one after it.
use Rattle.std.specs.Prelude.{◌&&◌, Bool, true, false, not, ◌∷◌, ◌++◌, is_none, nat_le, length, Result, Ok, if◌then◌else◌, codes}
use Rattle.fsck_text.specs.Cuts.{Text, is_empty, cut_at}
use Rattle.fsck_text.specs.Lines.{begins, ends, line_of}
use Rattle.fsck_text.specs.declared.line.Line.{Line}
use Rattle.fsck_text.specs.declared.line.Line.TheVariants as line
use Rattle.fsck_text.specs.declared.reason.Wrong.{Wrong}

-- one more line of a path
abbrev pub joined : Text → Text → Text
joined path text = if is_empty path then text else path ++ 10 ∷ text

-- Whether a path goes on in the next line. So far it begins with a slash, has no colon, 58, and has
-- at most 4,194,304 bytes. It does not end as that of a directory or of a symbolic link.
abbrev pub goes_on : Text → Bool
goes_on path =
    begins path (codes "/") && is_none (cut_at 58 path) && not (ends path (codes " <dir>")) && not (ends path (codes " <symlink>"))
    && nat_le (length path) 4194304

abbrev pub is_of_file : Result Line Wrong → Bool
is_of_file (Ok (line.Heading h)) = true
is_of_file (Ok (line.Corrupt text)) = true
is_of_file _ = false

-- the lines of a path as one, if that is about a file; else the last of them alone
abbrev pub whole_line : Text → Text → Text
whole_line path last = if is_of_file (line_of path) then path else last
