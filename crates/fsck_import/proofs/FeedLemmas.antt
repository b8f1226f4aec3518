-- A line without a path before it is a whole line, unless it begins a path with line feeds.
use Rattle.std.proofs.Common.{◌≡◌, Bool, true, false, [], if◌then◌else◌, refl, ap}
use Rattle.std.proofs.lemmas.Bool.{eqb-true}
use Rattle.std.proofs.lemmas.List.{nil_from_length}
use Rattle.std.specs.Prelude.{length}
use Rattle.fsck_text.specs.Cuts.{Text, is_empty}
use Rattle.fsck_text.specs.Feeds.{joined, goes_on, is_of_file}
use Rattle.fsck_text.specs.Lines.{line_of}
use Rattle.fsck_import.specs.TextReading.{after_line, after_whole}
use Rattle.fsck_import.specs.declared.text_reader.Reading.{Reading}

pub none_read : (path : Text) → is_empty path ≡ true → path ≡ []
none_read path empty = nil_from_length path (eqb-true (length path) 0 empty)

same_either : (b : Bool) (x : Text) → (if b then x else x) ≡ x
same_either true x = refl
same_either false x = refl

pub first_whole : (s : Reading) (line : Text) → s.path ≡ [] → goes_on line ≡ false → after_line s line ≡ after_whole s line
first_whole s line empty ends =
    let alone : joined s.path line ≡ line = rw empty refl in
    rw (alone, ends) (ap (after_whole s) (same_either (is_of_file (line_of line)) line))
