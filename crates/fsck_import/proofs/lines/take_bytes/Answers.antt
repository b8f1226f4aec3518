use Rattle.std.proofs.Common.{refl}
use Rattle.std.specs.Str.{is_utf8}
use Rattle.std.proofs.lemmas.Str.{is_utf8-from_IsUtf8, IsUtf8-from_is_utf8}
use Rattle.std.proofs.lemmas.Bool.{false_from_ne_true}
use Rattle.fsck_import.proofs.lines.take_bytes.Goals as goal

pub returns-in-Ok-clause-ok : goal.returns-in-Ok-clause-ok
returns-in-Ok-clause-ok g c =
    rw (is_utf8-from_IsUtf8 c.args.line.now c.in-Ok.ensures.cases.1, ← c.in-Ok.ensures.cases.0, ← c.without_return.ensures) c.take_line.ensures.ok

pub returns-in-Ok-clause-refused : goal.returns-in-Ok-clause-refused
returns-in-Ok-clause-refused g c =
    rw (is_utf8-from_IsUtf8 c.args.line.now c.in-Ok.ensures.cases.1, ← c.in-Ok.ensures.cases.0, ← c.without_return.ensures) c.take_line.ensures.refused

pub returns-in-Err-clause-refused : goal.returns-in-Err-clause-refused
returns-in-Err-clause-refused g c = rw (false_from_ne_true (is_utf8 c.args.line.now) (λ e. c.in-Err.ensures.cases.0 (IsUtf8-from_is_utf8 c.args.line.now e))) refl
