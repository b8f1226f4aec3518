-- The line for a call that has an op and numbers in range is one line, and is read as that call.
use Rattle.std.proofs.Common.{◌≡◌, true, Some, ap, ◌∙◌}
use Rattle.std.specs.Prelude.{option_and_then}
use Rattle.std.proofs.lemmas.Str.{is_utf8-from_IsUtf8}
use Rattle.serde_json.specs.Read.{read}
use Rattle.bm_base.specs.declared.call.Call.{Call}
use Rattle.bm_lines.specs.Lines.{IsPart}
use Rattle.bm_lines.specs.Parser.CallOf.{call_of_value, view_of, call_of}
use Rattle.bm_lines.specs.CallText.{has_op, line_text}
use Rattle.bm_lines.specs.FittingNumbers.{FitsWhole}
use Rattle.bm_lines.proofs.PlainText.{is_plain, IsPart-plain, IsUtf8-plain}
use Rattle.bm_lines.proofs.Sound.{plain_text, read-compact_text}
use Rattle.bm_lines.proofs.CallTextData.{asking_data}
use Rattle.bm_lines.proofs.CallTextLemmas.{line_text-data}
use Rattle.bm_lines.proofs.CallTextSound.{IsSound-asking_data, depth-asking_data}
use Rattle.bm_lines.proofs.CallTextRead.{call_of_value-asking_data}

plain_line : (k : Call) → FitsWhole k → is_plain (line_text k) ≡ true
plain_line k h = ap is_plain (line_text-data k) ∙ plain_text (asking_data k) (IsSound-asking_data k h)

pub IsPart-line_text : (k : Call) → FitsWhole k → IsPart (line_text k)
IsPart-line_text k h = IsPart-plain (line_text k) (plain_line k h)

pub call_of-line_text : (k : Call) → has_op k ≡ true → FitsWhole k → call_of (line_text k) ≡ Some k
unfolding call_of view_of
call_of-line_text k some h =
    rw (is_utf8-from_IsUtf8 (line_text k) (IsUtf8-plain (line_text k) (plain_line k h)))
    (ap (option_and_then call_of_value) (ap read (line_text-data k) ∙ read-compact_text (asking_data k) (IsSound-asking_data k h) (depth-asking_data k)) ∙ call_of_value-asking_data k some h)
