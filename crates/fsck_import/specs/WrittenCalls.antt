-- The lines of calls as they are written, and as the line tool reads them.
use Rattle.std.specs.Prelude.{◌≡◌, ⊤, ◌≤◌, List, Some, map, length, Option}
use Rattle.bm_lines.specs.declared.limits.TheConstants.{MAX_LINE}
use Rattle.std.specs.List.{flat_map, AllByRecursion}
use Rattle.std.specs.Io.KnownBytes.{Appends}
use Rattle.bm_base.specs.declared.call.Call.{Call}
use Rattle.bm_lines.specs.CallText.{line_text}
use Rattle.bm_lines.specs.Parser.CallOf.{call_of}
use Rattle.bm_lines.specs.Lines.{IsPart, ended, lines_of}
use Rattle.fsck_text.specs.Cuts.{Text}
use Rattle.fsck_import.specs.declared.fault.Fault.{Fault}
use Rattle.fsck_import.specs.declared.fault.Fault.TheVariants as fault

-- the line of each call, with its line end
abbrev pub lines_for : List Call → Text
lines_for calls = flat_map (λ call. ended (line_text call)) calls

-- the line tool reads the line as this call: it asks for the call, has no line end, and is short
-- enough
pub record IsLineOf (call : Call) (line : Text) : Type 0 where
  pub asks : call_of line ≡ Some call
  pub whole : IsPart line
  pub short : length line ≤ MAX_LINE

-- the lines of these calls were written, and each is read as its call
pub record Written (calls : List Call) (old new : Option Text) : Type 0 where
  pub written : Appends old new (lines_for calls)
  pub each : AllByRecursion (λ call. IsLineOf call (line_text call)) calls

-- the bytes that were written are these calls: the line tool cuts them into one line for each call,
-- and no line is too long
pub record WritesCalls (calls : List Call) (old new : Option Text) : Type 0 where
  pub written : Appends old new (lines_for calls)
  pub read : map call_of (lines_of (lines_for calls)) ≡ map Some calls
  pub short : AllByRecursion (λ line. length line ≤ MAX_LINE) (lines_of (lines_for calls))

-- a fault of writing: out of memory, a failed write, or a line that would be too long
abbrev pub IsWriteFault : Fault → Type 0
IsWriteFault (fault.Refused unread) = ⊥
IsWriteFault (fault.Read error) = ⊥
IsWriteFault fault.Table = ⊥
IsWriteFault _ = ⊤

-- a fault of a table: a failed write, or a file that cannot be opened or written
abbrev pub IsTableFault : Fault → Type 0
IsTableFault (fault.Write error) = ⊤
IsTableFault fault.Table = ⊤
IsTableFault _ = ⊥

-- a fault of a table or of the lines
abbrev pub IsOutputFault : Fault → Type 0
IsOutputFault (fault.Refused unread) = ⊥
IsOutputFault (fault.Read error) = ⊥
IsOutputFault _ = ⊤
