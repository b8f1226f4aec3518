-- The text of a fault on standard error, without its line end, and the exit status.
use Rattle.std.specs.Prelude.{ℕ, List, codes}
use Rattle.clap.specs.declared.error.kind.ErrorKind.{ErrorKind}
use Rattle.clap.specs.declared.error.kind.ErrorKind.TheVariants as kind
use Rattle.bm_session.specs.declared.fault.Fault.{Fault}
use Rattle.bm_session.specs.declared.fault.Fault.TheVariants.{Config, Read, Write, Memory, TooMuch}
use Rattle.bm_tool.specs.declared.status.End.{End}
use Rattle.bm_tool.specs.declared.status.End.TheVariants.{Answered, Helped, Faulted, Misused}

abbrev pub fault_text : Fault → List ℕ
fault_text Config = codes "bm_tool: config fault"
fault_text Read = codes "bm_tool: read fault"
fault_text Write = codes "bm_tool: write fault"
fault_text Memory = codes "bm_tool: memory fault"
fault_text TooMuch = codes "bm_tool: too much input"

abbrev pub status_of : End → ℕ
status_of Answered = 0
status_of Helped = 0
status_of (Faulted fault) = 1
status_of Misused = 2

-- the end of the program if the options give no configuration, by the kind of the error
abbrev pub end_of : ErrorKind → End
end_of kind.OutOfMemory = Faulted Memory
end_of kind.DisplayHelp = Helped
end_of kind.DisplayVersion = Helped
end_of other = Misused
