-- Why a line is refused.
use Rattle.std.specs.Prelude.{◌≡◌, ⊤, Result, Err}
use Rattle.fsck_import.specs.declared.fault.Cause.{Cause}
use Rattle.fsck_import.specs.declared.fault.LineFault.{LineFault}
use Rattle.fsck_import.specs.declared.fault.LineFault.TheVariants as fault

-- the fault is this refusal, or out of memory
abbrev pub IsCause : {A : Type 0} → LineFault → Result A Cause → Type 0
IsCause fault.Memory after = ⊤
IsCause (fault.Refused why) after = after ≡ Err why
