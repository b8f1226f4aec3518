-- Why a run does not begin.
use Rattle.std.specs.Prelude.{◌≡◌, Some, None}
use Rattle.bm_base.specs.declared.config.Config as base
use Rattle.bm_base.specs.declared.refusal.Refusal.TheVariants.{BadConfig}
use Rattle.bm_base.specs.Machine.Configuration.{config_refusal}
use Rattle.bm_session.specs.declared.fault.Fault.{Fault}
use Rattle.bm_session.specs.declared.fault.Fault.TheVariants.{Config, Read, Write, Memory, TooMuch}

-- the configuration is outside its ranges; else the run is out of memory
abbrev pub StartFault : base.Config → Fault → Type 0
StartFault config Config = config_refusal config ≡ Some BadConfig
StartFault config Read = ⊥
StartFault config Write = ⊥
StartFault config Memory = config_refusal config ≡ None
StartFault config TooMuch = ⊥
