-- Why there is no answer.
use Rattle.std.specs.Prelude.{◌≡◌, ◌⊎◌, ⊤}
use Rattle.bm_base.specs.declared.refusal.Refusal.{Refusal}
use Rattle.bm_base.specs.declared.refusal.Refusal.TheVariants as refusal
use Rattle.cluster_losses.specs.declared.fault.Fault.{Fault}
use Rattle.cluster_losses.specs.declared.fault.Fault.TheVariants.{Memory, Refused}

-- the fault of a refusal
abbrev pub IsOfRefusal : Refusal → Fault → Type 0
IsOfRefusal r f = ((r ≡ refusal.Memory) × (f ≡ Memory)) ⊎ (f ≡ Refused r)

-- out of memory, or an event is refused
abbrev pub IsRefusal : Fault → Type 0
IsRefusal Memory = ⊤
IsRefusal (Refused r) = ⊤
IsRefusal _ = ⊥
