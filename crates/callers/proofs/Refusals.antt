-- The refusal of an event is `Memory`, or the one that the definition gives.
use Rattle.std.specs.Prelude.{◌≡◌, true, ◌⊎◌, Option, Some, None}
use Rattle.std.proofs.Common.{sym, ap, inl, inr}
use Rattle.bm_base.specs.declared.refusal.Refusal.{Refusal}
use Rattle.bm_base.specs.declared.refusal.Refusal.TheVariants.{Memory}
use Rattle.bm_base.specs.Machine.Answering.{Refuses}

-- the refusal is `Memory`, or the one that the definition gives
pub refused_by : (o : Option Refusal) (e : Refusal) → Refuses o true e → (e ≡ Memory) ⊎ (o ≡ Some e)
refused_by None e h = inl h
refused_by (Some r) e h = inr (ap Some (sym h))
