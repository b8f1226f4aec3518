use Rattle.std.proofs.Common.{inl, refl}
use Rattle.puljemrod.proofs.puljemrod_open.Goals as goal

pub returns-in-Ok-clause-opened : goal.returns-in-Ok-clause-opened
returns-in-Ok-clause-opened c = λ closed. inl (refl, c.in-Ok.ensures.allowed, _, c.put-in-Ok.ensures, c.in-Ok.ensures.first)
