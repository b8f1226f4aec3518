-- Calls are made one after another: a list of calls can be parted anywhere.
use Rattle.std.proofs.Common.{[], ◌∷◌, refl, ap}
use Rattle.bm_base.specs.Words.{step}
use Rattle.bm_saved.specs.Laws as law

pub replay_goes_on : law.replay_goes_on
replay_goes_on M [] js = (refl, refl)
replay_goes_on M (k ∷ ks) js = let rest = replay_goes_on (step M k).1 ks js in (rest.0, ap (λ others. (step M k).0 ∷ others) rest.1)
