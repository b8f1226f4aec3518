-- A text that is pushed without a fault is appended.
use Rattle.std.proofs.Common.{◌≡◌, ℕ, List, ◌++◌, OnOk}
use Rattle.std.specs.Prelude.{Result, Ok, Err, if◌then◌else◌}
use Rattle.std.specs.Result.{is_ok}

-- a text that is pushed without a fault is after the old text
pub pushed : {E : Type 0} (r : Result (Unit {0}) E) (new old s : List ℕ) → new ≡ (if is_ok r then old ++ s else old) → OnOk r (new ≡ old ++ s)
pushed (Ok x) new old s e = e
pushed (Err x) new old s e = tt
