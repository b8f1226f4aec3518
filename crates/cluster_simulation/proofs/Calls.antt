-- There is a message about a call exactly if one is due.
use Rattle.std.proofs.Common.{◌≡◌, ℕ, Bool, true, false, List, Option, Some, None, option_map, is_some, refl}
use Rattle.std.specs.Prelude.{if◌then◌else◌}

-- there is a message exactly if one is due
pub some_if : {X : Type 0} (f : X → List ℕ) (o : Option X) (b : Bool) (text : List ℕ) → option_map f o ≡ (if b then Some text else None) → is_some o ≡ b
some_if f None true text e = cc
some_if f None false text e = refl
some_if f (Some x) true text e = refl
some_if f (Some x) false text e = cc
