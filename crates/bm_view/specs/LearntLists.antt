-- The lists that a locator learnt: those of the value before, and then the last one.
use Rattle.std.specs.Prelude.{List, [], ◌∷◌, ◌++◌, Option, Some, None}
use Rattle.core.specs.declared.snapshot.Snapshot.{Snapshot}
use Rattle.bm_base.specs.Promises.Versions.{Version}
use Rattle.bm_view.specs.History.{versions}
use Rattle.bm_view.specs.Rule.{Evidence}

abbrev pub learnt_of : Option (Snapshot (List (List Version)) × Evidence) → List (List Version)
learnt_of None = []
learnt_of (Some t) = t.0.value ++ versions t.1.log ∷ []
