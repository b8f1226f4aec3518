-- Keys that fit an identifier of 32 bits.
use Rattle.std.specs.Prelude.{◌<◌, ◌^◌}
use Rattle.std.specs.List.{AllByRecursion}
use Rattle.bm_base.specs.Maps.Map.{Map, by_number, entries}

abbrev pub HasSmallKeys : {X : Type 0} → Map by_number X → Type 0
HasSmallKeys m = AllByRecursion (λ e. e.0 < 2 ^ 32) (entries m)
