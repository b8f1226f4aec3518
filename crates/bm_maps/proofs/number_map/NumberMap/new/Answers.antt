use Rattle.bm_base.specs.Maps.Map.{by_number}
use Rattle.bm_base.proofs.OfSorted.{of_sorted-nil}
use Rattle.bm_maps.proofs.number_map.NumberMap.new.Goals as goal

pub returns-clause-empty : goal.returns-clause-empty
returns-clause-empty g c = of_sorted-nil by_number _ c.new.ensures.items
