use Rattle.std.proofs.Common.{ap, sym, ◌∙◌}
use Rattle.bm_maps.specs.Table.{capacity}
use Rattle.bm_maps.proofs.Capacity.{capacity-table_of}
use Rattle.bm_maps.proofs.number_map.NumberMap.capacity.Goals as goal

pub returns : goal.returns
returns g c = c.capacity.ensures ∙ sym (capacity-table_of c.self.inside.entries c.self.invariant) ∙ ap capacity c.self.view_is
