use Rattle.std.proofs.Common.{ap, sym, ◌∙◌}
use Rattle.bm_base.specs.Maps.Map.{len, by_number}
use Rattle.bm_base.proofs.OfSorted.{len-of_sorted}
use Rattle.bm_maps.proofs.number_map.NumberMap.len.Goals as goal

pub returns : goal.returns
returns g c = c.len.ensures ∙ c.self.inside.entries.ok.0 ∙ sym (len-of_sorted by_number _ c.self.invariant) ∙ ap len (ap (λ t. t.map) c.self.view_is)
