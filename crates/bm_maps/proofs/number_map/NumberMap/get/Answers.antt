use Rattle.std.proofs.Common.{ap, sym, ◌∙◌}
use Rattle.std.specs.Ordering.{nat_cmp}
use Rattle.std.specs.FinMap.{find}
use Rattle.bm_base.specs.Maps.Map.{get, by_number}
use Rattle.bm_base.proofs.OfSorted.{get-of_sorted}
use Rattle.bm_maps.proofs.number_map.NumberMap.get.Goals as goal

pub returns : goal.returns
returns g c = c.find_at.ensures ∙ ap (find nat_cmp c.args.key) c.deref.ensures.value ∙ sym (get-of_sorted by_number _ _ c.self.invariant) ∙ ap (λ m. get m c.args.key) (ap (λ t. t.map) c.self.view_is)
