use Rattle.std.proofs.Common.{ap, sym, ◌∙◌}
use Rattle.bm_base.specs.Maps.Map.{by_number}
use Rattle.bm_maps.proofs.SortedLaws.{entries_shown}
use Rattle.bm_maps.proofs.number_map.NumberMap.entries.Goals as goal

pub returns : goal.returns
returns g c = c.deref.ensures.value ∙ sym (entries_shown by_number c.self.inside.entries.items c.args.self.now.map c.self.invariant (ap (λ t. t.map) c.self.view_is))
