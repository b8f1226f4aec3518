use Rattle.std.proofs.Common.{ap}
use Rattle.bm_base.specs.Maps.Map.{by_number}
use Rattle.bm_maps.proofs.SortedLaws.{sorted_by-filtered, filtered_shown}
use Rattle.bm_maps.proofs.Capacity.{same_capacity}
use Rattle.std.specs.Fn.{CalledAt}
use Rattle.bm_maps.proofs.number_map.NumberMap.retain.Goals as goal

pub invariant_of-self : goal.invariant_of-self
invariant_of-self g c =
    sorted_by-filtered by_number (CalledAt g.F.FnMut) c.args.f c.self.inside.entries.items c.retain.new.self.items c.retain.ensures.filtered c.self.invariant

pub returns-clause-filtered : goal.returns-clause-filtered
returns-clause-filtered g c =
    filtered_shown by_number (CalledAt g.F.FnMut) c.args.f c.self.inside.entries.items c.retain.new.self.items c.args.self.now.map c.self.invariant (ap (λ t. t.map) c.self.view_is) c.retain.ensures.filtered

pub returns-clause-no_growth : goal.returns-clause-no_growth
returns-clause-no_growth g c =
    same_capacity c.self.inside.entries c.retain.new.self c.args.self.now c.self.invariant
    (sorted_by-filtered by_number (CalledAt g.F.FnMut) c.args.f c.self.inside.entries.items c.retain.new.self.items c.retain.ensures.filtered c.self.invariant) c.self.view_is c.retain.ensures.capacity
