use Rattle.std.proofs.Common.{ap}
use Rattle.bm_base.specs.Maps.Map.{by_number}
use Rattle.bm_maps.proofs.ReplaceLaws.{replaced, sorted_by-replaced}
use Rattle.bm_maps.proofs.Capacity.{same_capacity}
use Rattle.bm_maps.proofs.number_map.NumberMap.replace_near.Goals as goal

pub invariant_of-self : goal.invariant_of-self
invariant_of-self g c = sorted_by-replaced by_number c.self.inside.entries.items c.replace.new.entries.items c.args.key c.args.value c.replace.ensures.after c.self.invariant

pub returns-clause-after : goal.returns-clause-after
returns-clause-after g c =
    replaced by_number c.self.inside.entries.items c.replace.new.entries.items c.args.key c.args.value c.args.self.now.map c.replace.ensures.after c.self.invariant (ap (λ t. t.map) c.self.view_is)

pub returns-clause-no_growth : goal.returns-clause-no_growth
returns-clause-no_growth g c =
    same_capacity c.self.inside.entries c.replace.new.entries c.args.self.now c.self.invariant
    (sorted_by-replaced by_number c.self.inside.entries.items c.replace.new.entries.items c.args.key c.args.value c.replace.ensures.after c.self.invariant) c.self.view_is c.replace.ensures.capacity
