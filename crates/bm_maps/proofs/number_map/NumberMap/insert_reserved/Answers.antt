use Rattle.std.proofs.Common.{ap, arith}
use Rattle.bm_base.specs.Maps.Map.{by_number}
use Rattle.bm_maps.proofs.SortedLaws.{sorted_by-put, insert_by-put}
use Rattle.bm_maps.proofs.Capacity.{same_capacity}
use Rattle.bm_maps.proofs.number_map.NumberMap.insert_reserved.Goals as goal

pub invariant_of-self : goal.invariant_of-self
invariant_of-self g c = sorted_by-put by_number c.self.inside.entries.items c.put.new.entries.items c.args.key c.args.value c.in-Ok.ensures.ok c.self.invariant

pub returns-clause-after : goal.returns-clause-after
returns-clause-after g c =
    insert_by-put by_number c.self.inside.entries.items c.put.new.entries.items c.args.key c.args.value c.args.self.now.map c.in-Ok.ensures.ok c.self.invariant (ap (λ t. t.map) c.self.view_is)

pub returns-clause-no_growth : goal.returns-clause-no_growth
returns-clause-no_growth g c =
    let spare = ap (λ t. t.spare) c.self.view_is in
    same_capacity c.self.inside.entries c.put.new.entries c.args.self.now c.self.invariant
    (sorted_by-put by_number c.self.inside.entries.items c.put.new.entries.items c.args.key c.args.value c.in-Ok.ensures.ok c.self.invariant) c.self.view_is
    (c.in-Ok.ensures.reserved (omega (arith, spare, c.requires)))
