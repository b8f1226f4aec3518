use Rattle.std.proofs.Common.{ap, arith}
use Rattle.bm_base.specs.Maps.Map.{by_number}
use Rattle.bm_maps.proofs.Capacity.{same_capacity, no_less_capacity, found_there}
use Rattle.bm_maps.proofs.SortedLaws.{sorted_by-put, insert_by-put}
use Rattle.bm_maps.proofs.number_map.NumberMap.insert.Goals as goal

pub invariant_of-self-2 : goal.invariant_of-self-2
invariant_of-self-2 g c = sorted_by-put by_number c.self.inside.entries.items c.put.new.entries.items c.args.key c.args.value c.in_ok-put.ensures.ok c.self.invariant

pub returns-clause-ok : goal.returns-clause-ok
returns-clause-ok g c =
    insert_by-put by_number c.self.inside.entries.items c.put.new.entries.items c.args.key c.args.value c.args.self.now.map c.in_ok-put.ensures.ok c.self.invariant (ap (λ t. t.map) c.self.view_is)

pub returns-in_err-put-clause-known : goal.returns-in_err-put-clause-known
returns-in_err-put-clause-known g c known =
    let succeeds = c.in_err-put.ensures.known (found_there c.self.inside.entries.items c.args.self.now.map c.args.key c.self.invariant (ap (λ t. t.map) c.self.view_is) known) in
    cc

pub returns-clause-known_no_growth : goal.returns-clause-known_no_growth
returns-clause-known_no_growth g c known =
    same_capacity c.self.inside.entries c.put.new.entries c.args.self.now c.self.invariant
    (sorted_by-put by_number c.self.inside.entries.items c.put.new.entries.items c.args.key c.args.value c.in_ok-put.ensures.ok c.self.invariant) c.self.view_is
    (c.in_ok-put.ensures.in_place (found_there c.self.inside.entries.items c.args.self.now.map c.args.key c.self.invariant (ap (λ t. t.map) c.self.view_is) known))

pub returns-clause-reserved_no_growth : goal.returns-clause-reserved_no_growth
returns-clause-reserved_no_growth g c reserved =
    let spare = ap (λ t. t.spare) c.self.view_is in
    same_capacity c.self.inside.entries c.put.new.entries c.args.self.now c.self.invariant
    (sorted_by-put by_number c.self.inside.entries.items c.put.new.entries.items c.args.key c.args.value c.in_ok-put.ensures.ok c.self.invariant) c.self.view_is
    (c.in_ok-put.ensures.reserved (omega (arith, spare, reserved)))

pub returns-clause-no_less : goal.returns-clause-no_less
returns-clause-no_less g c =
    no_less_capacity c.self.inside.entries c.put.new.entries c.args.self.now c.self.invariant
    (sorted_by-put by_number c.self.inside.entries.items c.put.new.entries.items c.args.key c.args.value c.in_ok-put.ensures.ok c.self.invariant) c.self.view_is
    c.in_ok-put.ensures.capacity
