use Rattle.std.proofs.Common.{ℕ, ◌≤◌, ◌+◌, arith, ap}
use Rattle.std.specs.Prelude.{OnOk, Result, Ok, Err}
use Rattle.bm_base.specs.Maps.Map.{len}
use Rattle.bm_maps.specs.Table.{capacity}
use Rattle.bm_topo.proofs.ByNode.{count_keys}
use Rattle.bm_topo.proofs.GrownLists.{lists_grown, table_grown}
use Rattle.bm_topo.proofs.topology.Topology.reserve_storages.Goals as goal

pub invariant_of-self-in_err-grow_spots : goal.invariant_of-self-in_err-grow_spots
invariant_of-self-in_err-grow_spots c =
    lists_grown _ _ _ _ _ c.self.inside.storages c.self.inside.spots.items c.grow_spots.new.spots.items c.self.inside.by_node.items _ _ _ c.grow_spots.ensures.no_fewer c.grow_spots.ensures.kept c.reserve.ensures.items c.reserve.ensures.capacity c.self.invariant

pub invariant_of-self-in_err-grow_storages : goal.invariant_of-self-in_err-grow_storages
invariant_of-self-in_err-grow_storages c =
    lists_grown _ _ _ _ _ c.self.inside.storages c.self.inside.spots.items c.grow_spots.new.spots.items c.self.inside.by_node.items _ _ _ c.grow_spots.ensures.no_fewer c.grow_spots.ensures.kept c.reserve.ensures.items c.reserve.ensures.capacity c.self.invariant

-- the list of the storages by node has capacity for more than the table
more : (c : goal.After-reserve_exact) → c.len-count.result + c.args.additional ≤ c.capacity-room.result
more c =
    let many = c.self.invariant.2.many in
    let keys = count_keys c.self.inside.storages.map in
    omega (arith, many, keys, c.self.inside.by_node.ok.0, c.reserve.ensures.len, c.in_ok-reserve.ensures.ok, c.capacity-room.ensures, c.len-count.ensures)

pub invariant_of-self-2 : goal.invariant_of-self-2
invariant_of-self-2 c =
    let grown =
    lists_grown c.self.inside.limits c.self.inside.nodes.map c.self.inside.racks.map c.self.inside.draining.map c.self.inside.spot_count c.self.inside.storages c.self.inside.spots.items c.grow_spots.new.spots.items c.self.inside.by_node.items
    c.reserve.new.self.items _ _ c.grow_spots.ensures.no_fewer c.grow_spots.ensures.kept c.reserve.ensures.items c.reserve.ensures.capacity c.self.invariant in
    let long = ap len c.reserve_exact.ensures.same in
    let few = c.reserve_exact.ensures.no_more (omega (arith, more c, c.if-additional-capacity.false, c.capacity.ensures, c.len-count.ensures)) in
    let within : capacity c.reserve_exact.new.self ≤ c.capacity-room.result = omega (arith, more c, long, few, c.len-count.ensures) in
    table_grown _ _ _ _ _ c.self.inside.storages c.reserve_exact.new.self _ _ _ c.reserve_exact.ensures.same (omega (arith, within, c.in_ok-grow_spots.ensures.enough)) (omega (arith, within, c.capacity-room.ensures)) grown

suffices : {E : Type 0} (r : Result (Unit {0}) E) (least n m : ℕ) → least ≤ n → OnOk r (n ≤ m) → OnOk r (least ≤ m)
suffices (Ok x) least n m less h = omega (arith, less, h)
suffices (Err e) least n m less h = h

pub returns-clause-storages : goal.returns-clause-storages
returns-clause-storages c = suffices c.reserve_exact.result _ _ _ (omega (arith, more c)) c.reserve_exact.ensures.spare
