use Rattle.std.proofs.Common.{◌≡◌, drop}
use Rattle.bm_topo.specs.Racks.{first_other_rack}
use Rattle.bm_topo.proofs.topology.Topology.other_rack.Given as goal

abbrev pub invariant-loop-number : goal.invariant-loop-number
invariant-loop-number l = first_other_rack l.node-inside.0 (drop l.number-index l.number-items) ≡ first_other_rack l.node-inside.0 l.number-items
