use Rattle.std.proofs.Common.{◌≡◌, drop}
use Rattle.bm_base.specs.Machine.Events.{set_remaining}
use Rattle.bm_maps.specs.Table.{capacity}
use Rattle.bm_topo.proofs.tables.set_remaining.Given as goal

-- the rest takes the table to what all of it makes of the first one
abbrev pub invariant-loop-reported : goal.invariant-loop-reported
invariant-loop-reported l = record {
  after : set_remaining l.storages.map (drop l.reported-index l.remaining) ≡ set_remaining l.initial.storages.map l.remaining;
  no_growth : capacity l.storages ≡ capacity l.initial.storages;
}
