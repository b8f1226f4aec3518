use Rattle.std.proofs.Common.{ap, sym, ◌∙◌, arith}
use Rattle.std.proofs.Math.ListN.{length-set}
use Rattle.bm_base.specs.Maps.Map.{get, contains_key}
use Rattle.bm_topo.specs.Sound.{cluster_of}
use Rattle.bm_topo.proofs.SpotTable.{spot_is, set_next, entry_there, same_count}
use Rattle.bm_topo.proofs.spots.set_each.Goals as goal

pub spot_on-requires : goal.spot_on-requires
spot_on-requires c =
    c.requires.alive _ _ (entry_there c.args.storages.now.map c.entries-entry-items.result.now c.loop-index.index c.entry-item.result c.entries-entry-items.ensures c.loop-index-test.true c.entry-item.is)

pub bounds-spots-index : goal.bounds-spots-index
bounds-spots-index c =
    let count = same_count c.args.storages.now.map c.entries-entry-items.result.now c.entries-entry-items.ensures in
    omega (arith, count, c.loop-index-test.true, c.loop-index.invariant.len, c.requires.enough)

pub loop-index-preserved : goal.loop-index-preserved
loop-index-preserved c =
    let count = same_count c.args.storages.now.map c.entries-entry-items.result.now c.entries-entry-items.ensures in
    let there = entry_there c.args.storages.now.map c.entries-entry-items.result.now c.loop-index.index c.entry-item.result c.entries-entry-items.ensures c.loop-index-test.true c.entry-item.is in
    let is = c.spot_on.ensures in
    let rack = ap (get c.args.nodes.now.map) is.node ∙ is.rack in
    record {
      set =
          λ limits.
          set_next (cluster_of limits c.args.nodes.now.map c.args.draining.now.map c.args.storages.now.map) c.loop-index.spots c.loop-index.index c.spot_on.result
          (omega (arith, count, c.loop-index-test.true, c.loop-index.invariant.len, c.requires.enough)) (c.loop-index.invariant.set limits)
          (spot_is {l = limits} c.args.nodes.now.map c.args.draining.now.map c.args.storages.now.map c.spot_on.result c.entry-item.result.1 (ap (get c.args.storages.now.map) is.storage ∙ there) is.node rack
          (is.drains ∙ ap (λ n. contains_key c.args.draining.now.map n) (sym is.node)));
      len = length-set c.loop-index.spots c.loop-index.index c.spot_on.result ∙ c.loop-index.invariant.len;
    }

pub returns-clause-each : goal.returns-clause-each
returns-clause-each c limits k p below at =
    let count = same_count c.args.storages.now.map c.entries-entry-items.result.now c.entries-entry-items.ensures in
    c.loop-index.invariant.set limits k p (omega (arith, below, count, c.loop-index-test.false)) at
