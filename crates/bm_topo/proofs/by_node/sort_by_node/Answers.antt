use Rattle.std.proofs.Common.{◌∙◌, arith}
use Rattle.bm_topo.proofs.ByNode.{placed, capacity_left, all_placed}
use Rattle.bm_topo.proofs.by_node.sort_by_node.Goals as goal

pub insert_reserved-requires-clause-spare : goal.insert_reserved-requires-clause-spare
insert_reserved-requires-clause-spare c =
    let items = c.entries-number-items in
    let spare = capacity_left c.args.storages.now.map items.result.now c.loop-number.number-index items.ensures c.loop-number.sorted.items _ c.loop-number-test.true c.requires.few c.loop-number.invariant.sorted in
    omega (arith, spare, c.loop-number.sorted.ok.0, c.loop-number.invariant.no_growth)

pub loop-number-preserved : goal.loop-number-preserved
loop-number-preserved c =
    let items = c.entries-number-items in
    let index = c.index_for-index in
    record {
      sorted =
          placed c.args.storages.now.map items.result.now c.loop-number.number-index items.ensures c.loop-number.sorted.items c.as_slice.result.now c.insert_reserved.new.sorted.items c.loop-number-item.result index.result c.as_slice.ensures.value c.loop-number-test.true
          c.loop-number-item.is index.ensures.within index.ensures.parted c.insert_reserved.ensures.items c.loop-number.invariant.sorted;
      no_growth = c.insert_reserved.ensures.capacity ∙ c.loop-number.invariant.no_growth;
    }

pub returns-clause-sorted : goal.returns-clause-sorted
returns-clause-sorted c =
    let items = c.entries-number-items in
    all_placed c.args.storages.now.map items.result.now c.loop-number.number-index items.ensures c.loop-number.sorted.items c.loop-number-test.false c.loop-number.invariant.sorted
