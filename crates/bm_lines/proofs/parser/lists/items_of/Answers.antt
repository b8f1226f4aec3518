use Rattle.std.specs.Prelude.{map}
use Rattle.serde_json.specs.View.{view}
use Rattle.bm_lines.specs.Parser.Fields.{each}
use Rattle.bm_lines.proofs.ListLemmas.{none_read, one_read, not_read, all_read}
use Rattle.bm_lines.proofs.parser.lists.items_of.Goals as goal

pub loop-value-init : goal.loop-value-init
loop-value-init g c = none_read c.new-items.result.items (each g.T.Item.item_in (map view c.args.values.now)) c.new-items.ensures.items

pub loop-value-preserved : goal.loop-value-preserved
loop-value-preserved g c =
    one_read g.T.Item.item_in c.args.values.now c.loop-value.value-index c.value-item.result c.loop-value.items.items c.push.new.self.items c.in-Some.item (each g.T.Item.item_in (map view c.args.values.now))
    c.loop-value-test.true c.value-item.is c.in-Some.ensures c.in_ok-push-in-Some.ensures.items c.loop-value.invariant

pub returns-in-None : goal.returns-in-None
returns-in-None g c =
    not_read g.T.Item.item_in c.args.values.now c.loop-value.value-index c.value-item.result c.loop-value.items.items (each g.T.Item.item_in (map view c.args.values.now))
    c.loop-value-test.true c.value-item.is c.in-None.ensures c.loop-value.invariant

pub returns : goal.returns
returns g c =
    all_read g.T.Item.item_in c.args.values.now c.loop-value.value-index c.loop-value.items.items (each g.T.Item.item_in (map view c.args.values.now))
    c.loop-value-test.false c.loop-value.invariant
