use Rattle.std.proofs.Common.{sym}
use Rattle.fsck_text.proofs.ListLemmas.{last_listed, item_wrong, shorter_after}
use Rattle.fsck_text.proofs.list.listed_replicas.Goals as goal

pub loop-item-smaller : goal.loop-item-smaller
loop-item-smaller c = shorter_after c.loop-item.rest.now c.in-Some.item.now c.in-Some.after.now (sym c.in-Some.ensures)

pub returns-in-Err-clause-wrong : goal.returns-in-Err-clause-wrong
returns-in-Err-clause-wrong c =
    item_wrong c.args.text.now c.loop-item.rest.now c.in-Some.item.now c.in-Some.after.now c.loop-item.list c.in-Err.fault
    c.loop-item.invariant.all (sym c.in-Some.ensures) c.in-Err.ensures.wrong

pub returns-in-Ok-clause-ok : goal.returns-in-Ok-clause-ok
returns-in-Ok-clause-ok c =
    last_listed c.args.text.now c.loop-item.rest.now c.loop-item.list c.push_item-2.new.list c.loop-item.invariant.all (sym c.in_default.ensures) c.in-Ok.ensures.ok
