use Rattle.std.proofs.Common.{arith}
use Rattle.bm_lines.proofs.CanonicalLemmas.{no_items, first_item, first_fits, next_item, next_fits, has_item}
use Rattle.bm_lines.proofs.parser.canonical_lists.items_then.Goals as goal

pub returns-in_default-clause-text : goal.returns-in_default-clause-text
returns-in_default-clause-text g c = no_items g.T.CanonicalItem.written c.new-items.result.items c.args.list.now c.new-items.ensures.items

pub loop-next-init : goal.loop-next-init
loop-next-init g c =
    let none = c.new-items.result.items in
    let items = c.push.new.self.items in
    let read = c.in-Some in
    let pushed = c.in_ok-push.ensures.items in record {
      text = first_item g.T.CanonicalItem.written none items read.first c.args.list.now read.rest.now c.new-items.ensures.items pushed read.ensures.text;
      fits = first_fits g.T.CanonicalItem.is_fit none items read.first c.new-items.ensures.items pushed read.ensures.fits;
      some = has_item none items read.first pushed;
    }

pub loop-next-smaller : goal.loop-next-smaller
loop-next-smaller g c = omega (arith, c.in-Some-item_then.ensures.shorter, c.in-Some-after.ensures.shorter)

pub loop-next-preserved : goal.loop-next-preserved
loop-next-preserved g c =
    let known = c.loop-next.invariant in
    let before = c.loop-next.items.items in
    let items = c.push-in-Some-after.new.self.items in
    let read = c.in-Some-item_then in
    let pushed = c.in_ok-push-2.ensures.items in record {
      text = next_item g.T.CanonicalItem.written before items read.item c.args.list.now c.loop-next.rest.now c.in-Some-after.next.now read.behind.now
          known.some pushed known.text c.in-Some-after.ensures.text read.ensures.text;
      fits = next_fits g.T.CanonicalItem.is_fit before items read.item pushed known.fits read.ensures.fits;
      some = has_item before items read.item pushed;
    }

pub returns-clause-text : goal.returns-clause-text
returns-clause-text g c = c.loop-next.invariant.text

pub returns-clause-fits : goal.returns-clause-fits
returns-clause-fits g c = c.loop-next.invariant.fits
