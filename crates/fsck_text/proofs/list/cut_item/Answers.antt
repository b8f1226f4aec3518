use Rattle.fsck_text.proofs.ListLemmas.{cut_item-from}
use Rattle.fsck_text.proofs.list.cut_item.Goals as goal

pub returns : goal.returns
returns c = cut_item-from c.args.items.now c.split_once.result c.split_once.ensures.cases
