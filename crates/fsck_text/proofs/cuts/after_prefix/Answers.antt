use Rattle.fsck_text.proofs.CutLemmas.{after_prefix-from}
use Rattle.fsck_text.proofs.cuts.after_prefix.Goals as goal

pub returns : goal.returns
returns c = after_prefix-from c.args.prefix.now c.args.text.now c.strip_prefix.result c.strip_prefix.ensures.cases
