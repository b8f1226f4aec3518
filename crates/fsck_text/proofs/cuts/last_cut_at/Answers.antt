use Rattle.fsck_text.proofs.CutLemmas.{last_cut_at-from}
use Rattle.fsck_text.proofs.cuts.last_cut_at.Goals as goal

pub returns : goal.returns
returns c = last_cut_at-from c.args.mark c.args.text.now c.rsplit_once.result c.rsplit_once.ensures.cases c.requires
