use Rattle.std.proofs.lemmas.Str.Pattern.{split_parts}
use Rattle.fsck_text.proofs.CutLemmas.{cut_at-from}
use Rattle.fsck_text.proofs.cuts.cut_at.Goals as goal

pub returns : goal.returns
returns c = cut_at-from _ _ _ (split_parts c.args.mark c.args.text.now c.split_once.result c.split_once.ensures.cases c.requires)
