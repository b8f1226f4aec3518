use Rattle.std.proofs.Common.{ap, ◌∙◌, ◌+◌}
use Rattle.fsck_text.proofs.CutLemmas.{bytes_before-from}
use Rattle.fsck_text.proofs.cuts.first_column_of.Goals as goal

pub returns : goal.returns
returns c = ap (λ n. n + 1) (c.unwrap_or.ensures ∙ bytes_before-from c.args.word.now c.args.line.now c.find.result c.find.ensures.cases)
