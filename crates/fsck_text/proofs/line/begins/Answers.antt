use Rattle.std.proofs.lemmas.Str.Pattern.{starts_text}
use Rattle.fsck_text.proofs.line.begins.Goals as goal

pub returns : goal.returns
returns c = starts_text _ c.args.text.now c.args.line.now c.starts_with.ensures.cases
