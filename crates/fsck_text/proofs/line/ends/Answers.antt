use Rattle.std.proofs.lemmas.Str.Pattern.{ends_text}
use Rattle.fsck_text.proofs.line.ends.Goals as goal

pub returns : goal.returns
returns c = ends_text _ c.args.text.now c.args.line.now c.ends_with.ensures.cases
