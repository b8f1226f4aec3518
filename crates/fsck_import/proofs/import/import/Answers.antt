use Rattle.fsck_import.proofs.ImportLemmas.{whole_text}
use Rattle.fsck_import.proofs.import.import.Goals as goal

pub returns-in-Ok-clause-writes : goal.returns-in-Ok-clause-writes
returns-in-Ok-clause-writes g c =
    whole_text (g.R.Read.remaining c.args.reader.now) c.args.start c.in_ok-read.read c.args.remaining _ _ c.in_ok-read.ensures.text c.in-Ok.ensures.writes
