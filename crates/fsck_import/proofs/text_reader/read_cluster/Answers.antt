use Rattle.fsck_import.proofs.TextBlocks.{known_blocks}
use Rattle.fsck_import.proofs.text_reader.read_cluster.Goals as goal

pub returns-in-Ok-clause-blocks : goal.returns-in-Ok-clause-blocks
returns-in-Ok-clause-blocks g c =
    known_blocks (g.R.Read.remaining c.args.reader.now) c.args.reading c.take_whole.new.reading c.in-Ok.ensures.text
