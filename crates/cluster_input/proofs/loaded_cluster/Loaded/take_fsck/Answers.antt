use Rattle.cluster_input.proofs.LoadLemmas.{taken_is_read}
use Rattle.cluster_input.proofs.loaded_cluster.Loaded.take_fsck.Goals as goal

pub returns-clause-state : goal.returns-clause-state
returns-clause-state g c =
    taken_is_read _ (g.R.Read.remaining c.args.reader.now) _ c.in_ok-read.read _ _ _ c.in_ok-read.ensures.text c.in_ok-read.ensures.blocks
    c.take_reading-taken.ensures.made c.take_reading-taken.ensures.names c.take_reading-taken.ensures.files
