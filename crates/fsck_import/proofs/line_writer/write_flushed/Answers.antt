use Rattle.fsck_import.proofs.WriteLemmas.{all_flushed}
use Rattle.fsck_import.proofs.line_writer.write_flushed.Goals as goal

pub returns-in-Ok-clause-writes : goal.returns-in-Ok-clause-writes
returns-in-Ok-clause-writes g c =
    all_flushed _ _ _ _ _ _ c.in_ok-write_before.ensures.written c.in_ok-write_after.ensures.written c.in-Ok.ensures.bytes
