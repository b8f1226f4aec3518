use Rattle.fsck_import.specs.FileTables.{file_line}
use Rattle.fsck_import.proofs.WriteLemmas.{texts_more}
use Rattle.fsck_import.proofs.file_table.write_rows.Goals as goal

pub loop-index-preserved : goal.loop-index-preserved
loop-index-preserved c =
    texts_more (file_line c.args.files.now.paths) c.args.files.now.file_indices c.loop-index.index _ _ _ c.loop-index.invariant c.in_ok-write_row_at.ensures
