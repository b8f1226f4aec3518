use Rattle.std.proofs.Common.{◌≡◌, ◌∙◌, sym, ap, nat_eq, map, string_bytes, None}
use Rattle.std.specs.Map.{lookup}
use Rattle.indexmap.proofs.CallerLemmas.{insert_entry-new}
use Rattle.cluster_names.specs.FileTable.{with_path}
use Rattle.cluster_names.proofs.RowLemmas.{none_if}
use Rattle.cluster_names.proofs.FileLemmas.{same_table, pushed_same}
use Rattle.cluster_names.proofs.files.Files.add.Goals as goal

pub returns-clause-blocks : goal.returns-clause-blocks
returns-clause-blocks c =
    let before : c.self-2.inside.file_indices.entries ≡ c.self.inside.file_indices.entries =
    rw (← c.self-2.view_is, ← c.self.view_is) at c.in_ok-file.ensures.file_indices in
    let paths : map string_bytes c.self-2.inside.paths.keys ≡ with_path c.args.self.now.paths c.args.path.now =
    rw (← c.self-2.view_is) at c.in_ok-file.ensures.paths in
    let none : lookup (nat_eq c.block.inside.0) c.self-2.inside.file_indices.entries ≡ None =
    ap (lookup (nat_eq c.block.inside.0)) before ∙ none_if _ c.if-contains_key.ensures in
    same_table _ _ paths
    (rw (← c.self.view_is, ← c.block.view_is)
    (c.in_ok-insert.ensures.entries ∙ insert_entry-new nat_eq c.self-2.inside.file_indices c.block.inside.0 _ none ∙ pushed_same _ _ _ _ _ _ before (rw (← c.self.view_is) at c.in_ok-file.ensures.index)))
