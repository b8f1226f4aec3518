use Rattle.std.proofs.Common.{◌∙◌}
use Rattle.cluster_names.proofs.FileLemmas.{index_found, paths_found, index_put, paths_put}
use Rattle.cluster_names.proofs.files.Files.intern_path.Goals as goal

pub returns-in-Some-clause-index : goal.returns-in-Some-clause-index
returns-in-Some-clause-index c =
    rw (← c.self.view_is) (index_found c.self.inside.paths.keys c.args.path.now c.in-Some.index c.in-Some.ensures.index)

pub returns-in-Some-clause-paths : goal.returns-in-Some-clause-paths
returns-in-Some-clause-paths c =
    rw (← c.self.view_is) (paths_found c.self.inside.paths.keys c.args.path.now c.in-Some.ensures.found)

pub returns-clause-index : goal.returns-clause-index
returns-clause-index c =
    rw (← c.self.view_is) (c.in_ok-index.ensures.index ∙ index_put c.self.inside.paths.keys c.args.path.now c.in_ok-path.path c.in_ok-path.ensures.ok)

pub returns-clause-paths : goal.returns-clause-paths
returns-clause-paths c =
    rw (← c.self.view_is, c.in_ok-index.ensures.keys)
    (paths_put c.self.inside.paths.keys c.args.path.now c.in_ok-path.path c.in_ok-path.ensures.ok c.in_default.ensures.found)
