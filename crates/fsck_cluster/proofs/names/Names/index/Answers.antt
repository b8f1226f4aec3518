use Rattle.std.proofs.Common.{string_bytes, bytes_eq, sym, ◌∙◌}
use Rattle.fsck_cluster.proofs.NameLemmas.{position-map, new-known}
use Rattle.fsck_cluster.proofs.names.Names.index.Goals as goal

pub returns-clause-index : goal.returns-clause-index
returns-clause-index c =
    rw (← c.self.view_is) (c.get_index_of.ensures.index ∙ sym (position-map (bytes_eq c.args.name.now) string_bytes c.self.inside.set.keys))

pub returns-clause-new : goal.returns-clause-new
returns-clause-new c = rw (← c.self.view_is) (new-known c.self.inside.set.keys c.args.name.now _ c.get_index_of.ensures.found)
