use Rattle.fsck_cluster.proofs.NameLemmas.{number-put, names-put}
use Rattle.fsck_cluster.proofs.names.Names.put.Goals as goal

pub returns-clause-index : goal.returns-clause-index
returns-clause-index c =
    rw (← c.self.view_is, c.in_ok-index.ensures.index) (number-put c.self.inside.set.keys c.in_ok-key.key c.args.name.now c.in_ok-key.ensures.ok)

pub returns-clause-names : goal.returns-clause-names
returns-clause-names c =
    rw (← c.self.view_is, c.in_ok-index.ensures.keys) (names-put c.self.inside.set.keys c.in_ok-key.key c.args.name.now c.in_ok-key.ensures.ok (rw (← c.self.view_is) at c.requires))
