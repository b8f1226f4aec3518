use Rattle.fsck_cluster.proofs.NameLemmas.{number-found, names-found}
use Rattle.fsck_cluster.proofs.names.Names.intern_index.Goals as goal

pub returns-in-Some-clause-index : goal.returns-in-Some-clause-index
returns-in-Some-clause-index c = number-found c.args.self.now c.args.name.now c.in-Some.index c.in-Some.ensures.index

pub returns-in-Some-clause-names : goal.returns-in-Some-clause-names
returns-in-Some-clause-names c = names-found c.args.self.now c.args.name.now c.in-Some.ensures.new
