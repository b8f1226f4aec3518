use Rattle.std.proofs.Common.{◌∙◌}
use Rattle.cluster_names.proofs.RowLemmas.{number_found, back_found}
use Rattle.cluster_names.proofs.name_table.NameTable.number.Goals as goal

pub returns-clause-number : goal.returns-clause-number
returns-clause-number c =
    rw (← c.self.view_is) (c.copied.ensures ∙ c.get.ensures.value ∙ number_found c.self.inside.names.entries c.args.name.now)

pub returns-clause-back : goal.returns-clause-back
returns-clause-back c =
    rw (← c.self.view_is) (back_found _ c.self.invariant.one c.args.name.now c.copied.result
    (c.copied.ensures ∙ c.get.ensures.value ∙ number_found c.self.inside.names.entries c.args.name.now))
