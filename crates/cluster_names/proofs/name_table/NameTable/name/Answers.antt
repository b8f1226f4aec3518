use Rattle.std.proofs.Common.{◌∙◌, sym, ap, Some, None, option_map, string_bytes}
use Rattle.cluster_names.proofs.RowLemmas.{name_found}
use Rattle.cluster_names.proofs.name_table.NameTable.name.Goals as goal

pub returns-in_err-index-clause-name : goal.returns-in_err-index-clause-name
returns-in_err-index-clause-name c =
    rw (← c.self.view_is) (ap (option_map (λ t. t.now)) c.from_residual.ensures
    ∙ name_found c.self.inside.names.entries c.self.inside.numbers.keys c.args.number None c.self.invariant.same c.in_err-index.ensures.index)

pub returns-in_err-name-clause-name : goal.returns-in_err-name-clause-name
returns-in_err-name-clause-name c =
    rw (← c.self.view_is) (ap (option_map (λ t. t.now)) c.from_residual-in_err-name.ensures
    ∙ ap (option_map (λ e. string_bytes e.0)) c.in_err-name.ensures.entry
    ∙ name_found c.self.inside.names.entries c.self.inside.numbers.keys c.args.number (Some c.in_ok-index.index) c.self.invariant.same c.in_ok-index.ensures.index)

pub returns-clause-name : goal.returns-clause-name
returns-clause-name c =
    rw (← c.self.view_is) (ap Some c.as_str.ensures.value
    ∙ ap (option_map (λ e. string_bytes e.0)) c.in_ok-name.ensures.entry
    ∙ name_found c.self.inside.names.entries c.self.inside.numbers.keys c.args.number (Some c.in_ok-index.index) c.self.invariant.same c.in_ok-index.ensures.index)

pub returns-clause-back : goal.returns-clause-back
returns-clause-back c =
    rw (← c.self.view_is) (c.self.invariant.one.of_name c.args.number c.as_str.result.now
    (sym (ap Some c.as_str.ensures.value
    ∙ ap (option_map (λ e. string_bytes e.0)) c.in_ok-name.ensures.entry
    ∙ name_found c.self.inside.names.entries c.self.inside.numbers.keys c.args.number (Some c.in_ok-index.index) c.self.invariant.same c.in_ok-index.ensures.index)))
