use Rattle.std.proofs.Common.{◌∙◌, ap, sym, subst, codes, map, string_bytes}
use Rattle.std.proofs.lemmas.Result.{err_from_is_err_and}
use Rattle.clap.specs.Kinds.{HasKind, Kinds}
use Rattle.fsck_import.specs.Options.{value_kinds}
use Rattle.fsck_import.proofs.OptionLemmas.{found, refused, taken, values_found, wrong_value}
use Rattle.fsck_import.proofs.options.parse_arguments.Goals as goal

pub returns-in_err-matches-clause-refused : goal.returns-in_err-matches-clause-refused
returns-in_err-matches-clause-refused c =
    let e = err_from_is_err_and c.from_residual-in_err-matches.result c.from_residual-in_err-matches.ensures.1 in
    rw (e.1, e.2) (refused (map string_bytes c.args.words.now) c.in_ok-command.command c.in_err-matches.field-0.0 c.in_ok-command.ensures c.in_err-matches.ensures.kinds _)

pub returns-in-Some-clause-values : goal.returns-in-Some-clause-values
returns-in-Some-clause-values c =
    let words = map string_bytes c.args.words.now in
    let find = found words c.in_ok-command.command c.in_ok-matches.matches c.in_ok-command.ensures c.in_ok-matches.ensures.matches in
    sym c.in-Some.is ∙ c.values_of-values.ensures
    ∙ values_found _ _ _ _ _ _ (c.get_str.ensures ∙ find (codes "remaining")) (c.get_str-2.ensures ∙ find (codes "skip")) (c.get_str-3.ensures ∙ find (codes "unclear"))

pub returns-in-Some-clause-names : goal.returns-in-Some-clause-names
returns-in-Some-clause-names c =
    let words = map string_bytes c.args.words.now in
    c.get_str-in-Some.ensures
    ∙ found words c.in_ok-command.command c.in_ok-matches.matches c.in_ok-command.ensures c.in_ok-matches.ensures.matches (codes "names")

pub returns-in-Some-clause-files : goal.returns-in-Some-clause-files
returns-in-Some-clause-files c =
    let words = map string_bytes c.args.words.now in
    c.get_str-in-Some-2.ensures
    ∙ found words c.in_ok-command.command c.in_ok-matches.matches c.in_ok-command.ensures c.in_ok-matches.ensures.matches (codes "files")

pub returns-in-Some-clause-nodes : goal.returns-in-Some-clause-nodes
returns-in-Some-clause-nodes c =
    let words = map string_bytes c.args.words.now in
    c.get_str-in-Some-3.ensures
    ∙ found words c.in_ok-command.command c.in_ok-matches.matches c.in_ok-command.ensures c.in_ok-matches.ensures.matches (codes "nodes")

pub returns-in-Some-clause-refused : goal.returns-in-Some-clause-refused
returns-in-Some-clause-refused c =
    let words = map string_bytes c.args.words.now in
    let find = found words c.in_ok-command.command c.in_ok-matches.matches c.in_ok-command.ensures c.in_ok-matches.ensures.matches in
    let values = sym c.in-Some.is ∙ c.values_of-values.ensures
    ∙ values_found _ _ _ _ _ _ (c.get_str.ensures ∙ find (codes "remaining")) (c.get_str-2.ensures ∙ find (codes "skip")) (c.get_str-3.ensures ∙ find (codes "unclear")) in
    taken words c.in_ok-command.command c.in_ok-command.ensures c.in_ok-matches.ensures.kinds _ ∙ ap value_kinds (sym values)

pub returns-clause-refused : goal.returns-clause-refused
returns-clause-refused c =
    let words = map string_bytes c.args.words.now in
    let find = found words c.in_ok-command.command c.in_ok-matches.matches c.in_ok-command.ensures c.in_ok-matches.ensures.matches in
    let values = sym c.in-None.is ∙ c.values_of-values.ensures
    ∙ values_found _ _ _ _ _ _ (c.get_str.ensures ∙ find (codes "remaining")) (c.get_str-2.ensures ∙ find (codes "skip")) (c.get_str-3.ensures ∙ find (codes "unclear")) in
    subst (λ (ks : Kinds). HasKind ks c.in_ok-wrong_value-in-None.field-0)
    (sym (taken words c.in_ok-command.command c.in_ok-command.ensures c.in_ok-matches.ensures.kinds _))
    (wrong_value _ c.in_ok-wrong_value-in-None.field-0 values c.in_ok-wrong_value-in-None.ensures)
