use Rattle.std.proofs.Common.{◌≡◌, ◌∙◌, ◌++◌, ◌∷◌, [], sym, ap, subst, map, nat_eq, None}
use Rattle.indexmap.specs.IndexSet.{insert_key}
use Rattle.cluster_names.specs.Names.{row_of, IsIndexed}
use Rattle.cluster_names.specs.Rows.{name_of, number_of}
use Rattle.cluster_names.proofs.RowLemmas.{no_name, no_number, name_put, number_put, indexed_put, rows_put}
use Rattle.cluster_names.proofs.name_table.NameTable.add.Goals as goal

pub invariant_of-self-2 : goal.invariant_of-self-2
invariant_of-self-2 c =
    let es = c.self.inside.names.entries in
    let ns = c.self.inside.numbers.keys in
    let key = c.in_ok-name.name in
    let number : name_of (map row_of es) c.args.number ≡ None =
    rw c.self.view_is (no_name c.args.self.now c.args.number c.name.result c.name.ensures.name c.if-is_some.ensures) in
    let name : number_of (map row_of es) c.args.name.now ≡ None =
    rw c.self.view_is (no_number c.args.self.now c.args.name.now c.number.result c.number.ensures.number c.if-is_some-2.ensures) in
    let entries : c.insert.new.self.entries ≡ es ++ (key, c.args.number) ∷ [] =
    c.in_ok-insert.ensures.entries ∙ name_put c.self.inside.names key c.args.name.now c.args.number c.in_ok-name.ensures.ok name in
    let keys : c.insert-2.new.self.keys ≡ ns ++ c.args.number ∷ [] =
    c.in-Ok.ensures.keys ∙ ap (λ ks. insert_key nat_eq ks c.args.number) c.in_ok-reserve.ensures.keys ∙ number_put es ns c.args.number c.self.invariant.same number in
    subst (IsIndexed c.insert.new.self.entries) (sym keys) (subst (λ xs. IsIndexed xs (ns ++ c.args.number ∷ [])) (sym entries)
    (indexed_put es ns key c.args.number c.args.name.now c.self.invariant c.in_ok-name.ensures.ok number name))

pub returns-clause-rows : goal.returns-clause-rows
returns-clause-rows c =
    let es = c.self.inside.names.entries in
    let key = c.in_ok-name.name in
    let name : number_of (map row_of es) c.args.name.now ≡ None =
    rw c.self.view_is (no_number c.args.self.now c.args.name.now c.number.result c.number.ensures.number c.if-is_some-2.ensures) in
    let entries : c.insert.new.self.entries ≡ es ++ (key, c.args.number) ∷ [] =
    c.in_ok-insert.ensures.entries ∙ name_put c.self.inside.names key c.args.name.now c.args.number c.in_ok-name.ensures.ok name in
    rw (← c.self.view_is) (ap (map row_of) entries ∙ rows_put es key c.args.number c.args.name.now c.in_ok-name.ensures.ok)
