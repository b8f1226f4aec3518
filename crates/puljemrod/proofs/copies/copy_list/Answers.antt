use Rattle.std.proofs.Common.{arith, ap, sym, ◌∙◌, ◌++◌, take, drop, map, length-drop}
use Rattle.std.proofs.lemmas.List.{length-map}
use Rattle.std.specs.List.{take-map, drop-map}
use Rattle.puljemrod.proofs.copies.copy_list.Goals as goal

pub returns-clause-count : goal.returns-clause-count
returns-clause-count g c =
    let row = g.R.Row.row_of c.args.common in
    omega (arith, c.copy_rows.ensures.count, length-drop c.args.from c.args.items.now, length-drop c.args.from (map row c.args.items.now), length-map c.args.items.now row)

pub returns-clause-copied : goal.returns-clause-copied
returns-clause-copied g c =
    let row = g.R.Row.row_of c.args.common in
    let count = c.copy_rows.result in
    c.copy_rows.ensures.copied ∙ ap (λ l. l ++ drop count c.args.out.now) (sym (take-map row count (drop c.args.from c.args.items.now)) ∙ ap (take count) (sym (drop-map row c.args.from c.args.items.now)))
