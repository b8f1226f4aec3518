use Rattle.std.proofs.Common.{List, rules, subst}
use Rattle.std.specs.List.Sorted.{IsPermutation}
use Rattle.std.proofs.lemmas.List.Sorted.{answers_always}
use Rattle.bm_base.specs.Promises.Versions.{Row}
use Rattle.bm_shards.proofs.Questions.{sorted_rows}
use Rattle.bm_shards.proofs.table.make_table.Goals as goal

pub returns-clause-table : goal.returns-clause-table
returns-clause-table g c =
    let P : List Row → Type 0 = λ xs. IsPermutation xs c.sort_by_key.new.self.items in
    sorted_rows c.args.shards.now.items c.requires.shards _ c.sort_by_key.new.self.items c.in_ok-tables.ensures.tables (subst P c.in_ok-rows.ensures c.sort_by_key.ensures.permutation)
    (c.in_ok-sort_by_key.ensures.sorted (λ (r : Row). r.0) (answers_always _ _ _ (λ f a r g h. search rules)))
