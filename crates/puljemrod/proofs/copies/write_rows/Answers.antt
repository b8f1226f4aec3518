use Rattle.std.proofs.Common.{rules}
use Rattle.std.proofs.lemmas.List.{take_all}
use Rattle.puljemrod.proofs.RowLists.{one_more}
use Rattle.puljemrod.proofs.copies.write_rows.Goals as goal

pub loop-at-preserved : goal.loop-at-preserved
loop-at-preserved g c = search (rules, one_more)

pub returns : goal.returns
returns g c = search (rules, take_all)
