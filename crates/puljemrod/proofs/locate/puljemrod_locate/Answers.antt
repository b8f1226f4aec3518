use Rattle.std.proofs.Common.{◌∙◌, ◌++◌, ap, length, min, take, drop}
use Rattle.bm_base.specs.Words.{all_replicas, empty_cluster, standard_limits}
use Rattle.puljemrod.specs.ListRows.{good_storages}
use Rattle.puljemrod.proofs.LocatedRows.{places_in_rows, rows_ascend}
use Rattle.puljemrod.proofs.locate.puljemrod_locate.Goals as goal

pub rows_of-requires : goal.rows_of-requires
rows_of-requires c = rows_ascend c.args.rows.now (all_replicas c.requires.0) c.requires.1 (c.lists_ascend.ensures (empty_cluster standard_limits) c.requires.0).replicas

pub returns-clause-count : goal.returns-clause-count
returns-clause-count c H are =
    let same = ap good_storages c.rows_of.ensures ∙ places_in_rows H c.args.id c.args.rows.now are in
    c.copy_good.ensures.count ∙ ap (λ l. min (length c.args.out.now) (length l)) same

pub returns-clause-copied : goal.returns-clause-copied
returns-clause-copied c H are =
    let same = ap good_storages c.rows_of.ensures ∙ places_in_rows H c.args.id c.args.rows.now are in
    c.copy_good.ensures.copied ∙ ap (λ l. take c.copy_good.result l ++ drop c.copy_good.result c.args.out.now) same
