use Rattle.std.proofs.Common.{rules, of_calls}
use Rattle.std.proofs.lemmas.List.Sorted.{IsPartitionPoint-from_clause}
use Rattle.bm_maps.proofs.BinarySearch.{is_behind, those_parted, index_parted}
use Rattle.bm_maps.proofs.sorted_entries.index_between.Goals as goal

pub returns : goal.returns
returns g c =
    let compare = g.K.Ord.cmp in
    let total = g.met.K.Ord.total in
    let key = c.args.key.now in
    let search_by_halves = c.partition_point-behind.ensures in
    let parted = those_parted compare total key c.args.entries.now c.args.least c.args.most c.requires.sorted c.requires.inside in
    let point = IsPartitionPoint-from_clause (is_behind compare total key) _ _ search_by_halves.partitioned parted (λ a r f called. search (rules, of_calls)) in
    index_parted compare total key c.args.entries.now c.args.least c.args.most _ c.requires.sorted c.requires.from c.requires.upto c.requires.inside search_by_halves.bound point
