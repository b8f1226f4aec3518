use Rattle.std.specs.Prelude.{nat_le}
use Rattle.std.proofs.Common.{ℕ, rules, of_calls}
use Rattle.std.proofs.lemmas.List.Sorted.{IsPartitionPoint-from_clause, IsPartitionedBy-leb}
use Rattle.bm_topo.specs.ByNode.{node_in}
use Rattle.bm_topo.proofs.ByNode.{after_all}
use Rattle.bm_topo.proofs.by_node.index_for.Goals as goal

pub returns-then-is_after_all-clause-parted : goal.returns-then-is_after_all-clause-parted
returns-then-is_after_all-clause-parted c in_order =
    let n = c.args.node in
    let key : ℕ → ℕ = node_in c.args.storages.now.map in
    let all = c.args.sorted.now in
    after_all key all n in_order (c.is_after_all.ensures c.if-is_after_all.true)

pub returns-clause-parted : goal.returns-clause-parted
returns-clause-parted c in_order =
    let n = c.args.node in
    let key : ℕ → ℕ = node_in c.args.storages.now.map in
    let all = c.args.sorted.now in
    IsPartitionPoint-from_clause (λ e. nat_le (key e) n) all c.partition_point.result c.partition_point.ensures.partitioned (IsPartitionedBy-leb key all n in_order) (λ a r q k. search (rules, of_calls))
