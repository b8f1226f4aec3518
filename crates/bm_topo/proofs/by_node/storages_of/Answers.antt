use Rattle.std.specs.Prelude.{nat_lt, nat_le}
use Rattle.std.specs.List.Sorted.{IsNonDecreasingBy}
use Rattle.std.proofs.Common.{◌≡◌, ◌-◌, ℕ, length, drop, take, rules, of_calls, sym, subst, ◌∙◌}
use Rattle.std.proofs.lemmas.List.{take_rest}
use Rattle.std.proofs.lemmas.List.Sorted.{IsPartitionPoint-from_clause, IsPartitionedBy-leb, IsPartitionedBy-ltb, IsNonDecreasingBy-drop}
use Rattle.bm_topo.specs.ByNode.{node_in}
use Rattle.bm_topo.proofs.ByNode.{found_of}
use Rattle.bm_topo.proofs.by_node.storages_of.Goals as goal

pub returns : goal.returns
returns c =
    let n = c.args.node in
    let key : ℕ → ℕ = node_in c.args.storages.now.map in
    let all = c.args.sorted.now in
    let first = c.partition_point-first.result in
    let rest = take (length all - first) (drop first all) in
    let whole : rest ≡ drop first all = take_rest all first in
    let start = IsPartitionPoint-from_clause (λ e. nat_lt (key e) n) all first c.partition_point-first.ensures.partitioned (IsPartitionedBy-ltb key all n c.requires.in_order) (λ a r q k. search (rules, of_calls)) in
    let end = IsPartitionPoint-from_clause (λ e. nat_le (key e) n) rest c.partition_point-count.result c.partition_point-count.ensures.partitioned
    (IsPartitionedBy-leb key rest n (subst (IsNonDecreasingBy key) (sym whole) (IsNonDecreasingBy-drop key first all c.requires.in_order))) (λ a r q k. search (rules, of_calls)) in
    found_of key all rest n first c.partition_point-count.result whole start end ∙ c.requires.each n
