use Rattle.std.specs.Prelude.{nat_lt, nat_le}
use Rattle.std.specs.List.Sorted.{IsNonDecreasingBy}
use Rattle.std.proofs.Common.{◌≡◌, ◌-◌, ℕ, length, drop, take, rules, of_calls, sym, subst}
use Rattle.std.proofs.lemmas.List.{take_rest}
use Rattle.std.proofs.lemmas.List.Sorted.{IsPartitionPoint-from_clause, IsPartitionedBy-leb, IsPartitionedBy-ltb, IsNonDecreasingBy-drop}
use Rattle.puljemrod.specs.declared.lists.ReplicaRow.{ReplicaRow}
use Rattle.puljemrod.proofs.LocatedRows.{found_of}
use Rattle.puljemrod.proofs.locate.rows_of.Goals as goal

pub returns : goal.returns
returns c =
    let b = c.args.id in
    let key : ReplicaRow → ℕ = λ r. r.block in
    let all = c.args.rows.now in
    let first = c.partition_point-from.result in
    let rest = take (length all - first) (drop first all) in
    let whole : rest ≡ drop first all = take_rest all first in
    let start = IsPartitionPoint-from_clause (λ e. nat_lt (key e) b) all first c.partition_point-from.ensures.partitioned (IsPartitionedBy-ltb key all b c.requires) (λ a r q k. search (rules, of_calls)) in
    let end = IsPartitionPoint-from_clause (λ e. nat_le (key e) b) rest c.partition_point-count.result c.partition_point-count.ensures.partitioned
    (IsPartitionedBy-leb key rest b (subst (IsNonDecreasingBy key) (sym whole) (IsNonDecreasingBy-drop key first all c.requires))) (λ a r q k. search (rules, of_calls)) in
    found_of all rest b first c.partition_point-count.result whole start end
