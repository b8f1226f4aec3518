use Rattle.std.proofs.Common.{◌≡◌, ◌∙◌, ◌++◌, nat_eq, ap}
use Rattle.std.specs.List.{dedup}
use Rattle.std.proofs.lemmas.List.Filters.{dedup_is}
use Rattle.cluster_losses.proofs.DomainLemmas.{merged}
use Rattle.cluster_losses.proofs.row_counts.merge.Goals as goal

pub returns : goal.returns
returns c =
    let once : c.dedup.new.self.items ≡ dedup nat_eq c.sort.new.self.items = dedup_is nat_eq c.sort.new.self.items c.dedup.new.self.items c.dedup.ensures.filtered in
    merged c.args.some.now c.args.others.now c.extend_from_slice.new.self.items c.sort.new.self.items c.from_vec.result
    (c.in_ok-extend_from_slice.ensures.items ∙ ap (λ xs. xs ++ c.args.others.now) c.in_ok-blocks.ensures.items) c.sort.ensures.permutation c.in_ok-sort.ensures.sorted (c.from_vec.ensures ∙ once)
