use Rattle.std.proofs.Common.{◌≡◌, nat_eq}
use Rattle.std.specs.List.{dedup}
use Rattle.std.proofs.lemmas.List.Filters.{dedup_is}
use Rattle.cluster_losses.proofs.DomainLemmas.{racks_once}
use Rattle.cluster_losses.proofs.failure_domains.rack_numbers.Goals as goal

pub returns : goal.returns
returns c =
    let once : c.dedup.new.self.items ≡ dedup nat_eq c.sort.new.self.items = dedup_is nat_eq c.sort.new.self.items c.dedup.new.self.items c.dedup.ensures.filtered in
    racks_once c.args.book.now.topology.cluster c.in_ok-numbers.numbers.items c.sort.new.self.items c.dedup.new.self.items c.in_ok-numbers.ensures c.sort.ensures.permutation c.in_ok-sort.ensures.sorted once
