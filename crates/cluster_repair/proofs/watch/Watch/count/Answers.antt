use Rattle.std.proofs.Common.{◌≡◌, rules, map, nat_eq}
use Rattle.std.specs.List.{dedup}
use Rattle.std.proofs.lemmas.List.Filters.{dedup_is}
use Rattle.cluster_report.specs.Levels.{leveled}
use Rattle.cluster_repair.proofs.WatchLemmas.{all_counted, all_leveled}
use Rattle.cluster_repair.proofs.watch.Watch.count.Goals as goal

pub returns-clause-counts : goal.returns-clause-counts
returns-clause-counts c =
    let once : c.dedup.new.self.items ≡ dedup nat_eq c.sort.new.self.items = dedup_is nat_eq c.sort.new.self.items c.dedup.new.self.items c.dedup.ensures.filtered in
    let asked : c.in_ok-levels.levels.items ≡ map (leveled c.args.manager.now.cluster c.args.manager.now.holdings) c.dedup.new.self.items = search rules in
    all_counted c.args.manager.now c.args.self.now.blocks.items c.sort.new.self.items c.dedup.new.self.items c.in_ok-levels.levels.items c.requires c.sort.ensures.permutation c.in_ok-sort.ensures.sorted once asked
    c.in_ok-missing.missing _ c.in_ok-missing.ensures.missing (search rules)

pub returns-clause-blocks : goal.returns-clause-blocks
returns-clause-blocks c =
    let once : c.dedup.new.self.items ≡ dedup nat_eq c.sort.new.self.items = dedup_is nat_eq c.sort.new.self.items c.dedup.new.self.items c.dedup.ensures.filtered in
    let asked : c.in_ok-levels.levels.items ≡ map (leveled c.args.manager.now.cluster c.args.manager.now.holdings) c.dedup.new.self.items = search rules in
    all_leveled c.args.manager.now c.args.self.now.blocks.items c.sort.new.self.items c.dedup.new.self.items c.in_ok-levels.levels.items c.requires c.sort.ensures.permutation c.in_ok-sort.ensures.sorted once asked
    _ (search rules)
