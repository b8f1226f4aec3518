use Rattle.std.proofs.Common.{◌≡◌, rules, map}
use Rattle.cluster_report.specs.Levels.{leveled}
use Rattle.cluster_repair.proofs.WatchLemmas.{covers_known}
use Rattle.cluster_repair.proofs.watch.Watch.new.Goals as goal

pub returns : goal.returns
returns c =
    let asked : c.in_ok-levels.levels.items ≡ map (leveled c.args.manager.now.cluster c.args.manager.now.holdings) c.in_ok-numbers.numbers.items = search rules in
    covers_known c.args.manager.now c.args.blocks.now c.in_ok-numbers.numbers.items c.in_ok-blocks.blocks.items c.in_ok-levels.levels.items c.requires c.in_ok-numbers.ensures asked (search rules)
