use Rattle.std.proofs.Common.{◌≡◌, rules}
use Rattle.std.specs.Map.{keys_of}
use Rattle.cluster_repair.proofs.WatchLemmas.{no_such_key}
use Rattle.cluster_repair.proofs.watch.collect_numbers.Goals as goal

pub returns : goal.returns
returns c b none =
    let e : c.in_ok-numbers.numbers.items ≡ keys_of c.args.blocks.now.blocks.entries = search rules in
    no_such_key c.args.blocks.now c.in_ok-numbers.numbers.items b e none
