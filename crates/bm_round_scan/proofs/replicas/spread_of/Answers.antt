use Rattle.std.proofs.Common.{◌≡◌, ◌≤◌, ℕ, List, length, [], drop, drop_of_length-le, ap, sym, ◌∙◌, arith}
use Rattle.std.specs.Prelude.{filter_map}
use Rattle.std.specs.Int.{from_bool}
use Rattle.bm_base.specs.Machine.Replicas.{rack_of}
use Rattle.bm_base.specs.Spread.{spread_after}
use Rattle.bm_base.proofs.Distinct.{spread_end}
use Rattle.bm_round_scan.proofs.replicas.spread_of.Goals as goal

pub returns : goal.returns
returns c =
    let ss = c.args.storages.now in
    let past : length ss ≤ c.loop-storage.storage-index = omega arith in
    let none : drop c.loop-storage.storage-index ss ≡ [] = drop_of_length-le _ past in
    c.from.ensures ∙ ap from_bool c.is_some.ensures ∙ spread_end c.loop-storage.first ∙ ap (λ (xs : List ℕ). spread_after c.loop-storage.first (filter_map (rack_of c.args.topology.now.cluster) xs)) (sym none) ∙ c.loop-storage.invariant
