use Rattle.std.proofs.Common.{◌≡◌, ◌≤◌, ◌++◌, true, [], length, drop, drop_of_length-le, append-nil, sym, ap, ◌∙◌, arith}
use Rattle.bm_levels.specs.Status.{storages_at}
use Rattle.bm_round_scan.proofs.replicas.storages_of.Goals as goal

pub returns : goal.returns
returns c =
    let rs = c.args.replicas.now in
    let past : length rs ≤ c.loop-storage.storage-index = omega arith in
    let none : drop c.loop-storage.storage-index rs ≡ [] = drop_of_length-le _ past in
    sym (append-nil c.loop-storage.storages) ∙ ap (λ rs. c.loop-storage.storages ++ storages_at (λ _ _. true) rs) (sym none) ∙ c.loop-storage.invariant
