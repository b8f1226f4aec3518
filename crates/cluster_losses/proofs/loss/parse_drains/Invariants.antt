use Rattle.std.proofs.Common.{◌≡◌, map, take}
use Rattle.cluster_losses.specs.Questions.{drain_named, named_of}
use Rattle.cluster_losses.proofs.loss.parse_drains.Given as goal

abbrev pub invariant-loop-name : goal.invariant-loop-name
invariant-loop-name l = map named_of l.losses.items ≡ map drain_named (map (λ w. w.now) (take l.name-index l.drain))
