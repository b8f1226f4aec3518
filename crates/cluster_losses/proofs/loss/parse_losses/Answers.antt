use Rattle.std.proofs.Common.{map}
use Rattle.cluster_losses.specs.Questions.{named_of}
use Rattle.cluster_losses.proofs.Words.{asked_first}
use Rattle.cluster_losses.proofs.loss.parse_losses.Goals as goal

pub loop-word-init : goal.loop-word-init
loop-word-init c = asked_first (map named_of c.in_ok-losses.losses.items) (map (λ w. w.now) c.args.lose.now) (map (λ w. w.now) c.args.drain.now) c.in_ok-losses.ensures
