use Rattle.std.proofs.Common.{◌≡◌, map, drop}
use Rattle.cluster_losses.specs.Questions.{named_of, together_named}
use Rattle.cluster_losses.proofs.Words.{scenario_with}
use Rattle.cluster_losses.proofs.loss.parse_losses.Given as goal

abbrev pub invariant-loop-word : goal.invariant-loop-word
invariant-loop-word l = together_named (map (λ w. w.now) l.lose) (map (λ w. w.now) l.drain) ≡ scenario_with (map named_of l.losses.items) (map (λ w. w.now) (drop l.word-index l.lose))
