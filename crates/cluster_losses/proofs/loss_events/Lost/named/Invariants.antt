use Rattle.std.proofs.Common.{drop}
use Rattle.cluster_losses.proofs.NamedLemmas.{AreLeft}
use Rattle.cluster_losses.proofs.loss_events.Lost.named.Given as goal

-- from here the words that are left name the rest
abbrev pub invariant-loop-loss : goal.invariant-loop-loss
invariant-loop-loss l = AreLeft l.loaded.session.book.topology.cluster l.loaded.names (drop l.loss-index l.losses) l.losses l.lost
