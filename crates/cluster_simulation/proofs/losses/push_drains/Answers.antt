use Rattle.std.proofs.Common.{rules, arith, append_assoc}
use Rattle.std.proofs.lemmas.Grind.{common_steps}
use Rattle.cluster_simulation.specs.Incidents.{drains_alive, drain}
use Rattle.cluster_simulation.proofs.Numbers.{one_more_number, no_more_number}
use Rattle.cluster_simulation.proofs.losses.push_drains.Goals as goal
use Rattle.cluster_simulation.proofs.losses.push_drains.Goals.{then-drains_alive+in_ok-push, else-drains_alive}

pub loop-node-preserved : goal.loop-node-preserved
loop-node-preserved c = elim c.if-drains_alive.branch [
  | then-drains_alive+in_ok-push w ↦
      let more = one_more_number drain (drains_alive c.args.incidents.now c.args.shape) c.loop-node.node (search rules) in
      grind (arith, common_steps, append_assoc, more)
  | else-drains_alive w ↦
      let same = no_more_number (drains_alive c.args.incidents.now c.args.shape) c.loop-node.node (search rules) in
      grind (arith, common_steps, same)
]
