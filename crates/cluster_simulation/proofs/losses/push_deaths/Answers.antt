use Rattle.std.proofs.Common.{rules, arith, append_assoc}
use Rattle.std.proofs.lemmas.Grind.{common_steps}
use Rattle.cluster_simulation.specs.Incidents.{any_kills_node, death}
use Rattle.cluster_simulation.proofs.Numbers.{one_more_number, no_more_number}
use Rattle.cluster_simulation.proofs.losses.push_deaths.Goals as goal
use Rattle.cluster_simulation.proofs.losses.push_deaths.Goals.{then-any_kills_node+in_ok-push, else-any_kills_node}

pub loop-node-preserved : goal.loop-node-preserved
loop-node-preserved c = elim c.if-any_kills_node.branch [
  | then-any_kills_node+in_ok-push w ↦
      let more = one_more_number death (any_kills_node c.args.incidents.now c.args.shape) c.loop-node.node (search rules) in
      grind (arith, common_steps, append_assoc, more)
  | else-any_kills_node w ↦
      let same = no_more_number (any_kills_node c.args.incidents.now c.args.shape) c.loop-node.node (search rules) in
      grind (arith, common_steps, same)
]
