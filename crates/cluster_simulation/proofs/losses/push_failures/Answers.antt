use Rattle.std.proofs.Common.{rules, arith, append_assoc}
use Rattle.std.proofs.lemmas.Grind.{common_steps}
use Rattle.cluster_simulation.specs.Incidents.{fails_alone, failure}
use Rattle.cluster_simulation.proofs.Numbers.{one_more_number, no_more_number}
use Rattle.cluster_simulation.proofs.losses.push_failures.Goals as goal
use Rattle.cluster_simulation.proofs.losses.push_failures.Goals.{then-fails_alone+in_ok-push, else-fails_alone}

pub loop-storage-preserved : goal.loop-storage-preserved
loop-storage-preserved c = elim c.if-fails_alone.branch [
  | then-fails_alone+in_ok-push w ↦
      let more = one_more_number failure (fails_alone c.args.incidents.now c.args.shape) c.loop-storage.storage (search rules) in
      grind (arith, common_steps, append_assoc, more)
  | else-fails_alone w ↦
      let same = no_more_number (fails_alone c.args.incidents.now c.args.shape) c.loop-storage.storage (search rules) in
      grind (arith, common_steps, same)
]
