use Rattle.bm_base.specs.Machine.State.{State}
use Rattle.bm_base.specs.Promises.Lawful.{IsOrderly}
use Rattle.laws_of_states.proofs.LawfulRounds.{orderly}
use Rattle.laws_of_states.proofs.OrderlyStates.{calls_orderly}
use Rattle.laws_of_events.specs.DrainingNodes.{retired_node_may_die}
use Rattle.laws_of_events.proofs.RetiredNodes.{may_die}
use Rattle.laws_of_events.proofs.draining_nodes.retired_node_may_die.Goals as goal

in_orderly : (M : State) → IsOrderly M → retired_node_may_die M
in_orderly M O = may_die M O

pub returns-clause-lawful : goal.returns-clause-lawful
returns-clause-lawful c = λ M L. in_orderly M (orderly M L)

pub returns-clause-reached : goal.returns-clause-reached
returns-clause-reached c = λ l config ks. in_orderly _ (calls_orderly l config ks)
