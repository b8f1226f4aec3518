use Rattle.laws_of_rounds.proofs.NodeCommands.{ordered_after}
use Rattle.laws_of_states.proofs.CommandedDeletes.{tested}
use Rattle.laws_of_rounds.proofs.commands.commanded_delete_is_ordered.Goals as goal

pub returns : goal.returns
returns c = λ M q h. ordered_after M q (tested M q h)
