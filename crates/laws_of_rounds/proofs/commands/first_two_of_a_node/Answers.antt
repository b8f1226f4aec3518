use Rattle.laws_of_rounds.proofs.NodeCommands.{first_two}
use Rattle.laws_of_rounds.proofs.commands.first_two_of_a_node.Goals as goal

pub returns : goal.returns
returns c = first_two
