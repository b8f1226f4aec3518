use Rattle.laws_of_rounds.proofs.NodeCommands.{each_own}
use Rattle.laws_of_rounds.proofs.commands.each_node_its_own.Goals as goal

pub returns : goal.returns
returns c = each_own
