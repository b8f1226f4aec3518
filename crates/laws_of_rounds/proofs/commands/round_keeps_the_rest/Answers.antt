use Rattle.laws_of_rounds.proofs.NodeCommands.{same_rest}
use Rattle.laws_of_rounds.proofs.commands.round_keeps_the_rest.Goals as goal

pub returns : goal.returns
returns c = same_rest
