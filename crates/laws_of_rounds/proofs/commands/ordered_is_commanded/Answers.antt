use Rattle.laws_of_rounds.proofs.NodeCommands.{ordered_commanded}
use Rattle.laws_of_rounds.proofs.TestedDeletes.{untested}
use Rattle.laws_of_rounds.proofs.commands.ordered_is_commanded.Goals as goal

pub returns : goal.returns
returns c = λ M q m n before unordered after ordered. untested M q (ordered_commanded M q m n before unordered after ordered)
