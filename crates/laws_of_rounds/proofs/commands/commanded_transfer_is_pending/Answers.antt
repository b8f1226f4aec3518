use Rattle.laws_of_rounds.proofs.NodeCommands.{pending_commanded}
use Rattle.laws_of_rounds.proofs.commands.commanded_transfer_is_pending.Goals as goal

pub returns : goal.returns
returns c = pending_commanded
