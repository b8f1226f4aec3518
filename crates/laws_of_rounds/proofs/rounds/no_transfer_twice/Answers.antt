use Rattle.laws_of_rounds.proofs.NextRounds.{no_transfer_twice}
use Rattle.laws_of_rounds.proofs.rounds.no_transfer_twice.Goals as goal

pub returns : goal.returns
returns c = no_transfer_twice
