use Rattle.laws_of_states.proofs.LawfulRounds.{round_lawful}
use Rattle.laws_of_events.proofs.lawful_states.round_keeps_lawful.Goals as goal

pub returns : goal.returns
returns c = round_lawful
