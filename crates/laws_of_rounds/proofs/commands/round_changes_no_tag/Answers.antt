use Rattle.laws_of_states.proofs.AfterRound.{same_tag}
use Rattle.laws_of_rounds.proofs.commands.round_changes_no_tag.Goals as goal

pub returns : goal.returns
returns c = same_tag
