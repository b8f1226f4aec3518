use Rattle.laws_of_events.proofs.PlainStates.{sound_from_first}
use Rattle.laws_of_events.proofs.plain_words.calls_lead_to_sound.Goals as goal

pub returns : goal.returns
returns c = sound_from_first
