use Rattle.laws_of_rounds.proofs.TransferLaws.{source_live_or_drained}
use Rattle.laws_of_rounds.proofs.transfers.source_is_live_or_drained.Goals as goal

pub returns : goal.returns
returns c = source_live_or_drained
