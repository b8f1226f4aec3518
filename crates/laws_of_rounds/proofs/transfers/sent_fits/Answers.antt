use Rattle.laws_of_rounds.proofs.TransferLaws.{sent_fits}
use Rattle.laws_of_rounds.proofs.transfers.sent_fits.Goals as goal

pub returns : goal.returns
returns c = sent_fits
