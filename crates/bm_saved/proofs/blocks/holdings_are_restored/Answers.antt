use Rattle.bm_saved.proofs.RestoredHoldings.{holdings_are_restored}
use Rattle.bm_saved.proofs.blocks.holdings_are_restored.Goals as goal

pub returns : goal.returns
returns c = holdings_are_restored
