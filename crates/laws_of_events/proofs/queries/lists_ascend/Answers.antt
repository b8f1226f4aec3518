use Rattle.laws_of_events.proofs.AscendingLists.{all_lists_ascend}
use Rattle.laws_of_events.proofs.queries.lists_ascend.Goals as goal

pub returns : goal.returns
returns c = all_lists_ascend
