use Rattle.std.proofs.Common.{sym, ap, ◌∙◌}
use Rattle.std.specs.Option.{option_copied}
use Rattle.bm_queues.specs.Levels.{slots_of}
use Rattle.bm_queues.proofs.Indices.{first-read}
use Rattle.bm_queues.proofs.ListIteration.{all-from, first-is_on}
use Rattle.bm_queues.proofs.level_lists.LevelLists.first.Goals as goal

pub returns-clause-slot : goal.returns-clause-slot
returns-clause-slot c =
    first-read (slots_of c.args.self.now c.args.level) _ _ c.slots.ensures.slots (sym c.last.ensures.value ∙ ap option_copied c.in_ok-first.was)

pub returns-clause-on : goal.returns-clause-on
returns-clause-on c = first-is_on (slots_of c.args.self.now c.args.level) _ (returns-clause-slot c)

pub returns-clause-rest : goal.returns-clause-rest
returns-clause-rest c = all-from (slots_of c.args.self.now c.args.level) _ (returns-clause-slot c)
