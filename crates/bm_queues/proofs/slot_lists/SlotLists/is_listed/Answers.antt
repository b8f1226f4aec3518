use Rattle.std.proofs.Common.{◌≡◌, Some, ap, ◌∙◌}
use Rattle.std.specs.Prelude.{is_some}
use Rattle.bm_queues.proofs.HeldLists.{listed_back}
use Rattle.bm_queues.proofs.Calls.{read}
use Rattle.bm_queues.proofs.slot_lists.SlotLists.is_listed.Goals as goal

pub returns-clause-found : goal.returns-clause-found
returns-clause-found c l low there =
    let b = listed_back c.args.self.now.heads c.args.self.now.next.items c.args.self.now.previous.items _ c.requires.lawful l c.args.slot low there in
    let some : c.index.result.now ≡ Some b.0 = read c.args.self.now.previous.items c.args.slot c.index.result.now c.requires.slot c.index.ensures ∙ b.1 in
    c.is_some.ensures ∙ ap is_some (c.slot.ensures ∙ some)
