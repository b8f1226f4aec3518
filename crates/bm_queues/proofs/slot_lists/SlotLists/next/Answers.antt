use Rattle.std.proofs.Common.{◌+◌, ◌∙◌, arith}
use Rattle.bm_queues.proofs.HeldLists.{next-held}
use Rattle.bm_queues.proofs.Calls.{read}
use Rattle.bm_queues.proofs.slot_lists.SlotLists.next.Goals as goal

pub returns-clause-listed : goal.returns-clause-listed
returns-clause-listed c l low there =
    let size = c.requires.lawful.size in
    let slot = c.requires.slot in
    c.slot.ensures
    ∙ read c.args.self.now.next.items (c.args.self.now.heads + c.args.slot) c.index.result.now (omega (arith, size, slot)) c.index.ensures
    ∙ next-held c.args.self.now.heads c.args.self.now.next.items c.args.self.now.previous.items _ c.requires.lawful l c.args.slot low there
