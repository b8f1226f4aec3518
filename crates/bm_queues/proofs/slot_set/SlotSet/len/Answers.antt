use Rattle.std.proofs.Common.{◌<◌, arith}
use Rattle.bm_queues.proofs.HeldLists.{length-listed}
use Rattle.bm_queues.proofs.slot_set.SlotSet.len.Goals as goal

pub returns-clause-few : goal.returns-clause-few
returns-clause-few c =
    let heads = c.self.invariant.heads in
    let counted = c.self.invariant.counted in
    let low : 0 < c.self.inside.lists.heads = omega (arith, heads) in
    let len = length-listed c.self.inside.lists.heads c.self.inside.lists.next.items c.self.inside.lists.previous.items _ c.self.invariant.links 0 low in
    rw (← c.self.view_is) (omega (arith, counted, len))
