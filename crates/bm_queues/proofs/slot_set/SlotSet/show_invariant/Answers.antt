use Rattle.std.proofs.Common.{◌<◌, length, refl, arith}
use Rattle.bm_queues.specs.Links.{list_from}
use Rattle.bm_queues.proofs.HeldLists.{listed_below}
use Rattle.bm_queues.proofs.Visits.{walk-after}
use Rattle.bm_queues.proofs.slot_set.SlotSet.show_invariant.Goals as goal

pub returns-clause-lawful : goal.returns-clause-lawful
returns-clause-lawful c =
    let heads = c.self.invariant.heads in
    let reach = c.self.invariant.links.small in
    let low : 0 < c.self.inside.lists.heads = omega (arith, heads) in
    rw (← c.self.view_is) (record {
      distinct = c.self.invariant.links.distinct 0 low;
      below = λ slot there. listed_below c.self.inside.lists.heads c.self.inside.lists.next.items c.self.inside.lists.previous.items _ c.self.invariant.links 0 slot low there;
      small = omega (arith, reach, heads);
    })

pub returns-clause-visited : goal.returns-clause-visited
returns-clause-visited c =
    let heads = c.self.invariant.heads in
    let low : 0 < c.self.inside.lists.heads = omega (arith, heads) in
    let slots = list_from c.self.inside.lists.heads c.self.inside.lists.next.items c.self.inside.lists.previous.items 0 in
    rw (← c.self.view_is) (walk-after _ slots (length slots) (c.self.invariant.links.distinct 0 low) (λ x there. refl) (omega arith))
