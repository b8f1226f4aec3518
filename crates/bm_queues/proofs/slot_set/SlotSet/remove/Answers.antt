use Rattle.std.proofs.Common.{◌<◌, length, subst, sym, ap, ◌∙◌, arith}
use Rattle.std.proofs.lemmas.Bool.{false≢true}
use Rattle.bm_maps.specs.SlotLists.{IsMember}
use Rattle.bm_queues.specs.Links.{list_from}
use Rattle.bm_maps.proofs.SlotLists.{length-without, without-absent}
use Rattle.bm_queues.specs.Walks.{slots_from, IsOn}
use Rattle.bm_queues.proofs.ListIteration.{from-without, on-without}
use Rattle.bm_queues.proofs.MemberLaws.{only_list, gone-without, others-without}
use Rattle.bm_queues.proofs.slot_set.SlotSet.remove.Goals as goal

pub invariant_of-self : goal.invariant_of-self
invariant_of-self c =
    let heads = c.self.invariant.heads in
    let counted = c.self.invariant.counted in
    let low : 0 < c.self.inside.lists.heads = omega (arith, heads) in
    let there = only_list c.self.inside.lists.heads c.self.inside.lists.next.items c.self.inside.lists.previous.items heads c.args.slot (c.is_listed.ensures.listed c.if-is_listed.true) in
    let taken = ap length (c.unlink.ensures.lists 0 low) in
    let len = length-without c.args.slot (list_from c.self.inside.lists.heads c.self.inside.lists.next.items c.self.inside.lists.previous.items 0) there in
    record {
      heads = c.unlink.ensures.heads ∙ heads;
      links = c.unlink.ensures.lawful;
      counted = omega (arith, counted, taken, len);
    }

pub returns-else-is_listed-clause-after : goal.returns-else-is_listed-clause-after
returns-else-is_listed-clause-after c =
    let heads = c.self.invariant.heads in
    let low : 0 < c.self.inside.lists.heads = omega (arith, heads) in
    let absent : IsMember c.args.slot (list_from c.self.inside.lists.heads c.self.inside.lists.next.items c.self.inside.lists.previous.items 0) → ⊥ = λ h. false≢true (sym c.if-is_listed.false ∙ c.is_listed.ensures.found 0 low h) in
    rw (← c.self.view_is) (ap (λ xs. record { slots = xs; capacity = length c.self.inside.lists.previous.items }) (sym (without-absent c.args.slot (list_from c.self.inside.lists.heads c.self.inside.lists.next.items c.self.inside.lists.previous.items 0) absent)))

pub returns-then-is_listed-clause-gone : goal.returns-then-is_listed-clause-gone
returns-then-is_listed-clause-gone c =
    let heads = c.self.invariant.heads in
    let low : 0 < c.self.inside.lists.heads = omega (arith, heads) in
    gone-without c.args.slot (list_from c.self.inside.lists.heads c.self.inside.lists.next.items c.self.inside.lists.previous.items 0) _ (c.unlink.ensures.lists 0 low) (c.self.invariant.links.distinct 0 low)

pub returns-then-is_listed-clause-others : goal.returns-then-is_listed-clause-others
returns-then-is_listed-clause-others c other differs =
    let heads = c.self.invariant.heads in
    let low : 0 < c.self.inside.lists.heads = omega (arith, heads) in
    rw (← c.self.view_is) (others-without c.args.slot (list_from c.self.inside.lists.heads c.self.inside.lists.next.items c.self.inside.lists.previous.items 0) _ (c.unlink.ensures.lists 0 low) other differs)

pub returns-then-is_listed-clause-rest : goal.returns-then-is_listed-clause-rest
returns-then-is_listed-clause-rest c at past =
    let heads = c.self.invariant.heads in
    let low : 0 < c.self.inside.lists.heads = omega (arith, heads) in
    let before = rw (← c.self.view_is) at past in
    rw (← c.self.view_is) (ap (λ xs. slots_from xs at) (c.unlink.ensures.lists 0 low) ∙ from-without c.args.slot (list_from c.self.inside.lists.heads c.self.inside.lists.next.items c.self.inside.lists.previous.items 0) at before)

pub returns-then-is_listed-clause-on : goal.returns-then-is_listed-clause-on
returns-then-is_listed-clause-on c at past on =
    let heads = c.self.invariant.heads in
    let low : 0 < c.self.inside.lists.heads = omega (arith, heads) in
    let past_before = rw (← c.self.view_is) at past in
    let on_before = rw (← c.self.view_is) at on in
    subst (λ xs. IsOn at xs) (sym (c.unlink.ensures.lists 0 low)) (on-without c.args.slot (list_from c.self.inside.lists.heads c.self.inside.lists.next.items c.self.inside.lists.previous.items 0) at past_before on_before)
