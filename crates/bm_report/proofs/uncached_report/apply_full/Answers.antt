use Rattle.std.proofs.Common.{List, false, refl, subst, sym, ap, ◌∙◌, arith}
use Rattle.std.proofs.lemmas.List.{length-map}
use Rattle.bm_base.specs.declared.limits.TheConstants.{MAX_NUMBERS}
use Rattle.bm_base.specs.Machine.Events.{report}
use Rattle.bm_report.specs.declared.types.ReportedSlot.{ReportedSlot}
use Rattle.bm_report.specs.declared.report_counts.ReportCounts.{ReportCounts}
use Rattle.bm_arena.specs.HeldMaps.{holdings_of}
use Rattle.bm_report.specs.DuringReport.{AreAtSlots, HaveCapacity, IsExcessGood, IsOncePerNode}
use Rattle.bm_report.specs.ReportedBlocks.{reported_to_part}
use Rattle.bm_report.specs.Ready.{named_in, named_of, HasGoodExcess}
use Rattle.bm_report.proofs.Maps.{Held}
use Rattle.bm_report.proofs.Places.{list_within}
use Rattle.bm_report.proofs.SingleReplicas.{good_excess}
use Rattle.bm_report.proofs.LastingInvariants.{once-reported, good-reported}
use Rattle.bm_report.proofs.ByNumber.{named-ids, here_of, capacity_for_named, reported_back, entered_as, counted_as, drops_as, few_reported, reported_slot}
use Rattle.bm_report.proofs.Stages.{behind-fits, replicas1, here1, capacity1, once1, here4, good4, replicas5, blocks5, entries5, free5, others5, added5, removed5}
use Rattle.bm_report.proofs.uncached_report.apply_full.Goals as goal

abbrev start : ReportCounts
start = record { added = 0; removed = 0; steps = 1; has_invalid_excess = false }

pub add_reported_entries-requires-clause-set : goal.add_reported_entries-requires-clause-set
add_reported_entries-requires-clause-set c =
    let H : List ReportedSlot → Type 0 = λ l. AreAtSlots c.put_delimiter.new.self l in
    let R : List ReportedSlot → Type 0 = λ l. HaveCapacity c.put_delimiter.new.self c.args.storage l in
    let same = named-ids c.args.arena.now c.put_delimiter.new.self (reported_to_part c.args.part c.args.entries.now) c.put_delimiter.ensures.others.ids in
    let numbers = few_reported c.args.part c.args.entries.now MAX_NUMBERS c.requires.few in
    record {
      here = subst H (sym same) (here1 c.args.topology.now.cluster c.args.storage (named_of c.args.arena.now (reported_to_part c.args.part c.args.entries.now)) c.args.arena.now c.put_delimiter.new.self c.show_invariant.ensures (here_of c.args.arena.now c.args.storage (reported_to_part c.args.part c.args.entries.now) c.requires.ready.places) (capacity_for_named c.args.arena.now c.args.storage (reported_to_part c.args.part c.args.entries.now) c.requires.ready.places) c.put_delimiter.ensures.list c.put_delimiter.ensures.others);
      capacity = subst R (sym same) (capacity1 c.args.topology.now.cluster c.args.storage (named_of c.args.arena.now (reported_to_part c.args.part c.args.entries.now)) c.args.arena.now c.put_delimiter.new.self c.show_invariant.ensures (here_of c.args.arena.now c.args.storage (reported_to_part c.args.part c.args.entries.now) c.requires.ready.places) (capacity_for_named c.args.arena.now c.args.storage (reported_to_part c.args.part c.args.entries.now) c.requires.ready.places) c.put_delimiter.ensures.list c.put_delimiter.ensures.others);
      head = c.put_delimiter.ensures.others.heads c.args.storage c.requires.ready.head;
      once = once1 c.args.topology.now.cluster c.args.storage (named_of c.args.arena.now (reported_to_part c.args.part c.args.entries.now)) c.args.arena.now c.put_delimiter.new.self c.show_invariant.ensures (here_of c.args.arena.now c.args.storage (reported_to_part c.args.part c.args.entries.now) c.requires.ready.places) (capacity_for_named c.args.arena.now c.args.storage (reported_to_part c.args.part c.args.entries.now) c.requires.ready.places) c.put_delimiter.ensures.list c.put_delimiter.ensures.others c.requires.once;
      small = record { added = omega (arith, numbers); removed = omega (arith, numbers); steps = omega (arith, numbers) };
    }

pub sweep_unreported-requires-clause-removed : goal.sweep_unreported-requires-clause-removed
sweep_unreported-requires-clause-removed c =
    let numbers = few_reported c.args.part c.args.entries.now MAX_NUMBERS c.requires.few in
    let length_is = length-map (reported_to_part c.args.part c.args.entries.now) (named_in c.args.arena.now) in
    let listed = list_within c.args.arena.now c.args.storage c.show_invariant.ensures in
    let slots = c.slot_bound-bound.type_inv in
    let g = behind-fits c.args.topology.now.cluster c.args.storage (named_of c.args.arena.now (reported_to_part c.args.part c.args.entries.now)) c.args.arena.now c.put_delimiter.new.self c.show_invariant.ensures (here_of c.args.arena.now c.args.storage (reported_to_part c.args.part c.args.entries.now) c.requires.ready.places) (capacity_for_named c.args.arena.now c.args.storage (reported_to_part c.args.part c.args.entries.now) c.requires.ready.places) c.put_delimiter.ensures.list c.put_delimiter.ensures.others c.add_reported_entries.new.arena (entered_as c.args.topology.now.cluster c.args.storage (reported_to_part c.args.part c.args.entries.now) c.args.arena.now c.put_delimiter.new.self c.add_reported_entries.new.arena c.put_delimiter.ensures.others.ids c.add_reported_entries.ensures.entered) in
    let k = (counted_as c.args.topology.now.cluster c.args.storage (reported_to_part c.args.part c.args.entries.now) c.args.arena.now c.put_delimiter.new.self c.add_reported_entries.new.arena start c.add_reported_entries.new.tally c.put_delimiter.ensures.others.ids c.add_reported_entries.ensures.counted) in
    omega (arith, numbers, length_is, listed, slots, c.slot_bound-bound.ensures.bound, g, k.few_removed)

pub sweep_unreported-requires-clause-steps : goal.sweep_unreported-requires-clause-steps
sweep_unreported-requires-clause-steps c =
    let numbers = few_reported c.args.part c.args.entries.now MAX_NUMBERS c.requires.few in
    let length_is = length-map (reported_to_part c.args.part c.args.entries.now) (named_in c.args.arena.now) in
    let listed = list_within c.args.arena.now c.args.storage c.show_invariant.ensures in
    let slots = c.slot_bound-bound.type_inv in
    let g = behind-fits c.args.topology.now.cluster c.args.storage (named_of c.args.arena.now (reported_to_part c.args.part c.args.entries.now)) c.args.arena.now c.put_delimiter.new.self c.show_invariant.ensures (here_of c.args.arena.now c.args.storage (reported_to_part c.args.part c.args.entries.now) c.requires.ready.places) (capacity_for_named c.args.arena.now c.args.storage (reported_to_part c.args.part c.args.entries.now) c.requires.ready.places) c.put_delimiter.ensures.list c.put_delimiter.ensures.others c.add_reported_entries.new.arena (entered_as c.args.topology.now.cluster c.args.storage (reported_to_part c.args.part c.args.entries.now) c.args.arena.now c.put_delimiter.new.self c.add_reported_entries.new.arena c.put_delimiter.ensures.others.ids c.add_reported_entries.ensures.entered) in
    let k = (counted_as c.args.topology.now.cluster c.args.storage (reported_to_part c.args.part c.args.entries.now) c.args.arena.now c.put_delimiter.new.self c.add_reported_entries.new.arena start c.add_reported_entries.new.tally c.put_delimiter.ensures.others.ids c.add_reported_entries.ensures.counted) in
    omega (arith, numbers, length_is, listed, slots, c.slot_bound-bound.ensures.bound, g, k.few_removed, k.steps)

pub drop_invalid_excess_by_number-requires-clause-here : goal.drop_invalid_excess_by_number-requires-clause-here
drop_invalid_excess_by_number-requires-clause-here c =
    let H : List ReportedSlot → Type 0 = λ l. AreAtSlots c.take_delimiter.new.self l in
    subst H (sym (named-ids c.args.arena.now c.take_delimiter.new.self (reported_to_part c.args.part c.args.entries.now) (c.take_delimiter.ensures.others.ids ∙ c.sweep_unreported.ensures.ids ∙ c.add_reported_entries.ensures.entered.frame.ids ∙ c.put_delimiter.ensures.others.ids))) (here4 c.args.topology.now.cluster c.args.storage (named_of c.args.arena.now (reported_to_part c.args.part c.args.entries.now)) c.args.arena.now c.put_delimiter.new.self c.show_invariant.ensures (here_of c.args.arena.now c.args.storage (reported_to_part c.args.part c.args.entries.now) c.requires.ready.places) (capacity_for_named c.args.arena.now c.args.storage (reported_to_part c.args.part c.args.entries.now) c.requires.ready.places) c.put_delimiter.ensures.list c.put_delimiter.ensures.others c.add_reported_entries.new.arena c.sweep_unreported.new.arena c.take_delimiter.new.self c.show_invariant-2.ensures (entered_as c.args.topology.now.cluster c.args.storage (reported_to_part c.args.part c.args.entries.now) c.args.arena.now c.put_delimiter.new.self c.add_reported_entries.new.arena c.put_delimiter.ensures.others.ids c.add_reported_entries.ensures.entered) start c.add_reported_entries.new.tally c.sweep_unreported.new.tally c.sweep_unreported.ensures c.take_delimiter.ensures.others c.show_invariant-3.ensures)

pub drop_invalid_excess_by_number-requires-clause-good : goal.drop_invalid_excess_by_number-requires-clause-good
drop_invalid_excess_by_number-requires-clause-good c off =
    let P : Held → Type 0 = λ K. IsExcessGood K in
    let k = (counted_as c.args.topology.now.cluster c.args.storage (reported_to_part c.args.part c.args.entries.now) c.args.arena.now c.put_delimiter.new.self c.add_reported_entries.new.arena start c.add_reported_entries.new.tally c.put_delimiter.ensures.others.ids c.add_reported_entries.ensures.counted) in
    let before = k.good (sym c.sweep_unreported.ensures.has_invalid_excess ∙ off) in
    let good1 = subst P (sym (replicas1 c.args.topology.now.cluster c.args.storage (named_of c.args.arena.now (reported_to_part c.args.part c.args.entries.now)) c.args.arena.now c.put_delimiter.new.self c.show_invariant.ensures (here_of c.args.arena.now c.args.storage (reported_to_part c.args.part c.args.entries.now) c.requires.ready.places) (capacity_for_named c.args.arena.now c.args.storage (reported_to_part c.args.part c.args.entries.now) c.requires.ready.places) c.put_delimiter.ensures.list c.put_delimiter.ensures.others)) (good_excess _ c.requires.good) in
    good4 c.args.topology.now.cluster c.args.storage (named_of c.args.arena.now (reported_to_part c.args.part c.args.entries.now)) c.args.arena.now c.put_delimiter.new.self c.show_invariant.ensures (here_of c.args.arena.now c.args.storage (reported_to_part c.args.part c.args.entries.now) c.requires.ready.places) (capacity_for_named c.args.arena.now c.args.storage (reported_to_part c.args.part c.args.entries.now) c.requires.ready.places) c.put_delimiter.ensures.list c.put_delimiter.ensures.others c.add_reported_entries.new.arena c.sweep_unreported.new.arena c.take_delimiter.new.self c.show_invariant-2.ensures (entered_as c.args.topology.now.cluster c.args.storage (reported_to_part c.args.part c.args.entries.now) c.args.arena.now c.put_delimiter.new.self c.add_reported_entries.new.arena c.put_delimiter.ensures.others.ids c.add_reported_entries.ensures.entered) start c.add_reported_entries.new.tally c.sweep_unreported.new.tally c.sweep_unreported.ensures c.take_delimiter.ensures.others c.show_invariant-3.ensures (before.1 good1)

pub overflow_add-result : goal.overflow_add-result
overflow_add-result c =
    let numbers = few_reported c.args.part c.args.entries.now MAX_NUMBERS c.requires.few in
    let length_is = length-map (reported_to_part c.args.part c.args.entries.now) (named_in c.args.arena.now) in
    let listed = list_within c.args.arena.now c.args.storage c.show_invariant.ensures in
    let slots = c.slot_bound-bound.type_inv in
    let g = behind-fits c.args.topology.now.cluster c.args.storage (named_of c.args.arena.now (reported_to_part c.args.part c.args.entries.now)) c.args.arena.now c.put_delimiter.new.self c.show_invariant.ensures (here_of c.args.arena.now c.args.storage (reported_to_part c.args.part c.args.entries.now) c.requires.ready.places) (capacity_for_named c.args.arena.now c.args.storage (reported_to_part c.args.part c.args.entries.now) c.requires.ready.places) c.put_delimiter.ensures.list c.put_delimiter.ensures.others c.add_reported_entries.new.arena (entered_as c.args.topology.now.cluster c.args.storage (reported_to_part c.args.part c.args.entries.now) c.args.arena.now c.put_delimiter.new.self c.add_reported_entries.new.arena c.put_delimiter.ensures.others.ids c.add_reported_entries.ensures.entered) in
    let k = (counted_as c.args.topology.now.cluster c.args.storage (reported_to_part c.args.part c.args.entries.now) c.args.arena.now c.put_delimiter.new.self c.add_reported_entries.new.arena start c.add_reported_entries.new.tally c.put_delimiter.ensures.others.ids c.add_reported_entries.ensures.counted) in
    omega (arith, numbers, length_is, listed, slots, c.slot_bound-bound.ensures.bound, g, k.few_removed, k.steps, c.sweep_unreported.ensures.steps)

pub returns-clause-replicas : goal.returns-clause-replicas
returns-clause-replicas c =
    replicas5 c.args.topology.now.cluster c.args.storage (named_of c.args.arena.now (reported_to_part c.args.part c.args.entries.now)) c.args.arena.now c.put_delimiter.new.self c.show_invariant.ensures (here_of c.args.arena.now c.args.storage (reported_to_part c.args.part c.args.entries.now) c.requires.ready.places) (capacity_for_named c.args.arena.now c.args.storage (reported_to_part c.args.part c.args.entries.now) c.requires.ready.places) c.put_delimiter.ensures.list c.put_delimiter.ensures.others c.add_reported_entries.new.arena c.sweep_unreported.new.arena c.take_delimiter.new.self c.show_invariant-2.ensures (entered_as c.args.topology.now.cluster c.args.storage (reported_to_part c.args.part c.args.entries.now) c.args.arena.now c.put_delimiter.new.self c.add_reported_entries.new.arena c.put_delimiter.ensures.others.ids c.add_reported_entries.ensures.entered) start c.add_reported_entries.new.tally c.sweep_unreported.new.tally c.sweep_unreported.ensures c.take_delimiter.ensures.others c.show_invariant-3.ensures c.drop_invalid_excess_by_number.new.arena (drops_as c.args.storage (reported_to_part c.args.part c.args.entries.now) c.args.arena.now c.take_delimiter.new.self c.drop_invalid_excess_by_number.new.arena (c.take_delimiter.ensures.others.ids ∙ c.sweep_unreported.ensures.ids ∙ c.add_reported_entries.ensures.entered.frame.ids ∙ c.put_delimiter.ensures.others.ids) c.drop_invalid_excess_by_number.ensures)
    ∙ ap (λ l. (report c.args.topology.now.cluster (holdings_of c.args.arena.now) c.args.storage l).replicas) (reported_back c.args.arena.now (reported_to_part c.args.part c.args.entries.now))

pub returns-clause-blocks : goal.returns-clause-blocks
returns-clause-blocks c = blocks5 c.args.topology.now.cluster c.args.storage (named_of c.args.arena.now (reported_to_part c.args.part c.args.entries.now)) c.args.arena.now c.put_delimiter.new.self c.show_invariant.ensures (here_of c.args.arena.now c.args.storage (reported_to_part c.args.part c.args.entries.now) c.requires.ready.places) (capacity_for_named c.args.arena.now c.args.storage (reported_to_part c.args.part c.args.entries.now) c.requires.ready.places) c.put_delimiter.ensures.list c.put_delimiter.ensures.others c.add_reported_entries.new.arena c.sweep_unreported.new.arena c.take_delimiter.new.self c.show_invariant-2.ensures (entered_as c.args.topology.now.cluster c.args.storage (reported_to_part c.args.part c.args.entries.now) c.args.arena.now c.put_delimiter.new.self c.add_reported_entries.new.arena c.put_delimiter.ensures.others.ids c.add_reported_entries.ensures.entered) start c.add_reported_entries.new.tally c.sweep_unreported.new.tally c.sweep_unreported.ensures c.take_delimiter.ensures.others c.show_invariant-3.ensures c.drop_invalid_excess_by_number.new.arena (drops_as c.args.storage (reported_to_part c.args.part c.args.entries.now) c.args.arena.now c.take_delimiter.new.self c.drop_invalid_excess_by_number.new.arena (c.take_delimiter.ensures.others.ids ∙ c.sweep_unreported.ensures.ids ∙ c.add_reported_entries.ensures.entered.frame.ids ∙ c.put_delimiter.ensures.others.ids) c.drop_invalid_excess_by_number.ensures)

pub returns-clause-entries : goal.returns-clause-entries
returns-clause-entries c = entries5 c.args.topology.now.cluster c.args.storage (named_of c.args.arena.now (reported_to_part c.args.part c.args.entries.now)) c.args.arena.now c.put_delimiter.new.self c.show_invariant.ensures (here_of c.args.arena.now c.args.storage (reported_to_part c.args.part c.args.entries.now) c.requires.ready.places) (capacity_for_named c.args.arena.now c.args.storage (reported_to_part c.args.part c.args.entries.now) c.requires.ready.places) c.put_delimiter.ensures.list c.put_delimiter.ensures.others c.add_reported_entries.new.arena c.sweep_unreported.new.arena c.take_delimiter.new.self c.show_invariant-2.ensures (entered_as c.args.topology.now.cluster c.args.storage (reported_to_part c.args.part c.args.entries.now) c.args.arena.now c.put_delimiter.new.self c.add_reported_entries.new.arena c.put_delimiter.ensures.others.ids c.add_reported_entries.ensures.entered) start c.add_reported_entries.new.tally c.sweep_unreported.new.tally c.sweep_unreported.ensures c.take_delimiter.ensures.others c.show_invariant-3.ensures c.drop_invalid_excess_by_number.new.arena (drops_as c.args.storage (reported_to_part c.args.part c.args.entries.now) c.args.arena.now c.take_delimiter.new.self c.drop_invalid_excess_by_number.new.arena (c.take_delimiter.ensures.others.ids ∙ c.sweep_unreported.ensures.ids ∙ c.add_reported_entries.ensures.entered.frame.ids ∙ c.put_delimiter.ensures.others.ids) c.drop_invalid_excess_by_number.ensures)

pub returns-clause-others : goal.returns-clause-others
returns-clause-others c slot apart absent out = others5 c.args.topology.now.cluster c.args.storage (named_of c.args.arena.now (reported_to_part c.args.part c.args.entries.now)) c.args.arena.now c.put_delimiter.new.self c.show_invariant.ensures (here_of c.args.arena.now c.args.storage (reported_to_part c.args.part c.args.entries.now) c.requires.ready.places) (capacity_for_named c.args.arena.now c.args.storage (reported_to_part c.args.part c.args.entries.now) c.requires.ready.places) c.put_delimiter.ensures.list c.put_delimiter.ensures.others c.add_reported_entries.new.arena c.sweep_unreported.new.arena c.take_delimiter.new.self c.show_invariant-2.ensures (entered_as c.args.topology.now.cluster c.args.storage (reported_to_part c.args.part c.args.entries.now) c.args.arena.now c.put_delimiter.new.self c.add_reported_entries.new.arena c.put_delimiter.ensures.others.ids c.add_reported_entries.ensures.entered) start c.add_reported_entries.new.tally c.sweep_unreported.new.tally c.sweep_unreported.ensures c.take_delimiter.ensures.others c.show_invariant-3.ensures c.drop_invalid_excess_by_number.new.arena (drops_as c.args.storage (reported_to_part c.args.part c.args.entries.now) c.args.arena.now c.take_delimiter.new.self c.drop_invalid_excess_by_number.new.arena (c.take_delimiter.ensures.others.ids ∙ c.sweep_unreported.ensures.ids ∙ c.add_reported_entries.ensures.entered.frame.ids ∙ c.put_delimiter.ensures.others.ids) c.drop_invalid_excess_by_number.ensures) slot apart absent
    (λ m. let led = reported_slot c.args.arena.now c.args.storage (reported_to_part c.args.part c.args.entries.now) c.requires.ready.places slot m in out led.0 led.1 led.2)

pub returns-clause-free : goal.returns-clause-free
returns-clause-free c = free5 c.args.topology.now.cluster c.args.storage (named_of c.args.arena.now (reported_to_part c.args.part c.args.entries.now)) c.args.arena.now c.put_delimiter.new.self c.show_invariant.ensures (here_of c.args.arena.now c.args.storage (reported_to_part c.args.part c.args.entries.now) c.requires.ready.places) (capacity_for_named c.args.arena.now c.args.storage (reported_to_part c.args.part c.args.entries.now) c.requires.ready.places) c.put_delimiter.ensures.list c.put_delimiter.ensures.others c.add_reported_entries.new.arena c.sweep_unreported.new.arena c.take_delimiter.new.self c.show_invariant-2.ensures (entered_as c.args.topology.now.cluster c.args.storage (reported_to_part c.args.part c.args.entries.now) c.args.arena.now c.put_delimiter.new.self c.add_reported_entries.new.arena c.put_delimiter.ensures.others.ids c.add_reported_entries.ensures.entered) start c.add_reported_entries.new.tally c.sweep_unreported.new.tally c.sweep_unreported.ensures c.take_delimiter.ensures.others c.show_invariant-3.ensures c.drop_invalid_excess_by_number.new.arena (drops_as c.args.storage (reported_to_part c.args.part c.args.entries.now) c.args.arena.now c.take_delimiter.new.self c.drop_invalid_excess_by_number.new.arena (c.take_delimiter.ensures.others.ids ∙ c.sweep_unreported.ensures.ids ∙ c.add_reported_entries.ensures.entered.frame.ids ∙ c.put_delimiter.ensures.others.ids) c.drop_invalid_excess_by_number.ensures) c.requires.free c.take_delimiter.ensures.marks

pub returns-clause-added : goal.returns-clause-added
returns-clause-added c = added5 c.args.topology.now.cluster c.args.storage (named_of c.args.arena.now (reported_to_part c.args.part c.args.entries.now)) c.args.arena.now c.put_delimiter.new.self c.show_invariant.ensures (here_of c.args.arena.now c.args.storage (reported_to_part c.args.part c.args.entries.now) c.requires.ready.places) (capacity_for_named c.args.arena.now c.args.storage (reported_to_part c.args.part c.args.entries.now) c.requires.ready.places) c.put_delimiter.ensures.list c.put_delimiter.ensures.others c.add_reported_entries.new.arena c.sweep_unreported.new.arena c.take_delimiter.new.self c.show_invariant-2.ensures (entered_as c.args.topology.now.cluster c.args.storage (reported_to_part c.args.part c.args.entries.now) c.args.arena.now c.put_delimiter.new.self c.add_reported_entries.new.arena c.put_delimiter.ensures.others.ids c.add_reported_entries.ensures.entered) start c.add_reported_entries.new.tally c.sweep_unreported.new.tally c.sweep_unreported.ensures c.take_delimiter.ensures.others c.show_invariant-3.ensures c.drop_invalid_excess_by_number.new.arena (drops_as c.args.storage (reported_to_part c.args.part c.args.entries.now) c.args.arena.now c.take_delimiter.new.self c.drop_invalid_excess_by_number.new.arena (c.take_delimiter.ensures.others.ids ∙ c.sweep_unreported.ensures.ids ∙ c.add_reported_entries.ensures.entered.frame.ids ∙ c.put_delimiter.ensures.others.ids) c.drop_invalid_excess_by_number.ensures) (counted_as c.args.topology.now.cluster c.args.storage (reported_to_part c.args.part c.args.entries.now) c.args.arena.now c.put_delimiter.new.self c.add_reported_entries.new.arena start c.add_reported_entries.new.tally c.put_delimiter.ensures.others.ids c.add_reported_entries.ensures.counted) refl refl

pub returns-clause-removed : goal.returns-clause-removed
returns-clause-removed c = removed5 c.args.topology.now.cluster c.args.storage (named_of c.args.arena.now (reported_to_part c.args.part c.args.entries.now)) c.args.arena.now c.put_delimiter.new.self c.show_invariant.ensures (here_of c.args.arena.now c.args.storage (reported_to_part c.args.part c.args.entries.now) c.requires.ready.places) (capacity_for_named c.args.arena.now c.args.storage (reported_to_part c.args.part c.args.entries.now) c.requires.ready.places) c.put_delimiter.ensures.list c.put_delimiter.ensures.others c.add_reported_entries.new.arena c.sweep_unreported.new.arena c.take_delimiter.new.self c.show_invariant-2.ensures (entered_as c.args.topology.now.cluster c.args.storage (reported_to_part c.args.part c.args.entries.now) c.args.arena.now c.put_delimiter.new.self c.add_reported_entries.new.arena c.put_delimiter.ensures.others.ids c.add_reported_entries.ensures.entered) start c.add_reported_entries.new.tally c.sweep_unreported.new.tally c.sweep_unreported.ensures c.take_delimiter.ensures.others c.show_invariant-3.ensures c.drop_invalid_excess_by_number.new.arena (drops_as c.args.storage (reported_to_part c.args.part c.args.entries.now) c.args.arena.now c.take_delimiter.new.self c.drop_invalid_excess_by_number.new.arena (c.take_delimiter.ensures.others.ids ∙ c.sweep_unreported.ensures.ids ∙ c.add_reported_entries.ensures.entered.frame.ids ∙ c.put_delimiter.ensures.others.ids) c.drop_invalid_excess_by_number.ensures) (counted_as c.args.topology.now.cluster c.args.storage (reported_to_part c.args.part c.args.entries.now) c.args.arena.now c.put_delimiter.new.self c.add_reported_entries.new.arena start c.add_reported_entries.new.tally c.put_delimiter.ensures.others.ids c.add_reported_entries.ensures.counted) refl refl

pub returns-clause-once : goal.returns-clause-once
unfolding holdings_of
returns-clause-once c =
    let P : Held → Type 0 = λ K. IsOncePerNode c.args.topology.now.cluster K in
    subst P (sym (returns-clause-replicas c)) (once-reported c.args.topology.now.cluster (holdings_of c.args.arena.now) c.args.storage (reported_to_part c.args.part c.args.entries.now) c.requires.once)

pub returns-clause-good : goal.returns-clause-good
unfolding holdings_of
returns-clause-good c =
    let P : Held → Type 0 = λ K. HasGoodExcess K in
    subst P (sym (returns-clause-replicas c)) (good-reported c.args.topology.now.cluster (holdings_of c.args.arena.now) c.args.storage (reported_to_part c.args.part c.args.entries.now) c.requires.good)
