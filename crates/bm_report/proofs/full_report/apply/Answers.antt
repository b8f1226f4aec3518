use Rattle.std.proofs.Common.{◌≡◌, ◌++◌, ℕ, List, length, take, false, refl, subst, sym, ap, ◌∙◌, arith}
use Rattle.std.proofs.lemmas.List.{append-nil, length-append, nil_from_length}
use Rattle.std.proofs.Math.Seq.{take-append_seam}
use Rattle.bm_maps.specs.SlotLists.{IsMember}
use Rattle.bm_report.specs.declared.report_counts.ReportCounts.{ReportCounts}
use Rattle.bm_report.specs.DuringReport.{behind, IsExcessGood}
use Rattle.bm_report.proofs.AlreadyThere.{already_all}
use Rattle.bm_report.proofs.Maps.{Held}
use Rattle.bm_report.proofs.Stages.{behind-fits, replicas1, here1, capacity1, once1, here4, good4, replicas5, blocks5, entries5, free5, listed5, changed5, added5, removed5}
use Rattle.bm_report.proofs.full_report.apply.Goals as goal

abbrev start : ReportCounts
start = record { added = 0; removed = 0; steps = 1; has_invalid_excess = false }

pub add_all_reported-requires-clause-here : goal.add_all_reported-requires-clause-here
add_all_reported-requires-clause-here c =
    here1 c.args.topology.now.cluster c.args.storage c.args.named.now c.args.arena.now c.put_delimiter.new.self c.show_invariant.ensures c.requires.here c.requires.capacity c.put_delimiter.ensures.list c.put_delimiter.ensures.others

pub add_all_reported-requires-clause-capacity : goal.add_all_reported-requires-clause-capacity
add_all_reported-requires-clause-capacity c =
    capacity1 c.args.topology.now.cluster c.args.storage c.args.named.now c.args.arena.now c.put_delimiter.new.self c.show_invariant.ensures c.requires.here c.requires.capacity c.put_delimiter.ensures.list c.put_delimiter.ensures.others

pub add_all_reported-requires-clause-once : goal.add_all_reported-requires-clause-once
add_all_reported-requires-clause-once c =
    once1 c.args.topology.now.cluster c.args.storage c.args.named.now c.args.arena.now c.put_delimiter.new.self c.show_invariant.ensures c.requires.here c.requires.capacity c.put_delimiter.ensures.list c.put_delimiter.ensures.others c.requires.once

pub sweep-requires-clause-removed : goal.sweep-requires-clause-removed
sweep-requires-clause-removed c = let h = c.args.changed.now.small in let g = behind-fits c.args.topology.now.cluster c.args.storage c.args.named.now c.args.arena.now c.put_delimiter.new.self c.show_invariant.ensures c.requires.here c.requires.capacity c.put_delimiter.ensures.list c.put_delimiter.ensures.others c.add_all_reported.new.arena c.add_all_reported.ensures.entered in omega (arith, h, g, c.requires.space, c.add_all_reported.ensures.counted.few_removed)

pub sweep-requires-clause-steps : goal.sweep-requires-clause-steps
sweep-requires-clause-steps c =
    let h = c.args.changed.now.small in
    let g = behind-fits c.args.topology.now.cluster c.args.storage c.args.named.now c.args.arena.now c.put_delimiter.new.self c.show_invariant.ensures c.requires.here c.requires.capacity c.put_delimiter.ensures.list c.put_delimiter.ensures.others c.add_all_reported.new.arena c.add_all_reported.ensures.entered in
    omega (arith, h, g, c.requires.space, c.add_all_reported.ensures.counted.few_removed, c.add_all_reported.ensures.counted.steps)

pub sweep-requires-clause-space : goal.sweep-requires-clause-space
sweep-requires-clause-space c = let g = behind-fits c.args.topology.now.cluster c.args.storage c.args.named.now c.args.arena.now c.put_delimiter.new.self c.show_invariant.ensures c.requires.here c.requires.capacity c.put_delimiter.ensures.list c.put_delimiter.ensures.others c.add_all_reported.new.arena c.add_all_reported.ensures.entered in omega (arith, g, c.requires.space, c.add_all_reported.ensures.grown, c.add_all_reported.ensures.capacity)

pub drop_invalid_excess-requires-clause-here : goal.drop_invalid_excess-requires-clause-here
drop_invalid_excess-requires-clause-here c =
    here4 c.args.topology.now.cluster c.args.storage c.args.named.now c.args.arena.now c.put_delimiter.new.self c.show_invariant.ensures c.requires.here c.requires.capacity c.put_delimiter.ensures.list c.put_delimiter.ensures.others
    c.add_all_reported.new.arena c.sweep.new.arena c.take_delimiter.new.self c.show_invariant-2.ensures c.add_all_reported.ensures.entered start c.add_all_reported.new.tally c.sweep.new.tally c.sweep.ensures.swept c.take_delimiter.ensures.others c.show_invariant-3.ensures

pub drop_invalid_excess-requires-clause-good : goal.drop_invalid_excess-requires-clause-good
drop_invalid_excess-requires-clause-good c off =
    let P : Held → Type 0 = λ K. IsExcessGood K in
    let before = c.add_all_reported.ensures.counted.good (sym c.sweep.ensures.swept.has_invalid_excess ∙ off) in
    let good1 = subst P (sym (replicas1 c.args.topology.now.cluster c.args.storage c.args.named.now c.args.arena.now c.put_delimiter.new.self c.show_invariant.ensures c.requires.here c.requires.capacity c.put_delimiter.ensures.list c.put_delimiter.ensures.others)) c.requires.good in
    good4 c.args.topology.now.cluster c.args.storage c.args.named.now c.args.arena.now c.put_delimiter.new.self c.show_invariant.ensures c.requires.here c.requires.capacity c.put_delimiter.ensures.list c.put_delimiter.ensures.others
    c.add_all_reported.new.arena c.sweep.new.arena c.take_delimiter.new.self c.show_invariant-2.ensures c.add_all_reported.ensures.entered start c.add_all_reported.new.tally c.sweep.new.tally c.sweep.ensures.swept c.take_delimiter.ensures.others c.show_invariant-3.ensures
    (before.1 good1)

pub overflow_add-result : goal.overflow_add-result
overflow_add-result c =
    let h = c.args.changed.now.small in
    let g = behind-fits c.args.topology.now.cluster c.args.storage c.args.named.now c.args.arena.now c.put_delimiter.new.self c.show_invariant.ensures c.requires.here c.requires.capacity c.put_delimiter.ensures.list c.put_delimiter.ensures.others c.add_all_reported.new.arena c.add_all_reported.ensures.entered in
    omega (arith, h, g, c.requires.space, c.add_all_reported.ensures.counted.few_removed, c.add_all_reported.ensures.counted.steps, c.sweep.ensures.swept.steps)

pub returns-clause-replicas : goal.returns-clause-replicas
returns-clause-replicas c =
    replicas5 c.args.topology.now.cluster c.args.storage c.args.named.now c.args.arena.now c.put_delimiter.new.self c.show_invariant.ensures c.requires.here c.requires.capacity c.put_delimiter.ensures.list c.put_delimiter.ensures.others
    c.add_all_reported.new.arena c.sweep.new.arena c.take_delimiter.new.self c.show_invariant-2.ensures c.add_all_reported.ensures.entered start c.add_all_reported.new.tally c.sweep.new.tally c.sweep.ensures.swept c.take_delimiter.ensures.others c.show_invariant-3.ensures
    c.drop_invalid_excess.new.arena c.drop_invalid_excess.ensures

pub returns-clause-blocks : goal.returns-clause-blocks
returns-clause-blocks c =
    blocks5 c.args.topology.now.cluster c.args.storage c.args.named.now c.args.arena.now c.put_delimiter.new.self c.show_invariant.ensures c.requires.here c.requires.capacity c.put_delimiter.ensures.list c.put_delimiter.ensures.others
    c.add_all_reported.new.arena c.sweep.new.arena c.take_delimiter.new.self c.show_invariant-2.ensures c.add_all_reported.ensures.entered start c.add_all_reported.new.tally c.sweep.new.tally c.sweep.ensures.swept c.take_delimiter.ensures.others c.show_invariant-3.ensures
    c.drop_invalid_excess.new.arena c.drop_invalid_excess.ensures

pub returns-clause-entries : goal.returns-clause-entries
returns-clause-entries c =
    entries5 c.args.topology.now.cluster c.args.storage c.args.named.now c.args.arena.now c.put_delimiter.new.self c.show_invariant.ensures c.requires.here c.requires.capacity c.put_delimiter.ensures.list c.put_delimiter.ensures.others
    c.add_all_reported.new.arena c.sweep.new.arena c.take_delimiter.new.self c.show_invariant-2.ensures c.add_all_reported.ensures.entered start c.add_all_reported.new.tally c.sweep.new.tally c.sweep.ensures.swept c.take_delimiter.ensures.others c.show_invariant-3.ensures
    c.drop_invalid_excess.new.arena c.drop_invalid_excess.ensures

pub returns-clause-listed : goal.returns-clause-listed
returns-clause-listed c =
    listed5 c.args.topology.now.cluster c.args.storage c.args.named.now c.args.arena.now c.put_delimiter.new.self c.show_invariant.ensures c.requires.here c.requires.capacity c.put_delimiter.ensures.list c.put_delimiter.ensures.others
    c.add_all_reported.new.arena c.sweep.new.arena c.take_delimiter.new.self c.show_invariant-2.ensures c.add_all_reported.ensures.entered start c.add_all_reported.new.tally c.sweep.new.tally c.sweep.ensures.swept c.take_delimiter.ensures.others c.show_invariant-3.ensures
    c.drop_invalid_excess.new.arena c.drop_invalid_excess.ensures c.args.changed.now.items c.add_all_reported.new.changed.items c.sweep.new.changed.items c.add_all_reported.ensures.listed c.sweep.ensures.listed

pub returns-clause-free : goal.returns-clause-free
returns-clause-free c =
    free5 c.args.topology.now.cluster c.args.storage c.args.named.now c.args.arena.now c.put_delimiter.new.self c.show_invariant.ensures c.requires.here c.requires.capacity c.put_delimiter.ensures.list c.put_delimiter.ensures.others
    c.add_all_reported.new.arena c.sweep.new.arena c.take_delimiter.new.self c.show_invariant-2.ensures c.add_all_reported.ensures.entered start c.add_all_reported.new.tally c.sweep.new.tally c.sweep.ensures.swept c.take_delimiter.ensures.others c.show_invariant-3.ensures
    c.drop_invalid_excess.new.arena c.drop_invalid_excess.ensures c.requires.free c.take_delimiter.ensures.marks

pub returns-clause-changed : goal.returns-clause-changed
returns-clause-changed c =
    changed5 c.args.topology.now.cluster c.args.storage c.args.named.now c.args.arena.now c.put_delimiter.new.self c.show_invariant.ensures c.requires.here c.requires.capacity c.put_delimiter.ensures.list c.put_delimiter.ensures.others
    c.add_all_reported.new.arena c.sweep.new.arena c.take_delimiter.new.self c.show_invariant-2.ensures c.add_all_reported.ensures.entered start c.add_all_reported.new.tally c.sweep.new.tally c.sweep.ensures.swept c.take_delimiter.ensures.others c.show_invariant-3.ensures
    c.drop_invalid_excess.new.arena c.drop_invalid_excess.ensures c.requires.good c.args.changed.now.items c.add_all_reported.new.changed.items c.sweep.new.changed.items c.add_all_reported.ensures.listed c.sweep.ensures.listed

pub returns-clause-added : goal.returns-clause-added
returns-clause-added c =
    added5 c.args.topology.now.cluster c.args.storage c.args.named.now c.args.arena.now c.put_delimiter.new.self c.show_invariant.ensures c.requires.here c.requires.capacity c.put_delimiter.ensures.list c.put_delimiter.ensures.others
    c.add_all_reported.new.arena c.sweep.new.arena c.take_delimiter.new.self c.show_invariant-2.ensures c.add_all_reported.ensures.entered start c.add_all_reported.new.tally c.sweep.new.tally c.sweep.ensures.swept c.take_delimiter.ensures.others c.show_invariant-3.ensures
    c.drop_invalid_excess.new.arena c.drop_invalid_excess.ensures c.add_all_reported.ensures.counted refl refl

pub returns-clause-removed : goal.returns-clause-removed
returns-clause-removed c =
    removed5 c.args.topology.now.cluster c.args.storage c.args.named.now c.args.arena.now c.put_delimiter.new.self c.show_invariant.ensures c.requires.here c.requires.capacity c.put_delimiter.ensures.list c.put_delimiter.ensures.others
    c.add_all_reported.new.arena c.sweep.new.arena c.take_delimiter.new.self c.show_invariant-2.ensures c.add_all_reported.ensures.entered start c.add_all_reported.new.tally c.sweep.new.tally c.sweep.ensures.swept c.take_delimiter.ensures.others c.show_invariant-3.ensures
    c.drop_invalid_excess.new.arena c.drop_invalid_excess.ensures c.add_all_reported.ensures.counted refl refl

pub returns-clause-no_change : goal.returns-clause-no_change
returns-clause-no_change c all none =
    let q = c.add_all_reported.ensures.no_change (already_all c.args.arena.now c.put_delimiter.new.self c.args.storage c.args.named.now c.show_invariant.ensures c.requires.here c.put_delimiter.ensures.others.blocks all) in
    let swept = c.sweep.ensures.swept.removed in
    let empty : length (behind c.add_all_reported.new.arena c.args.storage) ≡ 0 = omega (arith, swept, none) in
    c.sweep.ensures.appended ∙ ap (λ l. c.add_all_reported.new.changed.items ++ l) (nil_from_length (behind c.add_all_reported.new.arena c.args.storage) empty) ∙ append-nil c.add_all_reported.new.changed.items ∙ q.1

pub returns-clause-split : goal.returns-clause-split
returns-clause-split c =
    let whole = ap length c.sweep.ensures.appended ∙ length-append c.add_all_reported.new.changed.items (behind c.add_all_reported.new.arena c.args.storage) in
    omega (arith, whole, c.len.ensures)

pub returns-clause-came : goal.returns-clause-came
returns-clause-came c slot m =
    let P : List ℕ → Type 0 = λ l. IsMember slot l in
    let count : c.len.result ≡ length c.add_all_reported.new.changed.items = omega (arith, c.len.ensures) in
    let came = (λ i. take (count i) (c.sweep.ensures.appended i)) ∙ take-append_seam c.add_all_reported.new.changed.items (behind c.add_all_reported.new.arena c.args.storage) in
    c.add_all_reported.ensures.came slot (subst P came m)

pub returns-clause-few : goal.returns-clause-few
returns-clause-few c =
    let h = c.args.changed.now.small in
    let g = behind-fits c.args.topology.now.cluster c.args.storage c.args.named.now c.args.arena.now c.put_delimiter.new.self c.show_invariant.ensures c.requires.here c.requires.capacity c.put_delimiter.ensures.list c.put_delimiter.ensures.others c.add_all_reported.new.arena c.add_all_reported.ensures.entered in
    (omega (arith, h, g, c.requires.space, c.add_all_reported.ensures.counted.few_added, c.sweep.ensures.swept.added), omega (arith, h, g, c.requires.space, c.add_all_reported.ensures.counted.few_removed, c.sweep.ensures.swept.removed))
