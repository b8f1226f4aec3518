use Rattle.std.proofs.lemmas.Option.{none-some, same_Some}
use Rattle.std.proofs.Common.{Some, ◌≡◌, sym, ap, ◌∙◌}
use Rattle.bm_report.specs.DuringReport.{marks_during_report}
use Rattle.bm_report.proofs.EnteredChain.{entered_new, counted_new, entered_known, counted_known}
use Rattle.bm_report.proofs.reported_block.add_reported.Goals as goal

pub returns-in-Some-clause-entered : goal.returns-in-Some-clause-entered
returns-in-Some-clause-entered c =
    entered_known c.args.topology.now.cluster c.args.arena.now c.move_known.new.arena c.args.storage c.args.named.now c.requires.here c.args.was c.requires.was c.marks_during_report-marks.result
    (c.marks_during_report-marks.ensures ∙ ap (λ i. marks_during_report i c.args.was c.args.named.now.stamp) c.info.ensures) c.move_known.ensures.behind c.move_known.ensures.frame c.in-Some.was c.in-Some.is c.requires.once c.move_known.ensures.replicas c.move_known.ensures.others

pub returns-in-Some-clause-counted : goal.returns-in-Some-clause-counted
returns-in-Some-clause-counted c =
    counted_known c.args.topology.now.cluster c.args.arena.now c.move_known.new.arena c.args.storage c.args.named.now c.requires.here c.args.was c.requires.was c.marks_during_report-marks.result
    (c.marks_during_report-marks.ensures ∙ ap (λ i. marks_during_report i c.args.was c.args.named.now.stamp) c.info.ensures) c.move_known.ensures.behind c.move_known.ensures.frame c.in-Some.was c.in-Some.is c.requires.once c.move_known.ensures.replicas
    c.args.tally.now c.count_move.new.self c.is_excess_good-is_excess_good.result c.is_excess_good-is_excess_good.ensures c.count_move.ensures c.move_known.ensures.steps

pub returns-in-None-clause-entered : goal.returns-in-None-clause-entered
returns-in-None-clause-entered c =
    entered_new c.args.topology.now.cluster c.args.arena.now c.link_new-left_sibling.new.arena c.args.storage c.args.named.now c.requires.here c.args.was c.requires.was c.marks_during_report-marks.result
    (c.marks_during_report-marks.ensures ∙ ap (λ i. marks_during_report i c.args.was c.args.named.now.stamp) c.info.ensures) c.link_new-left_sibling.ensures.behind c.link_new-left_sibling.ensures.frame c.link_new-left_sibling.ensures.replicas c.link_new-left_sibling.ensures.others

pub returns-in-None-clause-counted : goal.returns-in-None-clause-counted
returns-in-None-clause-counted c =
    counted_new c.args.topology.now.cluster c.args.arena.now c.link_new-left_sibling.new.arena c.args.storage c.args.named.now c.requires.here c.args.was c.requires.was c.marks_during_report-marks.result
    (c.marks_during_report-marks.ensures ∙ ap (λ i. marks_during_report i c.args.was c.args.named.now.stamp) c.info.ensures) c.link_new-left_sibling.ensures.behind c.link_new-left_sibling.ensures.frame c.link_new-left_sibling.ensures.replicas
    c.args.tally.now c.count_link.new.self c.link_new-left_sibling.result c.is_excess_good-is_excess_good.result c.in-None.is c.is_excess_good-is_excess_good.ensures c.count_link.ensures c.link_new-left_sibling.ensures.steps c.link_new-left_sibling.ensures.removed

pub returns-in-Some-clause-no_change : goal.returns-in-Some-clause-no_change
returns-in-Some-clause-no_change c was_there =
    let is : Some c.in-Some.was ≡ Some c.marks_during_report-marks.result =
    sym (sym c.requires.was ∙ c.in-Some.is) ∙ was_there ∙ ap Some (sym (c.marks_during_report-marks.ensures ∙ (λ i. marks_during_report (c.info.ensures i) (c.requires.was i) c.args.named.now.stamp))) in
    c.move_known.ensures.no_change (sym (same_Some c.in-Some.was c.marks_during_report-marks.result is))

pub returns-in-None-clause-no_change : goal.returns-in-None-clause-no_change
returns-in-None-clause-no_change c was_there = absurd (none-some _ (sym (sym c.requires.was ∙ c.in-None.is) ∙ was_there))
