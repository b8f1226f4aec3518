use Rattle.std.proofs.Common.{Some, [], ◌∷◌, fold, drop, sym, ap, ◌∙◌, subst}
use Rattle.std.proofs.lemmas.List.Sums.{fold-append}
use Rattle.bm_view.specs.Rule.{Evidence, Extends}
use Rattle.bm_view.proofs.Moves.{shows}
use Rattle.bm_view.proofs.PublishSteps.{match_both}
use Rattle.bm_view.proofs.publisher.show.Goals as goal

pub publish_as-requires : goal.publish_as-requires
publish_as-requires g c next is =
    let x = c.append.new.self.desk.shown.value in
    let op = c.args.next.1 in
    let last : Evidence → Evidence → Evidence = λ _ n. n in
    let goes : Extends x op = subst (λ d. Extends d.shown.value op) (sym c.append.ensures.desk) c.requires in
    shows _ _ x next op goes (is ∙ (ap (fold last x) c.in-Ok.ensures.pending ∙ fold-append last x (drop c.args.writer.behind c.args.writer.log.items) (op ∷ [])))

pub returns-in-Ok : goal.returns-in-Ok
returns-in-Ok g c =
    let x = c.append.new.self.desk.shown.value in
    let op = c.args.next.1 in
    let last : Evidence → Evidence → Evidence = λ _ n. n in
    let goes = ap (fold last x) c.in-Ok.ensures.pending ∙ fold-append last x (drop c.args.writer.behind c.args.writer.log.items) (op ∷ []) in
    match_both c.publish_as.result.1 _ _ _ _ _ _ c.publish_as.ensures.values c.publish_as.ensures.rule (λ _ values rule. (values.0 ∙ goes, rule ∙ ap Some (values.0 ∙ goes))) (λ _ values rule. values.0 ∙ ap (λ d. d.shown.value) c.append.ensures.desk)

pub returns-in-Err : goal.returns-in-Err
returns-in-Err g c = ap (λ d. d.shown.value) c.append.ensures.desk
