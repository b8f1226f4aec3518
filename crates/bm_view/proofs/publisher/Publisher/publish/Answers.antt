use Rattle.std.proofs.Common.{◌≡◌, ◌≤◌, ◌*◌, [], ◌∷◌, ◌++◌, length, refl, sym, ap, ◌∙◌, subst}
use Rattle.std.specs.Arc.{arc_value}
use Rattle.bm_base.specs.Promises.Versions.{Version}
use Rattle.bm_view.specs.History.{last_of, versions, shown_in, IsSettled, IsHistory}
use Rattle.bm_view.specs.Rule.{Evidence}
use Rattle.bm_view.specs.Journal.{proposed}
use Rattle.bm_view.specs.Holders.{Listed}
use Rattle.bm_view.proofs.PublishSteps.{was_ok, was_err, no_success, on_failure, failure_is, some_entry, next_number, listed, last_next, history_next, goes_next, longer, refused, published}
use Rattle.bm_view.proofs.publisher.Publisher.publish.Goals as goal

pub returns-in_err-number : goal.returns-in_err-number
returns-in_err-number g c =
    let r = c.from_residual.result in
    let failed = c.from_residual.ensures.0 in record {
      home = refl;
      added = no_success r _ failed;
      last = no_success r _ failed;
      history = no_success r _ failed;
      receipt = no_success r _ failed;
      refused = on_failure r _ refl;
      memory = failure_is r _ c.from_residual.ensures.1;
    }

pub evidence-requires : goal.evidence-requires
evidence-requires g c = some_entry _ _ _ c.enter.ensures.log

pub evidence-requires-2 : goal.evidence-requires-2
evidence-requires-2 g c = some_entry _ _ _ c.enter-2.ensures.log

pub new-next-requires-clause-number : goal.new-next-requires-clause-number
new-next-requires-clause-number g c = next_number c.self.inside.journal.log _ _ c.self.inside.number _ c.self.invariant.0 c.in_ok-number.ensures.2 (c.evidence.ensures.1 ∙ c.enter.ensures.log)

pub new-next-requires-clause-table : goal.new-next-requires-clause-table
new-next-requires-clause-table g c =
    let one = c.enter.ensures.log ∙ ap (λ (v : Version). c.self.inside.journal.log ++ proposed v ∷ []) c.deref-2.ensures in
    last_next c.self.inside.journal.log c.evidence.result.log _ (c.evidence.ensures.1 ∙ one)

pub new-next-requires-clause-history : goal.new-next-requires-clause-history
new-next-requires-clause-history g c =
    let one = c.enter.ensures.log ∙ ap (λ (v : Version). c.self.inside.journal.log ++ proposed v ∷ []) c.deref-2.ensures in
    history_next c.self.inside.journal.log c.evidence.result.log (arc_value c.args.table) (c.evidence.ensures.1 ∙ one) c.self.invariant.4 (subst (λ (v : Listed). (last_of v.list).calls ≤ (arc_value c.args.table).calls) (sym c.self.view_is) c.requires)

pub replace_with-requires : goal.replace_with-requires
replace_with-requires g c =
    let one = c.enter.ensures.log ∙ ap (λ (v : Version). c.self.inside.journal.log ++ proposed v ∷ []) c.deref-2.ensures in
    goes_next c.self.inside.writer.desk.shown.value c.new-next.result c.evidence.result c.self.inside.journal.home c.self.inside.journal.log _ c.self.invariant.2 c.self.invariant.3 c.new-next.ensures (c.evidence.ensures.0 ∙ c.enter.ensures.home) (c.evidence.ensures.1 ∙ one)

pub invariant_of-self : goal.invariant_of-self
invariant_of-self g c =
    let one = c.enter.ensures.log ∙ ap (λ (v : Version). c.self.inside.journal.log ++ proposed v ∷ []) c.deref-2.ensures in
    let old = c.self.inside.journal in
    let kept = was_err c.replace_with.result _ _ (sym c.is_err.ensures.value ∙ c.if-is_err.true) c.replace_with.ensures in
    let same : versions c.enter-then-is_err.new.self.log ≡ versions old.log = refused old.log c.enter.new.self.log c.enter-then-is_err.new.self.log _ _ one c.enter-then-is_err.ensures.log in (
      longer old.log c.enter.new.self.log c.enter-then-is_err.new.self.log _ _ c.self.inside.number c.self.invariant.0 one c.enter-then-is_err.ensures.log ∙ ap (λ n. 2 * n) (sym c.in_ok-number.ensures.0),
      c.self.invariant.1 ∙ ap (λ l. (last_of l).calls) (sym same),
      ap (λ (s : Evidence). s.home) kept.2 ∙ (c.self.invariant.2 ∙ sym (c.enter-then-is_err.ensures.home ∙ c.enter.ensures.home)),
      ap (λ (s : Evidence). shown_in s.log) kept.2 ∙ (c.self.invariant.3 ∙ sym same),
      subst IsHistory (sym same) c.self.invariant.4,
    )

pub returns-then-is_err : goal.returns-then-is_err
returns-then-is_err g c =
    let one = c.enter.ensures.log ∙ ap (λ (v : Version). c.self.inside.journal.log ++ proposed v ∷ []) c.deref-2.ensures in
    let old = c.self.inside.journal in
    let home : c.enter-then-is_err.new.self.home ≡ old.home = c.enter-then-is_err.ensures.home ∙ c.enter.ensures.home in
    let same : versions c.enter-then-is_err.new.self.log ≡ versions old.log = refused old.log c.enter.new.self.log c.enter-then-is_err.new.self.log _ _ one c.enter-then-is_err.ensures.log in record {
      home = home ∙ ap (λ (v : Listed). v.home) c.self.view_is;
      added = tt;
      last = tt;
      history = tt;
      receipt = tt;
      refused = listed c.enter-then-is_err.new.self.home old.home (versions c.enter-then-is_err.new.self.log) (versions old.log) home same ∙ c.self.view_is;
      memory = refl;
    }

pub new-requires : goal.new-requires
new-requires g c =
    let one = c.enter.ensures.log ∙ ap (λ (v : Version). c.self.inside.journal.log ++ proposed v ∷ []) c.deref-2.ensures in
    let old = c.self.inside.journal in
    let ok = was_ok c.replace_with.result _ _ (sym c.is_err.ensures.value ∙ c.if-is_err.false) c.replace_with.ensures in
    let t = arc_value c.args.table in
    let is = c.deref-3.ensures ∙ (c.table-2.ensures ∙ (ap (λ (s : Evidence). last_of (shown_in s.log)) (c.published-2.ensures ∙ (ok.2.0 ∙ c.new-next.ensures)) ∙ last_next old.log c.evidence.result.log t (c.evidence.ensures.1 ∙ one))) in
    let now = published old.log c.enter.new.self.log c.enter-2.new.self.log t _ c.self.invariant.4 (subst (λ (v : Listed). (last_of v.list).calls ≤ t.calls) (sym c.self.view_is) c.requires) one c.enter-2.ensures.log is in record {
      number = ap length c.evidence-2.ensures.1 ∙ (longer old.log c.enter.new.self.log c.enter-2.new.self.log _ _ c.self.inside.number c.self.invariant.0 one c.enter-2.ensures.log ∙ ap (λ n. 2 * n) (sym c.in_ok-number.ensures.1));
      calls = c.calls-calls.ensures ∙ ap (λ (v : Version). v.calls) (c.deref.ensures ∙ (sym now.last ∙ ap (λ l. last_of (versions l)) (sym c.evidence-2.ensures.1)));
      settled = subst IsSettled (sym c.evidence-2.ensures.1) now.whole;
      history = subst (λ l. IsHistory (versions l)) (sym c.evidence-2.ensures.1) now.history;
    }

pub invariant_of-self-2 : goal.invariant_of-self-2
invariant_of-self-2 g c =
    let one = c.enter.ensures.log ∙ ap (λ (v : Version). c.self.inside.journal.log ++ proposed v ∷ []) c.deref-2.ensures in
    let old = c.self.inside.journal in
    let ok = was_ok c.replace_with.result _ _ (sym c.is_err.ensures.value ∙ c.if-is_err.false) c.replace_with.ensures in
    let t = arc_value c.args.table in
    let shown = ok.2.0 ∙ c.new-next.ensures in
    let is = c.deref-3.ensures ∙ (c.table-2.ensures ∙ (ap (λ (s : Evidence). last_of (shown_in s.log)) (c.published-2.ensures ∙ shown) ∙ last_next old.log c.evidence.result.log t (c.evidence.ensures.1 ∙ one))) in
    let now = published old.log c.enter.new.self.log c.enter-2.new.self.log t _ c.self.invariant.4 (subst (λ (v : Listed). (last_of v.list).calls ≤ t.calls) (sym c.self.view_is) c.requires) one c.enter-2.ensures.log is in (
      longer old.log c.enter.new.self.log c.enter-2.new.self.log _ _ c.self.inside.number c.self.invariant.0 one c.enter-2.ensures.log ∙ ap (λ n. 2 * n) (sym c.in_ok-number.ensures.0),
      c.calls-calls.ensures ∙ ap (λ (v : Version). v.calls) (c.deref.ensures ∙ sym now.last),
      ap (λ (s : Evidence). s.home) shown ∙ (c.evidence.ensures.0 ∙ sym c.enter-2.ensures.home),
      ap (λ (s : Evidence). shown_in s.log) shown ∙ (ap shown_in c.evidence.ensures.1 ∙ now.same),
      now.history,
    )

pub returns : goal.returns
returns g c =
    let one = c.enter.ensures.log ∙ ap (λ (v : Version). c.self.inside.journal.log ++ proposed v ∷ []) c.deref-2.ensures in
    let old = c.self.inside.journal in
    let ok = was_ok c.replace_with.result _ _ (sym c.is_err.ensures.value ∙ c.if-is_err.false) c.replace_with.ensures in
    let t = arc_value c.args.table in
    let is = c.deref-3.ensures ∙ (c.table-2.ensures ∙ (ap (λ (s : Evidence). last_of (shown_in s.log)) (c.published-2.ensures ∙ (ok.2.0 ∙ c.new-next.ensures)) ∙ last_next old.log c.evidence.result.log t (c.evidence.ensures.1 ∙ one))) in
    let now = published old.log c.enter.new.self.log c.enter-2.new.self.log t _ c.self.invariant.4 (subst (λ (v : Listed). (last_of v.list).calls ≤ t.calls) (sym c.self.view_is) c.requires) one c.enter-2.ensures.log is in record {
      home = c.enter-2.ensures.home ∙ (c.enter.ensures.home ∙ ap (λ (v : Listed). v.home) c.self.view_is);
      added = now.list ∙ ap (λ (v : Listed). v.list ++ t ∷ []) c.self.view_is;
      last = now.last;
      history = now.history;
      receipt = c.new.ensures ∙ listed c.evidence-2.result.home c.enter-2.new.self.home (versions c.evidence-2.result.log) (versions c.enter-2.new.self.log) c.evidence-2.ensures.0 (ap versions c.evidence-2.ensures.1);
      refused = tt;
      memory = tt;
    }
