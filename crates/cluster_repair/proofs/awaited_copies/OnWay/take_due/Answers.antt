use Rattle.std.proofs.Common.{◌∙◌, List, rules, not, ap, subst}
use Rattle.std.specs.Prelude.{◌&&◌, nat_lt, filter}
use Rattle.std.specs.List.{list_any}
use Rattle.std.specs.List.Sorted.{IsPermutation}
use Rattle.std.proofs.lemmas.List.Sorted.{answers_always}
use Rattle.cluster_repair.specs.declared.awaited_copies.Sent.{Sent}
use Rattle.cluster_repair.specs.Copies.{is_copy_of, holds_target, has_arrived, when}
use Rattle.cluster_repair.proofs.CopyLemmas.{once_without}
use Rattle.cluster_repair.proofs.awaited_copies.OnWay.take_due.Goals as goal

pub invariant_of-self : goal.invariant_of-self
invariant_of-self c = record {
  once = λ b t.
      let targets = c.args.self.now.targets in
      let due = c.sort_by_key.new.self.items in
      let now = c.args.now in
      once_without c.args.self.now.sent.items due c.in_ok-left.left.items now b t (holds_target targets b t) (holds_target c.forget.new.targets b t)
      (subst (λ (ss : List Sent). IsPermutation ss due) (c.in_ok-due.ensures ∙ ap (filter (has_arrived now)) c.as_slice.ensures.value) c.sort_by_key.ensures.permutation)
      (c.in_ok-left.ensures ∙ ap (filter (λ (s : Sent). nat_lt now s.arrival)) c.as_slice-2.ensures.value)
      (c.args.self.now.once b t)
      (c.forget.ensures b t ∙ ap (λ ss. holds_target targets b t && not (list_any (is_copy_of b t) ss)) c.as_slice-3.ensures.value);
}

pub returns-clause-due : goal.returns-clause-due
returns-clause-due c =
    subst (λ (ss : List Sent). IsPermutation ss c.sort_by_key.new.self.items) (c.in_ok-due.ensures ∙ ap (filter (has_arrived c.args.now)) c.as_slice.ensures.value) c.sort_by_key.ensures.permutation

pub returns-clause-sorted : goal.returns-clause-sorted
returns-clause-sorted c = c.in_ok-sort_by_key.ensures.sorted when (answers_always _ _ _ (λ f a r g h. search rules))
