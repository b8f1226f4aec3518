use Rattle.std.proofs.Common.{◌∙◌, ◌+◌, sym, ap, subst, arith}
use Rattle.cluster_repair.specs.declared.rows.Rows.{Rows}
use Rattle.cluster_repair.specs.Rows.{AreInOrder}
use Rattle.cluster_repair.proofs.repair.Repair.take_rounds.Goals as goal

pub loop-past-preserved : goal.loop-past-preserved
loop-past-preserved g c = record {
  few = let before = c.loop-past.invariant.few in let due = c.note_due.ensures.rounds in let round = c.in_ok-take_round.ensures.rounds in omega (arith, before, due, round);
  covers = c.in_ok-take_round.ensures.covers;
  drained = c.take_round.ensures.drained ∙ c.note_due.ensures.drained ∙ c.loop-past.invariant.drained;
  in_order = λ start.
      subst (λ (rs : Rows). AreInOrder c.take_round.new.self.rounds rs.stride rs.rows.items) (sym c.take_round.ensures.rows)
      (subst (λ n. AreInOrder n c.note_due.new.self.rows.stride c.note_due.new.self.rows.rows.items) (sym (c.in_ok-take_round.ensures.rounds ∙ ap (λ n. n + 1) c.note_due.ensures.rounds))
      (c.in_ok-note_due.ensures.in_order (c.loop-past.invariant.in_order start)));
  under_way = λ M d of on. c.in_ok-take_round.ensures.under_way M d of (c.in_ok-note_due.ensures.under_way c.args.facts.now.ticks M d (c.loop-past.invariant.under_way M d of on));
}
