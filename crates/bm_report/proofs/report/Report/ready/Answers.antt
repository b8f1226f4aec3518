use Rattle.std.proofs.Common.{◌≡◌, length, sym, ap, ◌∙◌, arith}
use Rattle.bm_report.proofs.Aborts.{names_reported}
use Rattle.bm_report.proofs.Places.{list_within}
use Rattle.bm_report.proofs.report.Report.ready.Goals as goal

pub returns-clause-ready : goal.returns-clause-ready
returns-clause-ready c = record {
  looked_up = record { here = c.in_ok-look_up.ensures.here; capacity = c.in_ok-look_up.ensures.capacity; head = c.in_ok-look_up.ensures.head };
  space =
      let none : length c.reserve.new.self.items ≡ 0 = ap length (c.reserve.ensures.items ∙ c.clear.ensures.items) in
      let within = list_within c.look_up.new.arena c.args.storage c.show_invariant.ensures in
      omega (arith, none, within, c.look_up.new.named.ok.0, c.len.ensures, c.slot_bound.ensures.bound, c.in_ok-capacity.ensures.capacity, c.in_ok-reserve.ensures.ok, c.reserve.new.self.ok.0);
}

pub returns-in_err-look_up-clause-fresh : goal.returns-in_err-look_up-clause-fresh
returns-in_err-look_up-clause-fresh c b none some = sym (names_reported c.look_up.new.named.items b) ∙ c.look_up.ensures.fresh.fresh b none some

pub returns-in_err-capacity-clause-fresh : goal.returns-in_err-capacity-clause-fresh
returns-in_err-capacity-clause-fresh c b none some = sym (names_reported c.look_up.new.named.items b) ∙ c.look_up.ensures.fresh.fresh b none some

pub returns-in_err-reserve-clause-fresh : goal.returns-in_err-reserve-clause-fresh
returns-in_err-reserve-clause-fresh c b none some = sym (names_reported c.look_up.new.named.items b) ∙ c.look_up.ensures.fresh.fresh b none some

pub returns-clause-fresh : goal.returns-clause-fresh
returns-clause-fresh c b none some = sym (names_reported c.look_up.new.named.items b) ∙ c.look_up.ensures.fresh.fresh b none some
