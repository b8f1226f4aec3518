use Rattle.std.proofs.Common.{List, sym, subst}
use Rattle.std.specs.Prelude.{IsTrue}
use Rattle.bm_base.specs.Words.{ReportedBlock, is_named}
use Rattle.bm_report.proofs.Places.{slots_of}
use Rattle.bm_report.proofs.uncached_report.ready.Goals as goal

pub returns-clause-ready : goal.returns-clause-ready
returns-clause-ready c = record {
  places = λ b reported.
      let P : List ReportedBlock → Type 0 = λ ts. IsTrue (is_named ts b) in
      slots_of c.look_up.new.arena c.args.storage c.look_up.new.named.items c.in_ok-look_up.ensures.here c.in_ok-look_up.ensures.capacity b (subst P (sym c.in_ok-look_up.ensures.named) reported);
  head = c.in_ok-look_up.ensures.head;
}
