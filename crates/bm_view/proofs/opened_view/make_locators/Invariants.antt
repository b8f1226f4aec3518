use Rattle.std.proofs.Common.{◌≡◌, [], ◌∷◌, All, vec_len}
use Rattle.left_right.specs.Sides.{view as sight}
use Rattle.bm_view.specs.Version.{opening}
use Rattle.bm_view.specs.Rule.{HasSeen}
use Rattle.bm_view.specs.Holders.{Learnt}
use Rattle.bm_view.proofs.opened_view.make_locators.Given as goal

abbrev pub invariant-loop : goal.invariant-loop
invariant-loop l = record {
  count : vec_len l.locators ≡ l.counter;
  seen : HasSeen (sight l.writer.desk.place) l.journal.home (opening ∷ []);
  shown : l.writer.desk.shown.value ≡ l.fn.writer.desk.shown.value;
  each : All (λ (k : Learnt). k ≡ record { home = l.journal.home; list = opening ∷ []; learnt = [] }) l.locators.items;
}
