-- Replicas in excess that are good, and properties of good results.
use Rattle.std.proofs.Common.{◌≡◌, Bool, true, false, Result, Ok, Err, refl}
use Rattle.std.specs.Prelude.{OnOk, ◌&&◌, not, IsTrue}
use Rattle.std.specs.Result.{is_ok}
use Rattle.std.proofs.lemmas.Bool.{false≢true}
use Rattle.bm_base.specs.declared.refusal.Refusal.{Refusal}
use Rattle.bm_base.specs.declared.replica.Marks.{Marks}
use Rattle.bm_base.specs.Words.{Map, by_replica, is_good}
use Rattle.bm_report.specs.DuringReport.{IsExcessGood}
use Rattle.bm_report.specs.Ready.{HasGoodExcess}

-- only good replicas are in excess, as code tests it
pub good_excess : (K : Map by_replica Marks) → HasGoodExcess K → IsExcessGood K
good_excess K good p m e = by m.excess (is_good m.tag) (good p m e)
  where
    by : (x g : Bool) → (IsTrue x → IsTrue g) → not (x && not g) ≡ true
    by true true h = refl
    by true false h = absurd (false≢true (h refl))
    by false g h = refl

-- a property of a good result
pub ok_then : (r : Result (Unit {0}) Refusal) (P : Type 0) → is_ok r ≡ true → OnOk r P → P
ok_then (Ok x) P ok h = h
ok_then (Err e) P ok h = absurd (false≢true ok)
