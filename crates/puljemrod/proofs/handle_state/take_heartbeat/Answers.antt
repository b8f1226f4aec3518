use Rattle.std.proofs.Common.{◌≡◌, ℕ, map, refl, inl, arith, ap}
use Rattle.std.proofs.lemmas.List.{length-map}
use Rattle.puljemrod.specs.Rows.{remaining_of}
use Rattle.puljemrod.proofs.HeartbeatLemmas.{beat}
use Rattle.puljemrod.proofs.handle_state.take_heartbeat.Goals as goal

pub returns-in-Ok : goal.returns-in-Ok
returns-in-Ok c =
    let list : c.in-Ok.remaining ≡ map remaining_of c.args.rows.now = rw c.in-Ok.is at c.copy.ensures.copied in
    beat _ _ _ _ _ _ refl (rw list at c.take_call.ensures)

pub returns-in-Err : goal.returns-in-Err
returns-in-Err c =
    let same = ap (λ (s : ℕ). record c.args.kept.now { spare = s }) c.in-Err.ensures.unchanged in
    inl (refl, same, omega (arith, c.in-Err.ensures.refused, length-map c.args.rows.now remaining_of))
