use Rattle.std.proofs.Common.{◌≡◌, inl, refl, sym, ◌∙◌}
use Rattle.puljemrod.proofs.CopiedLists.{listed}
use Rattle.bm_base.proofs.Options.{there}
use Rattle.puljemrod.proofs.calls.apply_made.Goals as goal

pub returns-in-Err : goal.returns-in-Err
returns-in-Err c = λ e none.
    let kept = there c.args.slot.now.handle.kept (sym c.args.slot.now.open_if_kept ∙ c.if-slot.true) in
    rw kept.1 (kept.0, refl, inl (refl, refl))

pub returns-in-Ok : goal.returns-in-Ok
returns-in-Ok c = λ e is.
    let same : c.in-Ok.event ≡ e = rw c.in-Ok.is at is in
    listed c.args.slot.now.handle.kept e c.apply.new.slot.handle.kept c.apply.result (rw same at c.apply.ensures)
