use Rattle.std.proofs.Common.{ap, sym, ◌∙◌}
use Rattle.bm_base.specs.Machine.Refusals.{refusal_of}
use Rattle.bm_manager.proofs.Checks.{nothing_refused}
use Rattle.bm_manager.proofs.Lawfulness.{changed_manager}
use Rattle.bm_manager.proofs.manager.Manager.apply_with.Goals as goal

pub invariant_of-self-in-Ok : goal.invariant_of-self-in-Ok
invariant_of-self-in-Ok g c =
    let m = c.self.inside in
    let none = ap (λ N. refusal_of N c.args.event.now) c.self.view_is ∙ nothing_refused _ _ (sym c.check.ensures.refusal ∙ c.in_ok-check.was) in
    changed_manager m.config m.topology.cluster m.shards m.round m.calls c.self.invariant
    c.args.event.now c.prepare.new.self.cluster c.commit.new.self.cluster c.change.new.self c.fits.ensures none
    c.prepare.ensures.same c.commit.ensures.after c.in-Ok.ensures.changed c.in-Ok.ensures.up_to_date
    (c.change.ensures.rounds _ _ c.self.invariant.taken)
