use Rattle.std.proofs.Common.{ap, sym, subst, ◌+◌, ◌≤◌, ◌∙◌}
use Rattle.std.specs.Option.{IfSome}
use Rattle.bm_base.specs.Words.{get, revise_at, scheduled_to}
use Rattle.bm_place.specs.declared.scheduled_bytes.TargetRow.{TargetRow}
use Rattle.bm_place.specs.Targets.{target_table}
use Rattle.bm_place.specs.BestTargets.{AreOf}
use Rattle.bm_place.proofs.UpdatedTargets.{still_of}
use Rattle.bm_place.proofs.TransferCounts.{targets-more, targets-chosen}
use Rattle.bm_place.proofs.scheduled_bytes.Scheduled.add.Goals as goal

pub returns-clause-sent : goal.returns-clause-sent
returns-clause-sent c C sent made =
    c.add_to.ensures ∙ ap (λ m. revise_at m c.args.target (λ (t : TargetRow). record t { scheduled = t.scheduled + c.args.len })) (c.self.view_is ∙ made)
    ∙ targets-more C sent c.args.target c.args.len

pub returns-clause-of_transfers : goal.returns-clause-of_transfers
returns-clause-of_transfers c C chosen t at long made =
    c.add_to.ensures ∙ ap (λ m. revise_at m c.args.target (λ (u : TargetRow). record u { scheduled = u.scheduled + c.args.len })) (c.self.view_is ∙ made)
    ∙ (λ i. revise_at (target_table C (scheduled_to chosen)) (sym at i) (λ (u : TargetRow). record u { scheduled = u.scheduled + sym long i }))
    ∙ targets-chosen C chosen t

pub invariant_of-self : goal.invariant_of-self
invariant_of-self c =
    let inside = c.self.inside in
    let C = inside.topology.now.cluster in
    let fits = subst (λ rows. IfSome (get rows c.args.target) (λ (t : TargetRow). c.args.len + t.scheduled ≤ t.remaining)) (sym c.self.view_is) c.requires.fits in
    let of_cluster = subst (AreOf C) (sym c.add_to.ensures) (still_of inside.rows.map c.args.target c.args.len C c.self.invariant.of_cluster) in
    record { kept = c.update_best.ensures inside.rows.map c.args.len c.self.invariant.kept fits c.add_to.ensures of_cluster; of_cluster = of_cluster }
