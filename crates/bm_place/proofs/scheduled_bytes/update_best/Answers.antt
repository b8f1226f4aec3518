use Rattle.std.proofs.Common.{◌≡◌, Some, None, ap, sym, ◌==◌, ◌∙◌, position}
use Rattle.bm_base.specs.Maps.Map.{get}
use Rattle.bm_place.specs.declared.scheduled_bytes.TargetRow.{TargetRow}
use Rattle.bm_place.proofs.UpdatedTargets.{kept_renewed, kept_same, kept_unknown}
use Rattle.bm_place.proofs.scheduled_bytes.update_best.Goals as goal

pub returns-in_default : goal.returns-in_default
returns-in_default c old len kept fits is of_cluster =
    let none : position (λ (t : TargetRow). t.storage == c.args.target) c.args.best_targets.now.items ≡ None = sym (c.in_default.ensures ∙ ap (position (λ (t : TargetRow). t.storage == c.args.target)) c.deref.ensures.value) in
    kept_same old c.args.rows.now.map c.args.target len c.args.best_targets.now.items kept fits is none

pub returns-in-Some-get : goal.returns-in-Some-get
returns-in-Some-get c old len kept fits is of_cluster =
    let row = c.in-Some-get.row in
    let index : position (λ (t : TargetRow). t.storage == c.args.target) c.args.best_targets.now.items ≡ Some c.in-Some.index = sym (c.in-Some.ensures ∙ ap (position (λ (t : TargetRow). t.storage == c.args.target)) c.deref.ensures.value) in
    let there = sym (c.get.ensures ∙ ap (get c.args.rows.now.map) (c.from.ensures ∙ c.target.view_is)) ∙ c.in-Some-get.is in
    kept_renewed c.args.topology.now.cluster old c.args.rows.now.map c.args.target len c.args.best_targets.now.items c.reposition.new.best_targets.items c.storages_near.result.now row c.best_on_node-best.result c.in-Some.index kept fits is
    there index of_cluster c.storages_near.ensures c.best_on_node-best.ensures c.reposition.ensures

pub returns-in_default-get : goal.returns-in_default-get
returns-in_default-get c old len kept fits is of_cluster =
    kept_unknown old c.args.rows.now.map c.args.target len c.args.best_targets.now.items kept is (sym (c.get.ensures ∙ ap (get c.args.rows.now.map) (c.from.ensures ∙ c.target.view_is)) ∙ c.in_default-get.is)
