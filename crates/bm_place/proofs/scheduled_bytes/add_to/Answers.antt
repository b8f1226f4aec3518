use Rattle.std.proofs.Common.{refl, ap, sym, ◌+◌, ◌∙◌}
use Rattle.bm_base.specs.Maps.Map.{get}
use Rattle.bm_maps.proofs.ReplaceLaws.{no_change, set_there}
use Rattle.bm_place.specs.declared.scheduled_bytes.TargetRow.{TargetRow}
use Rattle.bm_place.proofs.scheduled_bytes.add_to.Goals as goal

pub returns-in-Some : goal.returns-in-Some
returns-in-Some c =
    let there = sym (c.get.ensures ∙ ap (get c.args.rows.now.map) (c.from.ensures ∙ c.target.view_is)) ∙ c.in-Some.is in
    set_there c.args.rows.now.map c.replace.new.self.map _ c.args.target c.in-Some.row _ (λ (t : TargetRow). record t { scheduled = t.scheduled + c.args.len })
    there (c.from-in-Some.ensures ∙ c.target.view_is) refl c.replace.ensures.after

pub returns-in_default : goal.returns-in_default
returns-in_default c = no_change c.args.rows.now.map c.args.target _ (sym (c.get.ensures ∙ ap (get c.args.rows.now.map) (c.from.ensures ∙ c.target.view_is)) ∙ c.in_default.is)
