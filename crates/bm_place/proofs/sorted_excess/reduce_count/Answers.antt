use Rattle.std.proofs.Common.{ap, sym, ◌-◌, ◌∙◌}
use Rattle.bm_base.specs.Maps.Map.{get}
use Rattle.bm_maps.proofs.ReplaceLaws.{no_change, set_there}
use Rattle.bm_place.proofs.sorted_excess.reduce_count.Goals as goal

pub returns-in-Some : goal.returns-in-Some
returns-in-Some c =
    let there = sym (c.get.ensures ∙ ap (get c.args.counts.now.map) (c.from.ensures ∙ c.rack.view_is)) ∙ c.in-Some.is in
    set_there c.args.counts.now.map c.replace.new.self.map _ c.args.rack c.in-Some.count _ (λ n. n - c.args.gone) there (c.from-in-Some.ensures ∙ c.rack.view_is) c.saturating_sub.ensures c.replace.ensures.after

pub returns-in_default : goal.returns-in_default
returns-in_default c = no_change c.args.counts.now.map c.args.rack (λ n. n - c.args.gone) (sym (c.get.ensures ∙ ap (get c.args.counts.now.map) (c.from.ensures ∙ c.rack.view_is)) ∙ c.in_default.is)
