use Rattle.std.proofs.Common.{refl, ap, sym, subst, ◌+◌, ◌<◌, ◌∙◌, arith}
use Rattle.std.specs.Prelude.{unwrap_or}
use Rattle.bm_base.specs.Maps.Map.{get}
use Rattle.bm_maps.proofs.ReplaceLaws.{no_change, set_there}
use Rattle.bm_place.specs.Tables.{count_at}
use Rattle.bm_place.proofs.streams.add_one.Goals as goal

pub overflow_add-count : goal.overflow_add-count
unfolding count_at
overflow_add-count c =
    let there = sym (c.get.ensures ∙ ap (get c.args.counts.now.map) (c.from.ensures ∙ c.node.view_is)) ∙ c.in-Some.is in
    let few : c.in-Some.count < 65536000 = subst (λ o. unwrap_or o 0 < 65536000) there c.requires in
    omega (arith, few)

pub returns-in-Some : goal.returns-in-Some
returns-in-Some c =
    let there = sym (c.get.ensures ∙ ap (get c.args.counts.now.map) (c.from.ensures ∙ c.node.view_is)) ∙ c.in-Some.is in
    set_there c.args.counts.now.map c.replace.new.self.map _ c.args.node c.in-Some.count (c.in-Some.count + 1) (λ k. k + 1) there (c.from-in-Some.ensures ∙ c.node.view_is) refl c.replace.ensures.after

pub returns-in_default : goal.returns-in_default
returns-in_default c = no_change c.args.counts.now.map c.args.node (λ k. k + 1) (sym (c.get.ensures ∙ ap (get c.args.counts.now.map) (c.from.ensures ∙ c.node.view_is)) ∙ c.in_default.is)
