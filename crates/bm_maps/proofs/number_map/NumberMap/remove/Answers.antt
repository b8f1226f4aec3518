use Rattle.std.proofs.Common.{rules, not, ◌∙◌, sym, filter}
use Rattle.std.specs.Prelude.{◌==◌}
use Rattle.std.proofs.lemmas.Fn.{filter_same}
use Rattle.bm_base.specs.Maps.Map.{entries, by_number}
use Rattle.bm_base.proofs.MapLaws.{remove-filter}
use Rattle.bm_base.proofs.Ties.{number_tie}
use Rattle.bm_maps.proofs.number_map.NumberMap.remove.Goals as goal

pub returns-clause-after : goal.returns-clause-after
returns-clause-after g c =
    remove-filter by_number c.args.self.now.map c.retain.new.self.map c.args.key
    (filter_same _ (λ e. not (e.0 == c.args.key)) _ (λ x b f' k. search rules) _ _ c.retain.ensures.filtered
    ∙ (λ i. filter (λ e. not (sym (number_tie e.0 c.args.key) i)) (entries c.args.self.now.map)))
