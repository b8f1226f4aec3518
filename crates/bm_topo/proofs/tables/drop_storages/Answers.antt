use Rattle.std.proofs.Common.{rules, not}
use Rattle.std.specs.Prelude.{◌==◌}
use Rattle.std.proofs.lemmas.Fn.{filter_same}
use Rattle.bm_base.specs.Maps.Map.{by_number}
use Rattle.bm_base.proofs.MapLaws.{keep-filter}
use Rattle.bm_topo.proofs.tables.drop_storages.Goals as goal

pub returns-clause-after : goal.returns-clause-after
returns-clause-after c =
    keep-filter by_number c.args.storages.now.map c.retain.new.self.map (λ _ i. not (i.node == c.args.node))
    (filter_same _ _ _ (λ x b f' k. search rules) _ _ c.retain.ensures.filtered)
