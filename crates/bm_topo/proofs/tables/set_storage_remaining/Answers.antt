use Rattle.std.proofs.Common.{refl, ap, sym, ◌∙◌}
use Rattle.bm_base.specs.Maps.Map.{get}
use Rattle.bm_base.specs.declared.storage.StorageInfo.{StorageInfo}
use Rattle.bm_maps.proofs.ReplaceLaws.{no_change, set_there}
use Rattle.bm_topo.proofs.tables.set_storage_remaining.Goals as goal

pub returns-in-Some-clause-after : goal.returns-in-Some-clause-after
returns-in-Some-clause-after c =
    let updated : StorageInfo = record { node = c.in-Some.info.node; remaining = c.args.remaining } in
    set_there c.args.storages.now.map c.replace_near.new.self.map c.from-number.result c.args.storage c.in-Some.info updated (λ (i : StorageInfo). record i { remaining = c.args.remaining })
    (sym (c.get_near.ensures ∙ ap (get c.args.storages.now.map) (c.from-number.ensures ∙ c.storage.view_is)) ∙ c.in-Some.is) (c.from-number.ensures ∙ c.storage.view_is) refl c.replace_near.ensures.after

pub returns-in_default-clause-after : goal.returns-in_default-clause-after
returns-in_default-clause-after c = no_change c.args.storages.now.map c.args.storage _ (sym (c.get_near.ensures ∙ ap (get c.args.storages.now.map) (c.from-number.ensures ∙ c.storage.view_is)) ∙ c.in_default.is)
