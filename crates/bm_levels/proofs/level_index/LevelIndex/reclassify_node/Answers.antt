use Rattle.std.proofs.Common.{◌≤◌, ◌+◌, length, inl, inr, arith, ◌∙◌}
use Rattle.bm_maps.specs.SlotLists.{IsMember}
use Rattle.bm_arena.specs.Contents.{list_of}
use Rattle.bm_levels.specs.ClusterAfter.{rack_after, drains_after}
use Rattle.bm_levels.proofs.Indexes.{gone_all, classified_next}
use Rattle.bm_levels.proofs.level_index.LevelIndex.reclassify_node.Goals as goal

pub reclassify_list-requires : goal.reclassify_list-requires
reclassify_list-requires c = λ slot there. c.loop-storage.invariant.capacity (slot + 1) (c.requires slot c.storage-item.result there)

pub loop-storage-preserved : goal.loop-storage-preserved
loop-storage-preserved c =
    let A = c.args.cluster_after.now in
    let before = c.loop-storage.invariant in
    record {
      each = λ slot. classified_next (rack_after A) (drains_after A) A.multi c.args.arena.now c.storages_of-storage-items.result.now c.loop-storage.storage-index c.storage-item.result slot c.args.self.now c.loop-storage.self c.reclassify_list.new.self
          c.loop-storage-test.true c.storage-item.is (before.each slot) (c.reclassify_list.ensures.each slot);
      capacity = λ bound h. c.reclassify_list.ensures.capacity bound (before.capacity bound h);
    }

pub returns-clause-each : goal.returns-clause-each
returns-clause-each c slot =
    let items = c.storages_of-storage-items in
    let past : length items.result.now ≤ c.loop-storage.storage-index = omega (arith, c.loop-storage-test.false) in
    elim (c.loop-storage.invariant.each slot) [
      | inl status ↦ inl status
      | inr same ↦ inr (same.0, λ storage own. gone_all items.result.now (λ s. IsMember slot (list_of c.args.arena.now s) → ⊥) c.loop-storage.storage-index past same.1 storage (items.ensures.each storage ∙ own))
    ]
