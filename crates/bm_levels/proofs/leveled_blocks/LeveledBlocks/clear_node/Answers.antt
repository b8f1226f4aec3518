use Rattle.std.proofs.Common.{◌≡◌, ◌≤◌, true, [], length, arith, sym, ◌∙◌}
use Rattle.bm_base.specs.Machine.Replicas.{has_storage}
use Rattle.bm_arena.specs.Contents.{list_of, HasHead}
use Rattle.bm_levels.proofs.LeavingReplicas.{leaving_more, leaving_of, stays_empty}
use Rattle.bm_levels.proofs.Indexes.{gone_all, gone_more, own_at}
use Rattle.bm_levels.proofs.leveled_blocks.LeveledBlocks.clear_node.Goals as goal

pub loop-storage-preserved : goal.loop-storage-preserved
loop-storage-preserved c =
    let p = has_storage c.args.cluster_after.now.topology.now.cluster c.args.node in
    let items = c.storages_of-storage-items in
    let i = c.loop-storage.storage-index in
    let s = c.storage-item.result in
    let before = c.loop-storage.invariant in
    let a = c.args.self.now.arena in
    let old = c.loop-storage.self.arena in
    let new = c.clear-count.new.self.arena in
    let left = c.clear-count.ensures in
    let own : p s ≡ true = sym (items.ensures.each s) ∙ own_at items.result.now i s c.loop-storage-test.true c.storage-item.is in
    record {
      left = leaving_more p a old new c.loop-storage.removed c.clear-count.result before.left (leaving_of p old new s c.clear-count.result own left.left);
      none = gone_more items.result.now (λ t. list_of old t ≡ []) (λ t. list_of new t ≡ []) i s c.loop-storage-test.true c.storage-item.is before.none (λ t h. stays_empty old new s t c.clear-count.result left.left left.none h) left.none;
      heads = gone_more items.result.now (λ t. HasHead old t → ⊥) (λ t. HasHead new t → ⊥) i s c.loop-storage-test.true c.storage-item.is before.heads (λ t h head. h (left.fewer t head)) left.head;
      unused = λ b h. before.unused b (left.unused b h);
      fewer = λ t h. before.fewer t (left.fewer t h);
      few = omega (arith, before.few, c.clear-count.type_inv);
      levels = λ h. left.levels (before.levels h);
    }

pub returns-clause-none : goal.returns-clause-none
returns-clause-none c s own =
    let items = c.storages_of-storage-items in
    let past : length items.result.now ≤ c.loop-storage.storage-index = omega (arith, c.loop-storage-test.false) in
    gone_all items.result.now (λ t. list_of c.loop-storage.self.arena t ≡ []) c.loop-storage.storage-index past c.loop-storage.invariant.none s (items.ensures.each s ∙ own)

pub returns-clause-heads : goal.returns-clause-heads
returns-clause-heads c s own =
    let items = c.storages_of-storage-items in
    let past : length items.result.now ≤ c.loop-storage.storage-index = omega (arith, c.loop-storage-test.false) in
    gone_all items.result.now (λ t. HasHead c.loop-storage.self.arena t → ⊥) c.loop-storage.storage-index past c.loop-storage.invariant.heads s (items.ensures.each s ∙ own)
