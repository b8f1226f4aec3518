use Rattle.std.proofs.Common.{◌≡◌, ℕ, [], false, take, not, sym, ap, subst, ◌∙◌, arith}
use Rattle.std.specs.Prelude.{◌==◌, nat_eq}
use Rattle.std.specs.Map.{lookup}
use Rattle.std.proofs.lemmas.List.Sums.{prefix_len-le-length}
use Rattle.bm_base.specs.declared.replica.ReplicaId.{ReplicaId}
use Rattle.bm_base.specs.Maps.Map.{revise}
use Rattle.bm_arena.specs.HeldMaps.{replicas_of}
use Rattle.bm_arena.proofs.StableEntries.{entries-chain}
use Rattle.bm_levels.specs.Changes.{has_block, AreOfBlock, AreInOrder}
use Rattle.bm_levels.proofs.ListedMarks.{excess_by, excess_end}
use Rattle.bm_levels.proofs.GroupedReplicas.{head_of_block, excess_parts, blocks_of_parts, order_behind, order_of_block, none_left}
use Rattle.bm_levels.proofs.leveled_blocks.LeveledBlocks.mark_surplus.Goals as goal

pub split_at-requires : goal.split_at-requires
split_at-requires c =
    let b = c.in-Some.first.now.block in
    let most = prefix_len-le-length (λ (q : ReplicaId). not (not (q.block == b))) c.loop-first.rest.now in
    omega (arith, most, c.count_of_block.ensures)

pub mark_group-requires-clause-block : goal.mark_group-requires-clause-block
mark_group-requires-clause-block c =
    let b = c.in-Some.first.now.block in
    let rest = c.loop-first.rest.now in
    subst (λ xs. AreOfBlock b xs) (sym (c.split_at.ensures.front ∙ ap (λ n. take n rest) c.count_of_block.ensures)) (head_of_block b rest)

pub mark_group-requires-clause-order : goal.mark_group-requires-clause-order
mark_group-requires-clause-order c =
    order_of_block c.split_at.result.0.now c.split_at.result.1.now (subst AreInOrder c.split_at.ensures.by_index.0 c.loop-first.invariant.order) c.in-Some.first.now.block (mark_group-requires-clause-block c)

pub loop-first-preserved : goal.loop-first-preserved
loop-first-preserved c =
    let xs = c.split_at.result.0.now in
    let ys = c.split_at.result.1.now in
    let h = c.loop-first.invariant in
    let g = c.mark_group.ensures in
    let now = replicas_of c.loop-first.self.arena in
    let parted = c.split_at.ensures.by_index.0 in
    let parts : (b : ℕ) → has_block c.args.surplus.now b ≡ false → (has_block xs b ≡ false) × (has_block ys b ≡ false) = λ b none.
    blocks_of_parts xs ys b (subst (λ l. has_block l b ≡ false) parted (h.listed b none)) in
    record {
      replicas = ap (λ m. revise m (excess_by ys)) g.replicas ∙ excess_parts now xs ys ∙ ap (λ l. revise now (excess_by l)) (sym parted) ∙ h.replicas;
      others = λ slot none. g.others slot (λ b here. (parts b (none b (sym (ap (λ l. lookup (nat_eq b) l) h.entries.ids) ∙ here))).0) ∙ h.others slot none;
      entries = entries-chain c.args.self.now.arena c.loop-first.self.arena c.mark_group.new.self.arena h.entries g.entries;
      levels = λ were. g.levels (h.levels were);
      listed = λ b none. (parts b none).1;
      order = order_behind xs ys (subst AreInOrder parted h.order);
    }

pub returns-clause-replicas : goal.returns-clause-replicas
returns-clause-replicas c =
    let none : c.loop-first.rest.now ≡ [] = none_left c.loop-first.rest.now c.in_default.ensures.value in
    let now = replicas_of c.loop-first.self.arena in
    sym (excess_end now) ∙ ap (λ xs. revise now (excess_by xs)) (sym none) ∙ c.loop-first.invariant.replicas
