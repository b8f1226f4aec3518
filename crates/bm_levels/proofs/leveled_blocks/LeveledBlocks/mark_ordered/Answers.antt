use Rattle.std.proofs.Common.{◌≡◌, ◌≤◌, ◌+◌, [], ◌∷◌, length, drop, drop_of_length-le, refl, sym, ap, subst, ◌∙◌, arith}
use Rattle.std.proofs.lemmas.Grind.{common_steps}
use Rattle.std.proofs.lemmas.Bool.{eq-eqb, ne_eqb}
use Rattle.bm_base.specs.Maps.Map.{revise}
use Rattle.bm_arena.specs.HeldMaps.{replicas_of, blocks_of}
use Rattle.bm_levels.specs.LeveledBlocks.{Leveled, AreLevels}
use Rattle.bm_levels.proofs.ListedMarks.{with_deletes_ordered, order_own, order_other, order_end}
use Rattle.bm_levels.proofs.leveled_blocks.LeveledBlocks.mark_ordered.Goals as goal
use Rattle.bm_levels.proofs.leveled_blocks.LeveledBlocks.mark_ordered.Goals.{then-shard_of-part, else-shard_of-part}

pub loop-delete-init : goal.loop-delete-init
loop-delete-init c = record { replicas = refl; blocks = refl; numbers = refl; levels = λ h. h }

pub loop-delete-preserved : goal.loop-delete-preserved
loop-delete-preserved c =
    let index = c.args.part.index in
    let shards = c.args.part.shards in
    let d = c.delete-item.result in
    let ds = c.args.deletes.now in
    let i = c.loop-delete.delete-index in
    let h = c.loop-delete.invariant in
    let next : drop i ds ≡ d ∷ drop (i + 1) ds = grind (arith, common_steps, c.delete-item.is) in
    let before = ap (λ xs. revise (replicas_of c.loop-delete.self.arena) (with_deletes_ordered index shards xs)) (sym next) ∙ h.replicas in
    elim c.if-shard_of-part.branch [
      | then-shard_of-part w ↦
          let own = eq-eqb _ _ (sym c.shard_of.ensures ∙ w.if-shard_of-part.true) in
          let g = w.mark_one_ordered.ensures in
          let P : Leveled → Type 0 = λ v. AreLevels c.args.topology.now.cluster c.args.self.now → AreLevels c.args.topology.now.cluster v in
          record {
            replicas = ap (λ (v : Leveled). revise (replicas_of v.arena) (with_deletes_ordered index shards (drop (i + 1) ds))) w.self-is
                ∙ ap (λ m. revise m (with_deletes_ordered index shards (drop (i + 1) ds))) g.replicas ∙ order_own (replicas_of c.loop-delete.self.arena) index shards d (drop (i + 1) ds) own ∙ before;
            blocks = ap (λ (v : Leveled). blocks_of v.arena) w.self-is ∙ g.blocks ∙ h.blocks;
            numbers = ap (λ (v : Leveled). v.arena.ids) w.self-is ∙ g.numbers ∙ h.numbers;
            levels = subst P (sym w.self-is) (λ were. g.levels (h.levels were));
          }
      | else-shard_of-part w ↦
          let other = ne_eqb _ _ (λ e. w.if-shard_of-part.false (c.shard_of.ensures ∙ e)) in
          let P : Leveled → Type 0 = λ v. AreLevels c.args.topology.now.cluster c.args.self.now → AreLevels c.args.topology.now.cluster v in
          record {
            replicas = ap (λ (v : Leveled). revise (replicas_of v.arena) (with_deletes_ordered index shards (drop (i + 1) ds))) w.self-is
                ∙ order_other (replicas_of c.loop-delete.self.arena) index shards d (drop (i + 1) ds) other ∙ before;
            blocks = ap (λ (v : Leveled). blocks_of v.arena) w.self-is ∙ h.blocks;
            numbers = ap (λ (v : Leveled). v.arena.ids) w.self-is ∙ h.numbers;
            levels = subst P (sym w.self-is) h.levels;
          }
    ]

pub returns-clause-replicas : goal.returns-clause-replicas
returns-clause-replicas c =
    let past : length c.args.deletes.now ≤ c.loop-delete.delete-index = omega (arith, c.loop-delete-test.false) in
    let none : drop c.loop-delete.delete-index c.args.deletes.now ≡ [] = drop_of_length-le _ past in
    let now = replicas_of c.loop-delete.self.arena in
    sym (order_end now c.args.part.index c.args.part.shards) ∙ ap (λ xs. revise now (with_deletes_ordered c.args.part.index c.args.part.shards xs)) (sym none) ∙ c.loop-delete.invariant.replicas

pub returns-clause-blocks : goal.returns-clause-blocks
returns-clause-blocks c = c.loop-delete.invariant.blocks

pub returns-clause-levels : goal.returns-clause-levels
returns-clause-levels c = c.loop-delete.invariant.levels

pub returns-clause-numbers : goal.returns-clause-numbers
returns-clause-numbers c = c.loop-delete.invariant.numbers
