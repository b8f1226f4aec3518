use Rattle.std.proofs.Common.{◌≡◌, ◌≤◌, ◌+◌, ℕ, List, [], ◌∷◌, None, true, length, drop, drop_of_length-le, subst, arith}
use Rattle.std.specs.Prelude.{slice_index_or}
use Rattle.std.proofs.lemmas.Grind.{common_steps}
use Rattle.std.proofs.lemmas.Option.{slice_get-get_or}
use Rattle.bm_base.specs.Machine.Replicas.{rack_of}
use Rattle.bm_arena.specs.Contents.{block_at}
use Rattle.bm_levels.specs.declared.classification.BlockStatus.{BlockStatus}
use Rattle.bm_levels.specs.Status.{drains_after_change}
use Rattle.bm_levels.specs.IndexedLevels.{HasStatus}
use Rattle.bm_levels.proofs.StatusUpdates.{IsUnderway, underway_none, underway_more, underway_classified, underway_others, among_at, among_in, classified_as}
use Rattle.bm_levels.proofs.level_index.LevelIndex.reclassify_chunk.Goals as goal

pub returns-then-have_same_status-clause-status : goal.returns-then-have_same_status-clause-status
returns-then-have_same_status-clause-status c slot there =
    let C = c.args.cluster_after.now.topology.now.cluster in
    let D = drains_after_change C c.args.cluster_after.now.drain_change in
    let at = among_at slot c.args.chunk.now there in
    let default : BlockStatus = record { level = None; is_settled = true } in
    let P : List BlockStatus → Type 0 = λ js. HasStatus c.args.self.now slot (slice_index_or js at.0 default) in
    let kept = subst P c.as_slice.ensures (c.have_same_status.ensures c.if-have_same_status.true at.0 slot default at.1) in
    classified_as (rack_of C) D c.args.cluster_after.now.multi (block_at c.args.arena.now slot) c.args.self.now slot (slice_index_or c.classify_chunk-status.result at.0 default) kept (c.classify_chunk-status.ensures at.0 slot default at.1)

pub loop-index-init : goal.loop-index-init
loop-index-init c =
    let C = c.args.cluster_after.now.topology.now.cluster in
    record { underway = underway_none (rack_of C) (drains_after_change C c.args.cluster_after.now.drain_change) c.args.cluster_after.now.multi c.args.arena.now c.args.chunk.now c.args.self.now; capacity = λ bound h. h }

pub set_status-requires : goal.set_status-requires
set_status-requires c =
    let x = slice_index_or c.args.chunk.now c.loop-index.index 0 in
    let at = slice_get-get_or c.args.chunk.now c.loop-index.index 0 c.loop-index-test.true in
    record { capacity = (x + 1, omega arith, c.loop-index.invariant.capacity (x + 1) (c.requires.capacity x (among_in x c.args.chunk.now c.loop-index.index at))) }

pub loop-index-preserved : goal.loop-index-preserved
loop-index-preserved c =
    let C = c.args.cluster_after.now.topology.now.cluster in
    let D = drains_after_change C c.args.cluster_after.now.drain_change in
    let multi = c.args.cluster_after.now.multi in
    let x = slice_index_or c.args.chunk.now c.loop-index.index 0 in
    let rest = drop (c.loop-index.index + 1) c.args.chunk.now in
    let at = slice_get-get_or c.args.chunk.now c.loop-index.index 0 c.loop-index-test.true in
    let there = among_in x c.args.chunk.now c.loop-index.index at in
    let next : drop c.loop-index.index c.args.chunk.now ≡ x ∷ rest = grind (arith, common_steps) in
    let P : List ℕ → Type 0 = λ l. IsUnderway (rack_of C) D multi c.args.arena.now c.args.chunk.now l c.args.self.now c.loop-index.self in
    record {
      underway = underway_more (rack_of C) D multi c.args.arena.now c.args.chunk.now rest x c.args.self.now c.loop-index.self c.set_status.new.self there (subst P next c.loop-index.invariant.underway)
          (classified_as (rack_of C) D multi (block_at c.args.arena.now x) c.set_status.new.self x _ c.set_status.ensures.kept (c.classify_chunk-status.ensures c.loop-index.index x _ at))
          c.set_status.ensures.others;
      capacity = λ bound h. c.set_status.ensures.capacity bound (c.loop-index.invariant.capacity bound h);
    }

pub returns-clause-status : goal.returns-clause-status
returns-clause-status c =
    let C = c.args.cluster_after.now.topology.now.cluster in
    let D = drains_after_change C c.args.cluster_after.now.drain_change in
    let past : length c.args.chunk.now ≤ c.loop-index.index = omega arith in
    let none : drop c.loop-index.index c.args.chunk.now ≡ [] = drop_of_length-le _ past in
    let P : List ℕ → Type 0 = λ l. IsUnderway (rack_of C) D c.args.cluster_after.now.multi c.args.arena.now c.args.chunk.now l c.args.self.now c.loop-index.self in
    underway_classified (rack_of C) D c.args.cluster_after.now.multi c.args.arena.now c.args.chunk.now c.args.self.now c.loop-index.self (subst P none c.loop-index.invariant.underway)

pub returns-clause-others : goal.returns-clause-others
returns-clause-others c =
    let C = c.args.cluster_after.now.topology.now.cluster in
    underway_others (rack_of C) (drains_after_change C c.args.cluster_after.now.drain_change) c.args.cluster_after.now.multi c.args.arena.now c.args.chunk.now (drop c.loop-index.index c.args.chunk.now) c.args.self.now c.loop-index.self c.loop-index.invariant.underway
