use Rattle.std.proofs.Common.{◌+◌, ℕ, List, drop, subst, sym, arith}
use Rattle.bm_base.specs.Machine.Replicas.{rack_of}
use Rattle.bm_levels.specs.Status.{drains_after_change}
use Rattle.bm_levels.specs.IndexedLevels.{IndexedLevels, HasCapacityFor, indexed_slots}
use Rattle.bm_levels.proofs.StatusUpdates.{IsUnderway, underway_none, underway_more, underway_classified, underway_others, among_next}
use Rattle.bm_levels.proofs.Slots.{led_next, led_none, led_end}
use Rattle.bm_levels.proofs.level_index.LevelIndex.reclassify_every_block.Goals as goal
use Rattle.bm_levels.proofs.level_index.LevelIndex.reclassify_every_block.Goals.{in-Some, in_default}

pub loop-index-init : goal.loop-index-init
loop-index-init c =
    let C = c.args.cluster_after.now.topology.now.cluster in
    record { underway = underway_none (rack_of C) (drains_after_change C c.args.cluster_after.now.drain_change) c.args.cluster_after.now.multi c.args.arena.now (indexed_slots c.args.arena.now) c.args.self.now; capacity = λ bound h. h }

pub classify-requires : goal.classify-requires
classify-requires c =
    let a = c.args.arena.now in
    let there = among_next (indexed_slots a) (drop (c.loop-index.index + 1) (indexed_slots a)) c.loop-index.index c.in-Some.slot (led_next a c.loop-index.index c.in-Some.slot c.in-Some.ensures) in
    record { capacity = (c.in-Some.slot + 1, omega arith, c.loop-index.invariant.capacity (c.in-Some.slot + 1) (c.requires c.in-Some.slot there)) }

pub loop-index-preserved : goal.loop-index-preserved
loop-index-preserved c =
    let C = c.args.cluster_after.now.topology.now.cluster in
    let D = drains_after_change C c.args.cluster_after.now.drain_change in
    let a = c.args.arena.now in
    let i = c.loop-index.index in
    elim c.match-slot_at.branch [
      | in-Some w ↦
          let x = w.in-Some.slot in
          let rest = drop (i + 1) (indexed_slots a) in
          let next = led_next a i x w.in-Some.ensures in
          let there = among_next (indexed_slots a) rest i x next in
          let P : List ℕ → Type 0 = λ l. IsUnderway (rack_of C) D c.args.cluster_after.now.multi a (indexed_slots a) l c.args.self.now c.loop-index.self in
          let Q : IndexedLevels → Type 0 = λ K. IsUnderway (rack_of C) D c.args.cluster_after.now.multi a (indexed_slots a) rest c.args.self.now K in
          let R : IndexedLevels → Type 0 = λ K. (bound : ℕ) → HasCapacityFor c.args.self.now bound → HasCapacityFor K bound in
          record {
            underway = subst Q (sym w.self-is) (underway_more (rack_of C) D c.args.cluster_after.now.multi a (indexed_slots a) rest x c.args.self.now c.loop-index.self w.classify.new.self there (subst P next c.loop-index.invariant.underway) w.classify.ensures.status w.classify.ensures.others);
            capacity = subst R (sym w.self-is) (λ bound h. w.classify.ensures.capacity bound (c.loop-index.invariant.capacity bound h));
          }
      | in_default w ↦ absurd (led_none a i (sym w.in_default.ensures) (omega (arith, c.loop-index-test.true, c.count-index-end.ensures)))
    ]

pub returns-clause-status : goal.returns-clause-status
returns-clause-status c =
    let C = c.args.cluster_after.now.topology.now.cluster in
    let a = c.args.arena.now in
    let none = led_end a c.loop-index.index (omega (arith, c.loop-index-test.false, c.count-index-end.ensures)) in
    let P : List ℕ → Type 0 = λ l. IsUnderway (rack_of C) (drains_after_change C c.args.cluster_after.now.drain_change) c.args.cluster_after.now.multi a (indexed_slots a) l c.args.self.now c.loop-index.self in
    underway_classified (rack_of C) (drains_after_change C c.args.cluster_after.now.drain_change) c.args.cluster_after.now.multi a (indexed_slots a) c.args.self.now c.loop-index.self (subst P none c.loop-index.invariant.underway)

pub returns-clause-others : goal.returns-clause-others
returns-clause-others c =
    let C = c.args.cluster_after.now.topology.now.cluster in
    let a = c.args.arena.now in
    underway_others (rack_of C) (drains_after_change C c.args.cluster_after.now.drain_change) c.args.cluster_after.now.multi a (indexed_slots a) (drop c.loop-index.index (indexed_slots a)) c.args.self.now c.loop-index.self c.loop-index.invariant.underway
