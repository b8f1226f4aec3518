use Rattle.std.proofs.Common.{◌+◌, ◌∷◌, map, drop, sym, ap, ◌∙◌, arith}
use Rattle.bm_base.specs.Machine.Replicas.{is_live_on}
use Rattle.bm_arena.specs.Triplets.{triplet_view}
use Rattle.bm_levels.proofs.Slots.{next_triplet}
use Rattle.bm_levels.proofs.CountedReplicas.{counted_more, counted_same}
use Rattle.bm_levels.proofs.live_replicas.count_live.Goals as goal
use Rattle.bm_levels.proofs.live_replicas.count_live.Goals.{then-is_live_on, else-is_live_on}

pub loop-triplet-preserved : goal.loop-triplet-preserved
loop-triplet-preserved c =
    let p = is_live_on c.args.topology.now.cluster in
    let rs = drop c.loop-triplet.triplet-index (map triplet_view c.args.triplets.now) in
    let rest = drop (c.loop-triplet.triplet-index + 1) (map triplet_view c.args.triplets.now) in
    let r = c.replica-storage.result in
    let next = next_triplet c.args.triplets.now c.loop-triplet.triplet-index c.triplet-item.result c.loop-triplet-test.true c.triplet-item.is in
    let here = next ∙ ap (λ x. x ∷ rest) (sym c.replica-storage.ensures) in
    elim c.if-is_live_on.branch [
      | then-is_live_on w ↦
          let more = counted_more p rs rest r here (sym c.is_live_on.ensures ∙ w.if-is_live_on.true) in
          record { rest = omega (arith, more, w.count-is, c.loop-triplet.invariant.rest); few = omega (arith, w.count-is, c.loop-triplet.invariant.few) }
      | else-is_live_on w ↦
          let same = counted_same p rs rest r here (sym c.is_live_on.ensures ∙ w.if-is_live_on.false) in
          record { rest = omega (arith, same, w.count-is, c.loop-triplet.invariant.rest); few = omega (arith, w.count-is, c.loop-triplet.invariant.few) }
    ]
