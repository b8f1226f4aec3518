use Rattle.std.proofs.Common.{◌+◌, [], drop, map, refl, ap, sym, ◌∙◌, inl, inr, arith}
use Rattle.std.proofs.lemmas.List.{length-map}
use Rattle.bm_arena.specs.Triplets.{triplet_view}
use Rattle.bm_levels.specs.ReplicaCounts.{count_replicas, count_replica}
use Rattle.bm_levels.specs.ClusterAfter.{rack_after, drains_after}
use Rattle.bm_levels.proofs.Counts.{few_step, counted_next}
use Rattle.bm_levels.proofs.Slots.{next_triplet, end_triplets}
use Rattle.bm_levels.proofs.classification.count.Goals as goal

pub loop-triplet-init : goal.loop-triplet-init
loop-triplet-init c = record { rest = cc; live = omega (arith, ap (λ k. k.live) c.none-count.ensures); drained = omega (arith, ap (λ k. k.drained) c.none-count.ensures) }

pub loop-triplet-preserved : goal.loop-triplet-preserved
loop-triplet-preserved c =
    let rack = rack_after c.args.cluster_after.now in
    let draining = drains_after c.args.cluster_after.now in
    let here = next_triplet c.args.triplets.now c.loop-triplet.triplet-index c.triplet-item.result c.loop-triplet-test.true c.triplet-item.is in
    let counted = c.add.ensures ∙ (λ i. count_replica rack draining c.loop-triplet.count (c.replica-storage.ensures i).0 (c.replica-storage.ensures i).1) in
    let more = few_step rack draining c.loop-triplet.count c.add.new.self _ _ counted in
    record {
      rest = counted_next rack draining c.loop-triplet.count c.add.new.self _ (map triplet_view c.args.triplets.now) _ _ here counted c.loop-triplet.invariant.rest;
      live = omega (arith, c.loop-triplet.invariant.live, more.0);
      drained = omega (arith, c.loop-triplet.invariant.drained, more.1);
    }

pub returns-then-count : goal.returns-then-count
returns-then-count c =
    let rack = rack_after c.args.cluster_after.now in
    let draining = drains_after c.args.cluster_after.now in
    let here = next_triplet c.args.triplets.now c.loop-triplet.triplet-index c.triplet-item.result c.loop-triplet-test.true c.triplet-item.is in
    let counted = c.add.ensures ∙ (λ i. count_replica rack draining c.loop-triplet.count (c.replica-storage.ensures i).0 (c.replica-storage.ensures i).1) in
    let same = length-map c.args.triplets.now triplet_view in
    record {
      rest = drop (c.loop-triplet.triplet-index + 1) (map triplet_view c.args.triplets.now);
      counted = counted_next rack draining c.loop-triplet.count c.add.new.self _ (map triplet_view c.args.triplets.now) _ _ here counted c.loop-triplet.invariant.rest;
      decided = inr (omega (arith, same, c.if-may_stop.true), c.if-count-wanted.true, c.if-count.true);
    }

pub returns : goal.returns
returns c =
    let past = end_triplets c.args.triplets.now c.loop-triplet.triplet-index (omega (arith, c.loop-triplet-test.false)) in
    record {
      rest = [];
      counted = sym (ap (count_replicas (rack_after c.args.cluster_after.now) (drains_after c.args.cluster_after.now) c.loop-triplet.count) past) ∙ c.loop-triplet.invariant.rest;
      decided = inl refl;
    }
