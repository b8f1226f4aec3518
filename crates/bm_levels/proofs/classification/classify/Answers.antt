use Rattle.std.proofs.Common.{◌≡◌, ◌&&◌, Bool, Some, true, false, refl, sym, ap, ◌∙◌}
use Rattle.std.specs.Prelude.{nat_le}
use Rattle.bm_base.specs.Machine.Levels.{level_of}
use Rattle.bm_arena.specs.Contents.{block_at}
use Rattle.bm_levels.specs.ClusterAfter.{rack_after, drains_after}
use Rattle.bm_levels.proofs.StatusByCounts.{level_classified, settled_classified, unknown_classified, unknown_level, none_classified}
use Rattle.bm_levels.proofs.classification.classify.Goals as goal

pub returns-in_default-clause-level : goal.returns-in_default-clause-level
returns-in_default-clause-level c = (none_classified (rack_after c.args.cluster_after.now) (drains_after c.args.cluster_after.now) c.args.cluster_after.now.multi (block_at c.args.arena.now c.args.slot) c.in_default.ensures.info).0

pub returns-in_default-clause-settled : goal.returns-in_default-clause-settled
returns-in_default-clause-settled c = (none_classified (rack_after c.args.cluster_after.now) (drains_after c.args.cluster_after.now) c.args.cluster_after.now.multi (block_at c.args.arena.now c.args.slot) c.in_default.ensures.info).1

pub returns-in_default-info-clause-level : goal.returns-in_default-info-clause-level
returns-in_default-info-clause-level c = unknown_level (rack_after c.args.cluster_after.now) (drains_after c.args.cluster_after.now) c.args.cluster_after.now.multi (block_at c.args.arena.now c.args.slot) (ap Some (sym c.in_default-info.is) ∙ c.in-Some.ensures.info)

pub returns-in_default-info-clause-settled : goal.returns-in_default-info-clause-settled
returns-in_default-info-clause-settled c =
    unknown_classified (rack_after c.args.cluster_after.now) (drains_after c.args.cluster_after.now) (block_at c.args.arena.now c.args.slot) c.in-Some.triplets.now c.count.result (ap Some (sym c.in_default-info.is) ∙ c.in-Some.ensures.info) c.in-Some.ensures.replicas c.count.ensures

pub returns-then-count-clause-level : goal.returns-then-count-clause-level
returns-then-count-clause-level c =
    c.level_of.ensures ∙ ap (λ n. level_of (record { live = c.count-count.result.live; drained = c.count-count.result.drained; wanted = c.in-Some-info.info.repl; racks = n; multi_rack = c.args.cluster_after.now.multi })) c.racks.ensures
    ∙ level_classified (rack_after c.args.cluster_after.now) (drains_after c.args.cluster_after.now) c.args.cluster_after.now.multi (block_at c.args.arena.now c.args.slot) c.in-Some.triplets.now c.in-Some-info.info c.count-count.result (ap Some (sym c.in-Some-info.is) ∙ c.in-Some.ensures.info) c.in-Some.ensures.replicas
    c.count-count.ensures

pub returns-then-count-clause-settled : goal.returns-then-count-clause-settled
returns-then-count-clause-settled c =
    ap (λ b. b && nat_le c.args.replicas c.in-Some-info.info.repl) (sym c.if-count.true)
    ∙ settled_classified (rack_after c.args.cluster_after.now) (drains_after c.args.cluster_after.now) (block_at c.args.arena.now c.args.slot) c.in-Some.triplets.now c.args.replicas c.in-Some-info.info c.count-count.result (ap Some (sym c.in-Some-info.is) ∙ c.in-Some.ensures.info) c.in-Some.ensures.replicas c.requires
    c.count-count.ensures

pub returns-else-count-clause-level : goal.returns-else-count-clause-level
returns-else-count-clause-level c =
    c.level_of.ensures ∙ ap (λ n. level_of (record { live = c.count-count.result.live; drained = c.count-count.result.drained; wanted = c.in-Some-info.info.repl; racks = n; multi_rack = c.args.cluster_after.now.multi })) c.racks.ensures
    ∙ level_classified (rack_after c.args.cluster_after.now) (drains_after c.args.cluster_after.now) c.args.cluster_after.now.multi (block_at c.args.arena.now c.args.slot) c.in-Some.triplets.now c.in-Some-info.info c.count-count.result (ap Some (sym c.in-Some-info.is) ∙ c.in-Some.ensures.info) c.in-Some.ensures.replicas
    c.count-count.ensures

pub returns-else-count-clause-settled : goal.returns-else-count-clause-settled
returns-else-count-clause-settled c =
    never _ (nat_le c.args.replicas c.in-Some-info.info.repl) c.if-count.false
    ∙ settled_classified (rack_after c.args.cluster_after.now) (drains_after c.args.cluster_after.now) (block_at c.args.arena.now c.args.slot) c.in-Some.triplets.now c.args.replicas c.in-Some-info.info c.count-count.result (ap Some (sym c.in-Some-info.is) ∙ c.in-Some.ensures.info) c.in-Some.ensures.replicas c.requires
    c.count-count.ensures
  where
    never : (a b : Bool) → a ≡ false → a ≡ (a && b)
    never true b e = cc
    never false b e = refl
