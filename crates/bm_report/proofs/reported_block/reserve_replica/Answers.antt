use Rattle.bm_arena.specs.Contents.{entry_capacity}
use Rattle.bm_report.proofs.Preparation.{prepared-capacity}
use Rattle.bm_report.proofs.reported_block.reserve_replica.Goals as goal

pub returns-clause-kept : goal.returns-clause-kept
returns-clause-kept c =
    prepared-capacity c.args.arena.now c.reserve_triplet.new.self c.args.slot (entry_capacity c.reserve_triplet.new.self c.args.slot) c.reserve_triplet.ensures.rest c.reserve_triplet.ensures.grows
