use Rattle.std.proofs.Common.{arith, ◌∙◌, ap}
use Rattle.bm_base.specs.Shards.{shard_of}
use Rattle.bm_shards.proofs.OneOf.{at_end, up_to_date_at}
use Rattle.bm_shards.proofs.events.change_own.Goals as goal

pub change_at-requires-clause-up_to_date : goal.change_at-requires-clause-up_to_date
change_at-requires-clause-up_to_date c = λ s there. up_to_date_at _ _ _ s c.requires.up_to_date there

pub returns-clause-done : goal.returns-clause-done
returns-clause-done c =
    (at_end c.args.topology.now.cluster c.args.event.now c.args.id _ _ _ c.change_at.result c.requires.shards c.requires.one (c.index_of_shard-index.ensures ∙ ap (shard_of c.args.id) (omega (arith, c.len.ensures, c.args.shards.now.ok.0))) c.change_at.ensures.changed c.change_at.ensures.same).0

pub returns-clause-changed : goal.returns-clause-changed
returns-clause-changed c =
    (at_end c.args.topology.now.cluster c.args.event.now c.args.id _ _ _ c.change_at.result c.requires.shards c.requires.one (c.index_of_shard-index.ensures ∙ ap (shard_of c.args.id) (omega (arith, c.len.ensures, c.args.shards.now.ok.0))) c.change_at.ensures.changed c.change_at.ensures.same).1

pub returns-clause-up_to_date : goal.returns-clause-up_to_date
returns-clause-up_to_date c =
    (at_end c.args.topology.now.cluster c.args.event.now c.args.id _ _ _ c.change_at.result c.requires.shards c.requires.one (c.index_of_shard-index.ensures ∙ ap (shard_of c.args.id) (omega (arith, c.len.ensures, c.args.shards.now.ok.0))) c.change_at.ensures.changed c.change_at.ensures.same).2 c.requires.up_to_date

pub returns-clause-shards : goal.returns-clause-shards
returns-clause-shards c =
    (at_end c.args.topology.now.cluster c.args.event.now c.args.id _ _ _ c.change_at.result c.requires.shards c.requires.one (c.index_of_shard-index.ensures ∙ ap (shard_of c.args.id) (omega (arith, c.len.ensures, c.args.shards.now.ok.0))) c.change_at.ensures.changed c.change_at.ensures.same).3

pub returns-clause-rounds : goal.returns-clause-rounds
returns-clause-rounds c =
    (at_end c.args.topology.now.cluster c.args.event.now c.args.id _ _ _ c.change_at.result c.requires.shards c.requires.one (c.index_of_shard-index.ensures ∙ ap (shard_of c.args.id) (omega (arith, c.len.ensures, c.args.shards.now.ok.0))) c.change_at.ensures.changed c.change_at.ensures.same).4

pub returns-clause-unchanged : goal.returns-clause-unchanged
returns-clause-unchanged c =
    (at_end c.args.topology.now.cluster c.args.event.now c.args.id _ _ _ c.change_at.result c.requires.shards c.requires.one (c.index_of_shard-index.ensures ∙ ap (shard_of c.args.id) (omega (arith, c.len.ensures, c.args.shards.now.ok.0))) c.change_at.ensures.changed c.change_at.ensures.same).5

pub returns-clause-after_refusal : goal.returns-clause-after_refusal
returns-clause-after_refusal c =
    (at_end c.args.topology.now.cluster c.args.event.now c.args.id _ _ _ c.change_at.result c.requires.shards c.requires.one (c.index_of_shard-index.ensures ∙ ap (shard_of c.args.id) (omega (arith, c.len.ensures, c.args.shards.now.ok.0))) c.change_at.ensures.changed c.change_at.ensures.same).6 c.requires.up_to_date
