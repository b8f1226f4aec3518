use Rattle.std.specs.Prelude.{true, None, OnOk, IfOk, IfErr, ◌≡◌}
use Rattle.std.proofs.Common.{subst}
use Rattle.bm_base.specs.Machine.Answering.{Refuses}
use Rattle.bm_shards.proofs.Questions.{own_refusal, own_places}
use Rattle.bm_shards.proofs.all_shards.AllShards.places.Goals as goal

pub returns-clause-known : goal.returns-clause-known
returns-clause-known c =
    subst (λ o. OnOk c.places.result (o ≡ None)) (own_refusal c.args.id c.as_slice.result.now c.self.inside.shards.items _ c.args.self.now c.own_shard.ensures.own c.as_slice.ensures.value c.self.view_is) c.places.ensures.known

pub returns-clause-places : goal.returns-clause-places
returns-clause-places c =
    subst (λ p. IfOk c.places.result (λ v. v ≡ p)) (own_places c.args.id c.as_slice.result.now c.self.inside.shards.items _ c.args.self.now c.own_shard.ensures.own c.as_slice.ensures.value c.self.view_is) c.places.ensures.places

pub returns-clause-refused : goal.returns-clause-refused
returns-clause-refused c =
    subst (λ o. IfErr c.places.result (Refuses o true)) (own_refusal c.args.id c.as_slice.result.now c.self.inside.shards.items _ c.args.self.now c.own_shard.ensures.own c.as_slice.ensures.value c.self.view_is) c.places.ensures.refused
