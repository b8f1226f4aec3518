use Rattle.std.specs.Prelude.{false, None, OnOk, IfOk, IfErr, ◌≡◌}
use Rattle.std.proofs.Common.{subst, sym}
use Rattle.bm_base.specs.Machine.Answering.{Refuses}
use Rattle.bm_shards.proofs.Questions.{own_refusal, own_level, up_to_date_inside}
use Rattle.bm_shards.specs.Whole.{AreUpToDate}
use Rattle.bm_shards.proofs.all_shards.AllShards.level.Goals as goal

pub returns-clause-known : goal.returns-clause-known
returns-clause-known c =
    subst (λ o. OnOk c.level.result (o ≡ None)) (own_refusal c.args.id c.as_slice.result.now c.self.inside.shards.items _ c.args.self.now c.own_shard.ensures.own c.as_slice.ensures.value c.self.view_is) c.level.ensures.known

pub returns-clause-level : goal.returns-clause-level
returns-clause-level c = λ C up_to_date.
    subst (λ p. IfOk c.level.result (λ v. v ≡ p)) (own_level c.args.id c.as_slice.result.now c.self.inside.shards.items _ c.args.self.now c.own_shard.ensures.own c.as_slice.ensures.value c.self.view_is C)
    (c.level.ensures.level C (c.own_shard.ensures.up_to_date C (subst (AreUpToDate C) (sym c.as_slice.ensures.value) (up_to_date_inside C _ c.args.self.now c.self.view_is up_to_date))))

pub returns-clause-refused : goal.returns-clause-refused
returns-clause-refused c =
    subst (λ o. IfErr c.level.result (Refuses o false)) (own_refusal c.args.id c.as_slice.result.now c.self.inside.shards.items _ c.args.self.now c.own_shard.ensures.own c.as_slice.ensures.value c.self.view_is) c.level.ensures.refused
