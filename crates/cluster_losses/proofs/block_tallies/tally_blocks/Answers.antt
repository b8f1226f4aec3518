use Rattle.std.proofs.Common.{◌≡◌, ◌∙◌, ◌≤◌, ◌<◌, ◌+◌, ◌-◌, ◌^◌, drop, length, refl, sym, ap, subst, arith}
use Rattle.std.proofs.lemmas.List.{drop_all, length-map}
use Rattle.std.proofs.lemmas.Option.{slice_get_read}
use Rattle.bm_base.specs.declared.replica.Replica.{Replica}
use Rattle.bm_base.specs.Words.{Cluster, entries}
use Rattle.bm_base.specs.Maps.Map.{get}
use Rattle.cluster_lost.specs.Passes.{IsPassed, replica_of}
use Rattle.cluster_lost.specs.Sources.{source_of}
use Rattle.cluster_lost.proofs.PassLemmas.{next_replica, pass_larger, replicas_are}
use Rattle.cluster_losses.proofs.Counts.{few_known}
use Rattle.cluster_losses.proofs.block_tallies.tally_blocks.Goals as goal

pub loop-replica-init : goal.loop-replica-init
loop-replica-init c = record {
  passed = c.in_ok-pass.ensures.started c.args.session.now.manager (get c.args.rows.now.map) c.args.excess.now c.requires.lawful.holdings c.requires.excess;
  within = c.in_ok-pass.ensures.within;
}

pub take-requires-clause-small : goal.take-requires-clause-small
take-requires-clause-small c = pass_larger c.loop-replica.replica-index (2 ^ 59 - 1) c.loop-replica.pass (omega arith) c.loop-replica.invariant.within

pub take-requires-clause-few : goal.take-requires-clause-few
take-requires-clause-few c =
    few_known c.args.session.now.manager c.loop-replica.pass.block c.get-info.result c.requires.lawful (c.get-info.ensures ∙ c.requires.in_step.blocks c.loop-replica.pass.block)

pub loop-replica-preserved : goal.loop-replica-preserved
loop-replica-preserved c =
    let M = c.args.session.now.manager in
    let i = c.loop-replica.replica-index in
    let rs = c.args.replicas.now in
    let row_of = get c.args.rows.now.map in
    let n = c.args.count in
    let next = next_replica (entries M.holdings.replicas) rs i c.replica-item.result (c.requires.replicas ∙ replicas_are M.holdings) (slice_get_read rs _ i _ refl c.loop-replica-test.true c.replica-item.is) in
    record {
      passed =
          c.in_ok-take.ensures.passed M row_of n next.0 (drop (i + 1) (entries M.holdings.replicas)) next.1
          (c.get-info.ensures ∙ c.requires.in_step.blocks c.loop-replica.pass.block)
          (c.source_of-source.ensures ∙ ap (λ (C : Cluster). source_of C row_of c.replica-item.result.storage) c.requires.in_step.cluster ∙ ap (λ (r : Replica). source_of M.cluster row_of r.storage) next.1)
          (subst (λ left. IsPassed M row_of n c.args.excess.now left c.loop-replica.pass) next.2 c.loop-replica.invariant.passed);
      within = c.in_ok-take.ensures.within i c.loop-replica.invariant.within;
    }

pub finish-requires-clause-small : goal.finish-requires-clause-small
finish-requires-clause-small c = pass_larger c.loop-replica.replica-index (2 ^ 59 - 1) c.loop-replica.pass (omega arith) c.loop-replica.invariant.within

pub finish-requires-clause-few : goal.finish-requires-clause-few
finish-requires-clause-few c =
    few_known c.args.session.now.manager c.loop-replica.pass.block c.get-info-2.result c.requires.lawful (c.get-info-2.ensures ∙ c.requires.in_step.blocks c.loop-replica.pass.block)

pub returns-clause-whole : goal.returns-clause-whole
returns-clause-whole c =
    let M = c.args.session.now.manager in
    let es = entries M.holdings.replicas in
    let i = c.loop-replica.replica-index in
    let row_of = get c.args.rows.now.map in
    let as_many = ap length (c.requires.replicas ∙ replicas_are M.holdings) ∙ length-map es replica_of in
    let past : length es ≤ i = omega (arith, as_many, c.loop-replica-test.false) in
    c.in_ok-finish.ensures.whole M row_of c.args.count c.args.excess.now (c.get-info-2.ensures ∙ c.requires.in_step.blocks c.loop-replica.pass.block)
    (subst (λ left. IsPassed M row_of c.args.count c.args.excess.now left c.loop-replica.pass) (drop_all i es past) c.loop-replica.invariant.passed)
