use Rattle.std.proofs.Common.{◌≡◌, ◌+◌, drop, List, sym, subst, arith}
use Rattle.std.proofs.lemmas.List.{drop_all, drop_more}
use Rattle.std.proofs.lemmas.Result.{err_from_is_err_and}
use Rattle.cluster_losses.specs.declared.loss.Loss.{Loss}
use Rattle.cluster_losses.specs.NamedStorages.{all_named, dies, drains, fails, first_unknown}
use Rattle.cluster_losses.proofs.NamedLemmas.{AreLeft, none_left, added, all_added, fault_stays, once}
use Rattle.cluster_losses.proofs.loss_events.Lost.named.Goals as goal

pub loop-loss-init : goal.loop-loss-init
loop-loss-init c = none_left c.args.loaded.now.session.book.topology.cluster c.args.loaded.now.names c.args.losses.now c.new-lost.result c.new-lost.ensures.nodes c.new-lost.ensures.drained c.new-lost.ensures.storages

pub loop-loss-preserved : goal.loop-loss-preserved
loop-loss-preserved c =
    let C = c.args.loaded.now.session.book.topology.cluster in
    let names = c.args.loaded.now.names in
    let ls = c.args.losses.now in
    let i = c.loop-loss.loss-index in
    added C names ls (drop (i + 1) ls) _ c.loop-loss.lost _ c.in_ok-add.ensures.lost c.in_ok-add.ensures.known
    (subst (λ (rest : List Loss). AreLeft C names rest ls c.loop-loss.lost) (drop_more ls i _ c.loop-loss-test.true) c.loop-loss.invariant)

pub returns-clause-lost : goal.returns-clause-lost
returns-clause-lost c =
    let ls = c.args.losses.now in
    all_added c.args.loaded.now.session.book.topology.cluster c.args.loaded.now.names ls c.loop-loss.lost
    (subst (λ rest. AreLeft c.args.loaded.now.session.book.topology.cluster c.args.loaded.now.names rest ls c.loop-loss.lost) (drop_all c.loop-loss.loss-index ls (omega (arith, c.loop-loss-test.false))) c.loop-loss.invariant)

pub returns-clause-nodes_once : goal.returns-clause-nodes_once
returns-clause-nodes_once c =
    let ls = c.args.losses.now in
    once c.loop-loss.lost.nodes.items (all_named c.args.loaded.now.session.book.topology.cluster c.args.loaded.now.names dies ls) (subst (λ rest. AreLeft c.args.loaded.now.session.book.topology.cluster c.args.loaded.now.names rest ls c.loop-loss.lost) (drop_all c.loop-loss.loss-index ls (omega (arith, c.loop-loss-test.false))) c.loop-loss.invariant).nodes

pub returns-clause-drained_once : goal.returns-clause-drained_once
returns-clause-drained_once c =
    let ls = c.args.losses.now in
    once c.loop-loss.lost.drained.items (all_named c.args.loaded.now.session.book.topology.cluster c.args.loaded.now.names drains ls) (subst (λ rest. AreLeft c.args.loaded.now.session.book.topology.cluster c.args.loaded.now.names rest ls c.loop-loss.lost) (drop_all c.loop-loss.loss-index ls (omega (arith, c.loop-loss-test.false))) c.loop-loss.invariant).drained

pub returns-clause-storages_once : goal.returns-clause-storages_once
returns-clause-storages_once c =
    let ls = c.args.losses.now in
    once c.loop-loss.lost.storages.items (all_named c.args.loaded.now.session.book.topology.cluster c.args.loaded.now.names fails ls) (subst (λ rest. AreLeft c.args.loaded.now.session.book.topology.cluster c.args.loaded.now.names rest ls c.loop-loss.lost) (drop_all c.loop-loss.loss-index ls (omega (arith, c.loop-loss-test.false))) c.loop-loss.invariant).storages

pub returns-clause-known : goal.returns-clause-known
returns-clause-known c =
    let ls = c.args.losses.now in
    sym (subst (λ rest. AreLeft c.args.loaded.now.session.book.topology.cluster c.args.loaded.now.names rest ls c.loop-loss.lost) (drop_all c.loop-loss.loss-index ls (omega (arith, c.loop-loss-test.false))) c.loop-loss.invariant).unknown

pub returns-in_err-add-clause-fault : goal.returns-in_err-add-clause-fault
returns-in_err-add-clause-fault c =
    let C = c.args.loaded.now.session.book.topology.cluster in
    let names = c.args.loaded.now.names in
    let ls = c.args.losses.now in
    let i = c.loop-loss.loss-index in
    let e = err_from_is_err_and c.from_residual.result c.from_residual.ensures.1 in
    rw (e.1, e.2)
    (fault_stays C names ls (drop (i + 1) ls) _ _
    (subst (λ (rest : List Loss). first_unknown C names rest ≡ first_unknown C names ls) (drop_more ls i _ c.loop-loss-test.true) c.loop-loss.invariant.unknown) c.in_err-add.ensures.fault)
