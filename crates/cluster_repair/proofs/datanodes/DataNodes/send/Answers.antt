use Rattle.std.proofs.Common.{◌∙◌, ◌+◌, ◌-◌, ◌^◌, min, refl, sym, ap}
use Rattle.cluster_repair.specs.declared.awaited_copies.Sent.{Sent}
use Rattle.cluster_repair.proofs.SentLemmas.{begun_already, begun_one, is_sent}
use Rattle.cluster_repair.proofs.datanodes.DataNodes.send.Goals as goal

pub returns-clause-begun : goal.returns-clause-begun
returns-clause-begun c =
    let s : Sent = record { arrival = c.in_ok-arrival.arrival; order = c.args.self.now.on_way.next; transfer = c.args.transfer } in
    begun_one c.args.topology.now.cluster c.args.now c.args.self.now _ s
    (sym c.has.ensures ∙ c.if-has.false) c.in_ok-add.ensures.sent refl c.in_ok-add.ensures.next
    (is_sent c.args.topology.now.cluster c.args.now c.args.self.now.links c.send.new.self s c.node_of-source.result c.node_of-target.result c.node_of-source.ensures c.node_of-target.ensures
    c.in_ok-arrival.ensures.arrival c.in_ok-arrival.ensures.sending c.in_ok-arrival.ensures.receiving c.send.ensures.bandwidth)
    c.in_ok-take.ensures.free c.take.ensures.nodes c.take.ensures.storages
    c.saturating_add-self.ensures
    (c.saturating_add-self-2.ensures ∙ ap (λ n. min (c.args.self.now.bytes + n) (2 ^ 128 - 1)) c.from.ensures) c.max-self.ensures

pub returns-then-has-clause-begun : goal.returns-then-has-clause-begun
returns-then-has-clause-begun c = begun_already c.args.topology.now.cluster c.args.now c.args.self.now c.args.transfer (sym c.has.ensures ∙ c.if-has.true)
