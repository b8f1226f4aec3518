use Rattle.std.proofs.Common.{not, sym, ap, ◌∙◌}
use Rattle.bm_base.specs.Machine.Answering.{checked}
use Rattle.bm_topo.proofs.OwnStorages.{heartbeat_accepted}
use Rattle.bm_topo.proofs.topology.Topology.check_heartbeat.Goals as goal

pub returns-then-not-names_foreign_storage : goal.returns-then-not-names_foreign_storage
returns-then-not-names_foreign_storage c =
    let known = ap not (sym c.knows_node.ensures ∙ c.if-not-knows_node.false) in
    let own = sym c.names_foreign_storage.ensures ∙ c.if-not-names_foreign_storage.true in
    sym (ap checked (heartbeat_accepted c.args.self.now.cluster c.args.node c.args.remaining.now known own))
