use Rattle.std.proofs.Common.{◌≡◌, ◌∙◌, ◌++◌, ◌+◌, List, refl, sym, ap, subst, append-nil, take, take_all, length, ◌≤◌}
use Rattle.std.specs.List.{flat_map}
use Rattle.bm_base.specs.declared.commands.NodeCommands.{NodeCommands}
use Rattle.bm_base.specs.declared.commands.Transfer.{Transfer}
use Rattle.cluster_repair.specs.SentCopies.{AreBegun}
use Rattle.cluster_repair.proofs.SentLemmas.{begun_none, begun_on, begun_same, transfers_more, deletes_more}
use Rattle.cluster_repair.proofs.datanodes.DataNodes.obey.Goals as goal

pub loop-node-init : goal.loop-node-init
loop-node-init c = record { begun = begun_none c.args.topology.now.cluster c.args.now c.args.self.now; deletes = sym (append-nil c.args.self.now.deletes.items) }

pub loop-node-preserved : goal.loop-node-preserved
loop-node-preserved c =
    let C = c.args.topology.now.cluster in
    let now = c.args.now in
    let ns = c.args.commands.now.nodes in
    let i = c.loop-node.node-index in
    let n = c.node-item.result in
    let ts : List Transfer = flat_map (λ (m : NodeCommands). m.transfers) (take (i + 1) ns) in
    let below = rw c.as_slice-node-items.ensures at c.loop-node-test.true in
    let is = sym (rw c.as_slice-node-items.ensures at c.node-item.is) in
    record {
      begun = begun_same C now ts c.args.self.now c.send_all.new.self _ refl refl refl refl refl refl
          (begun_on C now (flat_map (λ (m : NodeCommands). m.transfers) (take i ns)) n.transfers ts c.args.self.now c.loop-node.self c.send_all.new.self
          (transfers_more ns i n below is)
          c.loop-node.invariant.begun (subst (λ (us : List Transfer). AreBegun C now us c.loop-node.self c.send_all.new.self) c.as_slice.ensures c.in_ok-send_all.ensures.begun));
      deletes = deletes_more ns i n c.args.self.now.deletes.items c.send_all.new.self.deletes.items c.add_deletes.new.deletes.items c.as_slice-in-loop-node.result.now below is
          (ap (λ ds. ds.items) c.send_all.ensures.deletes ∙ c.loop-node.invariant.deletes) c.as_slice-in-loop-node.ensures c.in_ok-add_deletes.ensures;
    }

pub returns-clause-begun : goal.returns-clause-begun
returns-clause-begun c =
    let ns = c.args.commands.now.nodes in
    let all : length ns ≤ c.loop-node.node-index = rw c.as_slice-node-items.ensures at c.loop-node-test.false in
    subst (λ (ms : List NodeCommands). AreBegun c.args.topology.now.cluster c.args.now (flat_map (λ m. m.transfers) ms) c.args.self.now c.loop-node.self) (take_all c.loop-node.node-index ns all) c.loop-node.invariant.begun

pub returns-clause-deletes : goal.returns-clause-deletes
returns-clause-deletes c =
    let ns = c.args.commands.now.nodes in
    let all : length ns ≤ c.loop-node.node-index = rw c.as_slice-node-items.ensures at c.loop-node-test.false in
    subst (λ (ms : List NodeCommands). c.loop-node.self.deletes.items ≡ c.args.self.now.deletes.items ++ flat_map (λ m. m.deletes) ms) (take_all c.loop-node.node-index ns all) c.loop-node.invariant.deletes
