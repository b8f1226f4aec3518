use Rattle.cluster_repair.proofs.RetirementLemmas.{answers_more, answers_all}
use Rattle.cluster_repair.proofs.repair.note_retired.Goals as goal

pub loop-node-preserved : goal.loop-node-preserved
loop-node-preserved c n =
    answers_more c.args.manager.now c.args.drained.now c.loop-node.node-index c.node-item.result n c.args.rounds c.args.seconds c.args.retired.now.items c.loop-node.retired.items
    c.note_answer.new.retired.items c.loop-node-test.true c.node-item.is (c.loop-node.invariant n) (c.in_ok-note_answer.ensures n)

pub returns : goal.returns
returns c n =
    answers_all c.args.manager.now c.args.drained.now c.loop-node.node-index n c.args.rounds c.args.seconds c.args.retired.now.items c.loop-node.retired.items c.loop-node-test.false
    (c.loop-node.invariant n)
