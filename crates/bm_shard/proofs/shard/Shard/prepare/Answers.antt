use Rattle.bm_shard.proofs.UnusedEntries.{may_add, may_receive}
use Rattle.bm_shard.proofs.shard.Shard.prepare.Goals as goal

pub returns-in-AddBlock-clause-unused : goal.returns-in-AddBlock-clause-unused
returns-in-AddBlock-clause-unused c = may_add c.args.self.now.part c.args.event.now c.ready_entry.new.self c.in-AddBlock.id c.in-AddBlock.stamp c.in-AddBlock.repl c.in-AddBlock.is c.ready_entry.ensures.unused

pub returns-in-Received-clause-unused : goal.returns-in-Received-clause-unused
returns-in-Received-clause-unused c = may_receive c.args.self.now.part c.args.event.now c.ready_notice.new.self c.in-Received.storage c.in-Received.id c.in-Received.stamp c.in-Received.is c.ready_notice.ensures.unused
