use Rattle.cluster_repair.proofs.NumberLemmas.{free_known}
use Rattle.cluster_repair.proofs.free_bytes.FreeBytes.new.Goals as goal

pub returns-clause-free : goal.returns-clause-free
returns-clause-free c s = free_known c.args.topology.now.cluster s c.in_ok-storages.storages.items _ _ c.in_ok-storages.ensures c.as_slice.ensures.value (c.in_ok-free.ensures s)
