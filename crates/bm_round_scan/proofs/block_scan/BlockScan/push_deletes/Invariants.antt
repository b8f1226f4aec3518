use Rattle.std.proofs.Common.{◌≡◌, ◌++◌, map, drop}
use Rattle.bm_round_scan.specs.BlockMarks.{of_block}
use Rattle.bm_round_scan.specs.BlockScans.{deletes_of}
use Rattle.bm_round_scan.proofs.block_scan.BlockScan.push_deletes.Given as goal

abbrev pub invariant-loop-storage : goal.invariant-loop-storage
invariant-loop-storage l = l.into.items ++ deletes_of l.enough (map (of_block l.self.id) (drop l.storage-index l.storage-items)) ≡ l.initial.into.items ++ deletes_of l.enough (map (of_block l.self.id) l.storage-items)
