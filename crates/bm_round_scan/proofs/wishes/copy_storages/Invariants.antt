use Rattle.std.proofs.Common.{◌≡◌, take}
use Rattle.bm_round_scan.proofs.wishes.copy_storages.Given as goal

abbrev pub invariant-loop-storage : goal.invariant-loop-storage
invariant-loop-storage l = l.copy ≡ take l.storage-index l.storages
