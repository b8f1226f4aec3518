use Rattle.std.proofs.Common.{take}
use Rattle.puljemrod.specs.ListRows.{good_storages}
use Rattle.puljemrod.proofs.LocatedRows.{Copied}
use Rattle.puljemrod.proofs.locate.copy_good.Given as goal

abbrev pub invariant-loop-at : goal.invariant-loop-at
invariant-loop-at l = Copied (good_storages (take l.at l.rows)) l.initial.out l.out l.count
