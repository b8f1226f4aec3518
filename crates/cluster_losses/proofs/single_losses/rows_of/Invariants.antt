use Rattle.std.proofs.Common.{take}
use Rattle.std.specs.List.{AllZip}
use Rattle.cluster_losses.specs.Tables.{IsRowAt}
use Rattle.cluster_losses.proofs.single_losses.rows_of.Given as goal

abbrev pub invariant-loop-index : goal.invariant-loop-index
invariant-loop-index l = AllZip (IsRowAt l.loaded.files l.loaded.session.manager) (take l.index l.domains) l.rows.items
