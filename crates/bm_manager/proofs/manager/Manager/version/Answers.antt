use Rattle.std.proofs.Common.{sym, subst}
use Rattle.bm_view.specs.Version.{AscendsById}
use Rattle.bm_manager.proofs.TableRows.{table_ascends}
use Rattle.bm_manager.proofs.manager.Manager.version.Goals as goal

pub new-requires : goal.new-requires
new-requires g c = subst AscendsById (sym c.in_ok-rows.ensures.table) (table_ascends _)
