use Rattle.std.proofs.Common.{is_some, ap, sym, ◌∙◌}
use Rattle.bm_base.specs.Machine.State.{replica_at}
use Rattle.bm_pending.proofs.TargetViews.{get-map_of}
use Rattle.bm_pending.proofs.pending_transfers.PendingTransfers.contains.Goals as goal

pub returns : goal.returns
returns c = rw (← c.self.view_is, ← c.block.view_is, ← c.storage.view_is) (c.is_some.ensures ∙ ap is_some (c.find_target.ensures ∙ sym (get-map_of c.self.inside.by_block.entries (replica_at c.block.inside.0 c.storage.inside.0))))
