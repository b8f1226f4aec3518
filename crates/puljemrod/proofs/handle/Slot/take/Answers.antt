use Rattle.std.proofs.Common.{sym, ◌∙◌}
use Rattle.bm_base.proofs.Options.{there}
use Rattle.puljemrod.proofs.handle.Slot.take.Goals as goal

pub into_parts-requires : goal.into_parts-requires
into_parts-requires c = there c.replace-handle.result.handle.kept (sym c.replace-handle.result.open_if_kept ∙ c.if-is_open.true)
