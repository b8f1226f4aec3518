-- A heartbeat, or a notice of a copy or delete, keeps the levels of blocks that it does not name.
use Rattle.std.specs.Prelude.{◌≡◌, ℕ, true, not, ◌==◌}
use Rattle.std.proofs.Common.{refl, sym, ap, ◌∙◌}
use Rattle.std.proofs.lemmas.Bool.{false≢true, true≢false, not-true}
use Rattle.bm_base.specs.declared.event.Event.TheVariants.{Register, Dead, StorageFailed, Heartbeat, Drain, Undrain, AddBlock, DeleteBlock, SetReplication, Restamp, Received, Deleted, Corrupt, FullReport}
use Rattle.bm_base.specs.Words.{change_cluster, change_holdings, after_event}
use Rattle.bm_base.proofs.ListTests.{same_again}
use Rattle.bm_parts.proofs.OneBlock.{event_leaves_other_levels}
use Rattle.bm_parts.proofs.ClusterLevels.{heartbeat_leaves_levels}
use Rattle.laws_of_repairs.specs.Repairs.{ReportsKeepLevels}

apart : (b c : ℕ) → not (c == b) ≡ true → b ≡ c → ⊥
apart b c other same = true≢false (sym (ap (λ x. x == b) (sym same) ∙ same_again b) ∙ not-true (c == b) other)

pub reports_keep : ReportsKeepLevels
unfolding after_event change_cluster change_holdings
reports_keep M (Heartbeat n rs) b h = heartbeat_leaves_levels M.cluster rs M.holdings b
reports_keep M (Received s c stamp) b h = event_leaves_other_levels M.cluster M.holdings (Received s c stamp) c b refl (apart b c h)
reports_keep M (Deleted s c) b h = event_leaves_other_levels M.cluster M.holdings (Deleted s c) c b refl (apart b c h)
reports_keep M (Register n rack ss) b h = absurd (false≢true h)
reports_keep M (Dead n) b h = absurd (false≢true h)
reports_keep M (StorageFailed s) b h = absurd (false≢true h)
reports_keep M (Drain n) b h = absurd (false≢true h)
reports_keep M (Undrain n) b h = absurd (false≢true h)
reports_keep M (AddBlock c stamp repl) b h = absurd (false≢true h)
reports_keep M (DeleteBlock c) b h = absurd (false≢true h)
reports_keep M (SetReplication c repl) b h = absurd (false≢true h)
reports_keep M (Restamp c stamp) b h = absurd (false≢true h)
reports_keep M (Corrupt s c) b h = absurd (false≢true h)
reports_keep M (FullReport s es) b h = absurd (false≢true h)
