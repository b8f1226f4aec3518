-- The answer about losses.
use Rattle.std.specs.Prelude.{List, []}
use Rattle.bm_base.specs.declared.event.Event.{Event}
use Rattle.bm_base.specs.Words.{State}
use Rattle.cluster_names.specs.FileTable.{FileTable}
use Rattle.cluster_pages.specs.AtRisk.{AreAtRisk}
use Rattle.cluster_losses.specs.Outcomes.{AreClusterCounts, IsOutcome}
use Rattle.cluster_what_if.specs.declared.answers.Answer.{Answer}

-- The counts of the cluster before and after losses, with no round between; the blocks whose usable
-- replicas were all on lost storages; and the files of these blocks.
pub record IsAnswer (f : FileTable) (M : State) (es : List Event) (a : Answer) : Type 0 where
  pub before : AreClusterCounts M a.before
  pub without : IsOutcome M es a.without
  pub files : AreAtRisk f a.without.lost [] a.risk
