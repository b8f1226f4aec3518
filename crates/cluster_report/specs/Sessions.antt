-- A session between two lines.
use Rattle.std.specs.Prelude.{◌≡◌}
use Rattle.bm_base.specs.declared.config.Config.{Config}
use Rattle.bm_base.specs.declared.limits.Limits.{Limits}
use Rattle.bm_base.specs.declared.limits.TheConstants.{MOST_NODES, MOST_STORAGES}
use Rattle.bm_base.specs.Machine.State.{State, first_state_within}
use Rattle.cluster_report.specs.Catalogues.{Lists}
use Rattle.cluster_report.specs.declared.book.Book.{Book}
use Rattle.cluster_report.specs.declared.session.Session.{Session}

-- the greatest limits that a manager takes
abbrev pub greatest_limits : Limits
greatest_limits = record { nodes = MOST_NODES; storages = MOST_STORAGES }

-- the state of a manager before the first line
abbrev pub new_state : Config → State
new_state config = first_state_within greatest_limits config

-- the book holds the cluster, the pending copies and the blocks of a state
pub record Follows (book : Book) (M : State) : Type 0 where
  pub cluster : book.topology.cluster ≡ M.cluster
  pub copies : book.transfers.copies ≡ M.holdings.pending
  pub pend : book.transfers.pend ≡ M.limits.pend
  pub blocks : Lists book.blocks M.holdings.blocks

-- the book follows the manager
abbrev pub IsInStep : Session → Type 0
IsInStep s = Follows s.book s.manager
