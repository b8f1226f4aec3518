use Rattle.std.proofs.Common.{◌≡◌, ℕ, Some, if◌then◌else◌, take}
use Rattle.bm_base.specs.Maps.Map.{get}
use Rattle.cluster_lost.specs.Deaths.{is_among}
use Rattle.cluster_losses.proofs.row_index.add_nodes.Given as goal

abbrev pub invariant-loop-node : goal.invariant-loop-node
invariant-loop-node l = (n : ℕ) → get l.rows.map n ≡ (if is_among (take l.node-index l.nodes) n then Some l.row else get l.fn.rows.map n)
