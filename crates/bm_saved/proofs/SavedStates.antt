-- Restoring gives whole states, and their snapshots.
use Rattle.std.proofs.Common.{◌≡◌, List, [], ◌∷◌, refl, ◌∙◌}
use Rattle.bm_base.specs.Words.{Cluster, State, empty_cluster}
use Rattle.bm_saved.specs.Saved.{SavedNode}
use Rattle.bm_saved.specs.Restoring.{restore_node, restore_nodes, restored_state}
use Rattle.bm_saved.specs.SavedText.{text_of_lines, body_text, counts_text, snapshot_text}
use Rattle.bm_saved.specs.Laws as law
use Rattle.bm_saved.proofs.RestoredCluster.{cluster_is_restored}
use Rattle.bm_saved.proofs.RestoredHoldings.{holdings_are_restored}
use Rattle.bm_saved.proofs.LinesSavedAgain.{restored_nodes_are_saved, restored_blocks_are_saved}

pub state_is_restored : law.state_is_restored
state_is_restored M L = λ i. record M { cluster = cluster_is_restored M.cluster L.cluster i; holdings = holdings_are_restored M.holdings i }

same_limits : (C : Cluster) (ns : List SavedNode) → (restore_nodes C ns).limits ≡ C.limits
unfolding restore_node
same_limits C [] = refl
same_limits C (s ∷ ns) = same_limits (restore_node C s) ns

-- the first line depends on the limits of the cluster alone
same_counts : (M : State) (C : Cluster) → C.limits ≡ M.cluster.limits → counts_text (record M { cluster = C }) ≡ counts_text M
unfolding counts_text
same_counts M C same = λ i. counts_text (record M { cluster = record M.cluster { limits = same i } })

limits_after : (M : State) (ns : List SavedNode) → (restore_nodes (empty_cluster M.cluster.limits) ns).limits ≡ M.cluster.limits
unfolding empty_cluster
limits_after M ns = same_limits (empty_cluster M.cluster.limits) ns

pub lines_are_a_snapshot : law.lines_are_a_snapshot
unfolding snapshot_text text_of_lines body_text counts_text
lines_are_a_snapshot M ns bs nodes blocks =
    let N = restored_state M ns bs in
    (λ i. text_of_lines N ((restored_nodes_are_saved M.cluster.limits ns nodes).1 i) ((restored_blocks_are_saved N.cluster M.round bs blocks).2 i))
    ∙ (λ i. text_of_lines (record M { cluster = record M.cluster { limits = limits_after M ns i } }) ns bs)
