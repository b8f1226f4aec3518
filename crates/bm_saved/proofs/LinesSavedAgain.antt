-- Nodes and blocks without faults make a lawful state, of which they are saved again.
use Rattle.std.proofs.Common.{◌≡◌, ℕ, false, List, [], ◌∷◌, ◌++◌, Option, Some, None, is_some, sym, ap, ◌∙◌, arith}
use Rattle.std.proofs.lemmas.Bool.{true≢false}
use Rattle.std.proofs.lemmas.List.{append-nil, append_assoc}
use Rattle.bm_base.specs.declared.limits.Limits.{Limits}
use Rattle.bm_base.specs.declared.replica.ReplicaId.{ReplicaId}
use Rattle.bm_base.specs.declared.replica.BlockInfo.{BlockInfo}
use Rattle.bm_base.specs.declared.replica.Marks.{Marks}
use Rattle.bm_base.specs.declared.storage.StorageInfo.{StorageInfo}
use Rattle.bm_base.specs.Words.{Order, Holdings, by_number, by_replica, get, empty, entries, Cluster, empty_cluster, empty_holdings, drains, keys, distinct}
use Rattle.bm_base.specs.Promises.Lawful.{IsLawfulCluster, IsLawfulHoldings}
use Rattle.bm_base.proofs.MapLaws.{get-empty}
use Rattle.bm_saved.specs.Saved.{SavedNode, SavedBlock, saved_nodes, saved_blocks, held_numbers}
use Rattle.bm_saved.specs.Restoring.{restore_node, restore_nodes, restore_block, restore_blocks}
use Rattle.bm_saved.specs.Faults.{HaveNoNodeFaults, HaveNoBlockFaults, HasNodesUpTo, HoldsUpTo}
use Rattle.bm_saved.specs.Laws as law
use Rattle.bm_saved.specs.Laws.{AreCommandedBy}
use Rattle.bm_saved.proofs.NodesWithoutFaults.{len_empty}
use Rattle.bm_saved.proofs.LawfulNodes.{restored_node_is_lawful}
use Rattle.bm_saved.proofs.NodesSavedAgain.{restored_node_is_saved}
use Rattle.bm_saved.proofs.LawfulBlocks.{restored_block_is_lawful}
use Rattle.bm_saved.proofs.BlocksInOrder.{restored_block_is_in_order}
use Rattle.bm_saved.proofs.BlocksSavedAgain.{restored_block_is_saved}

nothing_there : (K X : Type 0) (o : Order K) (q : K) → is_some (get (empty {X = X} {o = o}) q) ≡ false
nothing_there K X o q = ap is_some (get-empty {X = X} o q)

-- Nodes.

nodes_again : (D : Cluster) (last : Option ℕ) (ss : List SavedNode) → IsLawfulCluster D → HasNodesUpTo last D → HaveNoNodeFaults D last ss
    → IsLawfulCluster (restore_nodes D ss) × (saved_nodes (restore_nodes D ss) ≡ saved_nodes D ++ ss)
nodes_again D last [] L up_to none = (L, sym (append-nil (saved_nodes D)))
nodes_again D last (s ∷ ss) L up_to none =
    let next = restored_node_is_lawful D last s L up_to none.0 in
    let rest = nodes_again (restore_node D s) (Some s.node) ss next.0 next.1 none.1 in
    (rest.0, rest.1 ∙ ap (λ ns. ns ++ ss) (restored_node_is_saved D last s L up_to none.0) ∙ append_assoc (saved_nodes D) (s ∷ []) ss)

empty_is_lawful : (l : Limits) → IsLawfulCluster (empty_cluster l)
unfolding empty_cluster drains
empty_is_lawful l = record {
  alive = λ s i e. cc (e, get-empty {X = StorageInfo} by_number s);
  draining_alive = λ n e. absurd (true≢false (sym e ∙ nothing_there ℕ (Unit {0}) by_number n));
  few_nodes = let none = len_empty ℕ in omega (arith, none);
  few_storages = let none = len_empty StorageInfo in omega (arith, none);
}

no_node : (l : Limits) → HasNodesUpTo None (empty_cluster l)
unfolding empty_cluster
no_node l n e = absurd (true≢false (sym e ∙ nothing_there ℕ ℕ by_number n))

pub restored_nodes_are_saved : law.restored_nodes_are_saved
unfolding saved_nodes empty_cluster entries empty
restored_nodes_are_saved l ss none = nodes_again (empty_cluster l) None ss (empty_is_lawful l) (no_node l) none

-- Blocks.

module _ (C : Cluster) (round : ℕ) where
  blocks_again : (H : Holdings) (last : Option ℕ) (ss : List SavedBlock) → IsLawfulHoldings C H → AreCommandedBy round H → HoldsUpTo last H → HaveNoBlockFaults C round last ss
      → IsLawfulHoldings C (restore_blocks H ss) × AreCommandedBy round (restore_blocks H ss) × (saved_blocks (restore_blocks H ss) ≡ saved_blocks H ++ ss)
  blocks_again H last [] L by_now up_to none = (L, by_now, sym (append-nil (saved_blocks H)))
  blocks_again H last (s ∷ ss) L by_now up_to none =
      let next = restored_block_is_in_order C H round last s by_now up_to none.0 in
      let lawful = restored_block_is_lawful C H round last s L up_to none.0 in
      let rest = blocks_again (restore_block H s) (Some s.id) ss lawful next.0 next.1 none.1 in
      (rest.0, rest.1, rest.2 ∙ ap (λ bs. bs ++ ss) (restored_block_is_saved C H round last s up_to none.0) ∙ append_assoc (saved_blocks H) (s ∷ []) ss)

  nothing_is_lawful : IsLawfulHoldings C empty_holdings
  unfolding empty_holdings
  nothing_is_lawful = record {
    stored = λ p e. absurd (true≢false (sym e ∙ nothing_there ReplicaId Marks by_replica p));
    pending_stored = λ p e. absurd (true≢false (sym e ∙ nothing_there ReplicaId ℕ by_replica p));
    once = λ p q e f same. absurd (true≢false (sym e ∙ nothing_there ReplicaId Marks by_replica p));
    strays = λ p m e. cc (e, get-empty {X = Marks} by_replica p);
    excess_is_good = λ p m e. cc (e, get-empty {X = Marks} by_replica p);
    pending_known = λ p e. absurd (true≢false (sym e ∙ nothing_there ReplicaId ℕ by_replica p));
    replicated = λ b i e. cc (e, get-empty {X = BlockInfo} by_number b);
  }

  nothing_by_now : AreCommandedBy round empty_holdings
  unfolding empty_holdings
  nothing_by_now q r e = cc (e, get-empty {X = ℕ} by_replica q)

nothing_up_to : HoldsUpTo None empty_holdings
unfolding empty_holdings
nothing_up_to = record {
  blocks = λ b e. absurd (true≢false (sym e ∙ nothing_there ℕ BlockInfo by_number b));
  replicas = λ q e. absurd (true≢false (sym e ∙ nothing_there ReplicaId Marks by_replica q));
  pending = λ q e. absurd (true≢false (sym e ∙ nothing_there ReplicaId ℕ by_replica q));
}

pub restored_blocks_are_saved : law.restored_blocks_are_saved
unfolding saved_blocks held_numbers empty_holdings distinct keys entries empty
restored_blocks_are_saved C round ss none = blocks_again C round empty_holdings None ss (nothing_is_lawful C round) (nothing_by_now C round) nothing_up_to none
