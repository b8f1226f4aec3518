-- Commands are listed by ascending node; each listed node has some, all for its own storages.
use Rattle.std.proofs.Common.{◌≡◌, ℕ, Bool, true, false, cond, List, [], ◌∷◌, map, filter, refl, sym, subst, T}
use Rattle.std.specs.List.{All}
use Rattle.std.specs.Ordering.{is_lt, nat_cmp}
use Rattle.std.specs.FinMap.{is_sorted}
use Rattle.std.specs.FinMap.Entries.{below_all}
use Rattle.std.proofs.lemmas.List.Elements.{All-map, All-filter, filter_passes}
use Rattle.bm_base.specs.Maps.Conjunction.{both, first, second}
use Rattle.bm_base.specs.declared.commands.Transfer.{Transfer}
use Rattle.bm_base.specs.declared.commands.Delete.{Delete}
use Rattle.bm_base.specs.declared.commands.NodeCommands.{NodeCommands}
use Rattle.bm_base.specs.Words.{keys, Cluster, has_storage, node_commands, has_commands, commands_of}
use Rattle.bm_base.proofs.SortedParts.{keys_ascend}

module _ {X : Type 0} (number : X → ℕ) where
  abbrev numbered : List X → List (ℕ × X)
  numbered xs = map (λ x. (number x, x)) xs

  -- a filtered map of ascending numbers is ascending, if each result has its number
  module _ (f : ℕ → X) (own : (n : ℕ) → number (f n) ≡ n) (p : X → Bool) where
    below_kept : (m : ℕ) (ns : List ℕ) → T (below_all nat_cmp m (map (λ n. (n, n)) ns)) → T (below_all nat_cmp m (numbered (filter p (map f ns))))
    below_kept m [] h = tt
    below_kept m (n ∷ ns) h = by (p (f n)) (below_kept m ns (second _ _ h))
      where
        by : (b : Bool) → T (below_all nat_cmp m (numbered (filter p (map f ns)))) → T (below_all nat_cmp m (numbered (cond b (f n ∷ filter p (map f ns)) (filter p (map f ns)))))
        by false rest = rest
        by true rest = both _ _ (subst (λ k. T (is_lt (nat_cmp m k))) (sym (own n)) (first _ _ h)) rest

    kept_ascend : (ns : List ℕ) → T (is_sorted nat_cmp (map (λ n. (n, n)) ns)) → T (is_sorted nat_cmp (numbered (filter p (map f ns))))
    kept_ascend [] h = tt
    kept_ascend (n ∷ ns) h = by (p (f n)) (kept_ascend ns (second _ _ h))
      where
        by : (b : Bool) → T (is_sorted nat_cmp (numbered (filter p (map f ns)))) → T (is_sorted nat_cmp (numbered (cond b (f n ∷ filter p (map f ns)) (filter p (map f ns)))))
        by false rest = rest
        by true rest = both _ _ (subst (λ k. T (below_all nat_cmp k (numbered (filter p (map f ns))))) (sym (own n)) (below_kept n ns (first _ _ h))) rest

module _ (C : Cluster) (r : ℕ) (ts : List Transfer) (ds : List Delete) where
  own_node : (n : ℕ) → (node_commands C ts ds n).node ≡ n
  unfolding node_commands
  own_node n = refl

  pub nodes_ascend : T (is_sorted nat_cmp (map (λ (k : NodeCommands). (k.node, k)) (commands_of C r ts ds).nodes))
  unfolding commands_of
  nodes_ascend = kept_ascend (λ (k : NodeCommands). k.node) (node_commands C ts ds) own_node has_commands (keys C.nodes) (keys_ascend C.nodes)

  pub each_has_commands : All (λ (k : NodeCommands). has_commands k ≡ true) (commands_of C r ts ds).nodes
  unfolding commands_of
  each_has_commands = filter_passes has_commands (map (node_commands C ts ds) (keys C.nodes))

  of_all : (P : NodeCommands → Type 0) → ((n : ℕ) → P (node_commands C ts ds n)) → All P (commands_of C r ts ds).nodes
  unfolding commands_of
  of_all P h = All-filter has_commands P (map (node_commands C ts ds) (keys C.nodes)) (All-map P (node_commands C ts ds) (keys C.nodes) (λ k d inside. h _))

  pub own_transfers : All (λ (k : NodeCommands). All (λ (t : Transfer). has_storage C k.node t.source ≡ true) k.transfers) (commands_of C r ts ds).nodes
  unfolding node_commands
  own_transfers = of_all (λ k. All (λ (t : Transfer). has_storage C k.node t.source ≡ true) k.transfers) (λ n. filter_passes (λ (t : Transfer). has_storage C n t.source) ts)

  pub own_deletes : All (λ (k : NodeCommands). All (λ (d : Delete). has_storage C k.node d.storage ≡ true) k.deletes) (commands_of C r ts ds).nodes
  unfolding node_commands
  own_deletes = of_all (λ k. All (λ (d : Delete). has_storage C k.node d.storage ≡ true) k.deletes) (λ n. filter_passes (λ (d : Delete). has_storage C n d.storage) ds)
