-- A restored node without a fault leaves a cluster lawful.
use Rattle.std.proofs.Common.{◌≡◌, ℕ, ◌+◌, ◌<◌, ◌≤◌, Bool, true, false, map, length, Option, Some, None, ap, ◌∙◌, ◌⊎◌, inl, inr, arith, ltb-false, leb-false, le-ltb}
use Rattle.std.specs.Prelude.{if◌then◌else◌, nat_lt, nat_le}
use Rattle.std.specs.List.{list_any}
use Rattle.std.proofs.lemmas.Bool.{or_parts}
use Rattle.std.proofs.lemmas.List.{length-map}
use Rattle.bm_base.specs.declared.storage.StorageInfo.{StorageInfo}
use Rattle.bm_base.specs.Words.{Set, by_number, get, insert, contains_key, len, Cluster, drains, knows_storage}
use Rattle.bm_base.specs.Promises.Lawful.{IsLawfulCluster}
use Rattle.bm_base.proofs.ForEach.{each_mapped, each_of}
use Rattle.bm_base.proofs.MapEntries.{holds_insert_all, get_inserted, get_here, known_inserted, len_inserted, len_insert_all}
use Rattle.bm_base.proofs.Options.{there, is_there}
use Rattle.bm_saved.specs.Saved.{SavedNode}
use Rattle.bm_saved.specs.Restoring.{storage_entry, restore_node, storages_of_node}
use Rattle.bm_saved.specs.Faults.{is_above, ascend, saved_node_checks, node_fault, HasNodesUpTo}
use Rattle.bm_saved.specs.Laws as law
use Rattle.bm_saved.proofs.Checks.{all_fail, known_by, below_next}

-- a node whose checks all pass
pub record IsFineNode (C : Cluster) (last : Option ℕ) (s : SavedNode) : Type 0 where
  pub number : is_above last s.node ≡ true
  pub order : ascend (storages_of_node s) ≡ true
  pub fresh : list_any (knows_storage C) (storages_of_node s) ≡ false
  pub few_nodes : len C.nodes < C.limits.nodes
  pub few_storages : len C.storages + length s.storages ≤ C.limits.storages

pub fine_node : (C : Cluster) (last : Option ℕ) (s : SavedNode) → node_fault C last s ≡ None → IsFineNode C last s
unfolding node_fault saved_node_checks
fine_node C last s e =
    let e = all_fail (saved_node_checks C last s) e in
    let limits = or_parts (nat_le C.limits.nodes (len C.nodes)) (nat_lt C.limits.storages (len C.storages + length s.storages)) e.1.1.1.0 in
    record {
      number = known_by (is_above last s.node) e.0;
      order = known_by (ascend (storages_of_node s)) e.1.0;
      fresh = e.1.1.0;
      few_nodes = leb-false C.limits.nodes (len C.nodes) limits.0;
      few_storages = ltb-false C.limits.storages (len C.storages + length s.storages) limits.1;
    }

drains_or_did : (m : Set by_number) (n k : ℕ) (d : Bool) → contains_key (if d then insert m n tt else m) k ≡ true → (k ≡ n) ⊎ (contains_key m k ≡ true)
drains_or_did m n k false e = inr e
drains_or_did m n k true e =
    let x = there (get (insert m n tt) k) e in
    elim (get_inserted m n tt k x.0 x.1) [
      | inl a ↦ inl a.0
      | inr a ↦ inr (is_there (get m k) x.0 a.1)
    ]

module _ (C : Cluster) (last : Option ℕ) (s : SavedNode) (L : IsLawfulCluster C) (up_to : HasNodesUpTo last C) (ok : IsFineNode C last s) where
  lawful : IsLawfulCluster (restore_node C s)
  unfolding restore_node drains
  lawful = record {
    alive = holds_insert_all (λ t i. contains_key (insert C.nodes s.node s.rack) i.node ≡ true) C.storages (map (storage_entry s.node) s.storages)
        (λ t i e. known_inserted C.nodes s.node s.rack i.node (L.alive t i e))
        (each_mapped (λ e. contains_key (insert C.nodes s.node s.rack) e.1.node ≡ true) (storage_entry s.node) s.storages (each_of (λ _. contains_key (insert C.nodes s.node s.rack) s.node ≡ true) s.storages (λ _. here)));
    draining_alive = λ n e. elim (drains_or_did C.draining s.node n s.drains e) [
      | inl is ↦ ap (contains_key (insert C.nodes s.node s.rack)) is ∙ here
      | inr did ↦ known_inserted C.nodes s.node s.rack n (L.draining_alive n did)
    ];
    few_nodes = omega (arith, len_inserted C.nodes s.node s.rack, ok.few_nodes);
    few_storages = omega (arith, len_insert_all C.storages (map (storage_entry s.node) s.storages), length-map {B = ℕ × StorageInfo} s.storages (storage_entry s.node), ok.few_storages);
  }
    where
      here : contains_key (insert C.nodes s.node s.rack) s.node ≡ true
      here = is_there (get (insert C.nodes s.node s.rack) s.node) s.rack (get_here C.nodes s.node s.rack)

  up_to_this : HasNodesUpTo (Some s.node) (restore_node C s)
  unfolding restore_node
  up_to_this n e =
      let x = there (get (insert C.nodes s.node s.rack) n) e in
      elim (get_inserted C.nodes s.node s.rack n x.0 x.1) [
        | inl a ↦ let is = a.0 in le-ltb s.node n (omega (arith, is))
        | inr a ↦ let less = below_next last n s.node (up_to n (is_there (get C.nodes n) x.0 a.1)) ok.number in le-ltb s.node n (omega (arith, less))
      ]

pub restored_node_is_lawful : law.restored_node_is_lawful
restored_node_is_lawful C last s L up_to none = let ok = fine_node C last s none in (lawful C last s L up_to ok, up_to_this C last s L up_to ok)
