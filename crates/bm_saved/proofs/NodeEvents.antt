-- A node is restored by the events of its registration, its free bytes and its draining.
use Rattle.std.proofs.Common.{◌≡◌, ℕ, ◌+◌, ◌<◌, Bool, true, false, cond, ◌||◌, List, [], ◌∷◌, map, length, Option, Some, None, refl, sym, ap, ◌∙◌, arith, le-ltb, ne_eqb}
use Rattle.std.specs.Prelude.{if◌then◌else◌, nat_lt, nat_le, option_map}
use Rattle.std.specs.List.{list_any}
use Rattle.std.specs.Ordering.{eq_by_cmp, nat_cmp}
use Rattle.std.proofs.lemmas.Bool.{true≢false, lt-leb}
use Rattle.std.proofs.lemmas.List.{length-map}
use Rattle.bm_base.specs.declared.event.Event.TheVariants.{Register}
use Rattle.bm_base.specs.declared.event.Remaining.{Remaining}
use Rattle.bm_base.specs.declared.refusal.Refusal.TheVariants.{NodeKnown, StorageKnown, TooMany}
use Rattle.bm_base.specs.declared.storage.StorageInfo.{StorageInfo}
use Rattle.bm_base.specs.Words.{Map, Set, by_number, get, insert, insert_all, remove, revise_at, contains_key, len, has_repeats, Cluster, drains, knows_node, knows_storage, first_of, ◌when◌, cluster_checks, register, heartbeat, drain, set_remaining}
use Rattle.bm_base.specs.Promises.Lawful.{IsLawfulCluster}
use Rattle.bm_base.proofs.ForEach.{Each, each_mapped, each_then}
use Rattle.bm_base.proofs.MapLaws.{same_map, get-insert, get-remove, get-revise}
use Rattle.bm_base.proofs.MapEntries.{same_key, get_here, get_elsewhere, get_insert_all_elsewhere}
use Rattle.bm_base.proofs.Options.{not_there}
use Rattle.bm_base.proofs.Ties.{number_tie}
use Rattle.bm_saved.specs.Saved.{SavedNode}
use Rattle.bm_saved.specs.Restoring.{storage_entry, restore_node, storages_of_node}
use Rattle.bm_saved.specs.Faults.{is_above, ascend, HasNodesUpTo}
use Rattle.bm_saved.specs.Laws as law
use Rattle.bm_saved.proofs.Checks.{all_greater, unbounded, no_repeats}
use Rattle.bm_saved.proofs.LawfulNodes.{IsFineNode, fine_node}

-- inserting the same entries keeps keys that agree
agreeing : (a b : Map by_number StorageInfo) (es : List (ℕ × StorageInfo)) (q : ℕ) → get a q ≡ get b q → get (insert_all a es) q ≡ get (insert_all b es) q
agreeing a b [] q e = e
agreeing a b (x ∷ es) q e =
    agreeing (insert a x.0 x.1) (insert b x.0 x.1) es q (get-insert a x.0 x.1 q ∙ ap (cond (eq_by_cmp nat_cmp q x.0) (Some x.1)) e ∙ sym (get-insert b x.0 x.1 q))

mapped_same : {X : Type 0} (o : Option X) → option_map (λ x. x) o ≡ o
mapped_same None = refl
mapped_same (Some x) = refl

-- a value is changed before or after others are inserted
changed_first : (m : Map by_number StorageInfo) (k : ℕ) (v : StorageInfo) (f : StorageInfo → StorageInfo) (es : List (ℕ × StorageInfo)) → Each (λ e. eq_by_cmp nat_cmp k e.0 ≡ false) es
    → revise_at (insert_all (insert m k v) es) k f ≡ insert_all (insert m k (f v)) es
unfolding revise_at
changed_first m k v f es apart =
    same_map _ _ (λ q.
    get-revise (insert_all (insert m k v) es) (λ q x. if eq_by_cmp nat_cmp q k then f x else x) q
    ∙ (elim (eq_by_cmp nat_cmp q k) as (λ t. eq_by_cmp nat_cmp q k ≡ t → option_map (λ x. if t then f x else x) (get (insert_all (insert m k v) es) q) ≡ get (insert_all (insert m k (f v)) es) q) [
      | true ↦ λ t.
          let here : (w : StorageInfo) → get (insert_all (insert m k w) es) q ≡ Some w = λ w. ap (get (insert_all (insert m k w) es)) (same_key by_number q k t) ∙ get_insert_all_elsewhere (insert m k w) es k apart ∙ get_here m k w in
          ap (option_map f) (here v) ∙ sym (here (f v))
      | false ↦ λ t. mapped_same _ ∙ agreeing (insert m k v) (insert m k (f v)) es q (get_elsewhere m k v q t ∙ sym (get_elsewhere m k (f v) q t))
    ]) refl)

abbrev empty_storage : ℕ → ℕ → ℕ × StorageInfo
empty_storage n s = (s, record { node = n; remaining = 0 })

-- greater storages are other ones
others : (a : ℕ) (n : ℕ) (ss : List ℕ) → Each (λ s. a < s) ss → Each (λ e. eq_by_cmp nat_cmp a e.0 ≡ false) (map (empty_storage n) ss)
others a n ss greater =
    each_mapped (λ e. eq_by_cmp nat_cmp a e.0 ≡ false) (empty_storage n) ss
    (each_then (λ s. a < s) (λ s. eq_by_cmp nat_cmp a s ≡ false) ss greater (λ s less. number_tie a s ∙ ne_eqb a s (λ e. omega (arith, less, e))))

storages_made : (m : Map by_number StorageInfo) (n : ℕ) (rs : List Remaining) → ascend (map (λ r. r.storage) rs) ≡ true
    → set_remaining (insert_all m (map (empty_storage n) (map (λ r. r.storage) rs))) rs ≡ insert_all m (map (storage_entry n) rs)
storages_made m n [] up = refl
storages_made m n (r ∷ rs) up =
    ap (λ x. set_remaining x rs) (changed_first m r.storage (record { node = n; remaining = 0 }) (λ i. record i { remaining = r.remaining }) (map (empty_storage n) (map (λ r. r.storage) rs)) (others r.storage n (map (λ r. r.storage) rs) (all_greater r.storage (map (λ r. r.storage) rs) up)))
    ∙ storages_made (insert m r.storage (record { node = n; remaining = r.remaining })) n rs (unbounded (Some r.storage) (map (λ r. r.storage) rs) up)

-- a node that does not drain leaves no mark behind

once_gone : (m : Set by_number) (n : ℕ) → contains_key m n ≡ false → remove m n ≡ m
once_gone m n none =
    same_map _ _ (λ q. get-remove m n q ∙ (elim (eq_by_cmp nat_cmp q n) as (λ t. eq_by_cmp nat_cmp q n ≡ t → cond t None (get m q) ≡ get m q) [
      | true ↦ λ t. sym (ap (get m) (same_key by_number q n t) ∙ not_there (get m n) none)
      | false ↦ λ _. refl
    ]) refl)

by_draining : (C : Cluster) (s : SavedNode) (d : Bool) → s.drains ≡ d → drains C s.node ≡ false → ascend (storages_of_node s) ≡ true
    → (if d then drain (heartbeat (register C s.node s.rack (storages_of_node s)) s.storages) s.node else heartbeat (register C s.node s.rack (storages_of_node s)) s.storages)
    ≡ record C { nodes = insert C.nodes s.node s.rack; draining = (if d then insert C.draining s.node tt else C.draining); storages = insert_all C.storages (map (storage_entry s.node) s.storages) }
unfolding drain heartbeat register drains
by_draining C s true is none up = λ i. record C {
  nodes = insert C.nodes s.node s.rack;
  draining = insert (once_gone C.draining s.node none i) s.node tt;
  storages = storages_made C.storages s.node s.storages up i;
}
by_draining C s false is none up = λ i. record C {
  nodes = insert C.nodes s.node s.rack;
  draining = once_gone C.draining s.node none i;
  storages = storages_made C.storages s.node s.storages up i;
}

-- the node is not known, so it does not drain

pub is_unknown : (C : Cluster) (last : Option ℕ) (n : ℕ) → HasNodesUpTo last C → is_above last n ≡ true → contains_key C.nodes n ≡ false
is_unknown C last n up_to above = by (contains_key C.nodes n) refl
  where
    by : (b : Bool) → contains_key C.nodes n ≡ b → contains_key C.nodes n ≡ false
    by false e = e
    by true e = absurd (true≢false (sym above ∙ up_to n e))

pub does_not_drain : (C : Cluster) (n : ℕ) → IsLawfulCluster C → contains_key C.nodes n ≡ false → drains C n ≡ false
does_not_drain C n L none = by (drains C n) refl
  where
    by : (b : Bool) → drains C n ≡ b → drains C n ≡ false
    by false e = e
    by true e = absurd (true≢false (sym (L.draining_alive n e) ∙ none))

none_of_three : (a b c : Bool) → a ≡ false → b ≡ false → c ≡ false → first_of ((NodeKnown when a) ∷ (StorageKnown when b) ∷ (TooMany when c) ∷ []) ≡ None
none_of_three a b c x y z = λ i. first_of ((NodeKnown when x i) ∷ (StorageKnown when y i) ∷ (TooMany when z i) ∷ [])

may_register : (C : Cluster) (last : Option ℕ) (s : SavedNode) → HasNodesUpTo last C → IsFineNode C last s → first_of (cluster_checks C (Register s.node s.rack (storages_of_node s))) ≡ None
unfolding cluster_checks knows_node
may_register C last s up_to ok =
    let ss = storages_of_node s in
    let same : length ss ≡ length s.storages = length-map s.storages (λ r. r.storage) in
    none_of_three (contains_key C.nodes s.node) (has_repeats ss || list_any (knows_storage C) ss) (nat_le C.limits.nodes (len C.nodes) || nat_lt C.limits.storages (len C.storages + length ss))
    (is_unknown C last s.node up_to ok.number)
    (λ i. no_repeats ss ok.order i || ok.fresh i)
    (λ i. lt-leb C.limits.nodes (len C.nodes) ok.few_nodes i || le-ltb C.limits.storages (len C.storages + length ss) (omega (arith, same, ok.few_storages)) i)

pub node_is_restored_by_events : law.node_is_restored_by_events
unfolding restore_node
node_is_restored_by_events C last s L up_to none =
    let ok = fine_node C last s none in
    (may_register C last s up_to ok, by_draining C s s.drains refl (does_not_drain C s.node L (is_unknown C last s.node up_to ok.number)) ok.order)
