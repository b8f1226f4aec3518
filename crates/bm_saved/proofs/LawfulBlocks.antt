-- A restored block without a fault leaves holdings lawful.
use Rattle.std.proofs.Common.{◌≡◌, ℕ, ◌<◌, ◌≤◌, Bool, true, false, not, ◌&&◌, ◌||◌, List, [], ◌∷◌, map, length, filter_map, Option, Some, None, is_some, refl, sym, ap, ◌∙◌, ◌⊎◌, inl, inr, arith, eqb-true, ltb-false}
use Rattle.std.specs.Prelude.{◌==◌, if◌then◌else◌, nat_lt, is_none}
use Rattle.std.specs.Option.{option_map_or}
use Rattle.std.specs.List.{list_any, cons_option}
use Rattle.std.proofs.lemmas.Bool.{or_parts, false≢true, true≢false, eqb-false, or_left, or_right}
use Rattle.bm_base.specs.declared.replica.ReplicaId.{ReplicaId}
use Rattle.bm_base.specs.declared.replica.Marks.{Marks}
use Rattle.bm_base.specs.declared.replica.BlockInfo.{BlockInfo}
use Rattle.bm_base.specs.declared.limits.TheConstants.{MAX_REPLICATION}
use Rattle.bm_base.specs.Words.{Map, by_number, by_replica, get, insert, insert_all, contains_key, Cluster, Holdings, replica_at, has, has_some, has_repeats, is_good, is_stray, node_of, are_siblings, knows_storage, is_bad_replication}
use Rattle.bm_base.specs.Promises.Lawful.{IsLawfulHoldings}
use Rattle.bm_base.proofs.ForEach.{Each, each_mapped, each_then, each_of, none_passes, has_one}
use Rattle.bm_base.proofs.MapEntries.{Holds, holds_inserted, holds_insert_all, get_here, get_other}
use Rattle.bm_base.proofs.Options.{there, is_there}
use Rattle.bm_base.proofs.ListTests.{same_again}
use Rattle.bm_base.proofs.Clusters.{no_sibling_itself, siblings_by, siblings_turned}
use Rattle.bm_base.proofs.Sets.{has_filter_map}
use Rattle.bm_saved.specs.declared.SavedTransfer.{SavedTransfer}
use Rattle.bm_saved.specs.Saved.{SavedBlock}
use Rattle.bm_saved.specs.Restoring.{replica_entry, transfer_entry, restore_block}
use Rattle.bm_saved.specs.Faults.{is_above, storages_of_block, targets_of_block, has_unknown, share_a_node, has_wrong_tag, has_wrong_excess, saved_block_checks, block_fault, HoldsUpTo}
use Rattle.bm_saved.specs.Laws as law
use Rattle.bm_saved.proofs.Checks.{all_fail, known_by, not_empty, mapped_back, below_next}

-- a block whose checks all pass
pub record IsFineBlock (C : Cluster) (round : ℕ) (last : Option ℕ) (s : SavedBlock) : Type 0 where
  pub number : is_above last s.id ≡ true
  pub repl : has_some s.info (λ i. is_bad_replication i.repl) ≡ false
  pub storages : has_unknown C (storages_of_block s) ≡ false
  pub targets : has_unknown C (targets_of_block s) ≡ false
  pub nodes : share_a_node C (storages_of_block s) ≡ false
  pub tags : list_any (has_wrong_tag s.info) s.replicas ≡ false
  pub excess : list_any has_wrong_excess s.replicas ≡ false
  pub known : (is_none s.info && not (length s.pending == 0)) ≡ false
  pub rounds : list_any (λ t. nat_lt round t.round) s.pending ≡ false

pub fine_block : (C : Cluster) (round : ℕ) (last : Option ℕ) (s : SavedBlock) → block_fault C round last s ≡ None → IsFineBlock C round last s
unfolding block_fault saved_block_checks
fine_block C round last s e =
    let e = all_fail (saved_block_checks C round last s) e in
    let both = or_parts (has_unknown C (storages_of_block s)) (has_unknown C (targets_of_block s)) e.1.1.1.0 in
    record {
      number = known_by (is_above last s.id) e.0;
      repl = e.1.1.0;
      storages = both.0;
      targets = both.1;
      nodes = e.1.1.1.1.1.0;
      tags = e.1.1.1.1.1.1.0;
      excess = e.1.1.1.1.1.1.1.0;
      known = e.1.1.1.1.1.1.1.1.0;
      rounds = e.1.1.1.1.1.1.1.1.1.0;
    }

-- all that is held is of lesser numbers
pub record IsBelow (H : Holdings) (b : ℕ) : Type 0 where
  pub blocks : (c : ℕ) → is_some (get H.blocks c) ≡ true → c < b
  pub replicas : (q : ReplicaId) → is_some (get H.replicas q) ≡ true → q.block < b
  pub pending : (q : ReplicaId) → is_some (get H.pending q) ≡ true → q.block < b

pub all_below : (last : Option ℕ) (H : Holdings) (b : ℕ) → HoldsUpTo last H → is_above last b ≡ true → IsBelow H b
all_below last H b up_to above = record {
  blocks = λ c e. below_next last c b (up_to.blocks c e) above;
  replicas = λ q e. below_next last q.block b (up_to.replicas q e) above;
  pending = λ q e. below_next last q.block b (up_to.pending q e) above;
}

never : (x : Bool) → (x && false) ≡ false
never true = refl
never false = refl

-- the first storage shares its node with none of the others, nor do these among themselves
first_apart : (C : Cluster) (s : ℕ) (ss : List ℕ) → share_a_node C (s ∷ ss) ≡ false → Each (λ t. are_siblings C s t ≡ false) ss × (share_a_node C ss ≡ false)
first_apart C s ss e = by (node_of C s) refl e
  where
    ns : List ℕ
    ns = filter_map (node_of C) ss

    not_of : (n t : ℕ) → node_of C s ≡ Some n → option_map_or (λ m. m == n) (node_of C t) false ≡ false → are_siblings C s t ≡ false
    not_of n t is other = siblings_by C s t ∙ ap (λ o. not (t == s) && option_map_or (λ k. option_map_or (λ m. m == k) (node_of C t) false) o false) is ∙ ap (λ b. not (t == s) && b) other ∙ never (not (t == s))

    of_none : (t : ℕ) → node_of C s ≡ None → are_siblings C s t ≡ false
    of_none t is = siblings_by C s t ∙ ap (λ o. not (t == s) && option_map_or (λ k. option_map_or (λ m. m == k) (node_of C t) false) o false) is ∙ never (not (t == s))

    by : (o : Option ℕ) → node_of C s ≡ o → has_repeats (cons_option o ns) ≡ false → Each (λ t. are_siblings C s t ≡ false) ss × (has_repeats ns ≡ false)
    by None is h = (each_of (λ t. are_siblings C s t ≡ false) ss (λ t. of_none t is), h)
    by (Some n) is h =
        let p = or_parts (has ns n) (has_repeats ns) h in (
          each_then (λ t. option_map_or (λ m. m == n) (node_of C t) false ≡ false) (λ t. are_siblings C s t ≡ false) ss
              (none_passes (λ t. option_map_or (λ m. m == n) (node_of C t) false) ss (sym (has_filter_map (node_of C) ss n) ∙ p.0)) (λ t. not_of n t is),
          p.1,
        )

-- no two storages of the list share a node
apart : (C : Cluster) (ss : List ℕ) (t u : ℕ) → share_a_node C ss ≡ false → has ss t ≡ true → has ss u ≡ true → are_siblings C t u ≡ false
apart C [] t u e h k = absurd (false≢true h)
apart C (s ∷ ss) t u e h k =
    let p = first_apart C s ss e in
    let others : (v : ℕ) → has ss v ≡ true → are_siblings C s v ≡ false = λ v. has_one (λ v. are_siblings C s v ≡ false) ss v p.0 in
    (elim (s == t) as (λ b. (s == t) ≡ b → (b || has ss t) ≡ true → are_siblings C t u ≡ false) [
      | true ↦ λ is _. (elim (s == u) as (λ b. (s == u) ≡ b → (b || has ss u) ≡ true → are_siblings C t u ≡ false) [
        | true ↦ λ too _. (λ i. are_siblings C (sym (eqb-true s t is) i) (sym (eqb-true s u too) i)) ∙ no_sibling_itself C s
        | false ↦ λ _ in_rest. ap (λ v. are_siblings C v u) (sym (eqb-true s t is)) ∙ others u in_rest
      ]) refl k
      | false ↦ λ _ rest. (elim (s == u) as (λ b. (s == u) ≡ b → (b || has ss u) ≡ true → are_siblings C t u ≡ false) [
        | true ↦ λ too _. ap (λ v. are_siblings C t v) (sym (eqb-true s u too)) ∙ siblings_turned C t s ∙ others t rest
        | false ↦ λ _ in_rest. apart C ss t u p.1 rest in_rest
      ]) refl k
    ]) refl h

each_head : (x : ℕ) (xs : List ℕ) → Each (λ t. has xs t ≡ true) xs → Each (λ t. has (x ∷ xs) t ≡ true) xs
each_head x xs each = each_then (λ t. has xs t ≡ true) (λ t. has (x ∷ xs) t ≡ true) xs each (λ t h. or_right (x == t) (has xs t) h)

each_has : (xs : List ℕ) → Each (λ t. has xs t ≡ true) xs
each_has [] = tt
each_has (x ∷ xs) = (or_left (x == x) (has xs x) (same_again x), each_head x xs (each_has xs))

tag_by : (info : Option BlockInfo) (stray : Bool) → (if is_some info then stray else not stray) ≡ false → stray ≡ not (is_some info)
tag_by (Some i) stray e = e
tag_by None true e = refl
tag_by None false e = cc

good_by : (excess good : Bool) → (excess && not good) ≡ false → excess ≡ true → good ≡ true
good_by true true e h = refl
good_by true false e h = cc
good_by false good e h = cc

fits_replication : (repl : ℕ) → is_bad_replication repl ≡ false → (1 ≤ repl) × (repl ≤ MAX_REPLICATION)
fits_replication repl e =
    let parts = or_parts (repl == 0) (nat_lt MAX_REPLICATION repl) e in
    let other : repl ≡ 0 → ⊥ = eqb-false repl 0 parts.0 in
    (omega arith, ltb-false MAX_REPLICATION repl parts.1)

none_pending : (info : Option BlockInfo) (ts : List SavedTransfer) → (is_none info && not (length ts == 0)) ≡ false → Each (λ (t : SavedTransfer). is_some info ≡ true) ts
none_pending info [] e = tt
none_pending (Some i) (t ∷ ts) e = (refl, each_of (λ _. true ≡ true) ts (λ _. refl))
none_pending None (t ∷ ts) e = absurd (true≢false (sym (ap not (not_empty (length ts))) ∙ e))

module _ (C : Cluster) (H : Holdings) (round : ℕ) (last : Option ℕ) (s : SavedBlock) (below : IsBelow H s.id) (ok : IsFineBlock C round last s) where
  abbrev blocks : Map by_number BlockInfo
  blocks = option_map_or (λ i. insert H.blocks s.id i) s.info H.blocks

  -- the other blocks stay
  others : (o : Option BlockInfo) (c : ℕ) → c < s.id → get (option_map_or (λ i. insert H.blocks s.id i) o H.blocks) c ≡ get H.blocks c
  others None c less = refl
  others (Some i) c less = get_other H.blocks s.id i c (λ e. omega (arith, less, e))

  was_unknown : (o : Option BlockInfo) → get H.blocks s.id ≡ o → is_some o ≡ false
  was_unknown None e = refl
  was_unknown (Some i) e = let less = below.blocks s.id (is_there (get H.blocks s.id) i e) in absurd (omega (arith, less))

  -- the block is known if it has information
  here : (o : Option BlockInfo) → contains_key (option_map_or (λ i. insert H.blocks s.id i) o H.blocks) s.id ≡ is_some o
  here None = was_unknown (get H.blocks s.id) refl
  here (Some i) = is_there _ i (get_here H.blocks s.id i)

  -- a replica was there, or is one of the block's
  abbrev Origin : ReplicaId → Type 0
  Origin q = (is_some (get H.replicas q) ≡ true) ⊎ ((q.block ≡ s.id) × (has (storages_of_block s) q.storage ≡ true))

  origin : Holds (λ q _. Origin q) (insert_all H.replicas (map (replica_entry s.id) s.replicas))
  origin =
      holds_insert_all (λ q _. Origin q) H.replicas (map (replica_entry s.id) s.replicas) (λ q x e. inl (is_there (get H.replicas q) x e))
      (each_mapped (λ e. Origin e.0) (replica_entry s.id) s.replicas
      (each_then (λ r. has (storages_of_block s) r.storage ≡ true) (λ r. Origin (replica_at s.id r.storage)) s.replicas
      (mapped_back (λ t. has (storages_of_block s) t ≡ true) (λ r. r.storage) s.replicas (each_has (storages_of_block s))) (λ r h. inr (refl, h))))

  apart_or_old : IsLawfulHoldings C H → (p q : ReplicaId) → Origin p → Origin q → p.block ≡ q.block → are_siblings C p.storage q.storage ≡ false
  apart_or_old L p q (inl a) (inl b) same = L.once p q a b same
  apart_or_old L p q (inl a) (inr b) same = let less = below.replicas p a in absurd (omega (arith, less, same, b.0))
  apart_or_old L p q (inr a) (inl b) same = let less = below.replicas q b in absurd (omega (arith, less, same, a.0))
  apart_or_old L p q (inr a) (inr b) same = apart C (storages_of_block s) p.storage q.storage ok.nodes a.1 b.1

  -- P holds of all replicas if it holds of the old ones and of the block's
  of_replicas : (P : ReplicaId → Marks → Type 0) → Holds P H.replicas → Each (λ r. P (replica_at s.id r.storage) r.marks) s.replicas → Holds P (insert_all H.replicas (map (replica_entry s.id) s.replicas))
  of_replicas P old each = holds_insert_all P H.replicas (map (replica_entry s.id) s.replicas) old (each_mapped (λ e. P e.0 e.1) (replica_entry s.id) s.replicas each)

  of_pending : (P : ReplicaId → ℕ → Type 0) → Holds P H.pending → Each (λ t. P (replica_at s.id t.target) t.round) s.pending → Holds P (insert_all H.pending (map (transfer_entry s.id) s.pending))
  of_pending P old each = holds_insert_all P H.pending (map (transfer_entry s.id) s.pending) old (each_mapped (λ e. P e.0 e.1) (transfer_entry s.id) s.pending each)

  -- what holds of each entry holds of each key
  by_key : {X : Type 0} (P : ReplicaId → Type 0) (m : Map by_replica X) → Holds (λ q _. P q) m → (q : ReplicaId) → is_some (get m q) ≡ true → P q
  by_key P m h q e = let x = there (get m q) e in h q x.0 x.1

  known_storages : (ss : List ℕ) → has_unknown C ss ≡ false → Each (λ t. contains_key C.storages t ≡ true) ss
  unfolding knows_storage
  known_storages ss e = each_then (λ t. not (knows_storage C t) ≡ false) (λ t. contains_key C.storages t ≡ true) ss (none_passes (λ t. not (knows_storage C t)) ss e) (λ t. known_by (contains_key C.storages t))

  new_replicated : ((b : ℕ) (i : BlockInfo) → get H.blocks b ≡ Some i → (1 ≤ i.repl) × (i.repl ≤ MAX_REPLICATION)) → (o : Option BlockInfo) → has_some o (λ i. is_bad_replication i.repl) ≡ false
      → (b : ℕ) (i : BlockInfo) → get (option_map_or (λ i. insert H.blocks s.id i) o H.blocks) b ≡ Some i → (1 ≤ i.repl) × (i.repl ≤ MAX_REPLICATION)
  new_replicated old None e = old
  new_replicated old (Some j) e = holds_inserted (λ _ i. (1 ≤ i.repl) × (i.repl ≤ MAX_REPLICATION)) H.blocks s.id j old (fits_replication j.repl e)

  lawful : IsLawfulHoldings C H → IsLawfulHoldings C (restore_block H s)
  unfolding restore_block
  lawful L = record {
    stored = by_key (λ q. contains_key C.storages q.storage ≡ true) _
        (of_replicas (λ q _. contains_key C.storages q.storage ≡ true) (λ q x e. L.stored q (is_there (get H.replicas q) x e))
        (mapped_back (λ t. contains_key C.storages t ≡ true) (λ r. r.storage) s.replicas (known_storages (storages_of_block s) ok.storages)));
    pending_stored = by_key (λ q. contains_key C.storages q.storage ≡ true) _
        (of_pending (λ q _. contains_key C.storages q.storage ≡ true) (λ q x e. L.pending_stored q (is_there (get H.pending q) x e))
        (mapped_back (λ t. contains_key C.storages t ≡ true) (λ t. t.target) s.pending (known_storages (targets_of_block s) ok.targets)));
    once = λ p q e f same. apart_or_old L p q (by_key Origin _ origin p e) (by_key Origin _ origin q f) same;
    strays = of_replicas (λ q m. is_stray m.tag ≡ not (contains_key blocks q.block))
        (λ q m e. L.strays q m e ∙ ap (λ o. not (is_some o)) (sym (others s.info q.block (below.replicas q (is_there (get H.replicas q) m e)))))
        (each_then (λ r. has_wrong_tag s.info r ≡ false) (λ r. is_stray r.marks.tag ≡ not (contains_key blocks s.id)) s.replicas
        (none_passes (has_wrong_tag s.info) s.replicas ok.tags)
        (λ r e. tag_by s.info (is_stray r.marks.tag) e ∙ ap not (sym (here s.info))));
    excess_is_good = of_replicas (λ q m. m.excess ≡ true → is_good m.tag ≡ true) L.excess_is_good
        (each_then (λ r. has_wrong_excess r ≡ false) (λ r. r.marks.excess ≡ true → is_good r.marks.tag ≡ true) s.replicas
        (none_passes has_wrong_excess s.replicas ok.excess) (λ r. good_by r.marks.excess (is_good r.marks.tag)));
    pending_known = by_key (λ q. contains_key blocks q.block ≡ true) _
        (of_pending (λ q _. contains_key blocks q.block ≡ true)
        (λ q r e. ap is_some (others s.info q.block (below.pending q (is_there (get H.pending q) r e))) ∙ L.pending_known q (is_there (get H.pending q) r e))
        (each_then (λ _. is_some s.info ≡ true) (λ _. contains_key blocks s.id ≡ true) s.pending (none_pending s.info s.pending ok.known) (λ _ e. here s.info ∙ e)));
    replicated = new_replicated L.replicated s.info ok.repl;
  }

pub restored_block_is_lawful : law.restored_block_is_lawful
restored_block_is_lawful C H round last s L up_to none =
    let ok = fine_block C round last s none in
    lawful C H round last s (all_below last H s.id up_to ok.number) ok L
