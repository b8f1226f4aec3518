-- Restoring all that is saved of holdings gives the holdings.
use Rattle.std.proofs.Common.{◌≡◌, ℕ, Bool, true, false, cond, ◌||◌, List, [], ◌∷◌, ◌++◌, map, filter, flat_map, Option, Some, None, refl, sym, ap, subst, ◌∙◌, eqb-true}
use Rattle.std.specs.Prelude.{◌==◌}
use Rattle.std.specs.Option.{option_map_or}
use Rattle.std.specs.List.{list_any}
use Rattle.std.specs.Ordering.{eq_by_cmp}
use Rattle.std.proofs.lemmas.Bool.{or_left, or_right, false≢true}
use Rattle.std.proofs.lemmas.List.Folds.{list_any-append}
use Rattle.bm_base.specs.declared.replica.ReplicaId.{ReplicaId}
use Rattle.bm_base.specs.declared.replica.Marks.{Marks}
use Rattle.bm_base.specs.declared.replica.BlockInfo.{BlockInfo}
use Rattle.bm_base.specs.Words.{Map, Order, by_number, by_replica, empty, entries, get, insert, insert_all, keys, has, Holdings, empty_holdings, replica_at}
use Rattle.bm_base.proofs.ForEach.{Each, each_appended}
use Rattle.bm_base.proofs.MapEntries.{passes_entry, key_itself}
use Rattle.bm_base.proofs.ListTests.{same_again, any_map}
use Rattle.bm_base.proofs.Sets.{has_distinct, has_keys}
use Rattle.bm_base.proofs.Options.{is_there}
use Rattle.bm_parts.proofs.JoinedShares.{gathered}
use Rattle.bm_saved.specs.Saved.{entries_of_block, saved_replica, saved_transfer, saved_block, held_numbers, saved_blocks}
use Rattle.bm_saved.specs.Restoring.{replica_entry, transfer_entry, restore_block, restore_blocks}
use Rattle.bm_saved.specs.Laws as law
use Rattle.bm_saved.proofs.Checks.{map_twice}
use Rattle.bm_saved.proofs.Groups.{groups_again}

-- Lists.

pub insert_all-append : {K X : Type 0} {o : Order K} (m : Map o X) (xs ys : List (K × X)) → insert_all m (xs ++ ys) ≡ insert_all (insert_all m xs) ys
insert_all-append m [] ys = refl
insert_all-append m (e ∷ es) ys = insert_all-append (insert m e.0 e.1) es ys

module _ {X : Type 0} where
  -- an entry of block b, from its storage and value
  abbrev pub again : ℕ → ReplicaId × X → ReplicaId × X
  again b e = (replica_at b e.0.storage, e.1)

  again_is : (b : ℕ) (e : ReplicaId × X) → (e.0.block == b) ≡ true → again b e ≡ e
  again_is b e t = λ i. (replica_at (sym (eqb-true e.0.block b t) i) e.0.storage, e.1)

  again_head : (b : ℕ) (e : ReplicaId × X) (es fs : List (ReplicaId × X)) (t : Bool) → (e.0.block == b) ≡ t → map (again b) es ≡ fs → map (again b) (cond t (e ∷ es) es) ≡ cond t (e ∷ fs) fs
  again_head b e es fs true t rest = λ i. again_is b e t i ∷ rest i
  again_head b e es fs false t rest = rest

  again_all : (b : ℕ) (es : List (ReplicaId × X)) → map (again b) (filter (λ e. e.0.block == b) es) ≡ filter (λ e. e.0.block == b) es
  again_all b [] = refl
  again_all b (e ∷ es) = again_head b e (filter (λ e. e.0.block == b) es) (filter (λ e. e.0.block == b) es) (e.0.block == b) refl (again_all b es)

  -- the entries of a block, from their storages and values
  pub entries_again : (m : Map by_replica X) (b : ℕ) → map (again b) (entries_of_block m b) ≡ entries_of_block m b
  unfolding entries_of_block
  entries_again m b = again_all b (entries m)

saved_replicas : (m : Map by_replica Marks) (b : ℕ) → map (replica_entry b) (map saved_replica (entries_of_block m b)) ≡ entries_of_block m b
saved_replicas m b = map_twice (replica_entry b) saved_replica (entries_of_block m b) ∙ entries_again m b

saved_transfers : (m : Map by_replica ℕ) (b : ℕ) → map (transfer_entry b) (map saved_transfer (entries_of_block m b)) ≡ entries_of_block m b
saved_transfers m b = map_twice (transfer_entry b) saved_transfer (entries_of_block m b) ∙ entries_again m b

-- the entry of a known block
abbrev known : Holdings → ℕ → List (ℕ × BlockInfo)
known H b = option_map_or (λ i. (b, i) ∷ []) (get H.blocks b) []

insert_known : (m : Map by_number BlockInfo) (b : ℕ) (o : Option BlockInfo) → option_map_or (λ i. insert m b i) o m ≡ insert_all m (option_map_or (λ i. (b, i) ∷ []) o [])
insert_known m b None = refl
insert_known m b (Some i) = refl

-- What is restored, as entries that are inserted.

pub restored_blocks : (H G : Holdings) (bs : List ℕ) → (restore_blocks G (map (saved_block H) bs)).blocks ≡ insert_all G.blocks (flat_map (known H) bs)
unfolding restore_block saved_block
restored_blocks H G [] = refl
restored_blocks H G (b ∷ bs) =
    restored_blocks H (restore_block G (saved_block H b)) bs
    ∙ ap (λ m. insert_all m (flat_map (known H) bs)) (insert_known G.blocks b (get H.blocks b))
    ∙ sym (insert_all-append G.blocks (known H b) (flat_map (known H) bs))

pub restored_replicas : (H G : Holdings) (bs : List ℕ) → (restore_blocks G (map (saved_block H) bs)).replicas ≡ insert_all G.replicas (flat_map (entries_of_block H.replicas) bs)
unfolding restore_block saved_block
restored_replicas H G [] = refl
restored_replicas H G (b ∷ bs) =
    restored_replicas H (restore_block G (saved_block H b)) bs
    ∙ ap (λ es. insert_all (insert_all G.replicas es) (flat_map (entries_of_block H.replicas) bs)) (saved_replicas H.replicas b)
    ∙ sym (insert_all-append G.replicas (entries_of_block H.replicas b) (flat_map (entries_of_block H.replicas) bs))

pub restored_pending : (H G : Holdings) (bs : List ℕ) → (restore_blocks G (map (saved_block H) bs)).pending ≡ insert_all G.pending (flat_map (entries_of_block H.pending) bs)
unfolding restore_block saved_block
restored_pending H G [] = refl
restored_pending H G (b ∷ bs) =
    restored_pending H (restore_block G (saved_block H b)) bs
    ∙ ap (λ es. insert_all (insert_all G.pending es) (flat_map (entries_of_block H.pending) bs)) (saved_transfers H.pending b)
    ∙ sym (insert_all-append G.pending (entries_of_block H.pending b) (flat_map (entries_of_block H.pending) bs))

-- Each entry is inserted.

-- all entries of a map of replicas, by block
all_again : {X : Type 0} (m : Map by_replica X) (bs : List ℕ) → ((q : ReplicaId) (x : X) → get m q ≡ Some x → has bs q.block ≡ true) → insert_all empty (flat_map (entries_of_block m) bs) ≡ m
unfolding entries_of_block
all_again m bs every = groups_again m (λ e. e.0.block) bs every

known_agrees : (H : Holdings) (b : ℕ) (o : Option BlockInfo) → get H.blocks b ≡ o → Each (λ (e : ℕ × BlockInfo). get H.blocks e.0 ≡ Some e.1) (option_map_or (λ i. (b, i) ∷ []) o [])
known_agrees H b None e = tt
known_agrees H b (Some i) e = (e, tt)

blocks_agree : (H : Holdings) (bs : List ℕ) → Each (λ e. get H.blocks e.0 ≡ Some e.1) (flat_map (known H) bs)
blocks_agree H [] = tt
blocks_agree H (b ∷ bs) = each_appended (λ e. get H.blocks e.0 ≡ Some e.1) (known H b) (flat_map (known H) bs) (known_agrees H b (get H.blocks b) refl) (blocks_agree H bs)

known_listed : (b : ℕ) (o : Option BlockInfo) (i : BlockInfo) → o ≡ Some i → list_any (λ (e : ℕ × BlockInfo). eq_by_cmp by_number.cmp b e.0) (option_map_or (λ i. (b, i) ∷ []) o []) ≡ true
known_listed b None i e = cc
known_listed b (Some j) i e = or_left _ _ (key_itself by_number b)

blocks_listed : (H : Holdings) (bs : List ℕ) (b : ℕ) (i : BlockInfo) → get H.blocks b ≡ Some i → has bs b ≡ true → list_any (λ e. eq_by_cmp by_number.cmp b e.0) (flat_map (known H) bs) ≡ true
blocks_listed H [] b i e there = absurd (false≢true there)
blocks_listed H (c ∷ bs) b i e there =
    list_any-append (λ f. eq_by_cmp by_number.cmp b f.0) (known H c) (flat_map (known H) bs)
    ∙ (elim (c == b) as (λ t. (c == b) ≡ t → (t || has bs b) ≡ true → (list_any (λ f. eq_by_cmp by_number.cmp b f.0) (known H c) || list_any (λ f. eq_by_cmp by_number.cmp b f.0) (flat_map (known H) bs)) ≡ true) [
      | true ↦ λ t _. or_left _ _ (subst (λ d. list_any (λ f. eq_by_cmp by_number.cmp b f.0) (known H d) ≡ true) (sym (eqb-true c b t)) (known_listed b (get H.blocks b) i e))
      | false ↦ λ _ h. or_right _ _ (blocks_listed H bs b i e h)
    ]) refl there

pub all_blocks_again : (H : Holdings) (bs : List ℕ) → ((b : ℕ) (i : BlockInfo) → get H.blocks b ≡ Some i → has bs b ≡ true) → insert_all empty (flat_map (known H) bs) ≡ H.blocks
all_blocks_again H bs every = gathered H.blocks (flat_map (known H) bs) (blocks_agree H bs) (λ b i e. blocks_listed H bs b i e (every b i e))

-- Each number is held.

has_append : (xs ys : List ℕ) (b : ℕ) → has (xs ++ ys) b ≡ (has xs b || has ys b)
has_append xs ys b = list_any-append (λ x. x == b) xs ys

number_of_key : {X : Type 0} (m : Map by_replica X) (q : ReplicaId) (x : X) → get m q ≡ Some x → has (map (λ (p : ReplicaId). p.block) (keys m)) q.block ≡ true
unfolding keys
number_of_key m q x e =
    any_map (λ y. y == q.block) (λ (p : ReplicaId). p.block) (map (λ e. e.0) (entries m)) ∙ any_map (λ (p : ReplicaId). p.block == q.block) (λ e. e.0) (entries m)
    ∙ passes_entry m (λ f. f.0.block == q.block) q x e (same_again q.block)

module _ (H : Holdings) where
  abbrev pub of_replicas : List ℕ
  of_replicas = map (λ q. q.block) (keys H.replicas)

  abbrev pub of_pending : List ℕ
  of_pending = map (λ q. q.block) (keys H.pending)

  pub has_held : (b : ℕ) → has (held_numbers H) b ≡ ((has (keys H.blocks) b || has of_replicas b) || has of_pending b)
  unfolding held_numbers
  has_held b =
      has_distinct (keys H.blocks ++ of_replicas ++ of_pending) b
      ∙ has_append (keys H.blocks ++ of_replicas) of_pending b
      ∙ ap (λ t. t || has of_pending b) (has_append (keys H.blocks) of_replicas b)

  pub known_held : (b : ℕ) (i : BlockInfo) → get H.blocks b ≡ Some i → has (held_numbers H) b ≡ true
  known_held b i e = has_held b ∙ or_left _ _ (or_left _ _ (has_keys H.blocks b ∙ is_there (get H.blocks b) i e))

  pub replica_held : (q : ReplicaId) (m : Marks) → get H.replicas q ≡ Some m → has (held_numbers H) q.block ≡ true
  replica_held q m e = has_held q.block ∙ or_left _ _ (or_right _ _ (number_of_key H.replicas q m e))

  pub pending_held : (q : ReplicaId) (r : ℕ) → get H.pending q ≡ Some r → has (held_numbers H) q.block ≡ true
  pending_held q r e = has_held q.block ∙ or_right _ _ (number_of_key H.pending q r e)

pub holdings_are_restored : law.holdings_are_restored
unfolding saved_blocks empty_holdings
holdings_are_restored H =
    let bs = held_numbers H in
    λ i. record {
      blocks = (restored_blocks H empty_holdings bs ∙ all_blocks_again H bs (known_held H)) i;
      replicas = (restored_replicas H empty_holdings bs ∙ all_again H.replicas bs (replica_held H)) i;
      pending = (restored_pending H empty_holdings bs ∙ all_again H.pending bs (pending_held H)) i;
    }
