-- Events on nodes and storages keep the levels of blocks without a usable replica there, unless the
-- cluster gains or loses its second rack.
use Rattle.std.proofs.Common.{◌≡◌, ◌≢◌, ℕ, Bool, true, false, not, ◌&&◌, Option, Some, None, is_some, List, [], ◌∷◌, map, length, refl, sym, ap, ◌∙◌, true≢false}
use Rattle.std.specs.Prelude.{◌==◌, option_map, option_and_then, filter_map}
use Rattle.std.specs.Option.{option_map_or}
use Rattle.std.specs.Ordering.{eq_by_cmp, nat_cmp}
use Rattle.std.specs.List.{list_any, cons_option}
use Rattle.std.proofs.lemmas.Bool.{false≢true, ne_eqb}
use Rattle.bm_base.specs.declared.event.Remaining.{Remaining}
use Rattle.bm_base.specs.declared.replica.Marks.{Marks}
use Rattle.bm_base.specs.declared.replica.BlockInfo.{BlockInfo}
use Rattle.bm_base.specs.declared.storage.StorageInfo.{StorageInfo}
use Rattle.bm_base.specs.Words.{get, contains_key, Cluster, Holdings, replica_at, distinct, is_usable, is_live_on, is_drained_on, node_of, rack_of, has_storage, drains, is_draining, racks, live, drained, is_multi_rack, level, level_of, register, heartbeat, without_node, without_storage, without_storages, knows_storage}
use Rattle.bm_base.proofs.Ties.{number_tie}
use Rattle.bm_base.proofs.ForEach.{Each, none_passes}
use Rattle.bm_base.proofs.MapEntries.{get_insert_all_elsewhere, get_left, get_other}
use Rattle.bm_base.proofs.ClusterEvents.{same_nodes}
use Rattle.bm_base.proofs.ListTests.{and_first}
use Rattle.bm_parts.specs.LevelLaws as law
use Rattle.bm_parts.proofs.Storages.{storages_left, none_leaves, each_where, usable_fails}
use Rattle.bm_parts.proofs.Deaths.{draining_elsewhere, rack_elsewhere, rack_left, draining_left}

-- Of the cluster, a level depends only on the racks of the block's usable replicas, which of these
-- are on nodes that drain, and whether there are several racks.

filter_map_same : (f g : ℕ → Option ℕ) (ss : List ℕ) → Each (λ s. f s ≡ g s) ss → filter_map f ss ≡ filter_map g ss
filter_map_same f g [] each = refl
filter_map_same f g (s ∷ ss) each = λ j. cons_option (each.0 j) (filter_map_same f g ss each.1 j)

racks_of_each : (C D : Cluster) (ss : List ℕ) → Each (λ s. rack_of C s ≡ rack_of D s) ss → racks C ss ≡ racks D ss
unfolding racks
racks_of_each C D ss each = ap distinct (filter_map_same (rack_of C) (rack_of D) ss each)

level_by : (C D : Cluster) (H G : Holdings) (b : ℕ) → get G.blocks b ≡ get H.blocks b → live D G b ≡ live C H b → drained D G b ≡ drained C H b
    → Each (λ s. rack_of D s ≡ rack_of C s) (live C H b) → is_multi_rack D ≡ is_multi_rack C → level D G b ≡ level C H b
unfolding level
level_by C D H G b known lives spent each multi =
    λ j. option_and_then (λ (i : BlockInfo). level_of (record { live = length (lives j); drained = length (spent j); wanted = i.repl; racks = length ((ap (racks D) lives ∙ racks_of_each D C (live C H b) each) j); multi_rack = multi j })) (known j)

-- a storage is on the same rack in D as in C, and drains in D exactly if it does in C
abbrev pub HasSameRackAndDrain : Cluster → Cluster → ℕ → Type 0
HasSameRackAndDrain C D s = (rack_of D s ≡ rack_of C s) × (is_draining D s ≡ is_draining C s)

module _ (C D : Cluster) (H : Holdings) (gone : ℕ → Bool) (b : ℕ) (stay : (s : ℕ) (m : Marks) → get H.replicas (replica_at b s) ≡ Some m → is_usable m ≡ true → (gone s ≡ false) × HasSameRackAndDrain C D s) where
  -- a test of usable replicas and of whether their storages drain
  tested : (f : Bool → Bool) (s : ℕ) (m : Marks) → get H.replicas (replica_at b s) ≡ Some m → (not (gone s) && (is_usable m && f (is_draining D s))) ≡ (is_usable m && f (is_draining C s))
  tested f s m there = by_test (is_usable m) refl
    where
      fails : (g : Bool) → (not g && false) ≡ false
      fails true = refl
      fails false = refl

      by_test : (u : Bool) → is_usable m ≡ u → (not (gone s) && (u && f (is_draining D s))) ≡ (u && f (is_draining C s))
      by_test true e = let at = stay s m there e in λ i. not (at.0 i) && f (at.1.1 i)
      by_test false e = fails (gone s)

  known_left : get (without_storages H gone).blocks b ≡ get H.blocks b
  unfolding without_storages
  known_left = refl

  level_left : is_multi_rack D ≡ is_multi_rack C → level D (without_storages H gone) b ≡ level C H b
  level_left multi =
      level_by C D H (without_storages H gone) b known_left
      (storages_left H gone (is_live_on D) (is_live_on C) b (tested not)) (storages_left H gone (is_drained_on D) (is_drained_on C) b (tested (λ d. d)))
      (each_where (λ s. rack_of D s ≡ rack_of C s) (is_live_on C) H b (λ s m there h. (stay s m there (and_first (is_usable m) (not (is_draining C s)) h)).1.0)) multi

-- `level_left` if all replicas stay
pub level_alike : (C D : Cluster) (H : Holdings) (b : ℕ) → ((s : ℕ) (m : Marks) → get H.replicas (replica_at b s) ≡ Some m → is_usable m ≡ true → HasSameRackAndDrain C D s)
    → is_multi_rack D ≡ is_multi_rack C → level D H b ≡ level C H b
level_alike C D H b stay multi =
    ap (λ G. level D G b) (sym (none_leaves H)) ∙ level_left C D H (λ _. false) b (λ s m there u. (refl, stay s m there u)) multi

-- Heartbeats.

module _ (C : Cluster) (rs : List Remaining) where
  pub rack_after_heartbeat : (s : ℕ) → rack_of (heartbeat C rs) s ≡ rack_of C s
  unfolding rack_of node_of heartbeat
  rack_after_heartbeat s = ap (option_and_then (λ n. get C.nodes n)) (same_nodes C.storages rs s)

  draining_after_heartbeat : (s : ℕ) → is_draining (heartbeat C rs) s ≡ is_draining C s
  unfolding is_draining drains node_of heartbeat
  draining_after_heartbeat s = ap (λ z. option_map_or (drains C) z false) (same_nodes C.storages rs s)

  multi_after_heartbeat : is_multi_rack (heartbeat C rs) ≡ is_multi_rack C
  unfolding is_multi_rack heartbeat
  multi_after_heartbeat = refl

pub heartbeat_leaves_racks : law.heartbeat_leaves_racks
heartbeat_leaves_racks C rs = (rack_after_heartbeat C rs, draining_after_heartbeat C rs, multi_after_heartbeat C rs)

pub heartbeat_leaves_levels : law.heartbeat_leaves_levels
heartbeat_leaves_levels C rs H b = level_alike C (heartbeat C rs) H b (λ s m there u. (rack_after_heartbeat C rs s, draining_after_heartbeat C rs s)) (multi_after_heartbeat C rs)

-- New nodes.

module _ (C : Cluster) (n rack : ℕ) (ss : List ℕ) (new : contains_key C.nodes n ≡ false) (unknown : list_any (knows_storage C) ss ≡ false) where
  -- a known storage is none of the new ones
  not_named : (s : ℕ) → contains_key C.storages s ≡ true → (ts : List ℕ) → Each (λ t. knows_storage C t ≡ false) ts
      → Each (λ (e : ℕ × StorageInfo). eq_by_cmp nat_cmp s e.0 ≡ false) (map (λ s. (s, record { node = n; remaining = 0 })) ts)
  unfolding knows_storage
  not_named s known [] each = tt
  not_named s known (t ∷ ts) each = (number_tie s t ∙ ne_eqb s t (λ e. true≢false (sym known ∙ ap (contains_key C.storages) e ∙ each.0)), not_named s known ts each.1)

  node_before : (s : ℕ) (i : StorageInfo) → get C.storages s ≡ Some i → node_of (register C n rack ss) s ≡ Some i.node
  unfolding register node_of
  node_before s i e =
      ap (option_map (λ (i : StorageInfo). i.node))
      (get_insert_all_elsewhere C.storages (map (λ s. (s, record { node = n; remaining = 0 })) ss) s (not_named s (ap is_some e) ss (none_passes (knows_storage C) ss unknown)) ∙ e)

  other_node : (m : ℕ) → is_some (get C.nodes m) ≡ true → m ≢ n
  other_node m known e = true≢false (sym known ∙ ap (λ x. is_some (get C.nodes x)) e ∙ new)

  rack_before : (m : ℕ) → is_some (get C.nodes m) ≡ true → get (register C n rack ss).nodes m ≡ get C.nodes m
  unfolding register
  rack_before m known = get_other C.nodes n rack m (other_node m known)

  drains_before : (m : ℕ) → is_some (get C.nodes m) ≡ true → drains (register C n rack ss) m ≡ drains C m
  unfolding register drains
  drains_before m known = ap is_some (get_left C.draining n m (other_node m known))

  alike_by : (s : ℕ) (o : Option StorageInfo) → get C.storages s ≡ o → is_some (option_and_then (λ m. get C.nodes m) (option_map (λ (i : StorageInfo). i.node) o)) ≡ true
      → (option_and_then (λ m. get (register C n rack ss).nodes m) (node_of (register C n rack ss) s) ≡ option_and_then (λ m. get C.nodes m) (option_map (λ (i : StorageInfo). i.node) o))
      × (option_map_or (drains (register C n rack ss)) (node_of (register C n rack ss) s) false ≡ option_map_or (drains C) (option_map (λ (i : StorageInfo). i.node) o) false)
  alike_by s None e h = absurd (false≢true h)
  alike_by s (Some i) e h = (
    ap (option_and_then (λ m. get (register C n rack ss).nodes m)) (node_before s i e) ∙ rack_before i.node h,
    ap (λ z. option_map_or (drains (register C n rack ss)) z false) (node_before s i e) ∙ drains_before i.node h,
  )

  -- a storage that had a rack keeps it, and drains as before
  pub same_after_register : (s : ℕ) → is_some (rack_of C s) ≡ true → HasSameRackAndDrain C (register C n rack ss) s
  unfolding rack_of is_draining node_of
  same_after_register s h = alike_by s (get C.storages s) refl h

pub register_leaves_levels : law.register_leaves_levels
register_leaves_levels C H n rack ss b new unknown racked multi =
    level_alike C (register C n rack ss) H b (λ s m there u. same_after_register C n rack ss new unknown s (racked (replica_at b s) (ap is_some there))) multi

-- Deaths and failures.

pub death_leaves_levels : law.death_leaves_levels
death_leaves_levels C H n b none multi =
    level_left C (without_node C n) H (has_storage C n) b
    (λ s m there u. let off = usable_fails (has_storage C n) H b s m none there u in (off, (rack_elsewhere C n s off, draining_elsewhere C n s off))) multi

multi_left : (C : Cluster) (t : ℕ) → is_multi_rack (without_storage C t) ≡ is_multi_rack C
unfolding is_multi_rack without_storage
multi_left C t = refl

pub failure_leaves_levels : law.failure_leaves_levels
failure_leaves_levels C H t b none =
    level_left C (without_storage C t) H (λ s. s == t) b
    (λ s m there u. let off = usable_fails (λ s. s == t) H b s m none there u in (off, (rack_left C t s off, draining_left C t s off))) (multi_left C t)
