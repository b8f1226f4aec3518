-- A cluster that holds just what was added to it still does after replicas of its last block.
use Rattle.std.proofs.Common.{◌≡◌, ℕ, ◌-◌, ◌<◌, ◌≤◌, Bool, true, false, cond, nat_eq, List, [], ◌∷◌, ◌++◌, Ok, map, filter, length, refl, sym, ap, subst, ◌∙◌, append_assoc, arith, if◌then◌else◌}
use Rattle.std.specs.Prelude.{slice_get, slice_set, slice_index_or}
use Rattle.std.specs.List.{list_any, position_or_len, AllByRecursion}
use Rattle.std.specs.Option.{option_map_or}
use Rattle.std.specs.Str.{bytes_eq}
use Rattle.std.proofs.lemmas.List.{append-nil}
use Rattle.fsck_text.specs.Cuts.{Text}
use Rattle.fsck_text.specs.declared.list.ListedReplica.{ListedReplica}
use Rattle.fsck_files.specs.declared.replicas.Block.{Block}
use Rattle.fsck_files.specs.Numbers.{with_number}
use Rattle.fsck_cluster.specs.Clusters.{after_node, after_storage, with_replica, with_bad, with_draining, with_listed, on_row, after_replica, after_place, after_places}
use Rattle.fsck_cluster.specs.Names.{name_of}
use Rattle.fsck_cluster.specs.Rows.{ends_with, with_held_at}
use Rattle.fsck_cluster.specs.declared.cluster.Bad.{Bad}
use Rattle.fsck_cluster.specs.declared.cluster.Cluster.{Cluster}
use Rattle.fsck_cluster.specs.declared.cluster.Why.TheVariants as why
use Rattle.fsck_cluster.specs.declared.rows.StoredReplica.{StoredReplica}
use Rattle.fsck_cluster.specs.declared.rows.Row.{Row}
use Rattle.fsck_import.specs.Laws.{replica_at, is_corrupt, is_drained}
use Rattle.fsck_import.proofs.NameLemmas.{same_ok, if_not, came_of, position-known, name-at, known_below}
use Rattle.fsck_import.proofs.StorageLemmas.{Stored, held_at, holding, stored_replica, all-set, all-get}
use Rattle.fsck_import.proofs.OnceLemmas.{Once, once_more}
use Rattle.fsck_import.proofs.BadLemmas.{Corrupted, corrupted_more, Drains, drains_more}
use Rattle.fsck_import.proofs.SoundLemmas.{OnNode, TakenBlocks, Sound, Ready, node_sound, storage_sound}

-- One replica.

abbrev pub bad_name : Block → ListedReplica → Text × ℕ
bad_name b l = (l.place.storage, b.id)

abbrev pub address_of : ListedReplica → Text
address_of l = l.place.address

-- with a replica
abbrev pub with_one : TakenBlocks → Block → ListedReplica → TakenBlocks
with_one t b l = record t { replicas = t.replicas ++ replica_at b l ∷ [] }

-- with a replica in the list of corrupt ones, if it is corrupt
abbrev pub with_one_bad : TakenBlocks → Block → ListedReplica → Bool → TakenBlocks
with_one_bad t b l corrupt = record t { bad = t.bad ++ map (bad_name b) (cond corrupt (l ∷ []) []) }

-- with the node of a replica, if it drains
abbrev pub with_one_drained : TakenBlocks → ListedReplica → Bool → TakenBlocks
with_one_drained t l drains = record t { addresses = t.addresses ++ map address_of (cond drains (l ∷ []) []) }

-- with these replicas of a block
abbrev pub with_all : TakenBlocks → Block → List ListedReplica → TakenBlocks
with_all t b ls = record t {
  replicas = t.replicas ++ map (replica_at b) ls;
  bad = t.bad ++ map (bad_name b) (filter (is_corrupt b) ls);
  addresses = t.addresses ++ map address_of (filter is_drained ls);
}

held_sound : (c : Cluster) (t : TakenBlocks) (b : Block) (l : ListedReplica) (ready : Ready c l.place) → list_any (nat_eq b.id) t.numbers ≡ true → t.last ≡ b.id → ends_with ready.row b.id ≡ false → Sound c t
    → Sound (with_replica c (position_or_len (bytes_eq l.place.storage) c.storages) b.id b.stamp) (with_one t b l)
held_sound c t b l ready known last new before =
    let at = position_or_len (bytes_eq l.place.storage) c.storages in
    let h : StoredReplica = record { id = b.id; stamp = b.stamp } in
    let rows = slice_set c.rows at (holding ready.row h) in
    let same : rows ≡ with_held_at c.rows at h = sym (held_at c.rows at ready.row h ready.here) in
    let once : AllByRecursion (Once t.numbers b.id) c.rows = subst (λ n. AllByRecursion (Once t.numbers n) c.rows) last before.once in
    let more : Once t.numbers b.id (holding ready.row h) = once_more t.numbers ready.row h known new (all-get (Once t.numbers b.id) c.rows at ready.row once ready.here) in
    record {
      blocks = before.blocks;
      numbers = before.numbers;
      apart = before.apart;
      stored = subst (λ rs. Stored rs c.storages (t.replicas ++ replica_at b l ∷ [])) same (stored_replica c.rows c.storages t.replicas l.place.storage ready.row h ready.known ready.here before.stored);
      names = before.names;
      once = subst (λ n. AllByRecursion (Once t.numbers n) (with_held_at c.rows at h)) (sym last) (subst (AllByRecursion (Once t.numbers b.id)) same (all-set (Once t.numbers b.id) c.rows at (holding ready.row h) once more));
      corrupted = before.corrupted;
      nodes = before.nodes;
      on_nodes = subst (AllByRecursion (OnNode (length c.nodes))) same (all-set (OnNode (length c.nodes)) c.rows at (holding ready.row h) before.on_nodes (all-get (OnNode (length c.nodes)) c.rows at ready.row before.on_nodes ready.here));
      drained = before.drained;
    }

-- the storage of a row has this name
abbrev pub IsNamed : Cluster → Row → Text → Type 0
IsNamed c row name = (row.number - 1 < length c.storages) × (name_of c.storages row.number ≡ name)

named : (c : Cluster) (l : ListedReplica) (ready : Ready c l.place) → IsNamed c ready.row l.place.storage
named c l ready =
    let at : ready.row.number - 1 ≡ position_or_len (bytes_eq l.place.storage) c.storages = omega (arith, ready.number) in
    let name : name_of c.storages ready.row.number ≡ l.place.storage = ap (λ n. slice_index_or c.storages n []) at ∙ name-at c.storages l.place.storage ready.known in
    (omega (arith, ready.number, known_below (bytes_eq l.place.storage) c.storages ready.known), name)

-- with a replica in the list of corrupt ones, if it is corrupt
bad_sound : (c : Cluster) (t : TakenBlocks) (b : Block) (l : ListedReplica) (row : Row) → IsNamed c row l.place.storage → Sound c t → (corrupt : Bool)
    → Sound (with_bad c (record { storage = row.number; id = b.id }) corrupt) (with_one_bad t b l corrupt)
bad_sound c t b l row is_named before corrupt = record {
  blocks = before.blocks;
  numbers = before.numbers;
  apart = before.apart;
  stored = before.stored;
  names = before.names;
  once = before.once;
  corrupted = by corrupt;
  nodes = before.nodes;
  on_nodes = before.on_nodes;
  drained = before.drained;
}
  where
    by : (b' : Bool) → Corrupted c.storages (if b' then c.bad ++ record { storage = row.number; id = b.id } ∷ [] else c.bad) (t.bad ++ map (bad_name b) (cond b' (l ∷ []) []))
    by true = corrupted_more c.storages c.bad t.bad row.number b.id l.place.storage is_named.0 is_named.1 before.corrupted
    by false = subst (Corrupted c.storages c.bad) (sym (append-nil t.bad)) before.corrupted

-- with the node of a replica, if it drains
drained_sound : (c : Cluster) (t : TakenBlocks) (l : ListedReplica) (node : ℕ) → (1 ≤ node) × (node ≤ length c.nodes) → name_of c.nodes node ≡ l.place.address → Sound c t → (drains : Bool)
    → Sound (with_draining c node drains) (with_one_drained t l drains)
drained_sound c t l node within name before drains = record {
  blocks = before.blocks;
  numbers = before.numbers;
  apart = before.apart;
  stored = before.stored;
  names = before.names;
  once = before.once;
  corrupted = before.corrupted;
  nodes = before.nodes;
  on_nodes = before.on_nodes;
  drained = by drains;
}
  where
    by : (b : Bool) → Drains c.nodes (if b then with_number c.draining node else c.draining) (t.addresses ++ map address_of (cond b (l ∷ []) []))
    by true = drains_more c.nodes c.draining t.addresses node l.place.address within.0 within.1 name before.drained
    by false = subst (Drains c.nodes c.draining) (sym (append-nil t.addresses)) before.drained

-- a replica whose storage is known
replica_sound : (c d : Cluster) (t : TakenBlocks) (b : Block) (l : ListedReplica) → Ready c l.place → list_any (nat_eq b.id) t.numbers ≡ true → t.last ≡ b.id → after_replica c b l ≡ Ok d → Sound c t
    → Sound d (with_all t b (l ∷ []))
replica_sound c d t b l ready known last e before =
    let at = position_or_len (bytes_eq l.place.storage) c.storages in
    let e_at : option_map_or (on_row c b l at) (slice_get c.rows at) (Ok c) ≡ Ok d =
    ap (λ o. option_map_or (λ k. option_map_or (on_row c b l k) (slice_get c.rows k) (Ok c)) o (Ok c)) (sym (position-known (bytes_eq l.place.storage) c.storages ready.known)) ∙ e in
    let e_row : on_row c b l at ready.row ≡ Ok d = ap (λ o. option_map_or (on_row c b l at) o (Ok c)) (sym ready.here) ∙ e_at in
    let after = with_listed c b l at ready.row in
    let parts = if_not (ends_with ready.row b.id) (Ok after) why.StorageTwice d e_row in
    let held = with_replica c at b.id b.stamp in
    let more = held_sound c t b l ready known last parts.0 before in
    let node : OnNode (length c.nodes) ready.row = all-get (OnNode (length c.nodes)) c.rows at ready.row before.on_nodes ready.here in
    let bad : Bad = record { storage = ready.row.number; id = b.id } in
    let corrupt = is_corrupt b l in
    let with_corrupt = bad_sound held (with_one t b l) b l ready.row (named c l ready) more corrupt in
    subst (λ x. Sound x (with_all t b (l ∷ []))) (same_ok after d parts.1)
    (drained_sound (with_bad held bad corrupt) (with_one_bad (with_one t b l) b l corrupt) l ready.row.node node ready.on with_corrupt (is_drained l))

place_sound : (c d : Cluster) (t : TakenBlocks) (b : Block) (l : ListedReplica) → list_any (nat_eq b.id) t.numbers ≡ true → t.last ≡ b.id → after_place c b l ≡ Ok d → Sound c t → Sound d (with_all t b (l ∷ []))
place_sound c d t b l known last e before =
    let second = came_of (λ x. after_replica x b l) _ d e in
    let first = came_of (λ x. after_storage x l.place) (after_node c l.place) second.0 second.1 in
    let node = node_sound c first.0 t l.place first.1 before in
    let storage = storage_sound first.0 second.0 t l.place node.1 first.2 node.0 in
    replica_sound second.0 d t b l storage.1 known last second.2 storage.0

-- Several replicas.

filter-head : {A B : Type 0} (f : A → B) (p : A → Bool) (x : A) (xs : List A) → map f (filter p (x ∷ [])) ++ map f (filter p xs) ≡ map f (filter p (x ∷ xs))
filter-head f p x xs = by (p x)
  where
    by : (b : Bool) → map f (cond b (x ∷ []) []) ++ map f (filter p xs) ≡ map f (cond b (x ∷ filter p xs) (filter p xs))
    by true = refl
    by false = refl

with_all-cons : (t : TakenBlocks) (b : Block) (l : ListedReplica) (ls : List ListedReplica) → with_all (with_all t b (l ∷ [])) b ls ≡ with_all t b (l ∷ ls)
with_all-cons t b l ls =
    ap (λ x. record t { replicas = x; bad = (t.bad ++ map (bad_name b) (filter (is_corrupt b) (l ∷ []))) ++ map (bad_name b) (filter (is_corrupt b) ls); addresses = (t.addresses ++ map address_of (filter is_drained (l ∷ []))) ++ map address_of (filter is_drained ls) })
    (append_assoc t.replicas (replica_at b l ∷ []) (map (replica_at b) ls))
    ∙ ap (λ x. record t { replicas = t.replicas ++ map (replica_at b) (l ∷ ls); bad = x; addresses = (t.addresses ++ map address_of (filter is_drained (l ∷ []))) ++ map address_of (filter is_drained ls) })
    (append_assoc t.bad (map (bad_name b) (filter (is_corrupt b) (l ∷ []))) (map (bad_name b) (filter (is_corrupt b) ls)) ∙ ap (λ x. t.bad ++ x) (filter-head (bad_name b) (is_corrupt b) l ls))
    ∙ ap (λ x. record t { replicas = t.replicas ++ map (replica_at b) (l ∷ ls); bad = t.bad ++ map (bad_name b) (filter (is_corrupt b) (l ∷ ls)); addresses = x })
    (append_assoc t.addresses (map address_of (filter is_drained (l ∷ []))) (map address_of (filter is_drained ls)) ∙ ap (λ x. t.addresses ++ x) (filter-head address_of is_drained l ls))

with_all-nil : (t : TakenBlocks) (b : Block) → with_all t b [] ≡ t
with_all-nil t b =
    ap (λ x. record t { replicas = x; bad = t.bad ++ []; addresses = t.addresses ++ [] }) (append-nil t.replicas)
    ∙ ap (λ x. record t { bad = x; addresses = t.addresses ++ [] }) (append-nil t.bad)
    ∙ ap (λ x. record t { addresses = x }) (append-nil t.addresses)

pub places_sound : (c d : Cluster) (t : TakenBlocks) (b : Block) (ls : List ListedReplica) → list_any (nat_eq b.id) t.numbers ≡ true → t.last ≡ b.id → after_places c b ls ≡ Ok d → Sound c t → Sound d (with_all t b ls)
places_sound c d t b [] known last e before = subst (Sound d) (sym (with_all-nil t b)) (subst (λ x. Sound x t) (same_ok c d e) before)
places_sound c d t b (l ∷ ls) known last e before =
    let first = came_of (λ x. after_places x b ls) (after_place c b l) d e in
    subst (Sound d) (with_all-cons t b l ls)
    (places_sound first.0 d (with_all t b (l ∷ [])) b ls known last first.2 (place_sound c first.0 t b l known last first.1 before))
