-- A cluster that holds just what was added to it still does after a new node or a new storage.
use Rattle.std.proofs.Common.{◌≡◌, ℕ, suc, ◌+◌, ◌≤◌, Bool, true, false, nat_lt, List, [], ◌∷◌, ◌++◌, Some, None, Ok, Err, map, length, length-append, refl, sym, ap, subst, ◌∙◌, arith, if◌then◌else◌}
use Rattle.std.specs.Prelude.{slice_get}
use Rattle.std.specs.List.{list_any, position_or_len, AllByRecursion}
use Rattle.std.specs.Option.{option_map_or}
use Rattle.std.specs.Str.{bytes_eq}
use Rattle.bm_base.specs.Words.{range_from, has_repeats}
use Rattle.bm_base.specs.declared.limits.TheConstants.{MOST_NODES, MOST_STORAGES}
use Rattle.fsck_text.specs.Cuts.{Text}
use Rattle.fsck_text.specs.declared.place.Place.{Place}
use Rattle.fsck_cluster.specs.Blocks.{NumberedBlocks}
use Rattle.fsck_cluster.specs.Clusters.{rack_name, is_on_rack, after_new_node, with_new_node, at_node, after_node, is_on_node, after_new_storage, at_storage, after_storage}
use Rattle.fsck_cluster.specs.Names.{name_number, name_of, with_name}
use Rattle.fsck_cluster.specs.Rows.{new_row}
use Rattle.fsck_cluster.specs.declared.cluster.Cluster.{Cluster}
use Rattle.fsck_cluster.specs.declared.cluster.NodeRow.{NodeRow}
use Rattle.fsck_cluster.specs.declared.cluster.Why.TheVariants as why
use Rattle.fsck_cluster.specs.declared.rows.Row.{Row}
use Rattle.fsck_import.specs.Laws.{Replica}
use Rattle.fsck_import.proofs.NameLemmas.{same_ok, if_ok, if_not, new_position, position-known, position-new, same_name, known_last, last_position, with_known, with_new, name_of-number, known_below}
use Rattle.fsck_import.proofs.StorageLemmas.{Fit, Stored, row_at, stored_push, all-push, all-more}
use Rattle.fsck_import.proofs.OnceLemmas.{Once, new_once, has_twice, twice-push}
use Rattle.fsck_import.proofs.BadLemmas.{Corrupted, corrupted_name, Drains, drains_name, node_number, numbered-push}

abbrev pub numbers_of : Cluster → List ℕ
numbers_of c = map (λ b. b.0) c.blocks

-- the node of a storage is one of the first n
abbrev pub OnNode : ℕ → Row → Type 0
OnNode n row = (1 ≤ row.node) × (row.node ≤ n)

-- What a cluster took so far: the blocks and their numbers, of which the last is being taken; the
-- replicas; the corrupt ones; the nodes that drain.
pub record TakenBlocks : Type 0 where
  pub blocks : NumberedBlocks
  pub numbers : List ℕ
  pub last : ℕ
  pub replicas : List Replica
  pub bad : List (Text × ℕ)
  pub addresses : List Text

-- the cluster holds what it took, and nothing else
pub record Sound (c : Cluster) (t : TakenBlocks) : Type 0 where
  pub blocks : c.blocks ≡ t.blocks
  pub numbers : numbers_of c ≡ t.numbers
  pub apart : has_repeats t.numbers ≡ false
  pub stored : Stored c.rows c.storages t.replicas
  pub names : has_twice c.storages ≡ false
  pub once : AllByRecursion (Once t.numbers t.last) c.rows
  pub corrupted : Corrupted c.storages c.bad t.bad
  pub nodes : map node_number c.node_rows ≡ range_from 1 (length c.nodes)
  pub on_nodes : AllByRecursion (OnNode (length c.nodes)) c.rows
  pub drained : Drains c.nodes c.draining t.addresses

-- The node of a place.

new_node : (c : Cluster) (t : TakenBlocks) (p : Place) → list_any (bytes_eq p.address) c.nodes ≡ false → Sound c t → Sound (after_new_node c p) t
new_node c t p new before =
    let same : with_name c.nodes p.address ≡ c.nodes ++ p.address ∷ [] = with_new c.nodes p.address new in
    let number : name_number c.nodes p.address ≡ length c.nodes + 1 = ap (λ n. n + 1) (new_position (bytes_eq p.address) c.nodes new) in
    let row : NodeRow = record { number = name_number c.nodes p.address; rack = name_number c.racks (rack_name p.rack); remaining = None } in
    let wider : (x : Row) → OnNode (length c.nodes) x → OnNode (length (c.nodes ++ p.address ∷ [])) x = λ x h. (h.0, omega (arith, h.1, length-append c.nodes (p.address ∷ []))) in
    record {
      blocks = before.blocks;
      numbers = before.numbers;
      apart = before.apart;
      stored = before.stored;
      names = before.names;
      once = before.once;
      corrupted = before.corrupted;
      nodes = numbered-push c.node_rows c.nodes row p.address before.nodes number ∙ ap (λ ns. range_from 1 (length ns)) (sym same);
      on_nodes = subst (λ ns. AllByRecursion (OnNode (length ns)) c.rows) (sym same) (all-more (OnNode (length c.nodes)) (OnNode (length (c.nodes ++ p.address ∷ []))) wider c.rows before.on_nodes);
      drained = subst (λ ns. Drains ns c.draining t.addresses) (sym same) (drains_name c.nodes p.address c.draining t.addresses before.drained);
    }

-- with the node of a place, which is then known
pub node_sound : (c d : Cluster) (t : TakenBlocks) (p : Place) → after_node c p ≡ Ok d → Sound c t → Sound d t × (list_any (bytes_eq p.address) d.nodes ≡ true)
node_sound c d t p e before = by (list_any (bytes_eq p.address) c.nodes) refl
  where
    by : (b : Bool) → list_any (bytes_eq p.address) c.nodes ≡ b → Sound d t × (list_any (bytes_eq p.address) d.nodes ≡ true)
    by true known =
        let found : at_node c p (Some (position_or_len (bytes_eq p.address) c.nodes)) ≡ Ok d = ap (at_node c p) (sym (position-known (bytes_eq p.address) c.nodes known)) ∙ e in
        let same : c ≡ d = same_ok c d (if_ok (is_on_rack c (position_or_len (bytes_eq p.address) c.nodes) p.rack) (Ok c) why.Elsewhere d found).1 in
        (subst (λ x. Sound x t) same before, subst (λ x. list_any (bytes_eq p.address) x.nodes ≡ true) same known)
    by false new =
        let found : with_new_node c p ≡ Ok d = ap (at_node c p) (sym (position-new (bytes_eq p.address) c.nodes new)) ∙ e in
        let inner = if_not c.knows_nodes (if nat_lt (length c.nodes) MOST_NODES then Ok (after_new_node c p) else Err why.TooManyNodes) why.UnknownNode d found in
        let same : after_new_node c p ≡ d = same_ok (after_new_node c p) d (if_ok (nat_lt (length c.nodes) MOST_NODES) (Ok (after_new_node c p)) why.TooManyNodes d inner.1).1 in
        let known : list_any (bytes_eq p.address) (with_name c.nodes p.address) ≡ true = ap (list_any (bytes_eq p.address)) (with_new c.nodes p.address new) ∙ known_last p.address c.nodes in
        (subst (λ x. Sound x t) same (new_node c t p new before), subst (λ x. list_any (bytes_eq p.address) x.nodes ≡ true) same known)

-- The storage of a place.

-- the storage of a place is known, and is on its node
pub record Ready (c : Cluster) (p : Place) : Type 0 where
  pub known : list_any (bytes_eq p.storage) c.storages ≡ true
  pub row : Row
  pub here : slice_get c.rows (position_or_len (bytes_eq p.storage) c.storages) ≡ Some row
  pub number : row.number ≡ 1 + position_or_len (bytes_eq p.storage) c.storages
  pub on : name_of c.nodes row.node ≡ p.address

fit_length : (n : ℕ) (rows : List Row) (names : List Text) → Fit n rows names → length rows ≡ length names
fit_length n [] [] h = refl
fit_length n [] (x ∷ names) h = absurd h
fit_length n (row ∷ rows) [] h = absurd h
fit_length n (row ∷ rows) (x ∷ names) h = ap suc (fit_length (n + 1) rows names h.1)

last_row : (rows : List Row) (row : Row) → slice_get (rows ++ row ∷ []) (length rows) ≡ Some row
last_row [] row = refl
last_row (x ∷ rows) row = last_row rows row

-- the cluster with a new storage, whose node is known
abbrev pub with_storage : Cluster → Place → Cluster
with_storage c p = record c { storages = c.storages ++ p.storage ∷ []; rows = c.rows ++ new_row (name_number c.storages p.storage) (name_number c.nodes p.address) ∷ [] }

with_storage_is : (c : Cluster) (p : Place) → list_any (bytes_eq p.address) c.nodes ≡ true → list_any (bytes_eq p.storage) c.storages ≡ false → with_storage c p ≡ after_new_storage c p
with_storage_is c p known new =
    ap (λ ns. record c { nodes = ns; storages = c.storages ++ p.storage ∷ []; rows = c.rows ++ new_row (name_number c.storages p.storage) (name_number c.nodes p.address) ∷ [] }) (sym (with_known c.nodes p.address known))
    ∙ ap (λ ss. record c { nodes = with_name c.nodes p.address; storages = ss; rows = c.rows ++ new_row (name_number c.storages p.storage) (name_number c.nodes p.address) ∷ [] }) (sym (with_new c.storages p.storage new))

new_storage : (c : Cluster) (t : TakenBlocks) (p : Place) → list_any (bytes_eq p.address) c.nodes ≡ true → list_any (bytes_eq p.storage) c.storages ≡ false → Sound c t → Sound (with_storage c p) t × Ready (with_storage c p) p
new_storage c t p known new before =
    let row = new_row (name_number c.storages p.storage) (name_number c.nodes p.address) in
    let at : position_or_len (bytes_eq p.storage) (c.storages ++ p.storage ∷ []) ≡ length c.rows =
    last_position p.storage c.storages new ∙ new_position (bytes_eq p.storage) c.storages new ∙ sym (fit_length 1 c.rows c.storages before.stored.fits) in
    let within : name_number c.nodes p.address ≤ length c.nodes = omega (arith, known_below (bytes_eq p.address) c.nodes known) in (
      record {
        blocks = before.blocks;
        numbers = before.numbers;
        apart = before.apart;
        stored = stored_push c.rows c.storages t.replicas (name_number c.nodes p.address) p.storage new before.stored;
        names = twice-push c.storages p.storage before.names new;
        once = all-push (Once t.numbers t.last) c.rows row before.once (new_once t.numbers t.last (name_number c.storages p.storage) (name_number c.nodes p.address));
        corrupted = corrupted_name c.storages p.storage c.bad t.bad before.corrupted;
        nodes = before.nodes;
        on_nodes = all-push (OnNode (length c.nodes)) c.rows row before.on_nodes (omega arith, within);
        drained = before.drained;
      },
      record {
        known = known_last p.storage c.storages;
        row = row;
        here = ap (slice_get (c.rows ++ row ∷ [])) at ∙ last_row c.rows row;
        number = omega (arith, last_position p.storage c.storages new);
        on = name_of-number c.nodes p.address known;
      },
    )

-- with the storage of a place, whose node is known
pub storage_sound : (c d : Cluster) (t : TakenBlocks) (p : Place) → list_any (bytes_eq p.address) c.nodes ≡ true → after_storage c p ≡ Ok d → Sound c t → Sound d t × Ready d p
storage_sound c d t p address e before = by (list_any (bytes_eq p.storage) c.storages) refl
  where
    by : (b : Bool) → list_any (bytes_eq p.storage) c.storages ≡ b → Sound d t × Ready d p
    by true known =
        let at = position_or_len (bytes_eq p.storage) c.storages in
        let found : at_storage c p (Some at) ≡ Ok d = ap (at_storage c p) (sym (position-known (bytes_eq p.storage) c.storages known)) ∙ e in
        let parts = if_ok (is_on_node c at p.address) (Ok c) why.Elsewhere d found in
        let same : c ≡ d = same_ok c d parts.1 in
        let r = row_at 1 c.rows c.storages p.storage before.stored.fits known in
        let on : bytes_eq (name_of c.nodes r.row.node) p.address ≡ true = ap (λ o. option_map_or (λ x. bytes_eq (name_of c.nodes x.node) p.address) o false) (sym r.here) ∙ parts.0 in
        let ready : Ready c p = record {
          known = known;
          row = r.row;
          here = r.here;
          number = r.number;
          on = same_name (name_of c.nodes r.row.node) p.address on;
        } in
        (subst (λ x. Sound x t) same before, subst (λ x. Ready x p) same ready)
    by false new =
        let found : (if nat_lt (length c.storages) MOST_STORAGES then Ok (after_new_storage c p) else Err why.TooManyStorages) ≡ Ok d = ap (at_storage c p) (sym (position-new (bytes_eq p.storage) c.storages new)) ∙ e in
        let same : with_storage c p ≡ d = with_storage_is c p address new ∙ same_ok (after_new_storage c p) d (if_ok (nat_lt (length c.storages) MOST_STORAGES) (Ok (after_new_storage c p)) why.TooManyStorages d found).1 in
        let made = new_storage c t p address new before in
        (subst (λ x. Sound x t) same made.0, subst (λ x. Ready x p) same made.1)
