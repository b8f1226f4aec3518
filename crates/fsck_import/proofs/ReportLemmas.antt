-- The calls for a cluster name its replicas, corrupt replicas and draining nodes, and no others.
use Rattle.std.proofs.Common.{◌≡◌, ℕ, ◌+◌, ◌-◌, ◌==◌, ◌||◌, Bool, true, false, cond, List, [], ◌∷◌, ◌++◌, map, filter, take, drop, length, length-append, refl, sym, ap, ◌∙◌, append_assoc, arith, true≢false}
use Rattle.std.specs.Prelude.{slice_index_or}
use Rattle.std.specs.List.{flat_map, list_any, AllByRecursion}
use Rattle.std.specs.Str.{bytes_eq}
use Rattle.std.proofs.lemmas.Grind.{flat_map-append}
use Rattle.std.proofs.lemmas.List.{append-nil, map-append, take-append-drop}
use Rattle.std.proofs.lemmas.Bool.{or_right}
use Rattle.bm_base.specs.Machine.Entries.{range_from, run_length, blocks_of_entry, expanded}
use Rattle.bm_base.specs.declared.call.Call.{Call}
use Rattle.bm_base.specs.declared.call.Call.TheVariants as call
use Rattle.bm_base.specs.declared.event.Event.TheVariants.{FullReport}
use Rattle.bm_base.specs.declared.limits.TheConstants.{MAX_ENTRIES}
use Rattle.fsck_text.specs.Cuts.{Text}
use Rattle.fsck_files.specs.Numbers.{has_number}
use Rattle.fsck_cluster.specs.Names.{name_of}
use Rattle.fsck_cluster.specs.declared.cluster.Bad.{Bad}
use Rattle.fsck_cluster.specs.declared.cluster.Cluster.{Cluster}
use Rattle.fsck_cluster.specs.declared.cluster.NodeRow.{NodeRow}
use Rattle.fsck_cluster.specs.declared.rows.StoredReplica.{StoredReplica}
use Rattle.fsck_cluster.specs.declared.rows.Row.{Row}
use Rattle.fsck_import.specs.CallsFor.{register, heartbeat, add, entry, received, reports, corrupt, drain, draining, calls_before, calls_after, calls_for}
use Rattle.fsck_import.specs.Laws.{replica, replicas_by, replicas_reported, corrupt_by, called_corrupt, drained_by, drained}
use Rattle.fsck_import.proofs.NameLemmas.{same_number, same_name, name_is_itself}
use Rattle.fsck_import.proofs.CallLemmas.{none-append, none-map, none-flat, none-nodes}
use Rattle.fsck_import.proofs.StorageLemmas.{reported_of, on_storage, on_row, on_rows, Fit}
use Rattle.fsck_import.proofs.BadLemmas.{by_name, node_number, DrainsAs}

-- if g gives nothing for registrations, heartbeats and adds, only the later calls count
module _ {X : Type 0} (g : Call → List X) (c : Cluster) (remaining : ℕ) where
  pub after_parts : ((x : NodeRow) → g (register c.rows x) ≡ []) → ((x : NodeRow) → g (heartbeat c.rows remaining x) ≡ []) → ((x : _) → g (add x) ≡ [])
      → flat_map g (calls_for c remaining) ≡ (flat_map g (flat_map reports c.rows) ++ flat_map g (map corrupt c.bad)) ++ flat_map g (map drain (draining c))
  after_parts h k a =
      let nodes = map (register c.rows) c.node_rows ++ map (heartbeat c.rows remaining) c.node_rows in
      let before : flat_map g (calls_before c remaining) ≡ [] = none-append g nodes (map add c.blocks) (none-nodes g c remaining h k) (none-map g add a c.blocks) in
      flat_map-append g (calls_before c remaining) (calls_after c)
      ∙ ap (λ t. t ++ flat_map g (calls_after c)) before
      ∙ flat_map-append g (flat_map reports c.rows ++ map corrupt c.bad) (map drain (draining c))
      ∙ ap (λ t. t ++ flat_map g (map drain (draining c))) (flat_map-append g (flat_map reports c.rows) (map corrupt c.bad))

-- Replicas.

one_reported : (h : StoredReplica) → blocks_of_entry (entry h) ≡ reported_of h ∷ []
unfolding blocks_of_entry
one_reported h = let n : run_length (entry h) ≡ 1 = omega arith in ap (λ k. map (λ b. record { id = b; stamp = h.stamp }) (range_from h.id k)) n

entries_reported : (held : List StoredReplica) → expanded (map entry held) ≡ map reported_of held
unfolding expanded
entries_reported [] = refl
entries_reported (h ∷ held) = ap (λ t. t ++ expanded (map entry held)) (one_reported h) ∙ ap (λ t. reported_of h ∷ t) (entries_reported held)

named_reported : (name : Text) (held : List StoredReplica) → map (replica name) (map reported_of held) ≡ map (on_storage name) held
named_reported name [] = refl
named_reported name (h ∷ held) = ap (λ t. on_storage name h ∷ t) (named_reported name held)

received_reported : (names : List Text) (number : ℕ) (held : List StoredReplica) → replicas_reported names (map (received number) held) ≡ map (on_storage (name_of names number)) held
received_reported names number [] = refl
received_reported names number (h ∷ held) = ap (λ t. on_storage (name_of names number) h ∷ t) (received_reported names number held)

both_reported : (names : List Text) (number : ℕ) (front rest : List StoredReplica)
    → replicas_reported names (call.Apply (FullReport number (map entry front)) ∷ map (received number) rest) ≡ map (on_storage (name_of names number)) (front ++ rest)
both_reported names number front rest =
    let name = name_of names number in
    ap (λ t. map (replica name) t ++ replicas_reported names (map (received number) rest)) (entries_reported front)
    ∙ ap (λ t. t ++ replicas_reported names (map (received number) rest)) (named_reported name front)
    ∙ ap (λ t. map (on_storage name) front ++ t) (received_reported names number rest)
    ∙ sym (map-append (on_storage name) front rest)

-- a storage reports all its replicas
row_reported : (names : List Text) (row : Row) → replicas_reported names (reports row) ≡ on_row (name_of names row.number) row
row_reported names row = both_reported names row.number (take MAX_ENTRIES row.held) (drop MAX_ENTRIES row.held) ∙ ap (map (on_storage (name_of names row.number))) (take-append-drop MAX_ENTRIES row.held)

at_end : (front : List Text) (x : Text) (rest : List Text) → slice_index_or (front ++ x ∷ rest) (length front) [] ≡ x
at_end [] x rest = refl
at_end (y ∷ front) x rest = at_end front x rest

pub rows_reported : (names front rest more : List Text) (rows : List Row) (n : ℕ) → names ≡ front ++ (rest ++ more) → n ≡ length front + 1 → Fit n rows rest
    → replicas_reported names (flat_map reports rows) ≡ on_rows rows rest
rows_reported names front [] more [] n same e h = refl
rows_reported names front (x ∷ rest) more [] n same e h = absurd h
rows_reported names front [] more (row ∷ rows) n same e h = absurd h
rows_reported names front (x ∷ rest) more (row ∷ rows) n same e h =
    let index : row.number - 1 ≡ length front = omega (arith, h.0, e) in
    let name : name_of names row.number ≡ x = ap (λ k. slice_index_or names k []) index ∙ ap (λ ns. slice_index_or ns (length front) []) same ∙ at_end front x (rest ++ more) in
    let next : n + 1 ≡ length (front ++ x ∷ []) + 1 = omega (arith, e, length-append front (x ∷ [])) in
    let others : replicas_reported names (flat_map reports rows) ≡ on_rows rows rest = rows_reported names (front ++ x ∷ []) rest more rows (n + 1) (same ∙ sym (append_assoc front (x ∷ []) (rest ++ more))) next h.1 in
    flat_map-append (replicas_by names) (reports row) (flat_map reports rows)
    ∙ ap (λ t. t ++ replicas_reported names (flat_map reports rows)) (row_reported names row ∙ ap (λ t. on_row t row) name)
    ∙ ap (λ t. on_row x row ++ t) others

pub empty_reported : (names : List Text) (rows : List Row) → AllByRecursion (λ row. row.held ≡ []) rows → replicas_reported names (flat_map reports rows) ≡ []
empty_reported names [] h = refl
empty_reported names (row ∷ rows) h =
    flat_map-append (replicas_by names) (reports row) (flat_map reports rows)
    ∙ ap (λ t. t ++ replicas_reported names (flat_map reports rows)) (row_reported names row ∙ ap (map (on_storage (name_of names row.number))) h.0)
    ∙ empty_reported names rows h.1

-- the replicas that the calls report are those on the storages
pub calls_report : (c : Cluster) (remaining : ℕ) (names : List Text) → replicas_reported names (calls_for c remaining) ≡ replicas_reported names (flat_map reports c.rows)
calls_report c remaining names =
    let reported = replicas_reported names (flat_map reports c.rows) in
    after_parts (replicas_by names) c remaining (λ x. refl) (λ x. refl) (λ x. refl)
    ∙ ap (λ t. (reported ++ t) ++ replicas_reported names (map drain (draining c))) (none-map (replicas_by names) corrupt (λ x. refl) c.bad)
    ∙ ap (λ t. (reported ++ []) ++ t) (none-map (replicas_by names) drain (λ x. refl) (draining c))
    ∙ append-nil (reported ++ [])
    ∙ append-nil reported

-- Corrupt replicas.

no_corrupt-reports : (names : List Text) (row : Row) → called_corrupt names (reports row) ≡ []
no_corrupt-reports names row = none-map (corrupt_by names) (received row.number) (λ x. refl) (drop MAX_ENTRIES row.held)

corrupt-map : (names : List Text) (bad : List Bad) → called_corrupt names (map corrupt bad) ≡ map (by_name names) bad
corrupt-map names [] = refl
corrupt-map names (b ∷ bad) = ap (λ t. by_name names b ∷ t) (corrupt-map names bad)

pub calls_corrupt : (c : Cluster) (remaining : ℕ) (names : List Text) → called_corrupt names (calls_for c remaining) ≡ map (by_name names) c.bad
calls_corrupt c remaining names =
    after_parts (corrupt_by names) c remaining (λ x. refl) (λ x. refl) (λ x. refl)
    ∙ ap (λ t. (t ++ called_corrupt names (map corrupt c.bad)) ++ called_corrupt names (map drain (draining c))) (none-flat (corrupt_by names) reports (no_corrupt-reports names) c.rows)
    ∙ ap (λ t. called_corrupt names (map corrupt c.bad) ++ t) (none-map (corrupt_by names) drain (λ x. refl) (draining c))
    ∙ append-nil (called_corrupt names (map corrupt c.bad))
    ∙ corrupt-map names c.bad

-- Nodes that drain.

no_drain-reports : (names : List Text) (row : Row) → drained names (reports row) ≡ []
no_drain-reports names row = none-map (drained_by names) (received row.number) (λ x. refl) (drop MAX_ENTRIES row.held)

pub calls_drain : (c : Cluster) (remaining : ℕ) (names : List Text) → drained names (calls_for c remaining) ≡ drained names (map drain (draining c))
calls_drain c remaining names =
    after_parts (drained_by names) c remaining (λ x. refl) (λ x. refl) (λ x. refl)
    ∙ ap (λ t. (t ++ drained names (map corrupt c.bad)) ++ drained names (map drain (draining c))) (none-flat (drained_by names) reports (no_drain-reports names) c.rows)
    ∙ ap (λ t. t ++ drained names (map drain (draining c))) (none-map (drained_by names) corrupt (λ x. refl) c.bad)

-- each node that the calls decommission drains
pub drained_from : (names : List Text) (numbers : List ℕ) (rows : List NodeRow) (address : Text)
    → list_any (bytes_eq address) (drained names (map drain (filter (λ node. has_number numbers node.number) rows))) ≡ true → DrainsAs names numbers address
drained_from names numbers [] address h = absurd (true≢false (sym h))
drained_from names numbers (row ∷ rows) address h = by (has_number numbers row.number) refl h (drained_from names numbers rows address)
  where
    rest : List NodeRow
    rest = filter (λ node. has_number numbers node.number) rows

    Others : Type 0
    Others = list_any (bytes_eq address) (drained names (map drain rest)) ≡ true → DrainsAs names numbers address

    here : (b : Bool) → bytes_eq address (name_of names row.number) ≡ b → has_number numbers row.number ≡ true
        → (b || list_any (bytes_eq address) (drained names (map drain rest))) ≡ true → Others → DrainsAs names numbers address
    here true same drains k others = record { number = row.number; drains = drains; name = same_name address (name_of names row.number) same }
    here false same drains k others = others k

    by : (b : Bool) → has_number numbers row.number ≡ b → list_any (bytes_eq address) (drained names (map drain (cond b (row ∷ rest) rest))) ≡ true → Others → DrainsAs names numbers address
    by true drains k others = here (bytes_eq address (name_of names row.number)) refl drains k others
    by false drains k others = others k

-- the calls decommission each node that drains
pub node_drains : (names : List Text) (numbers : List ℕ) (rows : List NodeRow) (number : ℕ) (address : Text) → has_number (map node_number rows) number ≡ true → has_number numbers number ≡ true
    → name_of names number ≡ address → list_any (bytes_eq address) (drained names (map drain (filter (λ node. has_number numbers node.number) rows))) ≡ true
node_drains names numbers [] number address known drains e = absurd (true≢false (sym known))
node_drains names numbers (row ∷ rows) number address known drains e =
    by (row.number == number) (has_number numbers row.number) refl refl known (λ k. node_drains names numbers rows number address k drains e)
  where
    by : (a b : Bool) → (row.number == number) ≡ a → has_number numbers row.number ≡ b → (a || has_number (map node_number rows) number) ≡ true
        → (has_number (map node_number rows) number ≡ true → list_any (bytes_eq address) (drained names (map drain (filter (λ node. has_number numbers node.number) rows))) ≡ true)
        → list_any (bytes_eq address) (drained names (map drain (cond b (row ∷ filter (λ node. has_number numbers node.number) rows) (filter (λ node. has_number numbers node.number) rows)))) ≡ true
    by true true same it_drains known rest =
        let name : name_of names row.number ≡ address = ap (name_of names) (same_number row.number number same) ∙ e in
        ap (λ t. t || list_any (bytes_eq address) (drained names (map drain (filter (λ node. has_number numbers node.number) rows)))) (ap (bytes_eq address) name ∙ name_is_itself address)
    by true false same it_drains known rest = absurd (true≢false (sym drains ∙ ap (has_number numbers) (sym (same_number row.number number same)) ∙ it_drains))
    by false true same it_drains known rest = or_right (bytes_eq address (name_of names row.number)) _ (rest known)
    by false false same it_drains known rest = rest known
