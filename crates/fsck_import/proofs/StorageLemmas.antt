-- Storages that hold just the added replicas still do after one more storage or replica.
use Rattle.std.proofs.Common.{◌≡◌, ℕ, zero, suc, ◌+◌, ◌||◌, Bool, true, false, not, cond, List, [], ◌∷◌, ◌++◌, Option, Some, None, map, length, refl, sym, ap, subst, ◌∙◌, append_assoc, arith, true≢false}
use Rattle.std.specs.Prelude.{⊤, slice_get, slice_set}
use Rattle.std.specs.List.{list_any, position_or_len, AllByRecursion}
use Rattle.std.specs.List.Sorted.{IsPermutation}
use Rattle.std.specs.Option.{option_map_or}
use Rattle.std.specs.Str.{bytes_eq}
use Rattle.std.proofs.lemmas.List.Sorted.{IsPermutation-append_right, IsPermutation-append_left, IsPermutation-append_comm, IsPermutation-trans}
use Rattle.std.proofs.lemmas.List.{map_push}
use Rattle.bm_base.specs.Machine.Entries.{ReportedBlock}
use Rattle.fsck_text.specs.Cuts.{Text}
use Rattle.fsck_cluster.specs.Rows.{new_row, with_held_at}
use Rattle.fsck_cluster.specs.declared.rows.StoredReplica.{StoredReplica}
use Rattle.fsck_cluster.specs.declared.rows.Row.{Row}
use Rattle.fsck_import.specs.Laws.{Replica, replica}
use Rattle.fsck_import.proofs.NameLemmas.{same_name, new_position}

-- Rows that all have a property.

module _ (P : Row → Type 0) where
  pub all-push : (rows : List Row) (x : Row) → AllByRecursion P rows → P x → AllByRecursion P (rows ++ x ∷ [])
  all-push [] x h p = (p, tt)
  all-push (row ∷ rows) x h p = (h.0, all-push rows x h.1 p)

  pub all-set : (rows : List Row) (at : ℕ) (x : Row) → AllByRecursion P rows → P x → AllByRecursion P (slice_set rows at x)
  all-set [] at x h p = tt
  all-set (row ∷ rows) zero x h p = (p, h.1)
  all-set (row ∷ rows) (suc at) x h p = (h.0, all-set rows at x h.1 p)

  pub all-get : (rows : List Row) (at : ℕ) (x : Row) → AllByRecursion P rows → slice_get rows at ≡ Some x → P x
  all-get [] at x h e = absurd (none_is_not_some e)
    where
      none_is_not_some : ◌≡◌ {A = Option Row} None (Some x) → ⊥
      none_is_not_some e = cc
  all-get (row ∷ rows) zero x h e = subst P (same_some e) h.0
    where
      same_some : ◌≡◌ {A = Option Row} (Some row) (Some x) → row ≡ x
      same_some e = cc
  all-get (row ∷ rows) (suc at) x h e = all-get rows at x h.1 e

  pub all-more : (Q : Row → Type 0) → ((x : Row) → P x → Q x) → (rows : List Row) → AllByRecursion P rows → AllByRecursion Q rows
  all-more Q f [] h = tt
  all-more Q f (row ∷ rows) h = (f row h.0, all-more Q f rows h.1)

-- Storages with their replicas.

abbrev pub reported_of : StoredReplica → ReportedBlock
reported_of h = record { id = h.id; stamp = h.stamp }

abbrev pub on_storage : Text → StoredReplica → Replica
on_storage name h = replica name (reported_of h)

-- the replicas on a storage of this name
abbrev pub on_row : Text → Row → List Replica
on_row name row = map (on_storage name) row.held

-- the replicas on the storages of these names
abbrev pub on_rows : List Row → List Text → List Replica
on_rows [] names = []
on_rows (row ∷ rows) [] = []
on_rows (row ∷ rows) (name ∷ names) = on_row name row ++ on_rows rows names

-- storages numbered from n on, one for each name
abbrev pub Fit : ℕ → List Row → List Text → Type 0
Fit n [] [] = ⊤
Fit n [] (name ∷ names) = ⊥
Fit n (row ∷ rows) [] = ⊥
Fit n (row ∷ rows) (name ∷ names) = (row.number ≡ n) × Fit (n + 1) rows names

fit_push : (n : ℕ) (rows : List Row) (names : List Text) (k node : ℕ) (name : Text) → k ≡ n + length names → Fit n rows names → Fit n (rows ++ new_row k node ∷ []) (names ++ name ∷ [])
fit_push n [] [] k node name e h = (omega (arith, e), tt)
fit_push n [] (x ∷ names) k node name e h = absurd h
fit_push n (row ∷ rows) [] k node name e h = absurd h
fit_push n (row ∷ rows) (x ∷ names) k node name e h = (h.0, fit_push (n + 1) rows names k node name (omega (arith, e)) h.1)

-- a new storage has no replicas
rows_push : (n : ℕ) (rows : List Row) (names : List Text) (k node : ℕ) (name : Text) → Fit n rows names → on_rows (rows ++ new_row k node ∷ []) (names ++ name ∷ []) ≡ on_rows rows names
rows_push n [] [] k node name h = refl
rows_push n [] (x ∷ names) k node name h = absurd h
rows_push n (row ∷ rows) [] k node name h = absurd h
rows_push n (row ∷ rows) (x ∷ names) k node name h = ap (λ t. on_row x row ++ t) (rows_push (n + 1) rows names k node name h.1)

-- the storage at an index
pub record RowAt (n : ℕ) (rows : List Row) (at : ℕ) : Type 0 where
  pub row : Row
  pub here : slice_get rows at ≡ Some row
  pub number : row.number ≡ n + at

-- the storage of a name
pub row_at : (n : ℕ) (rows : List Row) (names : List Text) (name : Text) → Fit n rows names → list_any (bytes_eq name) names ≡ true → RowAt n rows (position_or_len (bytes_eq name) names)
row_at n [] [] name h known = absurd (true≢false (sym known))
row_at n [] (x ∷ names) name h known = absurd h
row_at n (row ∷ rows) [] name h known = absurd h
row_at n (row ∷ rows) (x ∷ names) name h known = by (bytes_eq name x) known (row_at (n + 1) rows names name h.1)
  where
    by : (b : Bool) → (b || list_any (bytes_eq name) names) ≡ true → (list_any (bytes_eq name) names ≡ true → RowAt (n + 1) rows (position_or_len (bytes_eq name) names))
        → RowAt n (row ∷ rows) (cond (not b) (1 + position_or_len (bytes_eq name) names) 0)
    by true k rest = record { row = row; here = refl; number = omega (arith, h.0) }
    by false k rest =
        let r = rest k in
        let next : suc (position_or_len (bytes_eq name) names) ≡ 1 + position_or_len (bytes_eq name) names = omega arith in
        record {
          row = r.row;
          here = ap (slice_get (row ∷ rows)) (sym next) ∙ r.here;
          number = omega (arith, r.number);
        }

-- one more replica on the storage at an index
abbrev pub holding : Row → StoredReplica → Row
holding row h = record row { held = row.held ++ h ∷ [] }

pub held_at : (rows : List Row) (at : ℕ) (row : Row) (h : StoredReplica) → slice_get rows at ≡ Some row → with_held_at rows at h ≡ slice_set rows at (holding row h)
held_at rows at row h e = ap (λ o. option_map_or (λ r. slice_set rows at (holding r h)) o rows) e

-- one more replica on the storage of a name, which is among the names
pub record Added (n : ℕ) (rows more : List Row) (names : List Text) (r : Replica) : Type 0 where
  pub reordered : IsPermutation (on_rows rows names ++ r ∷ []) (on_rows more names)
  pub fits : Fit n more names

added_first : (n : ℕ) (row : Row) (rows : List Row) (x : Text) (names : List Text) (h : StoredReplica) → Fit n (row ∷ rows) (x ∷ names)
    → Added n (row ∷ rows) (holding row h ∷ rows) (x ∷ names) (on_storage x h)
added_first n row rows x names h fits =
    let here = on_row x row in
    let others = on_rows rows names in
    let r : Replica = on_storage x h in
    let more : on_row x (holding row h) ≡ here ++ r ∷ [] = map_push (on_storage x) row.held h in
    let moved : IsPermutation (here ++ (others ++ r ∷ [])) (here ++ (r ∷ [] ++ others)) = IsPermutation-append_right here (others ++ r ∷ []) (r ∷ [] ++ others) (IsPermutation-append_comm others (r ∷ [])) in
    record {
      reordered = subst (λ t. IsPermutation ((here ++ others) ++ r ∷ []) (t ++ others)) (sym more)
          (subst (λ t. IsPermutation t ((here ++ r ∷ []) ++ others)) (sym (append_assoc here others (r ∷ [])))
          (subst (IsPermutation (here ++ (others ++ r ∷ []))) (sym (append_assoc here (r ∷ []) others)) moved));
      fits = (fits.0, fits.1);
    }

added_after : (n : ℕ) (row : Row) (rows more : List Row) (x : Text) (names : List Text) (r : Replica) → Fit n (row ∷ rows) (x ∷ names) → Added (n + 1) rows more names r → Added n (row ∷ rows) (row ∷ more) (x ∷ names) r
added_after n row rows more x names r h added = record {
  reordered = subst (λ t. IsPermutation t (on_row x row ++ on_rows more names)) (sym (append_assoc (on_row x row) (on_rows rows names) (r ∷ [])))
      (IsPermutation-append_right (on_row x row) (on_rows rows names ++ r ∷ []) (on_rows more names) added.reordered);
  fits = (h.0, added.fits);
}

same_row : (row x : Row) → ◌≡◌ {A = Option Row} (Some row) (Some x) → row ≡ x
same_row row x e = cc

added_at : (n : ℕ) (rows : List Row) (names : List Text) (name : Text) (row : Row) (h : StoredReplica) → Fit n rows names → list_any (bytes_eq name) names ≡ true
    → slice_get rows (position_or_len (bytes_eq name) names) ≡ Some row
    → Added n rows (slice_set rows (position_or_len (bytes_eq name) names) (holding row h)) names (on_storage name h)
added_at n [] [] name row h fits known e = absurd (true≢false (sym known))
added_at n [] (x ∷ names) name row h fits known e = absurd fits
added_at n (first ∷ rows) [] name row h fits known e = absurd fits
added_at n (first ∷ rows) (x ∷ names) name row h fits known e =
    by (bytes_eq name x) refl known e (λ k g. added_at (n + 1) rows names name row h fits.1 k g)
  where
    by : (b : Bool) → bytes_eq name x ≡ b → (b || list_any (bytes_eq name) names) ≡ true
        → slice_get (first ∷ rows) (cond (not b) (1 + position_or_len (bytes_eq name) names) 0) ≡ Some row
        → (list_any (bytes_eq name) names ≡ true → slice_get rows (position_or_len (bytes_eq name) names) ≡ Some row
        → Added (n + 1) rows (slice_set rows (position_or_len (bytes_eq name) names) (holding row h)) names (on_storage name h))
        → Added n (first ∷ rows) (slice_set (first ∷ rows) (cond (not b) (1 + position_or_len (bytes_eq name) names) 0) (holding row h)) (x ∷ names) (on_storage name h)
    by true same k g rest =
        subst (λ t. Added n (first ∷ rows) (holding row h ∷ rows) (x ∷ names) (on_storage t h)) (sym (same_name name x same))
        (subst (λ r. Added n (first ∷ rows) (holding r h ∷ rows) (x ∷ names) (on_storage x h)) (same_row first row g)
        (added_first n first rows x names h fits))
    by false same k g rest =
        let next : suc (position_or_len (bytes_eq name) names) ≡ 1 + position_or_len (bytes_eq name) names = omega arith in
        subst (λ at. Added n (first ∷ rows) (slice_set (first ∷ rows) at (holding row h)) (x ∷ names) (on_storage name h)) next
        (added_after n first rows (slice_set rows (position_or_len (bytes_eq name) names) (holding row h)) x names (on_storage name h) fits
        (rest k (ap (slice_get (first ∷ rows)) next ∙ g)))

-- the storages of these names have these replicas
pub record Stored (rows : List Row) (names : List Text) (replicas : List Replica) : Type 0 where
  pub fits : Fit 1 rows names
  pub all : IsPermutation replicas (on_rows rows names)

-- one more storage
pub stored_push : (rows : List Row) (names : List Text) (replicas : List Replica) (node : ℕ) (name : Text) → list_any (bytes_eq name) names ≡ false → Stored rows names replicas
    → Stored (rows ++ new_row (position_or_len (bytes_eq name) names + 1) node ∷ []) (names ++ name ∷ []) replicas
stored_push rows names replicas node name new before =
    let number = position_or_len (bytes_eq name) names + 1 in
    record {
      fits = fit_push 1 rows names number node name (omega (arith, new_position (bytes_eq name) names new)) before.fits;
      all = subst (IsPermutation replicas) (sym (rows_push 1 rows names number node name before.fits)) before.all;
    }

-- one more replica
pub stored_replica : (rows : List Row) (names : List Text) (replicas : List Replica) (name : Text) (row : Row) (h : StoredReplica) → list_any (bytes_eq name) names ≡ true
    → slice_get rows (position_or_len (bytes_eq name) names) ≡ Some row → Stored rows names replicas
    → Stored (slice_set rows (position_or_len (bytes_eq name) names) (holding row h)) names (replicas ++ on_storage name h ∷ [])
stored_replica rows names replicas name row h known here before =
    let r = on_storage name h in
    let more = slice_set rows (position_or_len (bytes_eq name) names) (holding row h) in
    let added = added_at 1 rows names name row h before.fits known here in
    record {
      fits = added.fits;
      all = IsPermutation-trans (replicas ++ r ∷ []) (on_rows rows names ++ r ∷ []) (on_rows more names) (IsPermutation-append_left (r ∷ []) replicas (on_rows rows names) before.all) added.reordered;
    }
