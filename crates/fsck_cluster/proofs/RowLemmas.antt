-- The storages of a node.
use Rattle.std.proofs.Common.{◌≡◌, ℕ, zero, suc, Bool, true, false, cond, not, List, [], ◌∷◌, ◌||◌, map, filter, length, nat_eq, slice_index_or, refl, sym, ap, ◌∙◌, arith}
use Rattle.std.proofs.lemmas.Bool.{ne_eqb}
use Rattle.std.specs.Prelude.{◌==◌, slice_set}
use Rattle.fsck_cluster.specs.Rows.{has_storage, storages_of}
use Rattle.fsck_cluster.specs.declared.rows.Row.{Row}

-- A row with other replicas.

pub storages_set : (rows : List Row) (at : ℕ) (old new : Row) (n : ℕ) → old ≡ slice_index_or rows at old → new.number ≡ old.number → new.node ≡ old.node → storages_of (slice_set rows at new) n ≡ storages_of rows n
storages_set [] at old new n here number node = refl
storages_set (r ∷ rows) zero old new n here number node =
    let first : new.number ≡ r.number = number ∙ ap (λ (x : Row). x.number) here in
    let on : new.node ≡ r.node = node ∙ ap (λ (x : Row). x.node) here in
    ap (λ m. chosen (nat_eq m n) new) on ∙ by (nat_eq r.node n) first
  where
    -- the numbers, if the first row is this one and has to be among them
    chosen : Bool → Row → List ℕ
    chosen t x = map (λ (y : Row). y.number) (cond t (x ∷ filter (λ y. y.node == n) rows) (filter (λ y. y.node == n) rows))

    by : (t : Bool) → new.number ≡ r.number → chosen t new ≡ chosen t r
    by true first = ap (λ k. k ∷ map (λ (y : Row). y.number) (filter (λ y. y.node == n) rows)) first
    by false first = refl
storages_set (r ∷ rows) (suc at) old new n here number node = by (nat_eq r.node n) (storages_set rows at old new n here number node)
  where
    by : (t : Bool) → storages_of (slice_set rows at new) n ≡ storages_of rows n
        → map (λ (x : Row). x.number) (cond t (r ∷ filter (λ x. x.node == n) (slice_set rows at new)) (filter (λ x. x.node == n) (slice_set rows at new)))
        ≡ map (λ (x : Row). x.number) (cond t (r ∷ filter (λ x. x.node == n) rows) (filter (λ x. x.node == n) rows))
    by true same = ap (λ ss. r.number ∷ ss) same
    by false same = same

-- A node without storages.

pub none_stored : (rows : List Row) (n : ℕ) → has_storage rows n ≡ not (nat_eq (length (storages_of rows n)) 0)
none_stored [] n = refl
none_stored (r ∷ rows) n = by (nat_eq r.node n) (none_stored rows n)
  where
    by : (t : Bool) → has_storage rows n ≡ not (nat_eq (length (storages_of rows n)) 0)
        → (t || has_storage rows n) ≡ not (nat_eq (length (map (λ (x : Row). x.number) (cond t (r ∷ filter (λ x. x.node == n) rows) (filter (λ x. x.node == n) rows)))) 0)
    by true same = sym (ap not (ne_eqb (suc (length (map (λ (x : Row). x.number) (filter (λ x. x.node == n) rows)))) 0 (λ z. absurd (omega (arith, z)))))
    by false same = same
