-- A finite map that computes: its entries in the ascending order of their keys, and so one list for
-- each map.
--     Order K          how keys compare: a total order in which only equal keys tie
--     Map o X          from keys in the order o to values of X
--     Set o            of keys in the order o
--     get, contains_key, insert, remove, len, keys, entries      as Rust's `BTreeMap`
--     alter m f        each value changed by its key: `None` removes the entry
--     keep m p         the entries that pass.     without m p     those whose keys do not pass
--     revise m f       each value changed by its key
--     revise_at m k f  the value at one key changed, if there is one
--     insert_all m es  the entries one after another, so that the last of a key counts
--     values es        the values of these entries, in the same order
-- The laws are in proofs/MapLaws, what the field `sorted` needs in MapSorted, and the code of a map
-- in MapCode.
use Rattle.std.specs.Prelude.{◌≡◌, ℕ, Bool, not, if◌then◌else◌, List, [], ◌∷◌, map, length, is_some, Option, Some, None, T}
use Rattle.std.specs.declared.cmp.Ordering.{Ordering}
use Rattle.std.specs.declared.cmp.Ordering.TheVariants.{Equal}
use Rattle.std.specs.Ordering.{eq_by_cmp, nat_cmp}
use Rattle.std.specs.Cmp.{IsTotalOrder, nat_cmp_total}
use Rattle.std.specs.FinMap.{find, put, is_sorted, nat_cmp-IsAntisymmetric}
use Rattle.std.specs.FinMap.Entries.{is_sorted-put}
use Rattle.bm_base.specs.Maps.Altered.{alter_values}
use Rattle.bm_base.specs.Maps.MapSorted.{is_sorted-alter}

-- how keys compare
pub record Order (K : Type 0) : Type 0 where
  pub cmp : K → K → Ordering
  pub total : IsTotalOrder cmp
  pub same : (x y : K) → cmp x y ≡ Equal → x ≡ y

-- numbers in their own order
abbrev pub by_number : Order ℕ
by_number = record { cmp = nat_cmp; total = nat_cmp_total; same = nat_cmp-IsAntisymmetric }

pub record Map {K : Type 0} (o : Order K) (X : Type 0) : Type 0 where
  pub list : List (K × X)
  pub sorted : T (is_sorted o.cmp list)

-- the values of these entries
abbrev pub values : {K X : Type 0} → List (K × X) → List X
values es = map (λ e. e.1) es

-- a finite set: its members as keys, each without a value
abbrev pub Set : {K : Type 0} → Order K → Type 0
Set o = Map o (Unit {0})

module _ {K X : Type 0} {o : Order K} where
  unfoldable pub entries : Map o X → List (K × X)
  entries m = m.list

  unfoldable pub empty : Map o X
  empty = record { list = []; sorted = tt }

  unfoldable pub get : Map o X → K → Option X
  get m q = find o.cmp q m.list

  unfoldable pub insert : Map o X → K → X → Map o X
  insert m k v = record { list = put o.cmp k v m.list; sorted = is_sorted-put o.cmp o.total k v m.list m.sorted }

  unfoldable pub alter : Map o X → (K → X → Option X) → Map o X
  alter m f = record { list = alter_values f m.list; sorted = is_sorted-alter o.cmp f m.list m.sorted }

  abbrev pub contains_key : Map o X → K → Bool
  contains_key m q = is_some (get m q)

  unfoldable pub keep : Map o X → (K → X → Bool) → Map o X
  keep m p = alter m (λ k x. if p k x then Some x else None)

  abbrev pub without : Map o X → (K → Bool) → Map o X
  without m p = keep m (λ k _. not (p k))

  unfoldable pub revise : Map o X → (K → X → X) → Map o X
  revise m f = alter m (λ k x. Some (f k x))

  unfoldable pub revise_at : Map o X → K → (X → X) → Map o X
  revise_at m k f = revise m (λ q x. if eq_by_cmp o.cmp q k then f x else x)

  unfoldable pub remove : Map o X → K → Map o X
  remove m k = alter m (λ q x. if eq_by_cmp o.cmp q k then None else Some x)

  abbrev pub insert_all : Map o X → List (K × X) → Map o X
  insert_all m [] = m
  insert_all m (e ∷ es) = insert_all (insert m e.0 e.1) es

  unfoldable pub len : Map o X → ℕ
  len m = length (entries m)

  unfoldable pub keys : Map o X → List K
  keys m = map (λ e. e.0) (entries m)
