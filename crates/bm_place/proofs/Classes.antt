-- A target's class, from a spread of up to two racks and storages, is the definition's class.
use Rattle.std.proofs.Common.{◌≡◌, ℕ, suc, Bool, true, false, cond, ◌&&◌, List, [], ◌∷◌, map, filter_map, length, Option, Some, None, refl, sym, ap, ◌∙◌, arith, ◌==◌}
use Rattle.std.specs.declared.cmp.Ordering.{Ordering}
use Rattle.std.specs.declared.cmp.Ordering.TheVariants.{Less, Equal, Greater}
use Rattle.std.specs.Ordering.{nat_cmp}
use Rattle.std.specs.Option.{option_map_or}
use Rattle.std.specs.List.{cons_option}
use Rattle.std.specs.FinMap.{put}
use Rattle.std.specs.FinMap.Entries.{by_order}
use Rattle.bm_base.specs.Words.{Map, by_number, insert, insert_all, keys, entries, empty, Cluster, has, distinct, rack_of, racks, class_of, is_on_racks}
use Rattle.bm_place.specs.declared.up_to_two.UpToTwo.{UpToTwo}
use Rattle.bm_place.specs.declared.up_to_two.UpToTwo.TheVariants.{Nothing, One, Two, More}
use Rattle.bm_place.specs.declared.replica_spread.ReplicaSpread.{ReplicaSpread}
use Rattle.bm_place.specs.UpToTwo.{two_of, three_of, with_number, is_one, are_two}
use Rattle.bm_place.specs.ReplicaSpread.{with_rack, with_storage, with_storages, no_spread, replica_spread_of, class_on, class_by_spread}

abbrev Set : Type 0
Set = List (ℕ × Unit {0})

abbrev shape : Set → UpToTwo
shape [] = Nothing
shape (a ∷ []) = One a.0
shape (a ∷ b ∷ []) = Two a.0 b.0
shape (a ∷ b ∷ c ∷ es) = More

put_one : (r : ℕ) (a : ℕ × Unit {0}) (o : Ordering) → shape (by_order o ((r, tt) ∷ a ∷ []) ((a.0, tt) ∷ []) (a ∷ (r, tt) ∷ [])) ≡ two_of o r a.0
put_one r a Less = refl
put_one r a Equal = refl
put_one r a Greater = refl

put_two : (r : ℕ) (a b : ℕ × Unit {0}) (o q : Ordering)
    → shape (by_order o ((r, tt) ∷ a ∷ b ∷ []) ((a.0, tt) ∷ b ∷ []) (a ∷ by_order q ((r, tt) ∷ b ∷ []) ((b.0, tt) ∷ []) (b ∷ (r, tt) ∷ []))) ≡ three_of o q a.0 b.0
put_two r a b Less Less = refl
put_two r a b Less Equal = refl
put_two r a b Less Greater = refl
put_two r a b Equal q = refl
put_two r a b Greater Less = refl
put_two r a b Greater Equal = refl
put_two r a b Greater Greater = refl

put_more : (r : ℕ) (a b c : ℕ × Unit {0}) (es fs : Set) (o q p : Ordering)
    → shape (by_order o ((r, tt) ∷ a ∷ b ∷ c ∷ es) ((a.0, tt) ∷ b ∷ c ∷ es) (a ∷ by_order q ((r, tt) ∷ b ∷ c ∷ es) ((b.0, tt) ∷ c ∷ es) (b ∷ by_order p ((r, tt) ∷ c ∷ es) ((c.0, tt) ∷ es) (c ∷ fs)))) ≡ More
put_more r a b c es fs Less q p = refl
put_more r a b c es fs Equal q p = refl
put_more r a b c es fs Greater Less p = refl
put_more r a b c es fs Greater Equal p = refl
put_more r a b c es fs Greater Greater Less = refl
put_more r a b c es fs Greater Greater Equal = refl
put_more r a b c es fs Greater Greater Greater = refl

shape-put : (r : ℕ) (es : Set) → shape (put nat_cmp r tt es) ≡ with_number (shape es) r
shape-put r [] = refl
shape-put r (a ∷ []) = put_one r a (nat_cmp r a.0)
shape-put r (a ∷ b ∷ []) = put_two r a b (nat_cmp r a.0) (nat_cmp r b.0)
shape-put r (a ∷ b ∷ c ∷ es) = put_more r a b c es (put nat_cmp r tt es) (nat_cmp r a.0) (nat_cmp r b.0) (nat_cmp r c.0)

abbrev marked : List ℕ → Set
marked xs = map (λ x. (x, tt)) xs

-- the different numbers so far, and then each of these
abbrev with_numbers : UpToTwo → List ℕ → UpToTwo
with_numbers seen [] = seen
with_numbers seen (n ∷ ns) = with_numbers (with_number seen n) ns

shape-all : (xs : List ℕ) (m : Map by_number (Unit {0})) → shape (insert_all m (marked xs)).list ≡ with_numbers (shape m.list) xs
unfolding insert
shape-all [] m = refl
shape-all (x ∷ xs) m = shape-all xs (insert m x tt) ∙ ap (λ w. with_numbers w xs) (shape-put x m.list)

-- A spread depends on the racks and on the storages.

racks_with : (C : Cluster) (w : ReplicaSpread) (ss : List ℕ) → (with_storages C w ss).racks ≡ with_numbers w.racks (filter_map (rack_of C) ss)
racks_with C w [] = refl
racks_with C w (s ∷ ss) =
    racks_with C (with_storage C w s) ss
    ∙ elim (rack_of C s) as (λ k. with_numbers (with_rack w.racks k) (filter_map (rack_of C) ss) ≡ with_numbers w.racks (cons_option k (filter_map (rack_of C) ss))) [
      | None ↦ refl
      | Some r ↦ refl
    ]

storages_with : (C : Cluster) (w : ReplicaSpread) (ss : List ℕ) → (with_storages C w ss).storages ≡ with_numbers w.storages ss
storages_with C w [] = refl
storages_with C w (s ∷ ss) = storages_with C (with_storage C w s) ss

not_one : (n : ℕ) → (suc (suc (suc n)) == 1) ≡ false
not_one n = grind arith

not_two : (n : ℕ) → (suc (suc (suc n)) == 2) ≡ false
not_two n = grind arith

-- the choice if both tests fail
passed : (p q : Bool) (x y z : ℕ) → p ≡ false → q ≡ false → cond p x (cond q y z) ≡ z
passed p q x y z e f = ap (λ t. cond t x (cond q y z)) e ∙ ap (λ t. cond t y z) f

abbrev numbers : Set → List ℕ
numbers L = map (λ e. e.0) L

class_shape : (L : Set) (two : Bool) (rack : Option ℕ)
    → cond (length (numbers L) == 1) (cond (option_map_or (has (numbers L)) rack false) 1 0) (cond (two && (length (numbers L) == 2)) (cond (option_map_or (has (numbers L)) rack false) 0 1) 0) ≡ class_on (shape L) two rack
class_shape [] true rack = refl
class_shape [] false rack = refl
class_shape (a ∷ []) two None = refl
class_shape (a ∷ []) two (Some r) = grind arith
class_shape (a ∷ b ∷ []) true None = refl
class_shape (a ∷ b ∷ []) true (Some r) = grind arith
class_shape (a ∷ b ∷ []) false rack = refl
class_shape (a ∷ b ∷ c ∷ es) true rack = passed _ _ _ _ 0 (not_one (length (numbers es))) (not_two (length (numbers es)))
class_shape (a ∷ b ∷ c ∷ es) false rack = ap (λ t. cond t (cond (option_map_or (has (numbers (a ∷ b ∷ c ∷ es))) rack false) 1 0) 0) (not_one (length (numbers es)))

one_shape : (L : Set) → (length (numbers L) == 1) ≡ is_one (shape L)
one_shape [] = refl
one_shape (a ∷ []) = refl
one_shape (a ∷ b ∷ []) = refl
one_shape (a ∷ b ∷ c ∷ es) = not_one (length (numbers es))

two_shape : (L : Set) → (length (numbers L) == 2) ≡ are_two (shape L)
two_shape [] = refl
two_shape (a ∷ []) = refl
two_shape (a ∷ b ∷ []) = refl
two_shape (a ∷ b ∷ c ∷ es) = not_two (length (numbers es))

one_distinct : (xs : List ℕ) → (length (distinct xs) == 1) ≡ is_one (with_numbers Nothing xs)
unfolding distinct keys entries empty
one_distinct xs = one_shape (insert_all (empty {o = by_number}) (marked xs)).list ∙ ap is_one (shape-all xs empty)

two_distinct : (xs : List ℕ) → (length (distinct xs) == 2) ≡ are_two (with_numbers Nothing xs)
unfolding distinct keys entries empty
two_distinct xs = two_shape (insert_all (empty {o = by_number}) (marked xs)).list ∙ ap are_two (shape-all xs empty)

class_distinct : (xs : List ℕ) (two : Bool) (rack : Option ℕ)
    → cond (length (distinct xs) == 1) (cond (option_map_or (has (distinct xs)) rack false) 1 0) (cond (two && (length (distinct xs) == 2)) (cond (option_map_or (has (distinct xs)) rack false) 0 1) 0) ≡ class_on (with_numbers Nothing xs) two rack
unfolding distinct keys entries empty
class_distinct xs two rack =
    class_shape (insert_all (empty {o = by_number}) (marked xs)).list two rack ∙ ap (λ w. class_on w two rack) (shape-all xs empty)

pub class_by_rack : (C : Cluster) (holders : List ℕ) (s : ℕ) → class_of C holders s ≡ class_by_spread (replica_spread_of C holders) (rack_of C s)
unfolding class_of racks is_on_racks replica_spread_of
class_by_rack C holders s =
    class_distinct (filter_map (rack_of C) holders) (length (distinct holders) == 2) (rack_of C s)
    ∙ (λ i. class_on (sym (racks_with C no_spread holders) i) ((two_distinct holders ∙ ap are_two (sym (storages_with C no_spread holders))) i) (rack_of C s))

pub one_rack_by_spread : (C : Cluster) (holders : List ℕ) → (length (racks C holders) == 1) ≡ is_one (replica_spread_of C holders).racks
unfolding racks replica_spread_of
one_rack_by_spread C holders = one_distinct (filter_map (rack_of C) holders) ∙ ap is_one (sym (racks_with C no_spread holders))
