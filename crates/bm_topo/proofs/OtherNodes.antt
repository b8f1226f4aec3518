-- Without node n, the first rack of another node remains; if there is none, no node remains.
use Rattle.std.proofs.Common.{◌≡◌, ℕ, true, false, cond, ◌||◌, List, [], ◌∷◌, map, Option, Some, None, refl, ap, ◌∙◌, Less, Equal, Greater}
use Rattle.std.specs.Prelude.{◌==◌}
use Rattle.std.specs.List.{list_any}
use Rattle.std.specs.Ordering.{nat_cmp, eq_by_cmp}
use Rattle.std.specs.FinMap.{put}
use Rattle.std.specs.FinMap.Entries.{by_order}
use Rattle.std.proofs.lemmas.Bool.{eq-eqb}
use Rattle.std.proofs.Math.Bool.{or-true}
use Rattle.std.proofs.lemmas.Option.{same_Some}
use Rattle.bm_base.specs.Words.{has, Map, by_number, entries, insert, remove, alter}
use Rattle.bm_base.specs.Maps.Altered.{with_value, alter_values}
use Rattle.bm_base.proofs.Ties.{number_tie}
use Rattle.bm_topo.specs.Racks.{racks_of, first_other_rack}

abbrev dropped : ℕ → ℕ → ℕ → Option ℕ
dropped k q x = cond (eq_by_cmp nat_cmp q k) None (Some x)

head_there : (r : ℕ) (x : ℕ) (xs : List ℕ) → x ≡ r → list_any (λ y. y == r) (x ∷ xs) ≡ true
head_there r x xs e = ap (λ b. b || list_any (λ y. y == r) xs) (eq-eqb x r e)

other-among : (n r : ℕ) (es : List (ℕ × ℕ)) → first_other_rack n es ≡ Some r → list_any (λ y. y == r) (map (λ e. e.1) (alter_values (dropped n) es)) ≡ true
other-among n r [] h = cc
other-among n r (e ∷ es) h =
    elim (e.0 == n) as (λ b. (e.0 == n) ≡ b → cond b (first_other_rack n es) (Some e.1) ≡ Some r → list_any (λ y. y == r) (map (λ e. e.1) (with_value e.0 (cond (eq_by_cmp nat_cmp e.0 n) None (Some e.1)) (alter_values (dropped n) es))) ≡ true) [
      | true ↦ λ t h. ap (λ b. list_any (λ y. y == r) (map (λ e. e.1) (with_value e.0 (cond b None (Some e.1)) (alter_values (dropped n) es)))) (number_tie e.0 n ∙ t) ∙ other-among n r es h
      | false ↦ λ t h.
          ap (λ b. list_any (λ y. y == r) (map (λ e. e.1) (with_value e.0 (cond b None (Some e.1)) (alter_values (dropped n) es)))) (number_tie e.0 n ∙ t)
          ∙ head_there r e.1 (map (λ e. e.1) (alter_values (dropped n) es)) (same_Some e.1 r h)
    ] refl h

no_other : (n : ℕ) (es : List (ℕ × ℕ)) → first_other_rack n es ≡ None → alter_values (dropped n) es ≡ []
no_other n [] h = refl
no_other n (e ∷ es) h =
    elim (e.0 == n) as (λ b. (e.0 == n) ≡ b → cond b (first_other_rack n es) (Some e.1) ≡ None → with_value e.0 (cond (eq_by_cmp nat_cmp e.0 n) None (Some e.1)) (alter_values (dropped n) es) ≡ []) [
      | true ↦ λ t h. ap (λ b. with_value e.0 (cond b None (Some e.1)) (alter_values (dropped n) es)) (number_tie e.0 n ∙ t) ∙ no_other n es h
      | false ↦ λ t h. cc
    ] refl h

pub other_rack_there : (nodes : Map by_number ℕ) (n r : ℕ) → first_other_rack n (entries nodes) ≡ Some r → has (racks_of (remove nodes n)) r ≡ true
unfolding remove alter entries
other_rack_there nodes n r h = other-among n r nodes.list h

pub no_others : (nodes : Map by_number ℕ) (n : ℕ) → first_other_rack n (entries nodes) ≡ None → entries (remove nodes n) ≡ []
unfolding remove alter entries
no_others nodes n h = no_other n nodes.list h

put-among : (k v : ℕ) (es : List (ℕ × ℕ)) → list_any (λ y. y == v) (map (λ e. e.1) (put nat_cmp k v es)) ≡ true
put-among k v [] = head_there v v [] refl
put-among k v (e ∷ es) =
    elim (nat_cmp k e.0) as (λ r. list_any (λ y. y == v) (map (λ e. e.1) (by_order r ((k, v) ∷ e ∷ es) ((e.0, v) ∷ es) (e ∷ put nat_cmp k v es))) ≡ true) [
      | Less ↦ head_there v v (map (λ e. e.1) (e ∷ es)) refl
      | Equal ↦ head_there v v (map (λ e. e.1) es) refl
      | Greater ↦ ap (λ b. (e.1 == v) || b) (put-among k v es) ∙ or-true (e.1 == v)
    ]

pub inserted_there : (nodes : Map by_number ℕ) (n v : ℕ) → has (racks_of (insert nodes n v)) v ≡ true
unfolding entries insert
inserted_there nodes n v = put-among n v nodes.list
