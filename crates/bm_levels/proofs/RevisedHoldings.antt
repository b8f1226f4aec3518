-- Inserting a changed value at its key revises the map there; an absent number holds nothing:
--     remove_absent         nothing is removed without a value
--     known_revised         a known block has its information changed
--     block_absent, replica_absent, replicas_absent      a number without an entry holds nothing
--     entry_left            a number keeps an entry only with a replica
use Rattle.std.specs.Prelude.{◌≡◌, ℕ, Bool, true, false, ◌==◌, if◌then◌else◌, List, [], ◌∷◌, Option, Some, None, is_some, option_map, option_and_then}
use Rattle.std.specs.Ordering.{eq_by_cmp}
use Rattle.std.proofs.Common.{cond, refl, sym, ap, ◌∙◌, inl, inr}
use Rattle.std.proofs.lemmas.Bool.{cases_Bool, eqb-true, eq-eqb}
use Rattle.std.proofs.lemmas.Option.{none-some}
use Rattle.bm_base.specs.declared.replica.Marks.{Marks}
use Rattle.bm_base.specs.declared.replica.BlockInfo.{BlockInfo}
use Rattle.bm_base.specs.Words.{Map, Order, by_number, get, insert, remove, revise, revise_at, replica_at}
use Rattle.bm_base.proofs.MapLaws.{same_map, get-remove, get-revise}
use Rattle.bm_base.proofs.MapEntries.{same_key}
use Rattle.bm_maps.proofs.ReplaceLaws.{same_change, no_change, insert_there}
use Rattle.bm_arena.specs.Contents.{Contents, slot_of, marks_at, find_marks}
use Rattle.bm_arena.specs.HeldMaps.{replicas_at, replicas_of, blocks_of, info_at, with_known}
use Rattle.bm_arena.proofs.HeldReplicas.{get-replicas_of, get-blocks_of}
use Rattle.bm_report.proofs.Maps.{get-here}
use Rattle.bm_levels.proofs.AllMarks.{marks_listed}

module _ {K X : Type 0} {o : Order K} (m : Map o X) (k : K) where
  pub remove_absent : get m k ≡ None → m ≡ remove m k
  remove_absent none = same_map m (remove m k) (λ q. by q (eq_by_cmp o.cmp q k) refl ∙ sym (get-remove m k q))
    where
      by : (q : K) (t : Bool) → eq_by_cmp o.cmp q k ≡ t → get m q ≡ cond (eq_by_cmp o.cmp q k) None (get m q)
      by q true e = ap (get m) (same_key o q k e) ∙ none ∙ sym (ap (λ t. cond t None (get m q)) e)
      by q false e = sym (ap (λ t. cond t None (get m q)) e)

  -- inserting a changed value at its key is revising the map there
  pub put_changed : (f : X → X) (x : X) → get m k ≡ Some x → insert m k (f x) ≡ revise_at m k f
  put_changed f x is = insert_there m k (f x) (ap is_some is) ∙ same_change m k (λ _. f x) f (ap (option_map (λ _. f x)) is ∙ sym (ap (option_map f) is))

pub known_revised : (m : Map by_number BlockInfo) (b : ℕ) (f : BlockInfo → BlockInfo) → with_known m b (option_map f (get m b)) ≡ revise_at m b f
known_revised m b f = by (get m b) refl
  where
    by : (o : Option BlockInfo) → get m b ≡ o → with_known m b (option_map f o) ≡ revise_at m b f
    by None e = sym (remove_absent m b e) ∙ no_change m b f e
    by (Some x) e = put_changed m b f x e

-- the information on a block is that at the slot of its number
pub known_at : (a : Contents) (b slot : ℕ) → slot_of a b ≡ Some slot → get (blocks_of a) b ≡ info_at a slot
known_at a b slot here = get-blocks_of a b ∙ ap (λ o. option_and_then (λ x. info_at a x) o) here

pub block_absent : (a : Contents) (b : ℕ) → slot_of a b ≡ None → get (blocks_of a) b ≡ None
block_absent a b none = get-blocks_of a b ∙ ap (λ o. option_and_then (λ x. info_at a x) o) none

pub replica_absent : (a : Contents) (b s : ℕ) → slot_of a b ≡ None → get (replicas_of a) (replica_at b s) ≡ None
replica_absent a b s none = get-replicas_of a (replica_at b s) ∙ ap (λ o. option_and_then (λ x. marks_at a x s) o) none

-- a change of a block without a replica changes no replica, even if it depends on the storage
pub replicas_absent_by : (a : Contents) (b : ℕ) (f : ℕ → Marks → Marks) → slot_of a b ≡ None → replicas_of a ≡ revise (replicas_of a) (λ q m. if q.block == b then f q.storage m else m)
replicas_absent_by a b f none =
    same_map (replicas_of a) (revise (replicas_of a) (λ q m. if q.block == b then f q.storage m else m)) (λ q.
    elim (cases_Bool (q.block == b)) [
      | inl here ↦
          let gone : get (replicas_of a) q ≡ None = ap (λ z. get (replicas_of a) (replica_at z q.storage)) (eqb-true q.block b here) ∙ replica_absent a b q.storage none in
          gone ∙ sym (ap (option_map (λ (m : Marks). if q.block == b then f q.storage m else m)) gone)
      | inr other ↦ same q.storage (get (replicas_of a) q) ∙ sym (ap (λ t. option_map (λ (m : Marks). cond t (f q.storage m) m) (get (replicas_of a) q)) other)
    ]
    ∙ sym (get-revise (replicas_of a) (λ q m. if q.block == b then f q.storage m else m) q))
  where
    same : (s : ℕ) (o : Option Marks) → o ≡ option_map (λ (m : Marks). cond false (f s m) m) o
    same s None = refl
    same s (Some m) = refl

pub replicas_absent : (a : Contents) (b : ℕ) (f : Marks → Marks) → slot_of a b ≡ None → replicas_of a ≡ revise (replicas_of a) (λ q m. if q.block == b then f m else m)
replicas_absent a b f none = replicas_absent_by a b (λ s m. f m) none

-- A number keeps an entry only with a replica if its entry is dropped with the last one.
pub entry_left : (b c : Contents) (id slot : ℕ) → slot_of b id ≡ Some slot → replicas_of c ≡ replicas_of b → (replicas_at b slot ≡ [] → slot_of c id ≡ None)
    → (z : ℕ) → slot_of c id ≡ Some z → replicas_at c z ≡ [] → ⊥
entry_left b c id slot here same gone z led empty = by (replicas_at b slot) refl
  where
    by : (rs : List (ℕ × Marks)) → replicas_at b slot ≡ rs → ⊥
    by [] e = none-some _ (sym (gone e) ∙ led)
    by (r ∷ rs) e =
        let was : get (replicas_of b) (replica_at id r.0) ≡ Some r.1 =
        get-here b id slot r.0 here ∙ sym (marks_listed b slot r.0) ∙ ap (λ l. find_marks l r.0) e ∙ ap (λ t. cond t (Some r.1) (find_marks rs r.0)) (eq-eqb r.0 r.0 refl) in
        let now : get (replicas_of c) (replica_at id r.0) ≡ None = get-here c id z r.0 led ∙ sym (marks_listed c z r.0) ∙ ap (λ l. find_marks l r.0) empty in
        none-some _ (sym now ∙ ap (λ m. get m (replica_at id r.0)) same ∙ was)
