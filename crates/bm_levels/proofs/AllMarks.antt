-- Changing the marks of the replicas of one block one after another, each by its storage, changes
-- all of them:
--     changed_first, change_next, change_end      the first n changed, one more, and all
--     change_none, unchanged_step                 one more, with marks that stay as they are
--     keeps_itself, keeps_then                    what a change of one block keeps, and two of them
--     marks_found                                 the marks of the replica at an index
--     block_replicas, block_known                 all replicas at a slot changed
use Rattle.std.specs.Prelude.{◌≡◌, ◌≢◌, ℕ, zero, suc, ◌+◌, ◌≤◌, true, false, ◌==◌, if◌then◌else◌, List, [], ◌∷◌, length, map, slice_get, Option, Some, None, option_map, option_and_then}
use Rattle.std.specs.Option.{option_map_or}
use Rattle.std.specs.Prelude.{nat_eq}
use Rattle.std.specs.Map.{lookup}
use Rattle.std.proofs.Common.{cond, refl, sym, ap, subst, ◌∙◌, arith, inl, inr}
use Rattle.std.proofs.lemmas.Bool.{cases_eq, cases_Bool, eq-eqb, ne_eqb, eqb-true}
use Rattle.bm_base.specs.declared.replica.Marks.{Marks}
use Rattle.bm_base.specs.declared.replica.ReplicaId.{ReplicaId}
use Rattle.bm_maps.specs.SlotLists.{IsMember, Distinct}
use Rattle.bm_base.specs.Maps.Map.{revise}
use Rattle.bm_base.proofs.MapLaws.{same_map, get-revise}
use Rattle.bm_arena.specs.Triplets.{Block, change_block}
use Rattle.bm_arena.specs.Contents.{Contents, block_at, slot_of, marks_at, find_marks, change_marks, with_marks, known_of, IsLawful, KeepsAllBut}
use Rattle.bm_arena.specs.HeldMaps.{replicas_at, replicas_of, blocks_of}
use Rattle.bm_arena.proofs.ChangedBlock.{changed-here}
use Rattle.bm_arena.proofs.HeldReplicas.{get-replicas_of, one_number, blocks-kept}
use Rattle.bm_levels.specs.Changes.{each_changed}

-- the replicas, with the marks of the first n changed
abbrev pub changed_first : (ℕ → Marks → Marks) → ℕ → List (ℕ × Marks) → List (ℕ × Marks)
changed_first f zero rs = rs
changed_first f (suc n) [] = []
changed_first f (suc n) (r ∷ rs) = (r.0, f r.0 r.1) ∷ changed_first f n rs

abbrev keys_at : List (ℕ × Marks) → List ℕ
keys_at rs = map (λ (r : ℕ × Marks). r.0) rs

module _ (f : ℕ → Marks → Marks) where
  -- an unchanged replica at an index is one of the given replicas
  left_listed : (n : ℕ) (rs : List (ℕ × Marks)) (r : ℕ × Marks) → slice_get (changed_first f n rs) n ≡ Some r → IsMember r.0 (keys_at rs)
  left_listed zero [] r e = cc
  left_listed zero (x ∷ rs) r e = let same : x ≡ r = (cc) in inl (ap (λ (z : ℕ × Marks). z.0) (sym same))
  left_listed (suc n) [] r e = cc
  left_listed (suc n) (x ∷ rs) r e = inr (left_listed n rs r e)

  pub change_next : (n : ℕ) (rs : List (ℕ × Marks)) (r : ℕ × Marks) → Distinct (keys_at rs) → slice_get (changed_first f n rs) n ≡ Some r
      → change_marks (changed_first f n rs) r.0 (f r.0 r.1) ≡ changed_first f (suc n) rs
  change_next zero [] r d e = cc
  change_next zero (x ∷ rs) r d e =
      let same : x ≡ r = (cc) in
      ap (λ b. if b then (x.0, f r.0 r.1) ∷ rs else x ∷ change_marks rs r.0 (f r.0 r.1)) (eq-eqb x.0 r.0 (ap (λ (z : ℕ × Marks). z.0) same))
      ∙ ap (λ (z : ℕ × Marks). (x.0, f z.0 z.1) ∷ rs) (sym same)
  change_next (suc n) [] r d e = cc
  change_next (suc n) (x ∷ rs) r d e =
      let apart : x.0 ≢ r.0 = λ same. d.0 (let P : ℕ → Type 0 = λ z. IsMember z (keys_at rs) in subst P (sym same) (left_listed n rs r e)) in
      ap (λ b. if b then (x.0, f r.0 r.1) ∷ changed_first f n rs else (x.0, f x.0 x.1) ∷ change_marks (changed_first f n rs) r.0 (f r.0 r.1)) (ne_eqb x.0 r.0 apart)
      ∙ ap (λ xs. (x.0, f x.0 x.1) ∷ xs) (change_next n rs r d.1 e)

  pub change_none : (n : ℕ) (rs : List (ℕ × Marks)) (r : ℕ × Marks) → slice_get (changed_first f n rs) n ≡ Some r → f r.0 r.1 ≡ r.1
      → changed_first f n rs ≡ changed_first f (suc n) rs
  change_none zero [] r e same = cc
  change_none zero (x ∷ rs) r e same =
      let is : x ≡ r = (cc) in
      ap (λ (m : Marks). (x.0, m) ∷ rs) (ap (λ (z : ℕ × Marks). z.1) is ∙ sym same ∙ ap (λ (z : ℕ × Marks). f z.0 z.1) (sym is))
  change_none (suc n) [] r e same = refl
  change_none (suc n) (x ∷ rs) r e same = ap (λ xs. (x.0, f x.0 x.1) ∷ xs) (change_none n rs r e same)

  pub change_end : (n : ℕ) (rs : List (ℕ × Marks)) → length rs ≤ n → changed_first f n rs ≡ each_changed f rs
  change_end zero [] h = refl
  change_end zero (x ∷ rs) h = absurd (omega (arith, h))
  change_end (suc n) [] h = refl
  change_end (suc n) (x ∷ rs) h = ap (λ xs. (x.0, f x.0 x.1) ∷ xs) (change_end n rs (omega (arith, h)))

  pub change_count : (n : ℕ) (rs : List (ℕ × Marks)) → length (changed_first f n rs) ≡ length rs
  change_count zero rs = refl
  change_count (suc n) [] = refl
  change_count (suc n) (x ∷ rs) = ap suc (change_count n rs)

  pub found_changed : (rs : List (ℕ × Marks)) (s : ℕ) → find_marks (each_changed f rs) s ≡ option_map (f s) (find_marks rs s)
  found_changed [] s = refl
  found_changed (r ∷ rs) s =
      elim (cases_Bool (r.0 == s)) [
        | inl here ↦ rw here (ap (λ z. Some (f z r.1)) (eqb-true r.0 s here))
        | inr other ↦ rw other (found_changed rs s)
      ]

-- the replicas at a slot of a lawful arena are on different storages
pub once_at : (a : Contents) (slot : ℕ) → IsLawful a → Distinct (keys_at (replicas_at a slot))
once_at a slot lawful = by (block_at a slot) refl
  where
    by : (o : Option Block) → block_at a slot ≡ o → Distinct (keys_at (option_map_or (λ (b : Block). b.replicas) o []))
    by None e = tt
    by (Some k) e = lawful.once slot k e

pub count_at : (a : Contents) (slot : ℕ) → option_map_or (λ (b : Block). length b.replicas) (block_at a slot) 0 ≡ length (replicas_at a slot)
count_at a slot = by (block_at a slot)
  where
    by : (o : Option Block) → option_map_or (λ (b : Block). length b.replicas) o 0 ≡ length (option_map_or (λ (b : Block). b.replicas) o [])
    by None = refl
    by (Some b) = refl

-- setting the marks of the next replica changes one more
pub changed_step : (f : ℕ → Marks → Marks) (a b c : Contents) (slot n s : ℕ) (m new : Marks) → IsLawful a → new ≡ f s m → replicas_at b slot ≡ changed_first f n (replicas_at a slot)
    → option_and_then (λ (k : Block). slice_get k.replicas n) (block_at b slot) ≡ Some (s, m) → c ≡ record b { blocks = change_block (with_marks s new) b.blocks slot }
    → replicas_at c slot ≡ changed_first f (n + 1) (replicas_at a slot)
changed_step f a b c slot n s m new lawful is before there after =
    let at : slice_get (changed_first f n (replicas_at a slot)) n ≡ Some (s, m) = sym (ap (λ rs. slice_get rs n) before) ∙ listed (block_at b slot) ∙ there in
    let count_replica : suc n ≡ n + 1 = omega arith in
    ap (λ x. replicas_at x slot) (after ∙ ap (λ (z : Marks). record b { blocks = change_block (with_marks s z) b.blocks slot }) is) ∙ ap (λ o. option_map_or (λ (k : Block). k.replicas) o []) (changed-here b slot (with_marks s (f s m))) ∙ written (block_at b slot)
    ∙ ap (λ rs. change_marks rs s (f s m)) before ∙ change_next f n (replicas_at a slot) (s, m) (once_at a slot lawful) at ∙ ap (λ k. changed_first f k (replicas_at a slot)) count_replica
  where
    listed : (o : Option Block) → slice_get (option_map_or (λ (k : Block). k.replicas) o []) n ≡ option_and_then (λ (k : Block). slice_get k.replicas n) o
    listed None = refl
    listed (Some k) = refl

    written : (o : Option Block) → option_map_or (λ (k : Block). k.replicas) (option_map (with_marks s (f s m)) o) [] ≡ change_marks (option_map_or (λ (k : Block). k.replicas) o []) s (f s m)
    written None = refl
    written (Some k) = refl

-- one more counts as changed if the change leaves the next replica's marks as they are
pub unchanged_step : (f : ℕ → Marks → Marks) (a b : Contents) (slot n s : ℕ) (m new : Marks) → new ≡ f s m → new ≡ m → replicas_at b slot ≡ changed_first f n (replicas_at a slot)
    → option_and_then (λ (k : Block). slice_get k.replicas n) (block_at b slot) ≡ Some (s, m)
    → replicas_at b slot ≡ changed_first f (n + 1) (replicas_at a slot)
unchanged_step f a b slot n s m new is same before there =
    let at : slice_get (changed_first f n (replicas_at a slot)) n ≡ Some (s, m) = sym (ap (λ rs. slice_get rs n) before) ∙ listed (block_at b slot) ∙ there in
    let count_replica : suc n ≡ n + 1 = omega arith in
    before ∙ change_none f n (replicas_at a slot) (s, m) at (sym is ∙ same) ∙ ap (λ k. changed_first f k (replicas_at a slot)) count_replica
  where
    listed : (o : Option Block) → slice_get (option_map_or (λ (k : Block). k.replicas) o []) n ≡ option_and_then (λ (k : Block). slice_get k.replicas n) o
    listed None = refl
    listed (Some k) = refl

pub keeps_itself : (slot : ℕ) (a : Contents) → KeepsAllBut slot a a
keeps_itself slot a = record { lists = refl; blocks = λ other ne. refl; capacity = λ other. refl; ids = refl; delimiter = refl; steps = refl; bound = refl }

pub keeps_then : (slot : ℕ) (a b c : Contents) → KeepsAllBut slot a b → KeepsAllBut slot b c → KeepsAllBut slot a c
keeps_then slot a b c f g = record {
  lists = g.lists ∙ f.lists;
  blocks = λ other ne. g.blocks other ne ∙ f.blocks other ne;
  capacity = λ other. g.capacity other ∙ f.capacity other;
  ids = g.ids ∙ f.ids;
  delimiter = g.delimiter ∙ f.delimiter;
  steps = g.steps ∙ f.steps;
  bound = g.bound ∙ f.bound;
}

-- a replica is found on a storage in the list at a slot as in the arena
pub marks_listed : (a : Contents) (slot s : ℕ) → find_marks (replicas_at a slot) s ≡ marks_at a slot s
marks_listed a slot s = by (block_at a slot)
  where
    by : (o : Option Block) → find_marks (option_map_or (λ (b : Block). b.replicas) o []) s ≡ option_and_then (λ (b : Block). find_marks b.replicas s) o
    by None = refl
    by (Some b) = refl

-- the replicas at the slot of a number are all changed, each by its storage
module _ (f : ℕ → Marks → Marks) (a c : Contents) (slot b : ℕ) (lawful : IsLawful a) (here : slot_of a b ≡ Some slot) (rest : KeepsAllBut slot a c)
    (changed : replicas_at c slot ≡ each_changed f (replicas_at a slot)) where
  marks_changed : (s : ℕ) → marks_at c slot s ≡ option_map (f s) (marks_at a slot s)
  marks_changed s = sym (marks_listed c slot s) ∙ ap (λ rs. find_marks rs s) changed ∙ found_changed f (replicas_at a slot) s ∙ ap (option_map (f s)) (marks_listed a slot s)

  same_number : (q : ℕ) → slot_of c q ≡ slot_of a q
  same_number q = ap (λ l. lookup (nat_eq q) l) rest.ids

  unchanged : (s : ℕ) (o : Option Marks) → option_map (λ (m : Marks). cond false (f s m) m) o ≡ o
  unchanged s None = refl
  unchanged s (Some m) = refl

  pub block_replicas : replicas_of c ≡ revise (replicas_of a) (λ q m. if q.block == b then f q.storage m else m)
  block_replicas = same_map (replicas_of c) (revise (replicas_of a) (λ q m. if q.block == b then f q.storage m else m)) (λ q.
      get-replicas_of c q ∙ ap (λ o. option_and_then (λ x. marks_at c x q.storage) o) (same_number q.block)
      ∙ at q
      ∙ sym (get-revise (replicas_of a) (λ q m. if q.block == b then f q.storage m else m) q ∙ ap (option_map (λ (m : Marks). cond (q.block == b) (f q.storage m) m)) (get-replicas_of a q)))
    where
      elsewhere : (q : ReplicaId) (o : Option ℕ) → slot_of a q.block ≡ o → q.block ≢ b → option_and_then (λ x. marks_at c x q.storage) o ≡ option_and_then (λ x. marks_at a x q.storage) o
      elsewhere q None e differs = refl
      elsewhere q (Some x) e differs =
          let apart : x ≢ slot = λ same. differs (one_number a lawful q.block b slot (e ∙ ap (λ k. Some k) same) here) in
          ap (λ o. option_and_then (λ (k : Block). find_marks k.replicas q.storage) o) (rest.blocks x apart)

      at : (q : ReplicaId) → option_and_then (λ x. marks_at c x q.storage) (slot_of a q.block) ≡ option_map (λ (m : Marks). cond (q.block == b) (f q.storage m) m) (option_and_then (λ x. marks_at a x q.storage) (slot_of a q.block))
      at q = elim (cases_eq q.block b) [
        | inl same ↦
            let is : slot_of a q.block ≡ Some slot = ap (slot_of a) same ∙ here in
            ap (λ o. option_and_then (λ x. marks_at c x q.storage) o) is ∙ marks_changed q.storage
            ∙ sym ((λ i. option_map (λ (m : Marks). cond (eq-eqb q.block b same i) (f q.storage m) m) (option_and_then (λ x. marks_at a x q.storage) (is i))))
        | inr differs ↦
            elsewhere q (slot_of a q.block) refl differs
            ∙ sym (ap (λ t. option_map (λ (m : Marks). cond t (f q.storage m) m) (option_and_then (λ x. marks_at a x q.storage) (slot_of a q.block))) (ne_eqb q.block b differs) ∙ unchanged q.storage (option_and_then (λ x. marks_at a x q.storage) (slot_of a q.block)))
      ]

  pub block_known : known_of (block_at c slot) ≡ known_of (block_at a slot) → blocks_of c ≡ blocks_of a
  block_known known = blocks-kept a c slot rest.ids rest.blocks known

-- the replica at an index is the one found on its storage, if no two share a storage
listed_at : (rs : List (ℕ × Marks)) (n : ℕ) (r : ℕ × Marks) → slice_get rs n ≡ Some r → IsMember r.0 (keys_at rs)
listed_at [] n r e = cc
listed_at (x ∷ rs) zero r e = let same : x ≡ r = (cc) in inl (ap (λ (z : ℕ × Marks). z.0) (sym same))
listed_at (x ∷ rs) (suc n) r e = inr (listed_at rs n r e)

found_at : (rs : List (ℕ × Marks)) (n : ℕ) (r : ℕ × Marks) → Distinct (keys_at rs) → slice_get rs n ≡ Some r → find_marks rs r.0 ≡ Some r.1
found_at [] n r d e = cc
found_at (x ∷ rs) zero r d e =
    let same : x ≡ r = (cc) in
    ap (λ b. cond b (Some x.1) (find_marks rs r.0)) (eq-eqb x.0 r.0 (ap (λ (z : ℕ × Marks). z.0) same)) ∙ ap (λ (z : ℕ × Marks). Some z.1) same
found_at (x ∷ rs) (suc n) r d e =
    let apart : x.0 ≢ r.0 = λ same. d.0 (let P : ℕ → Type 0 = λ z. IsMember z (keys_at rs) in subst P (sym same) (listed_at rs n r e)) in
    ap (λ b. cond b (Some x.1) (find_marks rs r.0)) (ne_eqb x.0 r.0 apart) ∙ found_at rs n r d.1 e

pub marks_found : (a : Contents) (slot n s found : ℕ) (m : Marks) → IsLawful a → option_and_then (λ (k : Block). slice_get k.replicas n) (block_at a slot) ≡ Some (found, m) → (found == s) ≡ true
    → Some m ≡ marks_at a slot s
marks_found a slot n s found m lawful there same =
    sym (let P : ℕ → Type 0 = λ z. marks_at a slot z ≡ Some m in subst P (eqb-true found s same) (on (block_at a slot) (once_at a slot lawful) there))
  where
    on : (o : Option Block) → Distinct (keys_at (option_map_or (λ (k : Block). k.replicas) o [])) → option_and_then (λ (k : Block). slice_get k.replicas n) o ≡ Some (found, m)
        → option_and_then (λ (k : Block). find_marks k.replicas found) o ≡ Some m
    on None d e = cc
    on (Some k) d e = found_at k.replicas n (found, m) d e
