-- Ordering a delete keeps a block's level; a replica that is marked or not good unsettles a block.
use Rattle.std.specs.Prelude.{◌≡◌, ◌↔◌, ℕ, ◌+◌, IsSome, Bool, true, false, not, ◌&&◌, ◌||◌, ◌==◌, List, [], ◌∷◌, map, filter, filter_map, length, Option, Some, None, option_map, option_and_then}
use Rattle.std.specs.List.{list_any}
use Rattle.std.proofs.Common.{cond, refl, sym, ap, subst, ◌∙◌, inl, inr}
use Rattle.std.proofs.lemmas.Bool.{cases_eq, eqb-true}
use Rattle.std.proofs.Math.Bool.{or-true}
use Rattle.bm_base.specs.declared.replica.Marks.{Marks}
use Rattle.bm_base.specs.declared.replica.Tag.{Tag}
use Rattle.bm_base.specs.declared.replica.Tag.TheVariants.{Good, Stale, Bad, Stray}
use Rattle.bm_base.specs.declared.replica.BlockInfo.{BlockInfo}
use Rattle.bm_base.specs.Words.{Cluster, is_good, level_of}
use Rattle.bm_base.specs.Spread.{spread}
use Rattle.bm_arena.specs.Triplets.{Block, change_block}
use Rattle.bm_arena.specs.Contents.{Contents, block_at, marks_at, find_marks, change_marks, with_marks, known_of}
use Rattle.bm_arena.proofs.ChangedBlock.{changed-here}
use Rattle.bm_arena.proofs.HeldReplicas.{info_known}
use Rattle.bm_levels.specs.Changes.{as_ordered}
use Rattle.bm_levels.specs.Status.{storages_at, is_live_by, is_drained_by, is_good_and_unmarked, level_by, level_in, is_settled_at}
use Rattle.bm_levels.specs.IndexedLevels.{IsUnsettled, HasCapacityFor}
use Rattle.bm_levels.specs.LeveledBlocks.{Leveled, IsLeveled, AreLevels}
use Rattle.bm_levels.proofs.OneSlot.{IsChangedAt}

-- if a test passes the old and the new marks of one replica alike, the same storages pass
module _ (p : ℕ → Marks → Bool) (s : ℕ) (m new : Marks) (same : p s new ≡ p s m) where
  one_passes : (r : ℕ × Marks) (rs : List (ℕ × Marks)) (b : Bool) → map (λ (x : ℕ × Marks). x.0) (cond b ((r.0, new) ∷ rs) rs) ≡ map (λ (x : ℕ × Marks). x.0) (cond b (r ∷ rs) rs)
  one_passes r rs true = refl
  one_passes r rs false = refl

  storages_kept : (rs : List (ℕ × Marks)) → find_marks rs s ≡ Some m → storages_at p (change_marks rs s new) ≡ storages_at p rs
  storages_kept [] e = refl
  storages_kept (r ∷ rs) e = by (r.0 == s) refl (storages_kept rs) e
    where
      rest : List (ℕ × Marks)
      rest = filter (λ (x : ℕ × Marks). p x.0 x.1) rs

      behind : (b : Bool) → storages_at p (change_marks rs s new) ≡ storages_at p rs → map (λ (x : ℕ × Marks). x.0) (cond b (r ∷ filter (λ (x : ℕ × Marks). p x.0 x.1) (change_marks rs s new)) (filter (λ (x : ℕ × Marks). p x.0 x.1) (change_marks rs s new))) ≡ map (λ (x : ℕ × Marks). x.0) (cond b (r ∷ rest) rest)
      behind true kept = ap (λ ss. r.0 ∷ ss) kept
      behind false kept = kept

      by : (b : Bool) → (r.0 == s) ≡ b → (find_marks rs s ≡ Some m → storages_at p (change_marks rs s new) ≡ storages_at p rs) → cond b (Some r.1) (find_marks rs s) ≡ Some m → storages_at p (cond b ((r.0, new) ∷ rs) (r ∷ change_marks rs s new)) ≡ storages_at p (r ∷ rs)
      by true is kept f =
          let here : r.0 ≡ s = eqb-true r.0 s is in
          let was : r.1 ≡ m = (cc) in
          let alike : p r.0 new ≡ p r.0 r.1 = ap (λ x. p x new) here ∙ same ∙ ap (λ x. p x m) (sym here) ∙ ap (p r.0) (sym was) in
          ap (λ b. map (λ (x : ℕ × Marks). x.0) (cond b ((r.0, new) ∷ rest) rest)) alike ∙ one_passes r rest (p r.0 r.1)
      by false is kept f = behind (p r.0 r.1) (kept f)

-- the level of a block does not change
module _ (rack : ℕ → Option ℕ) (draining : ℕ → Bool) (multi : Bool) (s : ℕ) (m : Marks) where
  level_kept : (k : Block) → find_marks k.replicas s ≡ Some m → level_by rack draining multi (Some (with_marks s (as_ordered m) k)) ≡ level_by rack draining multi (Some k)
  unfolding level_by
  level_kept k e =
      let lives = storages_kept (is_live_by draining) s m (as_ordered m) refl k.replicas e in
      let others = storages_kept (is_drained_by draining) s m (as_ordered m) refl k.replicas e in
      λ t. option_and_then (λ (i : BlockInfo). level_of (record { live = length (lives t); drained = length (others t); wanted = i.repl; racks = spread (filter_map rack (lives t)); multi_rack = multi })) k.info

  level_where : (o : Option Block) → option_and_then (λ (k : Block). find_marks k.replicas s) o ≡ Some m → level_by rack draining multi (option_map (with_marks s (as_ordered m)) o) ≡ level_by rack draining multi o
  level_where None e = cc
  level_where (Some k) e = level_kept k e

  pub level_ordered : (a c : Contents) (slot : ℕ) → marks_at a slot s ≡ Some m → c ≡ record a { blocks = change_block (with_marks s (as_ordered m)) a.blocks slot }
      → level_by rack draining multi (block_at c slot) ≡ level_by rack draining multi (block_at a slot)
  level_ordered a c slot e after =
      ap (λ (x : Contents). level_by rack draining multi (block_at x slot)) after
      ∙ ap (level_by rack draining multi) (changed-here a slot (with_marks s (as_ordered m)))
      ∙ level_where (block_at a slot) e

pub not_plain_then : (m : Marks) → is_good_and_unmarked (as_ordered m) ≡ false
not_plain_then m = by m.tag m.excess
  where
    by : (t : Tag) (x : Bool) → (is_good t && not x && false) ≡ false
    by Good true = refl
    by Good false = refl
    by Stale x = refl
    by Bad x = refl
    by Stray x = refl

-- a replica that is marked or not good unsettles its block
some_marked : (rs : List (ℕ × Marks)) (s : ℕ) (m : Marks) → find_marks rs s ≡ Some m → is_good_and_unmarked m ≡ false → list_any (λ (r : ℕ × Marks). not (is_good_and_unmarked r.1)) rs ≡ true
some_marked [] s m e f = cc
some_marked (r ∷ rs) s m e f = by (r.0 == s) (λ g. some_marked rs s m g f) e
  where
    by : (b : Bool) → (find_marks rs s ≡ Some m → list_any (λ (x : ℕ × Marks). not (is_good_and_unmarked x.1)) rs ≡ true) → cond b (Some r.1) (find_marks rs s) ≡ Some m
        → (not (is_good_and_unmarked r.1) || list_any (λ (r : ℕ × Marks). not (is_good_and_unmarked r.1)) rs) ≡ true
    by true rest g =
        let was : r.1 ≡ m = (cc) in
        ap (λ b. not b || list_any (λ (r : ℕ × Marks). not (is_good_and_unmarked r.1)) rs) (ap is_good_and_unmarked was ∙ f)
    by false rest g = ap (λ b. not (is_good_and_unmarked r.1) || b) (rest g) ∙ or-true (not (is_good_and_unmarked r.1))

unsettled_where : (o : Option Block) (s : ℕ) (m : Marks) → option_and_then (λ (k : Block). find_marks k.replicas s) o ≡ Some m → is_good_and_unmarked m ≡ false → is_settled_at o ≡ false
unfolding is_settled_at
unsettled_where None s m e f = cc
unsettled_where (Some k) s m e f = rw (some_marked k.replicas s m e f) refl

pub unsettled_by : (a : Contents) (slot s : ℕ) (m : Marks) → marks_at a slot s ≡ Some m → is_good_and_unmarked m ≡ false → is_settled_at (block_at a slot) ≡ false
unsettled_by a slot s m e f = unsettled_where (block_at a slot) s m e f

-- if the block at one slot changes and its status does not, the stored status stays right
module _ (old : Leveled) (a : Contents) (slot : ℕ) (changed : IsChangedAt old.arena a slot) where
  -- a function that ignores the change at the slot has the same value at all slots
  alike_at : {X : Type 0} (f : Option Block → X) → f (block_at a slot) ≡ f (block_at old.arena slot) → (z : ℕ) → f (block_at a z) ≡ f (block_at old.arena z)
  alike_at f same z = elim (cases_eq z slot) [ inl here ↦ rw here same | inr differs ↦ ap f (changed.blocks z differs) ]

  marker_kept : block_at a a.delimiter ≡ block_at old.arena old.arena.delimiter
  marker_kept = ap (block_at a) changed.delimiter ∙ changed.blocks old.arena.delimiter (λ e. changed.apart (sym e))

  pub leveled_alike : known_of (block_at a slot) ≡ known_of (block_at old.arena slot) → is_settled_at (block_at a slot) ≡ is_settled_at (block_at old.arena slot)
      → IsLeveled old → IsLeveled (record { arena = a; level_index = old.level_index })
  leveled_alike known settled h = record {
    free = λ s. ap (λ o. option_and_then (λ (b : Block). find_marks b.replicas s) o) marker_kept ∙ h.free s;
    blank = ap (λ o. option_and_then (λ (b : Block). b.info) o) marker_kept ∙ h.blank;
    capacity = λ z there. elim (cases_eq z slot) [
      | inl same ↦ let P : ℕ → Type 0 = λ x. HasCapacityFor old.level_index (x + 1) in subst P (sym same) (h.capacity slot changed.held)
      | inr differs ↦ let P : Option Block → Type 0 = λ o. IsSome o in h.capacity z (subst P (changed.blocks z differs) there)
    ];
    unsettled = λ z.
        let P : Bool → Type 0 = λ b. IsUnsettled old.level_index z ↔ (b ≡ false) in
        subst P (sym (alike_at is_settled_at settled z)) (h.unsettled z);
    unknown = λ z e. h.unknown z (sym (alike_at (option_and_then (λ (b : Block). b.info)) (info_known (block_at a slot) (block_at old.arena slot) known) z) ∙ e);
  }

  pub levels_alike : (C : Cluster) → level_in C (block_at a slot) ≡ level_in C (block_at old.arena slot) → AreLevels C old → AreLevels C (record { arena = a; level_index = old.level_index })
  levels_alike C same h z = h z ∙ sym (alike_at (level_in C) same z)
