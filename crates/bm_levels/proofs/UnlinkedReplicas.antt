-- Unlinking the first replicas of a storage's list one after another removes them, and keeps all
-- other replicas.
use Rattle.std.specs.Prelude.{◌≡◌, ◌≢◌, ℕ, ◌+◌, ◌==◌, Bool, List, ◌∷◌, ◌++◌, Option, Some, None, IsSome, option_and_then}
use Rattle.std.proofs.Common.{cond, refl, sym, ap, subst, ◌∙◌, inl, inr, ◌⊎◌}
use Rattle.std.proofs.lemmas.Bool.{cases_eq, eq-eqb}
use Rattle.bm_base.specs.Words.{remove, replica_at}
use Rattle.bm_maps.specs.SlotLists.{IsMember, without}
use Rattle.bm_maps.proofs.SlotLists.{dec_among}
use Rattle.bm_base.proofs.Options.{there}
use Rattle.bm_arena.specs.Triplets.{Block}
use Rattle.bm_arena.specs.Contents.{Contents, block_at, slot_of, list_of, marks_at, find_marks, known_of, unlinked, IsLawful, KeepsOthers}
use Rattle.bm_arena.specs.HeldMaps.{replicas_of, blocks_of}
use Rattle.bm_arena.proofs.Replicas.{IsMember-left}
use Rattle.bm_levels.specs.UnusedEntries.{MakesNoUnused, HasNoUnusedAt, KeepsSlots}
use Rattle.bm_levels.specs.IndexedLevels.{IndexedLevels, HasCapacityFor, IsClassified, IsSameAt}
use Rattle.bm_levels.specs.LeavingReplicas.{IsLeaving, MakesNoHead}
use Rattle.bm_levels.specs.LeveledBlocks.{Leveled, IsLeveled}
use Rattle.bm_levels.specs.LevelsBy.{AreLevelsBy}
use Rattle.bm_levels.proofs.LeavingReplicas.{apart_from, led_by, leaving_none, leaving_one, leaving_more}
use Rattle.bm_levels.proofs.ManySlots.{leveled_many, levels_many}
use Rattle.bm_levels.proofs.UnusedEntries.{heads_unlinked, unused_held, unused_elsewhere, some_before, same_numbers}

-- `all` are the first slots of a storage's list in a; n of them have left in b, and `left` remain
pub record AreUnlinked (s : ℕ) (all left : List ℕ) (a b : Contents) (n : ℕ) : Type 0 where
  pub leaving : IsLeaving (λ t. t == s) a b n
  pub list : (rest : List ℕ) → list_of a s ≡ all ++ rest → list_of b s ≡ left ++ rest
  pub others : (slot : ℕ) → (IsMember slot all → ⊥) → block_at b slot ≡ block_at a slot
  pub known : (slot : ℕ) → known_of (block_at b slot) ≡ known_of (block_at a slot)
  pub ids : b.ids ≡ a.ids
  pub delimiter : b.delimiter ≡ a.delimiter
  pub fewer : MakesNoHead a b
  pub free : marks_at b b.delimiter s ≡ None
  pub lawful : IsLawful b

pub unlinked_none : (s : ℕ) (all : List ℕ) (a : Contents) → marks_at a a.delimiter s ≡ None → IsLawful a → AreUnlinked s all all a a 0
unlinked_none s all a free lawful = record {
  leaving = leaving_none (λ t. t == s) a;
  list = λ rest e. e;
  others = λ slot _. refl;
  known = λ slot. refl;
  ids = refl;
  delimiter = refl;
  fewer = λ t h. h;
  free = free;
  lawful = lawful;
}

-- one more leaves
module _ (s : ℕ) (all left rest : List ℕ) (a b : Contents) (n x : ℕ) (h : AreUnlinked s all (x ∷ left) a b n) (first : list_of a s ≡ all ++ rest) where
  here : list_of b s ≡ x ∷ (left ++ rest)
  here = h.list rest first

  pub next_there : IsSome (marks_at b x s)
  next_there = (h.lawful.exact x s).0 (let P : List ℕ → Type 0 = λ l. IsMember x l in subst P (sym here) (inl refl))

  gone : (ys : List ℕ) → without x (x ∷ ys) ≡ ys
  gone ys = ap (λ t. cond t ys (x ∷ without x ys)) (eq-eqb x x refl)

  module _ (c : Contents) (among : IsMember x all) (after : c ≡ unlinked b x s) (list : list_of c s ≡ without x (list_of b s)) (kept : KeepsOthers b c x s)
      (replicas : (id : ℕ) → slot_of b id ≡ Some x → replicas_of c ≡ remove (replicas_of b) (replica_at id s)) (blocks : blocks_of c ≡ blocks_of b) (lawful : IsLawful c) where
    marker : block_at c c.delimiter ≡ block_at b b.delimiter
    marker = ap (block_at c) kept.delimiter ∙ kept.blocks b.delimiter (λ e. apart_from b h.lawful s h.free x next_there (sym e))

    still_known : (slot : ℕ) → known_of (block_at c slot) ≡ known_of (block_at b slot)
    still_known slot = elim (cases_eq slot x) [
      | inl same ↦ let P : ℕ → Type 0 = λ z. known_of (block_at c z) ≡ known_of (block_at b z) in subst P (sym same) kept.known
      | inr differs ↦ ap known_of (kept.blocks slot differs)
    ]

    pub unlinked_more : AreUnlinked s all left a c (n + 1)
    unlinked_more =
        let led = led_by b h.lawful s h.free x next_there in
        record {
          leaving = leaving_more (λ t. t == s) a b c n 1 h.leaving (leaving_one b c led.0 x s led.1 next_there kept blocks (replicas led.0 led.1));
          list = λ more e. list ∙ ap (without x) (h.list more e) ∙ gone (left ++ more);
          others = λ slot absent. kept.blocks slot (λ e. absent (let P : ℕ → Type 0 = λ z. IsMember z all in subst P (sym e) among)) ∙ h.others slot absent;
          known = λ slot. still_known slot ∙ h.known slot;
          ids = kept.ids ∙ h.ids;
          delimiter = kept.delimiter ∙ h.delimiter;
          fewer = λ t head. h.fewer t (heads_unlinked b c x s after t head);
          free = ap (λ o. option_and_then (λ (k : Block). find_marks k.replicas s) o) marker ∙ h.free;
          lawful = lawful;
        }

-- the first slots of a list are in the list
pub listed_in : (l slots rest : List ℕ) → l ≡ slots ++ rest → (slot : ℕ) → IsMember slot slots → IsMember slot l
listed_in l slots rest e slot there = let P : List ℕ → Type 0 = λ l. IsMember slot l in subst P (sym e) (IsMember-left slot slots rest there)

-- If the blocks at the first slots of a list are reclassified after their replicas have left, the
-- invariant holds again.
module _ (rack : ℕ → Option ℕ) (draining : ℕ → Bool) (multi : Bool) (old : Leveled) (a : Contents) (K : IndexedLevels) (s : ℕ) (slots rest : List ℕ) (first : list_of old.arena s ≡ slots ++ rest)
    (lawful : IsLawful old.arena) (leveled : IsLeveled old)
    (others : (slot : ℕ) → (IsMember slot slots → ⊥) → block_at a slot ≡ block_at old.arena slot) (known : (slot : ℕ) → known_of (block_at a slot) ≡ known_of (block_at old.arena slot))
    (delimiter : a.delimiter ≡ old.arena.delimiter) (status : (slot : ℕ) → IsMember slot slots → IsClassified rack draining multi (block_at a slot) K slot)
    (same : (slot : ℕ) → (IsMember slot slots → ⊥) → IsSameAt old.level_index K slot) where
  no_marker : IsMember old.arena.delimiter slots → ⊥
  no_marker there =
      apart_from old.arena lawful s (leveled.free s) old.arena.delimiter ((lawful.exact old.arena.delimiter s).0 (listed_in (list_of old.arena s) slots rest first old.arena.delimiter there)) refl

  free : (t : ℕ) → marks_at a a.delimiter t ≡ marks_at old.arena old.arena.delimiter t
  free t = ap (λ o. option_and_then (λ (k : Block). find_marks k.replicas t) o) (ap (block_at a) delimiter ∙ others old.arena.delimiter no_marker)

  each : (slot : ℕ) → slot ≢ old.arena.delimiter → (IsClassified rack draining multi (block_at a slot) K slot) ⊎ ((block_at a slot ≡ block_at old.arena slot) × IsSameAt old.level_index K slot)
  each slot _ = elim (dec_among slot slots) [ inl there ↦ inl (status slot there) | inr away ↦ inr (others slot away, same slot away) ]

  pub leveled_first : ((bound : ℕ) → HasCapacityFor old.level_index bound → HasCapacityFor K bound) → IsLeveled (record { arena = a; level_index = K })
  leveled_first = leveled_many rack draining multi old a K delimiter free known each (same old.arena.delimiter no_marker) leveled

  pub levels_first : AreLevelsBy rack draining multi old → AreLevelsBy rack draining multi (record { arena = a; level_index = K })
  levels_first = levels_many rack draining multi old a K delimiter free known each (same old.arena.delimiter no_marker) leveled

-- Only the blocks at these slots change before their unused entries are dropped.
pub unused_taken : (a m c : Contents) (slots : List ℕ) → m.ids ≡ a.ids → ((slot : ℕ) → (IsMember slot slots → ⊥) → block_at m slot ≡ block_at a slot) → KeepsSlots m c → blocks_of c ≡ blocks_of m
    → replicas_of c ≡ replicas_of m → HasNoUnusedAt slots m c → MakesNoUnused a c
unused_taken a m c slots ids others kept blocks replicas none b unused =
    let was = unused_held m c b (some_before (kept b unused.entry) unused.entry) blocks replicas unused in
    let led = there (slot_of m b) was.entry in
    let here : slot_of a b ≡ Some led.0 = sym (same_numbers a m ids b) ∙ led.1 in
    unused_elsewhere a m b led.0 here led.1 (others led.0 (λ among. none b led.0 among led.1 unused)) was
