-- Classifying one slot after another classifies all of them, and keeps the status of all other
-- slots.
use Rattle.std.specs.Prelude.{◌≡◌, ◌≢◌, ℕ, zero, suc, Bool, List, [], ◌∷◌, ◌++◌, drop, slice_get, Option, Some}
use Rattle.std.proofs.Common.{refl, sym, ap, subst, ◌∙◌, inl, inr, ◌⊎◌}
use Rattle.std.proofs.lemmas.Bool.{cases_eq}
use Rattle.std.proofs.lemmas.Option.{same_Some}
use Rattle.bm_maps.specs.SlotLists.{IsMember}
use Rattle.bm_maps.proofs.SlotLists.{dec_among}
use Rattle.bm_arena.specs.Triplets.{Block}
use Rattle.bm_arena.specs.Contents.{Contents, block_at}
use Rattle.bm_levels.specs.declared.classification.BlockStatus.{BlockStatus}
use Rattle.bm_levels.specs.IndexedLevels.{IndexedLevels, IsClassified, IsStatusOf, HasStatus, IsSameAt}

pub same_itself : (K : IndexedLevels) (slot : ℕ) → IsSameAt K K slot
same_itself K slot = record { level = refl; unsettled = (λ h. h, λ h. h) }

pub same_chain : (K L M : IndexedLevels) (slot : ℕ) → IsSameAt K L slot → IsSameAt L M slot → IsSameAt K M slot
same_chain K L M slot h g = record { level = g.level ∙ h.level; unsettled = (λ u. h.unsettled.0 (g.unsettled.0 u), λ u. g.unsettled.1 (h.unsettled.1 u)) }

pub among_behind : (slot : ℕ) (xs ys : List ℕ) → IsMember slot (xs ++ ys) → (IsMember slot xs → ⊥) → IsMember slot ys
among_behind slot [] ys h absent = h
among_behind slot (x ∷ xs) ys (inl here) absent = absurd (absent (inl here))
among_behind slot (x ∷ xs) ys (inr later) absent = among_behind slot xs ys later (λ there. absent (inr there))

pub among_at : (slot : ℕ) (xs : List ℕ) → IsMember slot xs → (i : ℕ) × (slice_get xs i ≡ Some slot)
among_at slot [] h = absurd h
among_at slot (x ∷ xs) (inl here) = (0, ap Some (sym here))
among_at slot (x ∷ xs) (inr later) = let there = among_at slot xs later in (suc there.0, there.1)

pub among_in : (slot : ℕ) (xs : List ℕ) (i : ℕ) → slice_get xs i ≡ Some slot → IsMember slot xs
among_in slot [] i e = cc
among_in slot (x ∷ xs) zero e = inl (same_Some slot x (sym e))
among_in slot (x ∷ xs) (suc i) e = inr (among_in slot xs i e)

pub among_back : (slot : ℕ) (xs ys : List ℕ) → IsMember slot ys → IsMember slot (xs ++ ys)
among_back slot [] ys h = h
among_back slot (x ∷ xs) ys h = inr (among_back slot xs ys h)

module _ (rack : ℕ → Option ℕ) (draining : ℕ → Bool) (multi : Bool) where
  pub classified_still : (o : Option Block) (K L : IndexedLevels) (slot : ℕ) → IsClassified rack draining multi o K slot → IsSameAt K L slot → IsClassified rack draining multi o L slot
  classified_still o K L slot h g = record { level = g.level ∙ h.level; unsettled = (λ u. h.unsettled.0 (g.unsettled.0 u), λ s. g.unsettled.1 (h.unsettled.1 s)) }

  pub classified_as : (o : Option Block) (K : IndexedLevels) (slot : ℕ) (j : BlockStatus) → HasStatus K slot j → IsStatusOf rack draining multi o j → IsClassified rack draining multi o K slot
  classified_as o K slot j h g = record { level = h.level ∙ g.level; unsettled = (λ u. sym g.settled ∙ h.unsettled.0 u, λ s. h.unsettled.1 (g.settled ∙ s)) }

  -- `left` are the remaining slots of `all`: each other one of them is classified, and each other
  -- slot is as before
  pub IsUnderway : Contents → List ℕ → List ℕ → IndexedLevels → IndexedLevels → Type 0
  IsUnderway a all left K L = (slot : ℕ) → (IsMember slot all × IsClassified rack draining multi (block_at a slot) L slot) ⊎ ((IsMember slot all → IsMember slot left) × IsSameAt K L slot)

  pub underway_none : (a : Contents) (all : List ℕ) (K : IndexedLevels) → IsUnderway a all all K K
  unfolding IsUnderway
  underway_none a all K = λ slot. inr (λ h. h, same_itself K slot)

  pub underway_more : (a : Contents) (all left : List ℕ) (x : ℕ) (K L M : IndexedLevels) → IsMember x all → IsUnderway a all (x ∷ left) K L → IsClassified rack draining multi (block_at a x) M x
      → ((other : ℕ) → other ≢ x → IsSameAt L M other) → IsUnderway a all left K M
  unfolding IsUnderway
  underway_more a all left x K L M there h status others = λ slot.
      elim (cases_eq slot x) [
        | inl same ↦ let P : ℕ → Type 0 = λ z. (IsMember z all × IsClassified rack draining multi (block_at a z) M z) ⊎ ((IsMember z all → IsMember z left) × IsSameAt K M z) in subst P (sym same) (inl (there, status))
        | inr differs ↦
            elim (h slot) [
              | inl g ↦ inl (g.0, classified_still (block_at a slot) L M slot g.1 (others slot differs))
              | inr g ↦ inr (λ k. elim (g.0 k) [ inl here ↦ absurd (differs here) | inr later ↦ later ], same_chain K L M slot g.1 (others slot differs))
            ]
      ]

  pub underway_chunk : (a : Contents) (all xs left : List ℕ) (K L M : IndexedLevels) → ((slot : ℕ) → IsMember slot xs → IsMember slot all) → IsUnderway a all (xs ++ left) K L
      → ((slot : ℕ) → IsMember slot xs → IsClassified rack draining multi (block_at a slot) M slot) → ((slot : ℕ) → (IsMember slot xs → ⊥) → IsSameAt L M slot) → IsUnderway a all left K M
  unfolding IsUnderway
  underway_chunk a all xs left K L M there h status others = λ slot.
      elim (dec_among slot xs) [
        | inl here ↦ inl (there slot here, status slot here)
        | inr absent ↦
            elim (h slot) [
              | inl g ↦ inl (g.0, classified_still (block_at a slot) L M slot g.1 (others slot absent))
              | inr g ↦ inr (λ k. among_behind slot xs left (g.0 k) absent, same_chain K L M slot g.1 (others slot absent))
            ]
      ]

  pub underway_classified : (a : Contents) (all : List ℕ) (K L : IndexedLevels) → IsUnderway a all [] K L → (slot : ℕ) → IsMember slot all → IsClassified rack draining multi (block_at a slot) L slot
  unfolding IsUnderway
  underway_classified a all K L h slot there = elim (h slot) [ inl g ↦ g.1 | inr g ↦ absurd (g.0 there) ]

  pub underway_others : (a : Contents) (all left : List ℕ) (K L : IndexedLevels) → IsUnderway a all left K L → (slot : ℕ) → (IsMember slot all → ⊥) → IsSameAt K L slot
  unfolding IsUnderway
  underway_others a all left K L h slot absent = elim (h slot) [ inl g ↦ absurd (absent g.0) | inr g ↦ g.1 ]

pub among_next : (all left : List ℕ) (i x : ℕ) → drop i all ≡ x ∷ left → IsMember x all
among_next all left i x e = below i all (let P : List ℕ → Type 0 = λ l. IsMember x l in subst P (sym e) (inl refl))
  where
    below : (i : ℕ) (xs : List ℕ) → IsMember x (drop i xs) → IsMember x xs
    below zero xs h = h
    below (suc i) [] h = h
    below (suc i) (y ∷ ys) h = inr (below i ys h)
