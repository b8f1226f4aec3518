-- A set that holds the slots of a list still does after one more slot is added to both.
use Rattle.std.proofs.Common.{◌≡◌, ◌≢◌, ◌↔◌, ◌⊎◌, ℕ, List, [], ◌∷◌, ◌++◌, inl, inr}
use Rattle.std.proofs.lemmas.Bool.{cases_eq}
use Rattle.bm_maps.specs.SlotLists.{IsMember}
use Rattle.bm_arena.proofs.Replicas.{IsMember-last}

among_front : (x y : ℕ) (xs : List ℕ) → IsMember x xs → IsMember x (xs ++ y ∷ [])
among_front x y [] there = absurd there
among_front x y (z ∷ zs) there = elim there [ inl here ↦ inl here | inr later ↦ inr (among_front x y zs later) ]

among_either : (x y : ℕ) (xs : List ℕ) → IsMember x (xs ++ y ∷ []) → IsMember x xs ⊎ (x ≡ y)
among_either x y [] there = elim there [ inl here ↦ inr here | inr later ↦ absurd later ]
among_either x y (z ∷ zs) there =
    elim there [
      | inl here ↦ inl (inl here)
      | inr later ↦ elim (among_either x y zs later) [ inl front ↦ inl (inr front) | inr last ↦ inr last ]
    ]

-- a set that holds the slots of a list, after one more is inserted, holds those and this one
pub one_more : (x : ℕ) (xs before after : List ℕ) → ((slot : ℕ) → IsMember slot before ↔ IsMember slot xs) → IsMember x after
    → ((slot : ℕ) → slot ≢ x → IsMember slot after ↔ IsMember slot before) → (slot : ℕ) → IsMember slot after ↔ IsMember slot (xs ++ x ∷ [])
one_more x xs before after same held others slot =
    elim (cases_eq slot x) [
      | inl here ↦ rw here (λ h. IsMember-last x xs, λ h. held)
      | inr differs ↦ (
        λ h. among_front slot x xs ((same slot).0 ((others slot differs).0 h)),
        λ h. elim (among_either slot x xs h) [ inl front ↦ (others slot differs).1 ((same slot).1 front) | inr last ↦ absurd (differs last) ],
      )
    ]
