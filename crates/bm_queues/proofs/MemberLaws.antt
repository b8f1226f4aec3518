-- The members of a set are the slots of its one list.
use Rattle.std.proofs.Common.{◌≡◌, ◌≢◌, ℕ, ◌<◌, List, Option, None, inl, inr, subst, sym, ◌∙◌, arith}
use Rattle.std.specs.Prelude.{◌↔◌}
use Rattle.bm_maps.specs.SlotLists.{IsMember, Distinct, without, slot_after}
use Rattle.bm_queues.specs.Links.{list_from}
use Rattle.bm_maps.proofs.SlotLists.{dec_among, slot_after-absent, without-gone, IsMember-without, IsMember-without_other}

module _ (k : ℕ) (next back : List (Option ℕ)) (one : k ≡ 1) where
  pub only_list : (slot : ℕ) → (l : ℕ) × (l < k) × IsMember slot (list_from k next back l) → IsMember slot (list_from k next back 0)
  only_list slot found =
      let low = found.1 in
      let first : found.0 ≡ 0 = omega (arith, low, one) in
      let P : ℕ → Type 0 = λ l. IsMember slot (list_from k next back l) in
      subst P first found.2

  pub next-member : (slot : ℕ) (r : Option ℕ) → ((l : ℕ) → l < k → IsMember slot (list_from k next back l) → r ≡ slot_after slot (list_from k next back l))
      → (((l : ℕ) → l < k → IsMember slot (list_from k next back l) → ⊥) → r ≡ None) → r ≡ slot_after slot (list_from k next back 0)
  next-member slot r listed absent =
      elim (dec_among slot (list_from k next back 0)) [
        | inl there ↦ listed 0 (omega (arith, one)) there
        | inr away ↦ absent (λ l low there. away (only_list slot (l, low, there))) ∙ sym (slot_after-absent slot (list_from k next back 0) away)
      ]

-- a removed slot is no member
pub gone-without : (slot : ℕ) (xs ys : List ℕ) → ys ≡ without slot xs → Distinct xs → IsMember slot ys → ⊥
gone-without slot xs ys is distinct there = without-gone slot xs distinct (rw is at there)

pub others-without : (slot : ℕ) (xs ys : List ℕ) → ys ≡ without slot xs → (other : ℕ) → other ≢ slot → IsMember other ys ↔ IsMember other xs
others-without slot xs ys is other differs = rw is (λ h. IsMember-without slot other xs h, λ h. IsMember-without_other slot other xs h differs)
