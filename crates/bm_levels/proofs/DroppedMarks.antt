-- Resetting excess marks slot by slot resets them at each listed slot, and keeps all other slots.
use Rattle.std.specs.Prelude.{◌≡◌, ◌≢◌, ℕ, zero, suc, true, ◌==◌, List, [], ◌∷◌, drop}
use Rattle.std.specs.Option.{option_map_or}
use Rattle.std.specs.List.{list_any}
use Rattle.std.proofs.Common.{refl, sym, ap, subst, ◌∙◌, inl, inr, ◌⊎◌}
use Rattle.std.proofs.lemmas.Bool.{cases_eq, eq-eqb, or_left, or_right}
use Rattle.bm_base.specs.declared.replica.ReplicaId.{ReplicaId}
use Rattle.bm_maps.specs.SlotLists.{IsMember, Distinct}
use Rattle.bm_arena.specs.Triplets.{Block}
use Rattle.bm_arena.specs.Contents.{Contents, block_at}
use Rattle.bm_arena.specs.HeldMaps.{replicas_at}
use Rattle.bm_base.specs.Machine.RoundStart.{with_excess_reset}
use Rattle.bm_levels.specs.Changes.{all_changed, has_block}

-- `left` are the remaining slots of `all`: each other one of them has its new marks, and each other
-- slot is as before
pub IsBegun : Contents → Contents → List ℕ → List ℕ → Type 0
IsBegun a now all left =
    (slot : ℕ) → (IsMember slot all × (IsMember slot left → ⊥) × (replicas_at now slot ≡ all_changed with_excess_reset (replicas_at a slot))) ⊎ ((IsMember slot all → IsMember slot left) × (block_at now slot ≡ block_at a slot))

pub begun_none : (a : Contents) (all : List ℕ) → IsBegun a a all all
unfolding IsBegun
begun_none a all = λ slot. inr (λ h. h, refl)

same_replicas_at : (a now : Contents) (slot : ℕ) → block_at now slot ≡ block_at a slot → replicas_at now slot ≡ replicas_at a slot
same_replicas_at a now slot same = ap (λ o. option_map_or (λ (b : Block). b.replicas) o []) same

pub begun_more : (a now new : Contents) (all left : List ℕ) (x : ℕ) → IsMember x all → Distinct (x ∷ left) → IsBegun a now all (x ∷ left) → replicas_at new x ≡ all_changed with_excess_reset (replicas_at now x)
    → ((other : ℕ) → other ≢ x → block_at new other ≡ block_at now other) → IsBegun a new all left
unfolding IsBegun
begun_more a now new all left x there once h changed others = λ slot.
    elim (cases_eq slot x) [
      | inl same ↦
          let P : ℕ → Type 0 = λ z. (IsMember z all × (IsMember z left → ⊥) × (replicas_at new z ≡ all_changed with_excess_reset (replicas_at a z))) ⊎ ((IsMember z all → IsMember z left) × (block_at new z ≡ block_at a z)) in
          subst P (sym same)
          (elim (h x) [
            | inl g ↦ absurd (g.1 (inl refl))
            | inr g ↦ inl (there, once.0, changed ∙ ap (all_changed with_excess_reset) (same_replicas_at a now x g.1))
          ])
      | inr differs ↦
          elim (h slot) [
            | inl g ↦ inl (g.0, λ later. g.1 (inr later), same_replicas_at now new slot (others slot differs) ∙ g.2)
            | inr g ↦ inr (λ k. elim (g.0 k) [ inl here ↦ absurd (differs here) | inr later ↦ later ], others slot differs ∙ g.1)
          ]
    ]

pub begun_all : (a now : Contents) (all : List ℕ) → IsBegun a now all [] → (slot : ℕ) → IsMember slot all → replicas_at now slot ≡ all_changed with_excess_reset (replicas_at a slot)
unfolding IsBegun
begun_all a now all h slot there = elim (h slot) [ inl g ↦ g.2 | inr g ↦ absurd (g.0 there) ]

pub begun_others : (a now : Contents) (all left : List ℕ) → IsBegun a now all left → (slot : ℕ) → (IsMember slot all → ⊥) → block_at now slot ≡ block_at a slot
unfolding IsBegun
begun_others a now all left h slot absent = elim (h slot) [ inl g ↦ absurd (absent g.0) | inr g ↦ g.1 ]

-- the block of a replica in the rest of a list is in the list
pub block_listed : (ps rest : List ReplicaId) (i : ℕ) (p : ReplicaId) → drop i ps ≡ p ∷ rest → has_block ps p.block ≡ true
unfolding has_block
block_listed [] rest zero p e = cc
block_listed [] rest (suc i) p e = cc
block_listed (x ∷ ps) rest zero p e =
    let same : x ≡ p = (cc) in
    or_left (x.block == p.block) (list_any (λ (z : ReplicaId). z.block == p.block) ps) (eq-eqb x.block p.block (ap (λ (z : ReplicaId). z.block) same))
block_listed (x ∷ ps) rest (suc i) p e = or_right (x.block == p.block) (list_any (λ (z : ReplicaId). z.block == p.block) ps) (block_listed ps rest i p e)
