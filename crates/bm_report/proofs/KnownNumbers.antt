-- Looking up a number that has a replica on the storage changes nothing.
use Rattle.std.proofs.Common.{◌≡◌, ℕ, Option, Some, None, IsSome, refl, subst, sym, ◌∙◌}
use Rattle.std.specs.Option.{option_and_then}
use Rattle.std.proofs.lemmas.Bool.{false≢true}
use Rattle.bm_base.specs.declared.replica.Marks.{Marks}
use Rattle.bm_base.specs.Machine.State.{replica_at}
use Rattle.bm_arena.specs.Contents.{Contents, slot_of, marks_at, HasHead, IsLawful}
use Rattle.bm_arena.proofs.HeldReplicas.{get-replicas_of}
use Rattle.bm_arena.proofs.Laws.{head-lawful}
use Rattle.bm_report.specs.Ready.{HasReplica}
use Rattle.bm_report.proofs.Maps.{get-here}

module _ (a : Contents) (s b : ℕ) (there : HasReplica a s b) where
  found : (o : Option ℕ) → IsSome (option_and_then (λ slot. marks_at a slot s) o) → (slot : ℕ) × (o ≡ Some slot)
  found None h = absurd (false≢true h)
  found (Some slot) h = (slot, refl)

  slot_known : (slot : ℕ) × (slot_of a b ≡ Some slot)
  slot_known = found (slot_of a b) (subst (λ (o : Option Marks). IsSome o) (get-replicas_of a (replica_at b s)) there)

  pub slot_there : IsSome (slot_of a b)
  slot_there = subst (λ (o : Option ℕ). IsSome o) (sym slot_known.1) refl

  pub marks_there : (slot : ℕ) → slot_of a b ≡ Some slot → IsSome (marks_at a slot s)
  marks_there slot here = subst (λ (o : Option Marks). IsSome o) (get-here a b slot s here) there

  pub head_there : IsLawful a → HasHead a s
  head_there lawful = head-lawful a lawful slot_known.0 s (marks_there slot_known.0 slot_known.1)

-- a step that changes nothing keeps the replica, so the next step changes nothing
pub still_there : {X : Type 0} (a b c : Contents) (s id slot : ℕ) → HasReplica a s id → b ≡ a → slot_of b id ≡ Some slot → (IsSome (marks_at b slot s) → X × (c ≡ b)) → c ≡ a
still_there a b c s id slot there same here next =
    (next (marks_there b s id (subst (λ (x : Contents). HasReplica x s id) (sym same) there) slot here)).1 ∙ same
