use Rattle.std.proofs.Common.{◌≡◌, ◌≢◌, ℕ, refl, sym, subst, ap}
use Rattle.bm_arena.specs.Contents.{Contents, block_at, marks_at, known_of}
use Rattle.bm_arena.proofs.MoreCapacity.{capacity-marks, capacity-elsewhere, capacity-known}
use Rattle.std.proofs.lemmas.Bool.{false≢true}
use Rattle.bm_arena.proofs.Lawfulness.{IsLawful-arena}
use Rattle.bm_arena.proofs.ListReads.{reserve-arena, reserve-view, capacity-entry}
use Rattle.bm_arena.proofs.Bounds.{below-changed}
use Rattle.bm_arena.proofs.HeldReplicas.{replicas-kept, blocks-kept}
use Rattle.bm_arena.proofs.arena.Arena.reserve_triplet.Goals as goal

pub invariant_of-self : goal.invariant_of-self
invariant_of-self c =
    record {
      arena =
          reserve-arena c.self.inside.slots c.reserve_triplets.new.slots c.args.slot c.reserve_triplets.ensures.rest c.reserve_triplets.ensures.grows c.self.inside.ids c.self.inside.heads.entries c.self.inside.delimiter c.self.invariant.arena;
      bounded = below-changed _ c.self.inside.slots c.reserve_triplets.new.slots c.args.slot c.self.inside.bound c.reserve_triplets.ensures.rest c.self.invariant.bounded;
    }

pub returns-clause-rest : goal.returns-clause-rest
returns-clause-rest c =
    rw (← c.self.view_is)
    (reserve-view c.self.inside.slots c.reserve_triplets.new.slots c.args.slot c.reserve_triplets.ensures.rest c.reserve_triplets.ensures.grows c.self.inside.ids c.self.inside.heads.entries c.self.inside.delimiter c.self.invariant.arena c.self.inside.steps c.self.inside.bound)

pub invariant_of-self-2 : goal.invariant_of-self-2
invariant_of-self-2 c =
    record {
      arena =
          reserve-arena c.self.inside.slots c.reserve_triplets.new.slots c.args.slot c.reserve_triplets.ensures.rest c.reserve_triplets.ensures.grows c.self.inside.ids c.self.inside.heads.entries c.self.inside.delimiter c.self.invariant.arena;
      bounded = below-changed _ c.self.inside.slots c.reserve_triplets.new.slots c.args.slot c.self.inside.bound c.reserve_triplets.ensures.rest c.self.invariant.bounded;
    }

pub returns-in_err-reserve_triplets-clause-lawful : goal.returns-in_err-reserve_triplets-clause-lawful
returns-in_err-reserve_triplets-clause-lawful c = IsLawful-arena _ _ _ _ _ (invariant_of-self c) _

pub returns-clause-lawful : goal.returns-clause-lawful
returns-clause-lawful c = IsLawful-arena _ _ _ _ _ (invariant_of-self-2 c) _

pub returns-in_err-reserve_triplets-clause-succeeds : goal.returns-in_err-reserve_triplets-clause-succeeds
returns-in_err-reserve_triplets-clause-succeeds c capacity =
    let has = rw (← c.self.view_is) at capacity in
    absurd (false≢true (c.in_err-reserve_triplets.ensures.succeeds (capacity-entry c.self.inside.slots c.args.slot has)))

pub returns-in_err-reserve_triplets-clause-had_capacity : goal.returns-in_err-reserve_triplets-clause-had_capacity
returns-in_err-reserve_triplets-clause-had_capacity c capacity =
    let has = rw (← c.self.view_is) at capacity in
    let same = c.reserve_triplets.ensures.had_capacity (capacity-entry c.self.inside.slots c.args.slot has) in
    rw (← c.self.view_is, same) refl

pub returns-clause-had_capacity : goal.returns-clause-had_capacity
returns-clause-had_capacity c capacity =
    let has = rw (← c.self.view_is) at capacity in
    let same = c.reserve_triplets.ensures.had_capacity (capacity-entry c.self.inside.slots c.args.slot has) in
    rw (← c.self.view_is, same) refl

pub returns-clause-marks : goal.returns-clause-marks
returns-clause-marks c =
    let P : Contents → Type 0 = λ x. (other storage : ℕ) → marks_at x other storage ≡ marks_at c.args.self.now other storage in
    subst P (sym (returns-clause-rest c)) (capacity-marks c.args.self.now c.args.slot _)

pub returns-clause-others : goal.returns-clause-others
returns-clause-others c =
    let P : Contents → Type 0 = λ x. (other : ℕ) → other ≢ c.args.slot → block_at x other ≡ block_at c.args.self.now other in
    subst P (sym (returns-clause-rest c)) (capacity-elsewhere c.args.self.now c.args.slot _)

pub returns-clause-known : goal.returns-clause-known
returns-clause-known c =
    let P : Contents → Type 0 = λ x. known_of (block_at x c.args.slot) ≡ known_of (block_at c.args.self.now c.args.slot) in
    subst P (sym (returns-clause-rest c)) (capacity-known c.args.self.now c.args.slot _)

pub returns-clause-replicas : goal.returns-clause-replicas
returns-clause-replicas c = replicas-kept _ _ (ap (λ a. a.ids) (returns-clause-rest c)) (returns-clause-marks c)

pub returns-clause-blocks : goal.returns-clause-blocks
returns-clause-blocks c = blocks-kept _ _ c.args.slot (ap (λ a. a.ids) (returns-clause-rest c)) (returns-clause-others c) (returns-clause-known c)

pub returns-in_err-reserve_triplets-clause-rest : goal.returns-in_err-reserve_triplets-clause-rest
returns-in_err-reserve_triplets-clause-rest c =
    rw (← c.self.view_is)
    (reserve-view c.self.inside.slots c.reserve_triplets.new.slots c.args.slot c.reserve_triplets.ensures.rest c.reserve_triplets.ensures.grows c.self.inside.ids c.self.inside.heads.entries c.self.inside.delimiter c.self.invariant.arena c.self.inside.steps c.self.inside.bound)

pub returns-in_err-reserve_triplets-clause-marks : goal.returns-in_err-reserve_triplets-clause-marks
returns-in_err-reserve_triplets-clause-marks c =
    let P : Contents → Type 0 = λ x. (other storage : ℕ) → marks_at x other storage ≡ marks_at c.args.self.now other storage in
    subst P (sym (returns-in_err-reserve_triplets-clause-rest c)) (capacity-marks c.args.self.now c.args.slot _)

pub returns-in_err-reserve_triplets-clause-others : goal.returns-in_err-reserve_triplets-clause-others
returns-in_err-reserve_triplets-clause-others c =
    let P : Contents → Type 0 = λ x. (other : ℕ) → other ≢ c.args.slot → block_at x other ≡ block_at c.args.self.now other in
    subst P (sym (returns-in_err-reserve_triplets-clause-rest c)) (capacity-elsewhere c.args.self.now c.args.slot _)

pub returns-in_err-reserve_triplets-clause-known : goal.returns-in_err-reserve_triplets-clause-known
returns-in_err-reserve_triplets-clause-known c =
    let P : Contents → Type 0 = λ x. known_of (block_at x c.args.slot) ≡ known_of (block_at c.args.self.now c.args.slot) in
    subst P (sym (returns-in_err-reserve_triplets-clause-rest c)) (capacity-known c.args.self.now c.args.slot _)

pub returns-in_err-reserve_triplets-clause-replicas : goal.returns-in_err-reserve_triplets-clause-replicas
returns-in_err-reserve_triplets-clause-replicas c = replicas-kept _ _ (ap (λ a. a.ids) (returns-in_err-reserve_triplets-clause-rest c)) (returns-in_err-reserve_triplets-clause-marks c)

pub returns-in_err-reserve_triplets-clause-blocks : goal.returns-in_err-reserve_triplets-clause-blocks
returns-in_err-reserve_triplets-clause-blocks c = blocks-kept _ _ c.args.slot (ap (λ a. a.ids) (returns-in_err-reserve_triplets-clause-rest c)) (returns-in_err-reserve_triplets-clause-others c) (returns-in_err-reserve_triplets-clause-known c)
