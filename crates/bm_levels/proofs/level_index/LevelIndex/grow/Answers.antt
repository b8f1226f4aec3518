-- Neither part grows beyond the requested bound.
use Rattle.std.proofs.Common.{◌≡◌, ◌-◌, ◌≤◌, ◌++◌, ℕ, Bool, true, false, Result, Ok, Err, Option, None, List, length, replicate, subst, sym, arith, length-append}
use Rattle.std.specs.Prelude.{OnOk, OnErr, max, nat_lt, if◌then◌else◌}
use Rattle.std.proofs.lemmas.List.{length-replicate}
use Rattle.bm_base.specs.declared.replica.Level.{Level}
use Rattle.bm_base.specs.declared.refusal.Refusal.{Refusal}
use Rattle.bm_queues.specs.Levels.{Levels}
use Rattle.bm_queues.specs.Levels as levels
use Rattle.bm_queues.specs.Members.{Members}
use Rattle.bm_queues.specs.Members as members
use Rattle.bm_levels.specs.IndexedLevels.{IndexedLevels, GrowsWithin}
use Rattle.bm_levels.proofs.level_index.LevelIndex.grow.Goals as goal

longer : (xs : List (Option Level)) (capacity : ℕ) → length (xs ++ replicate (capacity - length xs) None) ≤ max (length xs) capacity
longer xs capacity =
    let added = length-append xs (replicate (capacity - length xs) None) in
    let many = length-replicate {A = Option Level} (capacity - length xs) None in
    omega (arith, added, many)

levels_within : (r : Result (Unit {0}) Refusal) (old new : Levels) (capacity : ℕ) → OnOk r (new ≡ levels.with_capacity old capacity) → OnErr r (new ≡ old) → length new.levels ≤ max (length old.levels) capacity
levels_within (Ok x) old new capacity grown same = subst (λ (v : Levels). length v.levels ≤ max (length old.levels) capacity) (sym grown) (longer old.levels capacity)
levels_within (Err x) old new capacity grown same = subst (λ (v : Levels). length v.levels ≤ max (length old.levels) capacity) (sym same) (omega arith)

either_within : (b : Bool) (x y : ℕ) → (if b then y else x) ≤ max x y
either_within true x y = omega arith
either_within false x y = omega arith

set_within : (r : Result (Unit {0}) Refusal) (old new : Members) (capacity : ℕ) → OnOk r (new ≡ members.with_capacity old capacity) → OnErr r (new ≡ old) → new.capacity ≤ max old.capacity capacity
set_within (Ok x) old new capacity grown same = subst (λ (v : Members). v.capacity ≤ max old.capacity capacity) (sym grown) (either_within (nat_lt old.capacity capacity) old.capacity capacity)
set_within (Err x) old new capacity grown same = subst (λ (v : Members). v.capacity ≤ max old.capacity capacity) (sym same) (omega arith)

pub returns-in_err-grow_to-clause-few : goal.returns-in_err-grow_to-clause-few
returns-in_err-grow_to-clause-few c =
    let old = c.self.inside in
    let P : IndexedLevels → Type 0 = λ K. GrowsWithin c.args.bound K (record { levels = c.grow_to.new.self; unsettled = old.unsettled }) in
    subst P c.self.view_is (levels_within c.grow_to.result old.levels c.grow_to.new.self c.args.bound c.grow_to.ensures.after c.grow_to.ensures.unchanged, omega arith)

pub returns-clause-few : goal.returns-clause-few
returns-clause-few c =
    let old = c.self.inside in
    let P : IndexedLevels → Type 0 = λ K. GrowsWithin c.args.bound K (record { levels = c.grow_to.new.self; unsettled = c.grow_to-2.new.self }) in
    subst P c.self.view_is (
      levels_within c.grow_to.result old.levels c.grow_to.new.self c.args.bound c.grow_to.ensures.after c.grow_to.ensures.unchanged,
      set_within c.grow_to-2.result old.unsettled c.grow_to-2.new.self c.args.bound c.grow_to-2.ensures.after c.grow_to-2.ensures.unchanged,
    )
