use Rattle.std.proofs.Common.{◌≡◌, sym, ◌∙◌}
use Rattle.bm_queues.specs.DenseLevels.{array_of, arrays_in}
use Rattle.bm_queues.proofs.LevelLaws.{array-exact, array-once, array-few}
use Rattle.bm_queues.proofs.CellLaws.{array-here}
use Rattle.bm_queues.proofs.level_lists.LevelLists.slots.Goals as goal

pub returns-clause-exact : goal.returns-clause-exact
returns-clause-exact c slot =
    let whole : c.as_slice.result.now ≡ array_of (arrays_in c.self.inside.arrays.items) c.args.level = c.as_slice.ensures.value ∙ sym (array-here _ c.self.invariant.0.five c.args.level _ c.number.ensures _ c.index.ensures) in
    rw (← c.self.view_is, whole) (array-exact _ _ _ c.self.invariant.0 c.args.level slot)

pub returns-clause-once : goal.returns-clause-once
returns-clause-once c =
    let whole : c.as_slice.result.now ≡ array_of (arrays_in c.self.inside.arrays.items) c.args.level = c.as_slice.ensures.value ∙ sym (array-here _ c.self.invariant.0.five c.args.level _ c.number.ensures _ c.index.ensures) in
    rw whole (array-once _ _ _ c.self.invariant.0 c.args.level)

pub returns-clause-few : goal.returns-clause-few
returns-clause-few c =
    let whole : c.as_slice.result.now ≡ array_of (arrays_in c.self.inside.arrays.items) c.args.level = c.as_slice.ensures.value ∙ sym (array-here _ c.self.invariant.0.five c.args.level _ c.number.ensures _ c.index.ensures) in
    rw (← c.self.view_is, whole) (array-few _ _ _ c.self.invariant.0 c.args.level)
