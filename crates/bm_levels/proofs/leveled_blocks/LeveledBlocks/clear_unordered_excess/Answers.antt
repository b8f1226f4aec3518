use Rattle.std.proofs.Common.{◌≡◌, ◌+◌, ◌∙◌, ℕ, Option, subst, sym, ap}
use Rattle.std.specs.Prelude.{◌∷◌, Some, length}
use Rattle.bm_maps.specs.SlotLists.{Distinct}
use Rattle.bm_queues.specs.Walks.{slots_from, IsOn, IsPast}
use Rattle.bm_levels.specs.IndexedLevels.{IndexedLevels}
use Rattle.bm_levels.specs.LeveledBlocks.{Leveled, AreLevels}
use Rattle.bm_levels.proofs.UnsettledIteration.{IsGoing, going_first, going_more, going_none, going_begun, going_others}
use Rattle.bm_levels.proofs.leveled_blocks.LeveledBlocks.clear_unordered_excess.Goals as goal
use Rattle.bm_levels.proofs.leveled_blocks.LeveledBlocks.clear_unordered_excess.Goals.{in-Some, in_default}

pub loop-step-init : goal.loop-step-init
loop-step-init c =
    let v = c.args.self.now in
    let at = c.first_unsettled-at.result in
    let P : IndexedLevels → Type 0 = λ K. Distinct K.unsettled.slots in
    let Q : IndexedLevels → Type 0 = λ K. IsOn at K.unsettled.slots in
    let R : IndexedLevels → Type 0 = λ K. slots_from K.unsettled.slots at ≡ K.unsettled.slots in
    record {
      going = going_first v at c.unsettled_count-step-end.result (subst P c.level_index.ensures c.show_invariant.ensures.unsettled) (subst Q c.level_index-2.ensures c.first_unsettled-at.ensures.on) (subst R c.level_index-2.ensures c.first_unsettled-at.ensures.rest)
          (c.unsettled_count-step-end.ensures ∙ ap (λ (K : IndexedLevels). length K.unsettled.slots) c.level_index-3.ensures);
      levels = λ h. h;
    }

pub loop-step-preserved : goal.loop-step-preserved
loop-step-preserved c =
    let C = c.args.topology.now.cluster in
    let old = c.args.self.now in
    let now = c.loop-step.self in
    let step = c.loop-step._step in
    let end = c.unsettled_count-step-end.result in
    let h = c.loop-step.invariant in
    let P : Leveled → Type 0 = λ v. IsGoing old v c.match-at.at (step + 1) end in
    let L : Leveled → Type 0 = λ v. AreLevels C old → AreLevels C v in
    elim c.match-at.branch [
      | in-Some w ↦
          let x = w.in-Some.slot in
          let then = w.next_unsettled-at.result in
          let next = w.next_unsettled-at.ensures in
          let g = w.clear_unordered_excess_at.ensures in
          let new = w.clear_unordered_excess_at.new.self in
          let is = w.level_index-in-Some.ensures in
          let Q : Option ℕ → Type 0 = λ o. IsGoing old new o (step + 1) end in
          let On : IndexedLevels → Type 0 = λ K. IsOn then K.unsettled.slots in
          let Past : IndexedLevels → Type 0 = λ K. IsPast x then K.unsettled.slots in
          let Rest : IndexedLevels → Type 0 = λ K. slots_from K.unsettled.slots (Some x) ≡ x ∷ slots_from K.unsettled.slots then in
          record {
            going = subst P (sym w.self-is) (subst Q (sym w.at-is)
                (going_more old now c.loop-step.at step end h.going x then w.in-Some.is (subst Rest is next.rest) new (subst On is next.on) (subst Past is next.past) g.begun g.others g.entries g.ahead));
            levels = subst L (sym w.self-is) (λ were. g.levels (h.levels were));
          }
      | in_default w ↦
          let Q : Option ℕ → Type 0 = λ o. IsGoing old now o (step + 1) end in
          record {
            going = subst P (sym w.self-is) (subst Q (sym w.at-is) (going_none old now c.loop-step.at step end h.going w.in_default.is c.loop-step-test.true));
            levels = subst L (sym w.self-is) h.levels;
          }
    ]

pub returns-clause-begun : goal.returns-clause-begun
returns-clause-begun c = going_begun c.args.self.now c.loop-step.self c.loop-step.at c.loop-step._step c.unsettled_count-step-end.result c.loop-step.invariant.going c.loop-step-test.false

pub returns-clause-others : goal.returns-clause-others
returns-clause-others c = going_others c.args.self.now c.loop-step.self c.loop-step.at c.loop-step._step c.unsettled_count-step-end.result c.loop-step.invariant.going
