use Rattle.bm_levels.specs.LeveledBlocks.{AreLevels}
use Rattle.bm_levels.proofs.UnsettledIteration.{IsGoing}
use Rattle.bm_levels.proofs.leveled_blocks.LeveledBlocks.clear_unordered_excess.Given as goal

-- the slots so far have their new marks
pub record AreBegunSoFar (l : goal.Live-loop-step) : Type 0 where
  pub going : IsGoing l.initial.self l.self l.at l._step l._step-end
  pub levels : AreLevels l.topology.cluster l.initial.self → AreLevels l.topology.cluster l.self

abbrev pub invariant-loop-step : goal.invariant-loop-step
invariant-loop-step l = AreBegunSoFar l
