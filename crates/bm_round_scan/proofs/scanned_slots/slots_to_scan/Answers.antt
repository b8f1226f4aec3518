use Rattle.std.proofs.Common.{◌≡◌, ℕ, List, ◌++◌, map, filter, subst, arith}
use Rattle.std.specs.List.Sorted.{IsPermutation}
use Rattle.std.proofs.lemmas.Grind.{common_steps}
use Rattle.std.proofs.lemmas.List.{append-nil}
use Rattle.bm_base.specs.declared.replica.Level.TheVariants.{Highest, VeryUnderReplicated, UnderReplicated, BadlyDistributed}
use Rattle.bm_levels.specs.IndexedLevels.{slots_at}
use Rattle.bm_round_scan.specs.ScannedSlots.{keyed_at, is_settled_to_scan, has_enough_pending}
use Rattle.bm_round_scan.proofs.MovedSlots.{moved_on}
use Rattle.bm_round_scan.proofs.ScannedSlots.{scanned_by_level}
use Rattle.bm_round_scan.proofs.scanned_slots.slots_to_scan.Goals as goal

pub returns : goal.returns
returns c =
    let s = c.args.start.now in
    let K = s.level_index.now in
    let f = keyed_at K s.arena.now in
    let p = is_settled_to_scan K s.arena.now s.bound (has_enough_pending s.topology.now.cluster s.pend s.round s.arena.now s.pending.now) in
    let start : c.loop-slot.keyed.items ≡ map (keyed_at c.args.start.now.level_index.now c.args.start.now.arena.now) c.args.start.now.level_index.now.unsettled.slots = grind (arith, common_steps, append-nil) in
    subst (λ (xs : List ((ℕ × ℕ) × ℕ)). IsPermutation xs c.push_level-4.new.into.items) (scanned_by_level f p K.unsettled.slots (slots_at K Highest) (slots_at K VeryUnderReplicated) (slots_at K UnderReplicated) (slots_at K BadlyDistributed))
    (moved_on _ _ _ _ (moved_on _ _ _ _ (moved_on _ _ _ _ (subst (λ xs. IsPermutation (xs ++ map f (filter p (slots_at K Highest))) c.push_level.new.into.items) start c.in_ok-push_level.ensures) c.in_ok-push_level-2.ensures) c.in_ok-push_level-3.ensures) c.in_ok-push_level-4.ensures)
