use Rattle.std.proofs.Common.{ℕ, List, sym, subst, ◌∙◌}
use Rattle.std.specs.List.Sorted.{IsPermutation}
use Rattle.std.proofs.lemmas.Result.{on_ok_weaker}
use Rattle.bm_levels.specs.IndexedLevels.{slots_at}
use Rattle.bm_round_scan.specs.ScannedSlots.{keyed_at, is_settled_to_scan, has_enough_pending}
use Rattle.bm_round_scan.proofs.MovedSlots.{appended_moved}
use Rattle.bm_round_scan.proofs.Permutations.{among_before}
use Rattle.bm_round_scan.proofs.scanned_slots.push_level.Goals as goal

pub push_settled-requires-2 : goal.push_settled-requires-2
push_settled-requires-2 c =
    let listed = c.at_level-listed.result.now in
    let copied : IsPermutation listed c.sort_unstable.new.self.items = subst (λ (xs : List ℕ). IsPermutation xs c.sort_unstable.new.self.items) c.in_ok-slots.ensures.items c.sort_unstable.ensures.permutation in
    let moved : IsPermutation listed c.deref.result.now = subst (IsPermutation listed) (sym c.deref.ensures.value) copied in
    record { level = λ slot there. (c.at_level-listed.ensures.exact slot).0 (among_before listed c.deref.result.now moved slot there) }

pub returns : goal.returns
returns c =
    let s = c.args.start.now in
    let K = s.level_index.now in
    let listed = slots_at K c.args.level in
    let copied : IsPermutation listed c.sort_unstable.new.self.items = subst (λ (xs : List ℕ). IsPermutation xs c.sort_unstable.new.self.items) (c.in_ok-slots.ensures.items ∙ c.at_level-listed.ensures.slots) c.sort_unstable.ensures.permutation in
    let moved : IsPermutation listed c.deref.result.now = subst (IsPermutation listed) (sym c.deref.ensures.value) copied in
    let to_scan = is_settled_to_scan K s.arena.now s.bound (has_enough_pending s.topology.now.cluster s.pend s.round s.arena.now s.pending.now) in
    on_ok_weaker c.push_settled-2.result
    (appended_moved to_scan (keyed_at K s.arena.now) c.args.into.now.items c.push_settled-2.new.into.items listed c.deref.result.now moved)
    c.push_settled-2.ensures
