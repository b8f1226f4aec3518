use Rattle.std.proofs.Common.{ℕ, List, map, sym, ap, subst, ◌∙◌}
use Rattle.std.specs.List.Sorted.{IsPermutation}
use Rattle.std.proofs.lemmas.List.Sorted.{IsPermutation-trans}
use Rattle.bm_base.specs.declared.replica.ReplicaId.{ReplicaId}
use Rattle.bm_base.specs.declared.round.RoundPart.{RoundPart}
use Rattle.bm_base.specs.Machine.State.{by_replica}
use Rattle.bm_base.specs.Ordered.{by_pair}
use Rattle.bm_base.specs.RoundParts.{wish_key, delete_key}
use Rattle.bm_arena.specs.Contents.{Contents, slot_of, IsLawful}
use Rattle.bm_arena.specs.HeldMaps.{id_at}
use Rattle.bm_levels.specs.SlotHoldings.{holdings_with}
use Rattle.bm_levels.specs.IndexedLevels.{IndexedLevels}
use Rattle.bm_round_scan.specs.ScannedSlots.{scanned_slots, keyed_at, has_enough_pending, AreMarked}
use Rattle.bm_round_scan.specs.BlockFindings.{HasFound, IsInOrder}
use Rattle.bm_round_scan.proofs.ScannedSlots.{AreListed}
use Rattle.bm_round_scan.proofs.AllFindings.{scanned_known, all_found}
use Rattle.bm_round_scan.proofs.findings.find_round.Goals as goal

pub scan_all-requires-clause-known : goal.scan_all-requires-clause-known
scan_all-requires-clause-known c slot there =
    let v = c.args.blocks.now in
    let C = c.args.topology.now.cluster in
    let way = c.args.pending.now in
    let lawful : IsLawful v.arena = subst IsLawful c.arena.ensures c.show_invariant-2.ensures in
    let listed : AreListed v.level_index = subst AreListed c.level_index.ensures (record { unsettled = c.show_invariant-3.ensures.unsettled; needing_copies = c.show_invariant-3.ensures.needing_copies; once = c.show_invariant-3.ensures.needing_copies_once }) in
    let slots = scanned_slots v.level_index v.arena c.args.bound (has_enough_pending C c.args.pend c.args.round v.arena way) in
    let keyed_slots : IndexedLevels → Contents → List ((ℕ × ℕ) × ℕ) = λ K a. map (keyed_at K a) (scanned_slots K a c.args.bound (has_enough_pending C c.args.pend c.args.round a way)) in
    let keyed : IsPermutation (map (keyed_at v.level_index v.arena) slots) c.in_ok-slots.slots.items =
    subst (λ (xs : List ((ℕ × ℕ) × ℕ)). IsPermutation xs c.in_ok-slots.slots.items) (λ j. keyed_slots (c.level_index-2.ensures j) (c.arena-2.ensures j)) c.in_ok-slots.ensures in
    let moved : IsPermutation (map (keyed_at v.level_index v.arena) slots) c.deref.result.now =
    subst (IsPermutation (map (keyed_at v.level_index v.arena) slots)) (sym c.deref.ensures.value)
    (IsPermutation-trans (map (keyed_at v.level_index v.arena) slots) c.in_ok-slots.slots.items c.sort_slots.new.slots.items keyed c.sort_slots.ensures) in
    let known = scanned_known v lawful c.show_invariant.ensures listed C c.requires.levels c.args.pend c.args.round way c.args.bound c.deref.result.now moved slot there in
    (id_at v.arena slot, ap (λ (b : Contents). slot_of b (id_at v.arena slot)) c.arena-2.ensures ∙ known)

pub scan_all-requires-clause-settled : goal.scan_all-requires-clause-settled
scan_all-requires-clause-settled c =
    subst (λ K. AreMarked K c.arena-2.result.now) (sym c.level_index-2.ensures) (subst (λ (a : Contents). AreMarked c.args.blocks.now.level_index a) (sym c.arena-2.ensures) c.show_invariant.ensures.unsettled)

pub returns-clause-part : goal.returns-clause-part
returns-clause-part c =
    let v = c.args.blocks.now in
    let C = c.args.topology.now.cluster in
    let way = c.args.pending.now in
    let lawful : IsLawful v.arena = subst IsLawful c.arena.ensures c.show_invariant-2.ensures in
    let listed : AreListed v.level_index = subst AreListed c.level_index.ensures (record { unsettled = c.show_invariant-3.ensures.unsettled; needing_copies = c.show_invariant-3.ensures.needing_copies; once = c.show_invariant-3.ensures.needing_copies_once }) in
    let slots = scanned_slots v.level_index v.arena c.args.bound (has_enough_pending C c.args.pend c.args.round v.arena way) in
    let keyed_slots : IndexedLevels → Contents → List ((ℕ × ℕ) × ℕ) = λ K a. map (keyed_at K a) (scanned_slots K a c.args.bound (has_enough_pending C c.args.pend c.args.round a way)) in
    let keyed : IsPermutation (map (keyed_at v.level_index v.arena) slots) c.in_ok-slots.slots.items =
    subst (λ (xs : List ((ℕ × ℕ) × ℕ)). IsPermutation xs c.in_ok-slots.slots.items) (λ j. keyed_slots (c.level_index-2.ensures j) (c.arena-2.ensures j)) c.in_ok-slots.ensures in
    let moved : IsPermutation (map (keyed_at v.level_index v.arena) slots) c.deref.result.now =
    subst (IsPermutation (map (keyed_at v.level_index v.arena) slots)) (sym c.deref.ensures.value)
    (IsPermutation-trans (map (keyed_at v.level_index v.arena) slots) c.in_ok-slots.slots.items c.sort_slots.new.slots.items keyed c.sort_slots.ensures) in
    let f = c.in_ok-found.found in
    let found : HasFound C c.args.pend c.args.round (holdings_with v.arena way.map) c.args.bound (map (λ (e : (ℕ × ℕ) × ℕ). id_at v.arena e.1) c.deref.result.now) f =
    subst (λ (b : Contents). HasFound C c.args.pend c.args.round (holdings_with b way.map) c.args.bound (map (λ (e : (ℕ × ℕ) × ℕ). id_at b e.1) c.deref.result.now) f) c.arena-2.ensures c.in_ok-found.ensures.found in
    let p : RoundPart = record { expired = c.from_vec.result; excess = c.from_vec-2.result; wishes = c.from_vec-3.result; deletes = c.from_vec-4.result } in
    all_found v lawful c.show_invariant.ensures listed C c.requires.levels c.args.pend c.args.round way c.args.bound c.deref.result.now moved c.requires.stored f found p (c.from_vec.ensures ∙ c.in_ok-expired.ensures.items)
    (subst (IsInOrder by_replica (λ (q : ReplicaId). q) f.excess.items) (sym c.from_vec-2.ensures) c.in_ok-sort_excess.ensures)
    (subst (IsInOrder by_pair wish_key f.wishes.items) (sym c.from_vec-3.ensures) c.in_ok-sort_wishes.ensures)
    (subst (IsInOrder by_pair delete_key f.deletes.items) (sym c.from_vec-4.ensures) c.in_ok-sort_deletes.ensures)
