use Rattle.std.proofs.Common.{◌≡◌, ℕ, ◌+◌, List, [], ◌∷◌, length, map, Some, subst, sym, ap, ◌∙◌, arith}
use Rattle.std.proofs.lemmas.List.{length-map}
use Rattle.std.proofs.lemmas.Option.{same_Some}
use Rattle.bm_base.specs.Machine.Entries.{ReportedBlock}
use Rattle.bm_arena.specs.Contents.{Contents, slot_of, IsLawful}
use Rattle.bm_report.specs.declared.types.ReportedSlot.{ReportedSlot}
use Rattle.bm_report.specs.DuringReport.{AreAtSlots, slot_in, reported_of}
use Rattle.bm_base.specs.declared.replica.Stamp.{Stamp}
use Rattle.bm_report.specs.Ready.{LookedUpReport, reported_blocks}
use Rattle.bm_levels.specs.IndexedLevels.{HasCapacityAt}
use Rattle.bm_levels.specs.LeveledBlocks.{Leveled, IsLeveled, AreLevels}
use Rattle.bm_levels.proofs.OneSlot.{IsChangedAt, held_by, leveled_after, levels_after}
use Rattle.bm_levels.proofs.leveled_blocks.LeveledBlocks.receive.Goals as goal

-- the one reported number has this slot
led : (a : Contents) (ns : List ReportedSlot) (t : ReportedBlock) (slot : ℕ) → map reported_of ns ≡ t ∷ [] → map slot_in ns ≡ slot ∷ [] → AreAtSlots a ns → slot_of a t.id ≡ Some slot
led a [] t slot e at h = cc
led a (n ∷ ns) t slot e at h =
    let same : reported_of n ≡ t = cc in
    let here : n.slot ≡ slot = cc in
    ap (λ (x : ReportedBlock). slot_of a x.id) (sym same) ∙ h.0 ∙ ap (λ x. Some x) here

pub slot_of_one-slot-requires : goal.slot_of_one-slot-requires
slot_of_one-slot-requires c = one c.args.report.now.named c.requires.reported
  where
    one : (ns : List ReportedSlot) {t : ReportedBlock} → map reported_of ns ≡ t ∷ [] → length ns ≡ 1
    one ns e = sym (length-map ns reported_of) ∙ ap length e

-- the slot of the reported block, in the view of the fields
found : (v w : Leveled) (r : LookedUpReport) (id slot : ℕ) (stamp : Stamp) → v ≡ w → reported_blocks r ≡ record { id = id; stamp = stamp } ∷ [] → map slot_in r.named ≡ slot ∷ [] → AreAtSlots w.arena r.named → slot_of v.arena id ≡ Some slot
found v w r id slot stamp same is at here = ap (λ (x : Leveled). slot_of x.arena id) same ∙ led w.arena r.named (record { id = id; stamp = stamp }) slot is at here

-- there is capacity for the status of this slot
capacity_at : (v w : Leveled) (r : LookedUpReport) (id slot : ℕ) (stamp : Stamp) → v ≡ w → reported_blocks r ≡ record { id = id; stamp = stamp } ∷ [] → map slot_in r.named ≡ slot ∷ [] → AreAtSlots w.arena r.named → IsLawful v.arena → IsLeveled v → HasCapacityAt v.level_index slot
capacity_at v w r id slot stamp same is at here lawful h = (slot + 1, omega arith, h.capacity slot (held_by v.arena slot (lawful.found id slot (found v w r id slot stamp same is at here))))

pub status_at-was-requires : goal.status_at-was-requires
status_at-was-requires c = record { capacity = capacity_at (record { arena = c.self.inside.arena; level_index = c.self.inside.level_index }) c.args.self.now c.args.report.now c.args.id c.slot_of_one-slot.result c.args.stamp c.self.view_is c.requires.reported c.slot_of_one-slot.ensures c.requires.looked_up.here c.show_invariant.ensures c.self.invariant }

pub update_from-requires-clause-capacity : goal.update_from-requires-clause-capacity
update_from-requires-clause-capacity c = capacity_at (record { arena = c.self.inside.arena; level_index = c.self.inside.level_index }) c.args.self.now c.args.report.now c.args.id c.slot_of_one-slot.result c.args.stamp c.self.view_is c.requires.reported c.slot_of_one-slot.ensures c.requires.looked_up.here c.show_invariant.ensures c.self.invariant

changed : (c : goal.After-update_from) → IsChangedAt c.self.inside.arena c.apply_received-applied.new.arena c.slot_of_one-slot.result
changed c =
    let r = c.apply_received-applied.ensures in
    let at = found (record { arena = c.self.inside.arena; level_index = c.self.inside.level_index }) c.args.self.now c.args.report.now c.args.id c.slot_of_one-slot.result c.args.stamp c.self.view_is c.requires.reported c.slot_of_one-slot.ensures c.requires.looked_up.here in
    let entry = c.show_invariant.ensures.found c.args.id c.slot_of_one-slot.result at in
    record {
      blocks = λ other ne. r.others other (λ e. ne (same_Some _ _ (sym e ∙ at)));
      delimiter = r.entries.delimiter;
      apart = entry.0;
      held = held_by c.self.inside.arena c.slot_of_one-slot.result entry;
    }

pub invariant_of-self : goal.invariant_of-self
invariant_of-self c =
    leveled_after c.args.topology.now.cluster (record { arena = c.self.inside.arena; level_index = c.self.inside.level_index }) c.apply_received-applied.new.arena c.update_from.new.self c.slot_of_one-slot.result (changed c)
    c.update_from.ensures.status c.update_from.ensures.others c.self.invariant c.update_from.ensures.capacity

pub returns-clause-levels : goal.returns-clause-levels
returns-clause-levels c =
    let P : Leveled → Type 0 = λ v. AreLevels c.args.topology.now.cluster v → AreLevels c.args.topology.now.cluster (record { arena = c.apply_received-applied.new.arena; level_index = c.update_from.new.self }) in
    subst P c.self.view_is
    (levels_after c.args.topology.now.cluster (record { arena = c.self.inside.arena; level_index = c.self.inside.level_index }) c.apply_received-applied.new.arena c.update_from.new.self c.slot_of_one-slot.result (changed c)
    c.update_from.ensures.status c.update_from.ensures.others)
