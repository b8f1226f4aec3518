use Rattle.std.proofs.Common.{◌≡◌, ◌⊎◌, List, map, inl, inr, subst, sym, ap, ◌∙◌}
use Rattle.bm_report.specs.declared.types.ReportedSlot.{ReportedSlot}
use Rattle.bm_maps.specs.SlotLists.{IsMember}
use Rattle.bm_arena.specs.Contents.{IsEntry}
use Rattle.bm_arena.specs.HeldMaps.{holdings_of}
use Rattle.bm_report.specs.DuringReport.{AllAlreadyThere, IsOncePerNode, slot_in}
use Rattle.bm_report.specs.Ready.{LookedUpReport, HasGoodExcess}
use Rattle.bm_report.proofs.ListedSlots.{slot-reported}
use Rattle.bm_report.proofs.LastingInvariants.{once-reported, good-reported}
use Rattle.bm_report.proofs.Maps.{Held}
use Rattle.bm_report.proofs.AlreadyThere.{all_already_there}
use Rattle.bm_report.proofs.report.Report.apply_full.Goals as goal

pub returns-clause-unchanged : goal.returns-clause-unchanged
returns-clause-unchanged c already none =
    let named_is : c.as_slice.result.now ≡ c.args.self.now.named = c.as_slice.ensures.value ∙ ap (λ (r : LookedUpReport). r.named) c.self.view_is in
    let P : List ReportedSlot → Type 0 = λ l. AllAlreadyThere c.args.arena.now c.args.storage l in
    c.apply.ensures.no_change (subst P (sym named_is) (all_already_there c.args.topology.now.cluster c.args.arena.now c.args.storage c.args.self.now.named c.requires.ready.looked_up.here already)) none
    ∙ ap (λ (r : LookedUpReport). r.changed) c.self.view_is

pub returns-clause-once : goal.returns-clause-once
unfolding holdings_of
returns-clause-once c =
    let P : Held → Type 0 = λ K. IsOncePerNode c.args.topology.now.cluster K in
    subst P (sym c.apply.ensures.replicas) (once-reported c.args.topology.now.cluster (holdings_of c.args.arena.now) c.args.storage _ c.requires.once)

pub returns-clause-good : goal.returns-clause-good
unfolding holdings_of
returns-clause-good c =
    let P : Held → Type 0 = λ K. HasGoodExcess K in
    subst P (sym c.apply.ensures.replicas) (good-reported c.args.topology.now.cluster (holdings_of c.args.arena.now) c.args.storage _ c.requires.good)

pub returns-clause-listed : goal.returns-clause-listed
returns-clause-listed c slot m =
    let P : LookedUpReport → Type 0 = λ r. IsMember slot r.changed ⊎ IsEntry c.args.arena.now slot in
    subst P c.self.view_is (c.apply.ensures.listed slot m)

pub returns-clause-came : goal.returns-clause-came
returns-clause-came c slot m =
    let named_is : c.as_slice.result.now ≡ c.args.self.now.named = c.as_slice.ensures.value ∙ ap (λ (r : LookedUpReport). r.named) c.self.view_is in
    let P : List ReportedSlot → Type 0 = λ l. IsMember slot (map slot_in l) in
    elim (c.apply.ensures.came slot m) [
      | inl was ↦ let Q : LookedUpReport → Type 0 = λ r. IsMember slot r.changed in inl (subst Q c.self.view_is was)
      | inr named ↦ inr (slot-reported c.args.arena.now c.args.self.now.named slot c.requires.ready.looked_up.here (subst P named_is named))
    ]
