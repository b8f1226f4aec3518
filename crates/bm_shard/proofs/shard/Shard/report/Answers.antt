use Rattle.std.proofs.Common.{ℕ, List, None, subst, sym, ap, ◌∙◌}
use Rattle.bm_base.specs.Words.{ReportedBlock, report, entered_marks, entered_tag, was_bad, was_excess, done, new_replicas}
use Rattle.bm_arena.specs.Contents.{Contents, IsLawful}
use Rattle.bm_arena.specs.HeldMaps.{replicas_of, holdings_of}
use Rattle.bm_report.specs.DuringReport.{IsOncePerNode}
use Rattle.bm_report.specs.Ready.{HasGoodExcess, reported_blocks}
use Rattle.bm_levels.specs.SlotHoldings.{holdings_with}
use Rattle.bm_shard.specs.ShardView.{Seen}
use Rattle.bm_shard.specs.EventEffects.{HasChanged}
use Rattle.bm_shard.specs.Inside.{numbers_of, heads_of}
use Rattle.bm_shard.proofs.Arrivals.{arrived_named}
use Rattle.bm_shard.proofs.ChangedBlocks.{changed_seen}
use Rattle.bm_shard.specs.declared.shard.PreparedEvent.{PreparedEvent}
use Rattle.bm_shard.specs.declared.shard.PreparedEvent.TheVariants as prepared
use Rattle.bm_shard.specs.Inside.{HasPrepared}
use Rattle.bm_shard.proofs.LookUps.{looked_up}
use Rattle.bm_shard.proofs.SameHoldings.{seen_of}
use Rattle.bm_levels.specs.UnusedEntries as levels
use Rattle.bm_shard.proofs.UnusedEntries.{none_outside, none_reported, prepared_report}
use Rattle.bm_shard.proofs.shard.Shard.report.Goals as goal

ready : (c : goal.After-apply_report-arg-2-1) → HasPrepared (prepared.Report c.args.storage) c.self.inside.report c.self.inside.blocks.arena
ready c = let P : PreparedEvent → Type 0 = λ p. HasPrepared p c.self.inside.report c.self.inside.blocks.arena in subst P (looked_up c.self.inside.report c.self.inside.prepared c.args.storage c.requires.ready.0 (ap (λ (S : Seen). S.reserved.report) c.self.view_is ∙ c.requires.ready.1)).0 c.self.invariant.ready

pub apply_report-applied-requires-clause-ready : goal.apply_report-applied-requires-clause-ready
apply_report-applied-requires-clause-ready c = (ready c).0

pub apply_report-applied-requires-clause-fresh : goal.apply_report-applied-requires-clause-fresh
apply_report-applied-requires-clause-fresh c = (ready c).1

pub apply_report-applied-requires-clause-once : goal.apply_report-applied-requires-clause-once
unfolding holdings_with
apply_report-applied-requires-clause-once c =
    let P : Seen → Type 0 = λ S. IsOncePerNode c.args.topology.now.cluster S.holdings.replicas in
    subst P (sym c.self.view_is) c.requires.placed.once

pub apply_report-applied-requires-clause-good : goal.apply_report-applied-requires-clause-good
unfolding holdings_with
apply_report-applied-requires-clause-good c =
    let P : Seen → Type 0 = λ S. HasGoodExcess S.holdings.replicas in
    subst P (sym c.self.view_is) c.requires.placed.excess_is_good

pub returns-clause-changed : goal.returns-clause-changed
unfolding holdings_with holdings_of report entered_marks entered_tag was_bad was_excess done
returns-clause-changed c ts seen =
    let C = c.args.topology.now.cluster in
    let s = c.args.storage in
    let old = c.self.inside in
    let new = c.drop_unused.new.self in
    let made = c.apply_report-applied.ensures in
    let replicas = c.drop_unused.ensures.replicas ∙ made.replicas in
    let there = ap (λ (a : Contents). replicas_of a) c.arena-2.ensures ∙ made.replicas in
    let arrived = c.drop_arrived.ensures ∙ arrived_named C (holdings_of old.blocks.arena) s old.report.named c.arena-2.result.now there old.pending.map in
    let P : List ReportedBlock → Type 0 = λ l. HasChanged C C c.args.self.now
    (seen_of new c.drop_arrived.new.pending.map old.part old.round old.pend (record { entries = numbers_of new.arena; lists = heads_of new.arena; report = None; transfers = c.drop_arrived.new.pending.capacities }))
    (report C c.args.self.now.holdings s l) c.done_from.result in
    subst P (looked_up old.report old.prepared s ts (ap (λ (S : Seen). S.reserved.report) c.self.view_is ∙ seen)).1
    (changed_seen C C old.blocks new old.pending.map c.drop_arrived.new.pending.map (subst (λ a. IsLawful a) c.arena.ensures c.show_invariant-2.ensures) c.show_invariant.ensures (subst (λ a. IsLawful a) c.arena-3.ensures c.show_invariant-3.ensures)
    (λ h. c.drop_unused.ensures.levels C (made.levels h)) old.part old.round old.pend _ _ (λ H. report C H s (reported_blocks old.report)) _ c.args.self.now c.self.view_is
    (λ i. record { blocks = (c.drop_unused.ensures.blocks ∙ made.blocks) i; replicas = replicas i; pending = arrived i })
    (λ i. record {
      added = (c.done_from.ensures.0 ∙ made.added ∙ ap (λ m. new_replicas (replicas_of old.blocks.arena) m) made.replicas) i;
      removed = (c.done_from.ensures.1 ∙ made.removed ∙ ap (λ m. new_replicas m (replicas_of old.blocks.arena)) made.replicas) i;
    }))

none : (c : goal.After-done_from) → levels.HasNoUnused c.drop_unused.new.self.arena
none c =
    let a = c.self.inside.blocks.arena in
    let m = c.apply_report-applied.new.self.arena in
    let made = c.apply_report-applied.ensures in
    let P : List ℕ → Type 0 = λ l. levels.HasNoUnusedAt l m c.drop_unused.new.self.arena in
    none_reported c.args.topology.now.cluster (holdings_of a) c.args.storage c.self.inside.report.named a m c.drop_unused.new.self.arena c.apply_report-applied.new.report.changed c.apply_report-applied.new.report.came
    (subst (λ x. IsLawful x) c.arena.ensures c.show_invariant-2.ensures) made.entries.ids made.changed made.came made.replicas
    (λ n h. prepared_report c.self.inside.prepared c.self.inside.report c.args.storage n (looked_up c.self.inside.report c.self.inside.prepared c.args.storage c.requires.ready.0 (ap (λ (S : Seen). S.reserved.report) c.self.view_is ∙ c.requires.ready.1)).0 (c.self.invariant.unused n h)) c.drop_unused.ensures.unused (subst P c.swept_slots.ensures c.drop_unused.ensures.left)

pub invariant_of-self : goal.invariant_of-self
invariant_of-self c = record { index = c.self.invariant.index; ready = tt; unused = λ b h. absurd (none c b h) }

pub returns-clause-unused : goal.returns-clause-unused
returns-clause-unused c = none_outside c.drop_unused.new.self c.drop_arrived.new.pending.map c.self.inside.part c.self.inside.round c.self.inside.pend _ _ (none c)
