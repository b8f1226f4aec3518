use Rattle.std.proofs.Common.{subst, sym, ap, ◌∙◌}
use Rattle.bm_base.specs.Words.{replica_at, enter, entered_marks, entered_tag, was_bad, was_excess, done, new_replicas}
use Rattle.bm_arena.specs.Contents.{IsLawful}
use Rattle.bm_arena.specs.HeldMaps.{replicas_of, holdings_of}
use Rattle.bm_report.specs.DuringReport.{IsOncePerNode}
use Rattle.bm_levels.specs.SlotHoldings.{holdings_with}
use Rattle.bm_shard.specs.ShardView.{Seen}
use Rattle.bm_shard.proofs.ChangedBlocks.{changed_seen}
use Rattle.bm_shard.specs.declared.shard.PreparedEvent.{PreparedEvent}
use Rattle.bm_shard.specs.Inside.{HasPrepared}
use Rattle.bm_shard.proofs.LookUps.{noticed}
use Rattle.bm_levels.specs.UnusedEntries.{HasNoUnused}
use Rattle.bm_shard.proofs.UnusedEntries.{none_outside, none_received, prepared_one}
use Rattle.bm_shard.proofs.shard.Shard.receive.Goals as goal

pub receive-applied-requires-clause-looked_up : goal.receive-applied-requires-clause-looked_up
receive-applied-requires-clause-looked_up c =
    let P : PreparedEvent → Type 0 = λ p. HasPrepared p c.self.inside.report c.self.inside.blocks.arena in
    subst P (noticed c.self.inside.report c.self.inside.prepared c.args.storage _ (ap (λ (S : Seen). S.reserved.report) c.self.view_is ∙ c.requires.ready)).0 c.self.invariant.ready

pub receive-applied-requires-clause-once : goal.receive-applied-requires-clause-once
unfolding holdings_with
receive-applied-requires-clause-once c =
    let P : Seen → Type 0 = λ S. IsOncePerNode c.args.topology.now.cluster S.holdings.replicas in
    subst P (sym c.self.view_is) c.requires.placed.once

pub returns-clause-changed : goal.returns-clause-changed
unfolding holdings_with holdings_of enter entered_marks entered_tag was_bad was_excess done
returns-clause-changed c =
    let C = c.args.topology.now.cluster in
    let old = c.self.inside in
    let received = c.receive-applied.ensures.received in
    changed_seen C C old.blocks c.receive-applied.new.self old.pending.map c.remove.new.self.map (subst (λ a. IsLawful a) c.arena.ensures c.show_invariant-2.ensures) c.show_invariant.ensures (subst (λ a. IsLawful a) c.arena-2.ensures c.show_invariant-3.ensures)
    c.receive-applied.ensures.levels old.part old.round old.pend _ _ (λ H. enter C H (replica_at c.args.id c.args.storage) c.args.stamp) _ c.args.self.now c.self.view_is
    (λ i. record { blocks = received.blocks i; replicas = received.replicas i; pending = c.remove.ensures.map i })
    (λ i. record {
      added = (c.done_from.ensures.0 ∙ received.added ∙ ap (λ m. new_replicas (replicas_of old.blocks.arena) m) received.replicas) i;
      removed = (c.done_from.ensures.1 ∙ received.removed ∙ ap (λ m. new_replicas m (replicas_of old.blocks.arena)) received.replicas) i;
    })

none : (c : goal.After-done_from) → HasNoUnused c.receive-applied.new.self.arena
none c =
    let notice = noticed c.self.inside.report c.self.inside.prepared c.args.storage _ (ap (λ (S : Seen). S.reserved.report) c.self.view_is ∙ c.requires.ready) in
    none_received c.args.topology.now.cluster (holdings_of c.self.inside.blocks.arena) c.self.inside.blocks.arena c.receive-applied.new.self.arena c.args.storage c.args.id c.args.stamp (subst (λ a. IsLawful a) c.arena.ensures c.show_invariant-2.ensures) c.receive-applied.ensures.received.entries.ids c.receive-applied.ensures.received.others c.receive-applied.ensures.received.replicas (λ n h. prepared_one c.self.inside.prepared c.self.inside.report c.args.storage c.args.id c.args.stamp n notice.0 notice.1 (c.self.invariant.unused n h))

pub invariant_of-self : goal.invariant_of-self
invariant_of-self c = record { index = c.self.invariant.index; ready = tt; unused = λ b h. absurd (none c b h) }

pub returns-clause-unused : goal.returns-clause-unused
returns-clause-unused c = none_outside c.receive-applied.new.self c.remove.new.self.map c.self.inside.part c.self.inside.round c.self.inside.pend _ _ (none c)
