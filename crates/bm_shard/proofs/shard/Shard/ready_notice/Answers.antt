use Rattle.std.proofs.Common.{subst}
use Rattle.bm_arena.specs.Contents.{IsLawful}
use Rattle.bm_shard.proofs.SameHoldings.{same_seen}
use Rattle.bm_levels.specs.UnusedEntries.{HasNoUnused}
use Rattle.bm_shard.proofs.UnusedEntries.{unused_inside, none_inside, none_outside, none_more, none_prepared, named_alone, on_err, only_these}
use Rattle.std.specs.Prelude.{nat_eq}
use Rattle.bm_shard.proofs.shard.Shard.ready_notice.Goals as goal

pub returns-in_err-made-clause-same : goal.returns-in_err-made-clause-same
returns-in_err-made-clause-same c =
    same_seen c.self.inside.blocks c.ready_notice-made.new.self c.self.inside.pending.map (subst (λ a. IsLawful a) c.arena.ensures c.show_invariant-2.ensures) c.show_invariant.ensures (subst (λ a. IsLawful a) c.arena-2.ensures c.show_invariant-4.ensures)
    (record { blocks = c.ready_notice-made.ensures.blocks; replicas = c.ready_notice-made.ensures.replicas; levels = c.ready_notice-made.ensures.levels }) c.self.inside.part c.self.inside.round c.self.inside.pend _ _ c.args.self.now c.self.view_is

pub returns-clause-same : goal.returns-clause-same
returns-clause-same c =
    same_seen c.self.inside.blocks c.ready_notice-made.new.self c.self.inside.pending.map (subst (λ a. IsLawful a) c.arena.ensures c.show_invariant-2.ensures) c.show_invariant.ensures (subst (λ a. IsLawful a) c.arena-2.ensures c.show_invariant-4.ensures)
    (record { blocks = c.ready_notice-made.ensures.blocks; replicas = c.ready_notice-made.ensures.replicas; levels = c.ready_notice-made.ensures.levels }) c.self.inside.part c.self.inside.round c.self.inside.pend _ _ c.args.self.now c.self.view_is

pub invariant_of-self : goal.invariant_of-self
invariant_of-self c =
    let none : HasNoUnused c.ready_notice-made.new.self.arena = none_more c.self.inside.blocks.arena c.ready_notice-made.new.self.arena (none_inside c.self.inside.blocks c.self.inside.pending.map c.self.inside.part c.self.inside.round c.self.inside.pend _ _ c.args.self.now c.self.view_is c.requires.none) c.in_err-made.ensures.given_up in
    record { index = c.self.invariant.index; ready = tt; unused = λ b h. absurd (none b h) }

pub returns-in_err-made-clause-unused : goal.returns-in_err-made-clause-unused
returns-in_err-made-clause-unused c = none_prepared _ (λ b. nat_eq c.args.id b) (none_outside c.ready_notice-made.new.self c.self.inside.pending.map c.self.inside.part c.self.inside.round c.self.inside.pend _ _ (none_more c.self.inside.blocks.arena c.ready_notice-made.new.self.arena (none_inside c.self.inside.blocks c.self.inside.pending.map c.self.inside.part c.self.inside.round c.self.inside.pend _ _ c.args.self.now c.self.view_is c.requires.none) c.in_err-made.ensures.given_up))

pub returns-in_err-made-clause-given_up : goal.returns-in_err-made-clause-given_up
returns-in_err-made-clause-given_up c = on_err c.from_residual.result (none_outside c.ready_notice-made.new.self c.self.inside.pending.map c.self.inside.part c.self.inside.round c.self.inside.pend _ _ (none_more c.self.inside.blocks.arena c.ready_notice-made.new.self.arena (none_inside c.self.inside.blocks c.self.inside.pending.map c.self.inside.part c.self.inside.round c.self.inside.pend _ _ c.args.self.now c.self.view_is c.requires.none) c.in_err-made.ensures.given_up))

pub returns-clause-unused : goal.returns-clause-unused
returns-clause-unused c b unused = only_these c.self.inside.blocks.arena c.ready_notice-made.new.self.arena (λ b. nat_eq c.args.id b) (none_inside c.self.inside.blocks c.self.inside.pending.map c.self.inside.part c.self.inside.round c.self.inside.pend _ _ c.args.self.now c.self.view_is c.requires.none) (c.ready_notice-made.ensures.unused) b (unused_inside c.ready_notice-made.new.self c.self.inside.pending.map c.self.inside.part c.self.inside.round c.self.inside.pend _ _ b unused)

pub invariant_of-self-2 : goal.invariant_of-self-2
invariant_of-self-2 c =
    let reported_is = c.in_ok-made.ensures.reported in
    record {
      index = c.self.invariant.index;
      ready = c.in_ok-made.ensures.looked_up;
      unused = λ b h. named_alone c.ready_notice-made.new.report c.args.id c.args.stamp b reported_is (only_these c.self.inside.blocks.arena c.ready_notice-made.new.self.arena (λ b. nat_eq c.args.id b) (none_inside c.self.inside.blocks c.self.inside.pending.map c.self.inside.part c.self.inside.round c.self.inside.pend _ _ c.args.self.now c.self.view_is c.requires.none) (c.ready_notice-made.ensures.unused) b h);
    }
