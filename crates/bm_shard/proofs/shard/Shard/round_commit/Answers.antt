use Rattle.std.proofs.Common.{◌≡◌, ◌<◌, ◌+◌, ◌^◌, ap, subst, sym, ◌∙◌}
use Rattle.bm_base.specs.Machine.State.{Holdings}
use Rattle.bm_base.specs.RoundParts.{round_on_part}
use Rattle.bm_shard.specs.ShardView.{Seen}
use Rattle.bm_shard.specs.UpToDate.{next_part}
use Rattle.bm_shard.proofs.ChangedBlocks.{stays_up_to_date}
use Rattle.bm_shard.proofs.Reservations.{ready_still}
use Rattle.bm_shard.proofs.shard.Shard.round_commit.Goals as goal

pub take_round-requires : goal.take_round-requires
take_round-requires c =
    let C = c.args.topology.now.cluster in
    let same = c.abort.ensures.same in
    let P : Seen → Type 0 = λ S. c.args.part.now.excess ≡ (next_part C S).excess in
    let Q : Seen → Type 0 = λ S. S.round + 1 < 2 ^ 64 in
    record {
      up_to_date = stays_up_to_date C c.args.self.now c.abort.new.self c.requires.up_to_date same;
      part = subst P (sym same.rest) c.requires.part;
      ready = ready_still c.args.chosen.now c.args.self.now c.abort.new.self same c.abort.ensures.transfers c.requires.ready;
      counted = subst Q (sym same.rest) c.requires.counted;
      none = c.abort.ensures.unused;
    }

pub returns-clause-holdings : goal.returns-clause-holdings
returns-clause-holdings c =
    let left : Seen → Holdings = λ S. round_on_part c.args.topology.now.cluster S.pend (S.round + 1) S.holdings S.part.index S.part.shards c.args.chosen.now.transfers c.args.chosen.now.deletes in
    c.take_round.ensures.holdings ∙ ap left c.abort.ensures.same.rest

pub returns-clause-part : goal.returns-clause-part
returns-clause-part c = c.take_round.ensures.part ∙ ap (λ (S : Seen). S.part) c.abort.ensures.same.rest

pub returns-clause-rounds : goal.returns-clause-rounds
returns-clause-rounds c = (
  c.take_round.ensures.rounds.0 ∙ ap (λ (S : Seen). S.round + 1) c.abort.ensures.same.rest,
  c.take_round.ensures.rounds.1 ∙ ap (λ (S : Seen). S.pend) c.abort.ensures.same.rest,
)
