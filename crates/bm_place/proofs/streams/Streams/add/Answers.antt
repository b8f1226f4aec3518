use Rattle.std.specs.Option.{IfSome}
use Rattle.std.proofs.Common.{◌<◌, ℕ, Option, subst, ap, sym, ◌∙◌}
use Rattle.bm_base.specs.Words.{get, keys, node_number}
use Rattle.bm_place.specs.Tables.{count_at, table}
use Rattle.bm_place.specs.Sources.{Senders, max_transfers, with_one_from}
use Rattle.bm_place.proofs.Tables.{node_table}
use Rattle.bm_place.proofs.TransferCounts.{one_counted, none_counted, senders-more, senders-chosen}
use Rattle.bm_place.proofs.streams.Streams.add.Goals as goal

pub add_one-requires : goal.add_one-requires
add_one-requires c =
    let few : Senders → Option ℕ → Type 0 = λ S o. IfSome o (λ n. count_at S.counts n < max_transfers) in
    let C = c.self.inside.topology.now.cluster in
    let S : Senders = record { nodes = table (node_number C) (keys C.storages); counts = c.self.inside.counts.map } in
    subst (few S) (node_table C c.args.source ∙ sym c.node_of.ensures ∙ c.in-Some.is) (subst (λ S. few S (get S.nodes c.args.source)) (sym c.self.view_is) c.requires.countable)

pub returns-in-Some-clause-after : goal.returns-in-Some-clause-after
returns-in-Some-clause-after c =
    let C = c.self.inside.topology.now.cluster in
    let S : Senders = record { nodes = table (node_number C) (keys C.storages); counts = c.self.inside.counts.map } in
    one_counted S c.args.source c.in-Some.node c.add_one.new.counts.map (node_table C c.args.source ∙ sym c.node_of.ensures ∙ c.in-Some.is) c.add_one.ensures ∙ ap (with_one_from c.args.source) c.self.view_is

pub returns-in-Some-clause-sends : goal.returns-in-Some-clause-sends
returns-in-Some-clause-sends c C sends made = returns-in-Some-clause-after c ∙ ap (with_one_from c.args.source) made ∙ senders-more C sends c.args.source

pub returns-in-Some-clause-of_transfers : goal.returns-in-Some-clause-of_transfers
returns-in-Some-clause-of_transfers c C chosen t from made =
    returns-in-Some-clause-after c ∙ (λ i. with_one_from (sym from i) (made i)) ∙ senders-chosen C chosen t

pub returns-in_default-clause-after : goal.returns-in_default-clause-after
returns-in_default-clause-after c =
    none_counted c.args.self.now c.args.source
    (ap (λ S. get S.nodes c.args.source) (sym c.self.view_is) ∙ node_table c.self.inside.topology.now.cluster c.args.source ∙ sym c.node_of.ensures ∙ c.in_default.is)

pub returns-in_default-clause-sends : goal.returns-in_default-clause-sends
returns-in_default-clause-sends c C sends made = returns-in_default-clause-after c ∙ ap (with_one_from c.args.source) made ∙ senders-more C sends c.args.source

pub returns-in_default-clause-of_transfers : goal.returns-in_default-clause-of_transfers
returns-in_default-clause-of_transfers c C chosen t from made =
    returns-in_default-clause-after c ∙ (λ i. with_one_from (sym from i) (made i)) ∙ senders-chosen C chosen t
