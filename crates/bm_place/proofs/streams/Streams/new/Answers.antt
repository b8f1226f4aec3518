use Rattle.std.proofs.Common.{refl, ap, sym, map, ◌∙◌, arith}
use Rattle.bm_base.specs.Words.{get, keys, insert_all, node_number}
use Rattle.bm_base.proofs.MapEntries.{get_here}
use Rattle.bm_place.specs.Tables.{table, listed}
use Rattle.bm_place.specs.Sources.{sender_table, transfers_by}
use Rattle.bm_place.proofs.Tables.{row_made_of, made_past_of, none_behind}
use Rattle.bm_place.proofs.streams.Streams.new.Goals as goal

pub loop-index-init : goal.loop-index-init
unfolding table
loop-index-init c =
    let C = c.args.topology.now.cluster in
    record { last = tt; counts = ap (λ m. insert_all m (listed (λ _. 0) (map (node_number C) (keys C.storages)))) c.new-counts.ensures.empty }

pub loop-index-preserved : goal.loop-index-preserved
loop-index-preserved c =
    let C = c.args.topology.now.cluster in
    let at = sym c.storage_at.ensures ∙ c.in-Some.is in
    record {
      counts = row_made_of (λ _. 0) (keys C.storages) c.loop-index.index (sender_table C (λ _. 0)).counts (node_number C) c.loop-index.counts.map c.enter.new.counts.map c.in-Some.storage c.node_number-node.result 0
          at c.node_number-node.ensures refl c.in_ok-enter.ensures c.loop-index.invariant.counts;
      last = ap (λ m. get m c.node_number-node.result) c.in_ok-enter.ensures ∙ get_here c.loop-index.counts.map c.node_number-node.result 0;
    }

pub returns-in_default-clause-none_yet : goal.returns-in_default-clause-none_yet
returns-in_default-clause-none_yet c =
    let C = c.args.topology.now.cluster in
    let past = sym c.storage_at.ensures ∙ c.in_default.is in
    λ i. record {
      nodes = (sender_table C (λ _. 0)).nodes;
      counts = made_past_of (λ _. 0) (keys C.storages) c.loop-index.index (sender_table C (λ _. 0)).counts (node_number C) c.loop-index.counts.map past c.loop-index.invariant.counts i;
    }

pub returns-in_default-clause-of_transfers : goal.returns-in_default-clause-of_transfers
unfolding transfers_by
returns-in_default-clause-of_transfers c = returns-in_default-clause-none_yet c

pub returns-clause-none_yet : goal.returns-clause-none_yet
returns-clause-none_yet c =
    let C = c.args.topology.now.cluster in
    let past = none_behind C.storages c.loop-index.index (omega (arith, c.loop-index-test.false, c.storage_count-index-end.ensures.count)) in
    λ i. record {
      nodes = (sender_table C (λ _. 0)).nodes;
      counts = made_past_of (λ _. 0) (keys C.storages) c.loop-index.index (sender_table C (λ _. 0)).counts (node_number C) c.loop-index.counts.map past c.loop-index.invariant.counts i;
    }

pub returns-clause-of_transfers : goal.returns-clause-of_transfers
unfolding transfers_by
returns-clause-of_transfers c = returns-clause-none_yet c
