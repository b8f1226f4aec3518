use Rattle.std.proofs.Common.{ap, sym, ◌∙◌, arith}
use Rattle.bm_base.specs.Maps.Map.{keys, insert_all}
use Rattle.bm_place.specs.Tables.{table, listed}
use Rattle.bm_place.specs.Targets.{target_at, target_table}
use Rattle.bm_place.proofs.Tables.{row_made, made_past, none_behind}
use Rattle.bm_place.proofs.scheduled_bytes.rows_of.Goals as goal

pub loop-index-init : goal.loop-index-init
unfolding table
loop-index-init c = ap (λ m. insert_all m (listed (target_at c.args.topology.now.cluster (λ _. 0)) (keys c.args.topology.now.cluster.storages))) (c.reserve.ensures.same ∙ c.new-rows.ensures.empty)

pub loop-index-preserved : goal.loop-index-preserved
loop-index-preserved c =
    let C = c.args.topology.now.cluster in
    row_made (target_at C (λ _. 0)) (keys C.storages) c.loop-index.index (target_table C (λ _. 0)) c.loop-index.rows.map c.insert.new.self.map c.in-Some.storage c.from.result c.target_at.result
    (sym c.storage_at.ensures ∙ c.in-Some.is) (c.from.ensures ∙ c.storage.view_is) c.target_at.ensures c.in_ok-insert.ensures.ok c.loop-index.invariant

pub returns-in_default : goal.returns-in_default
returns-in_default c =
    let C = c.args.topology.now.cluster in
    made_past (target_at C (λ _. 0)) (keys C.storages) c.loop-index.index (target_table C (λ _. 0)) c.loop-index.rows.map (sym c.storage_at.ensures ∙ c.in_default.is) c.loop-index.invariant

pub returns : goal.returns
returns c =
    let C = c.args.topology.now.cluster in
    let past = none_behind C.storages c.loop-index.index (omega (arith, c.loop-index-test.false, c.storage_count-index-end.ensures.count)) in
    made_past (target_at C (λ _. 0)) (keys C.storages) c.loop-index.index (target_table C (λ _. 0)) c.loop-index.rows.map past c.loop-index.invariant
