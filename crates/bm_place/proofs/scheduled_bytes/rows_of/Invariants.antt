use Rattle.std.proofs.Common.{◌≡◌, drop}
use Rattle.bm_base.specs.Maps.Map.{insert_all, keys}
use Rattle.bm_place.specs.Tables.{listed}
use Rattle.bm_place.specs.Targets.{target_at, target_table}
use Rattle.bm_place.proofs.scheduled_bytes.rows_of.Given as goal

-- the table so far and the rows of the rest are the whole table
abbrev pub invariant-loop-index : goal.invariant-loop-index
invariant-loop-index l =
    let C = l.topology.cluster in
    insert_all l.rows.map (listed (target_at C (λ _. 0)) (drop l.index (keys C.storages))) ≡ target_table C (λ _. 0)
