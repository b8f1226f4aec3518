use Rattle.std.proofs.Common.{◌≡◌, Some, drop, map}
use Rattle.std.specs.Option.{IfSome}
use Rattle.bm_base.specs.Words.{get, insert_all, keys, node_number}
use Rattle.bm_place.specs.Tables.{listed}
use Rattle.bm_place.specs.Sources.{sender_table}
use Rattle.bm_place.proofs.streams.Streams.new.Given as goal

-- with the nodes of the storages that are left the table is whole
abbrev pub invariant-loop-index : goal.invariant-loop-index
invariant-loop-index l =
    let C = l.topology.cluster in
    record {
      last : IfSome l.last (λ n. get l.counts.map n ≡ Some 0);
      counts : insert_all l.counts.map (listed (λ _. 0) (map (node_number C) (drop l.index (keys C.storages)))) ≡ (sender_table C (λ _. 0)).counts;
    }
