-- The storages of a cluster as sources of copies, by the nodes that send them.
use Rattle.std.specs.Prelude.{◌≡◌, ◌<◌, ℕ, ◌+◌, Bool, true, false, nat_lt, refl, List, map, count_by, Option}
use Rattle.std.specs.declared.cmp.Ordering.{Ordering}
use Rattle.std.specs.Ordering.{nat_cmp, ordering_then}
use Rattle.std.specs.Option.{option_map_or}
use Rattle.std.specs.Coded.{Coded, code_by, coded×, coded_ℕ}
use Rattle.bm_base.specs.declared.replica.Level.{Level}
use Rattle.bm_base.specs.declared.commands.Transfer.{Transfer}
use Rattle.bm_base.specs.Words.{Map, by_number, get, keys, revise_at, Cluster, has, node_of, has_storage, is_draining, node_number, rank_if, stream_limit}
use Rattle.bm_base.specs.Maps.MapCode.{code}
use Rattle.bm_place.specs.declared.source.SourceRow.{SourceRow}
use Rattle.bm_place.specs.Tables.{table}

-- the content of a table of sources
pub record Senders : Type 0 where
  -- by storage: its node
  pub nodes : Map by_number ℕ
  -- by node: of how many transfers it is the source
  pub counts : Map by_number ℕ

-- the most transfers of a round: 1,000 for each of 65,536 nodes
abbrev pub max_transfers : ℕ
max_transfers = 65536000

-- the table of a cluster, where `sends` has the number of transfers of each node
abbrev pub sender_table : Cluster → (ℕ → ℕ) → Senders
sender_table C sends = record { nodes = table (node_number C) (keys C.storages); counts = table sends (map (node_number C) (keys C.storages)) }

-- of how many of the chosen transfers a node is the source
unfoldable pub transfers_by : Cluster → List Transfer → ℕ → ℕ
transfers_by C chosen n = count_by (λ t. has_storage C n t.source) chosen

-- the number of transfers that the node of a storage sends, where `sends` has it for each node; 0
-- for an unknown storage
abbrev pub streams_by : Cluster → (ℕ → ℕ) → ℕ → ℕ
streams_by C sends s = option_map_or sends (node_of C s) 0

-- one transfer more from a storage
unfoldable pub with_one_from : ℕ → Senders → Senders
with_one_from s S = option_map_or (λ n. record S { counts = revise_at S.counts n (λ k. k + 1) }) (get S.nodes s) S

-- a storage as a source, where `streams` has the number of transfers that its node sends
abbrev pub source_at : Cluster → (ℕ → ℕ) → ℕ → SourceRow
source_at C streams s = record { is_drained = is_draining C s; streams = streams s; node = node_number C s; storage = s }

-- the order of sources: the same on rows as `source_cmp`
abbrev pub cmp_sources : SourceRow → SourceRow → Ordering
cmp_sources s t =
    ordering_then (nat_cmp (rank_if s.is_drained) (rank_if t.is_drained))
    (ordering_then (nat_cmp s.streams t.streams) (ordering_then (nat_cmp s.node t.node) (nat_cmp s.storage t.storage)))

-- whether its node may send one more transfer at a level: the same on rows as the test of
-- `least_source_by`
abbrev pub may_send : Level → SourceRow → Bool
may_send urgency s = nat_lt s.streams (stream_limit urgency s.is_drained)

-- if one of the storages is on a node that drains and sends fewer than four transfers, the result
-- is on a node that drains
abbrev pub TakesDrained : Cluster → (ℕ → ℕ) → List ℕ → Option ℕ → Type 0
TakesDrained C streams usable found =
    (s : ℕ) → has usable s ≡ true → is_draining C s ≡ true → streams s < 4 → option_map_or (is_draining C) found false ≡ true

abbrev pub coded_senders : Coded Senders
coded_senders =
    code_by (Map by_number ℕ × Map by_number ℕ) (coded× (code coded_ℕ coded_ℕ) (code coded_ℕ coded_ℕ))
    (λ S. (S.nodes, S.counts)) (λ t. record { nodes = t.0; counts = t.1 }) (λ _. refl)
