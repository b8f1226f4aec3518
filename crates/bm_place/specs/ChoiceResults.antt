-- The results of the choices of a round.
use Rattle.std.specs.Prelude.{◌≡◌, ◌<◌, ◌≤◌, ◌+◌, ℕ, true, false, nat_lt, List, Option, Some}
use Rattle.std.specs.Option.{IfSome}
use Rattle.bm_base.specs.declared.replica.Level.{Level}
use Rattle.bm_base.specs.declared.commands.Transfer.{Transfer}
use Rattle.bm_base.specs.Words.{Map, by_number, get, keys, revise_at, Cluster, has, node_of, has_storage, is_draining, remaining, least_source_by, source_cmp, stream_limit, least_target_by, target_cmp, is_target, scheduled_to}
use Rattle.bm_place.specs.declared.scheduled_bytes.TargetRow.{TargetRow}
use Rattle.bm_place.specs.Least.{IsLeastOf}
use Rattle.bm_place.specs.Tables.{count_at}
use Rattle.bm_place.specs.Sources.{Senders, sender_table, transfers_by, streams_by, max_transfers, TakesDrained}
use Rattle.bm_place.specs.Targets.{target_table, LeavesRack}

-- the source that was found among these storages, where `sends` has the number of transfers of each
-- node
pub record IsLeastSource (C : Cluster) (sends : ℕ → ℕ) (urgency : Level) (usable : List ℕ) (found : Option ℕ) : Type 0 where
  -- the one that the definition chooses
  pub choice : found ≡ least_source_by C (streams_by C sends) urgency usable
  -- it may send, and none that may comes before it
  pub least : IsLeastOf (source_cmp C (streams_by C sends)) (λ s. nat_lt (streams_by C sends s) (stream_limit urgency (is_draining C s))) usable found
  pub drained_first : TakesDrained C (streams_by C sends) usable found

-- the target that was found among the storages of a cluster, where `sent` has the bytes scheduled
-- to each
pub record IsLeastTarget (C : Cluster) (sent : ℕ → ℕ) (urgency : Level) (holders excluded : List ℕ) (len : ℕ) (found : Option ℕ) : Type 0 where
  -- the one that the definition chooses
  pub choice : found ≡ least_target_by C sent (record { urgency = urgency; holders = holders; excluded = excluded; len = len })
  -- it is eligible, and no eligible one comes before it
  pub least : IsLeastOf (target_cmp C sent holders) (is_target C sent (record { urgency = urgency; holders = holders; excluded = excluded; len = len })) (keys C.storages) found
  pub enough_bytes : IfSome found (λ s. len + sent s ≤ remaining C s)
  pub not_excluded_node : IfSome found (λ s. (b n : ℕ) → has excluded b ≡ true → node_of C b ≡ Some n → has_storage C n s ≡ false)
  pub not_draining : IfSome found (λ s. is_draining C s ≡ false)
  pub other_rack : LeavesRack C sent urgency holders excluded len found

-- the table of sources for these chosen transfers
abbrev pub senders_with : Cluster → List Transfer → Senders
senders_with C chosen = sender_table C (transfers_by C chosen)

-- the table of targets for these chosen transfers
abbrev pub targets_with : Cluster → List Transfer → Map by_number TargetRow
targets_with C chosen = target_table C (scheduled_to chosen)

-- one more transfer from a storage can be counted, if it is known
abbrev pub IsCountable : Senders → ℕ → Type 0
IsCountable S s = IfSome (get S.nodes s) (λ n. count_at S.counts n < max_transfers)

-- n bytes more fit on a known storage
abbrev pub HasFreeBytesFor : Map by_number TargetRow → ℕ → ℕ → Type 0
HasFreeBytesFor rows len s = IfSome (get rows s) (λ t. len + t.scheduled ≤ t.remaining)

-- the source that was found with the help of a table of sources
pub record IsFoundSource (C : Cluster) (S : Senders) (sends : ℕ → ℕ) (urgency : Level) (usable : List ℕ) (found : Option ℕ) : Type 0 where
  pub source : IsLeastSource C sends urgency usable found
  -- one transfer more from it can be counted in the table
  pub countable : IfSome found (IsCountable S)

-- the target that was found with the help of a table of targets
pub record IsFoundTarget (C : Cluster) (rows : Map by_number TargetRow) (sent : ℕ → ℕ) (urgency : Level) (holders excluded : List ℕ) (len : ℕ) (found : Option ℕ)
    : Type 0 where
  pub target : IsLeastTarget C sent urgency holders excluded len found
  -- the length fits on it by the table
  pub fits : IfSome found (HasFreeBytesFor rows len)

-- n bytes more are scheduled to a storage
abbrev pub with_sent : Map by_number TargetRow → ℕ → ℕ → Map by_number TargetRow
with_sent rows s len = revise_at rows s (λ t. record t { scheduled = t.scheduled + len })
