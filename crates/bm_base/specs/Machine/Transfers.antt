-- A round's transfers: which copies are wanted, and the source and the target of each. Source:
-- Hadoop 2's BlockManager.computeReplicationWork, chooseSourceDatanode and the block placement
-- policy; the orders of choice are this project's own.
use Rattle.std.specs.Prelude.{ℕ, ◌+◌, ◌-◌, ◌*◌, Bool, true, not, ◌&&◌, if◌then◌else◌, ◌==◌, nat_lt, nat_le, List, [], ◌∷◌, ◌++◌, map, filter, flat_map, length, replicate, sum_by, count_by, Option, Some, None, option_and_then, option_map, option_to_list, unwrap_or}
use Rattle.std.specs.declared.cmp.Ordering.{Ordering}
use Rattle.std.specs.Ordering.{nat_cmp}
use Rattle.std.specs.Option.{option_map_or}
use Rattle.std.specs.List.{list_any}
use Rattle.bm_base.specs.declared.replica.BlockInfo.{BlockInfo}
use Rattle.bm_base.specs.declared.replica.Level.{Level}
use Rattle.bm_base.specs.declared.replica.Level.TheVariants.{Highest, BadlyDistributed, NoUsableReplica}
use Rattle.bm_base.specs.declared.commands.Transfer.{Transfer}
use Rattle.bm_base.specs.Maps.Map.{get, keys, entries, len}
use Rattle.bm_base.specs.Machine.State.{RoundLimits, Cluster, Holdings}
use Rattle.bm_base.specs.Maps.Lists.{has, distinct, has_some, least, ◌if_equal◌}
use Rattle.bm_base.specs.Machine.Replicas.{live, sources_of, storages_where, node_of, rack_of, share_node, is_draining, racks, remaining}
use Rattle.bm_base.specs.Machine.Levels.{level, is_at, urgent_levels}
use Rattle.bm_base.specs.Machine.RoundStart.{rank_if}

-- Wishes.

-- one more copy of a block is wanted, at this level
pub record RequestedCopy : Type 0 where
  pub urgency : Level
  pub block : ℕ

-- the targets of the block's pending transfers, ascending
unfoldable pub pending_targets : Holdings → ℕ → List ℕ
pending_targets H b = map (λ e. e.0.storage) (filter (λ e. e.0.block == b) (entries H.pending))

-- The number of copies that a block at this level needs, by the number of wanted live replicas. A
-- badly distributed block needs one if none is pending. One without a usable replica needs none,
-- since there is nothing to copy. Any other needs `repl` less its live replicas and its pending
-- transfers.
abbrev pub requested_count : Cluster → Holdings → Level → ℕ → ℕ → ℕ
requested_count C H BadlyDistributed repl b = if length (pending_targets H b) == 0 then 1 else 0
requested_count C H NoUsableReplica repl b = 0
requested_count C H _ repl b = repl - (length (live C H b) + length (pending_targets H b))

-- the wishes for one block, if it is at this level
unfoldable pub wishes_for : Cluster → Holdings → Level → ℕ → List RequestedCopy
wishes_for C H urgency b =
    if is_at urgency (level C H b)
    then option_map_or
    (λ i.
    replicate (requested_count C H urgency i.repl b) (record { urgency = urgency; block = b }))
    (get H.blocks b) []
    else []

-- all wishes, by level and then by block
unfoldable pub wishes : Cluster → Holdings → List RequestedCopy
wishes C H = flat_map (λ urgency. flat_map (wishes_for C H urgency) (keys H.blocks)) urgent_levels

-- A source and a target for each wish. `chosen` is the list of the transfers that were chosen for
-- the earlier wishes.

-- of how many transfers the node of a storage is the source
unfoldable pub streams_from : Cluster → List Transfer → ℕ → ℕ
streams_from C chosen s = count_by (λ t. share_node C s t.source) chosen

-- the sum of the lengths that are sent to a storage
unfoldable pub scheduled_to : List Transfer → ℕ → ℕ
scheduled_to chosen s = sum_by (λ t. if t.target == s then t.stamp.len else 0) chosen

-- the free bytes of a storage: its remaining bytes less those scheduled to it; 0 if more is
-- scheduled than remains
unfoldable pub free_bytes : Cluster → (ℕ → ℕ) → ℕ → ℕ
free_bytes C sent s = remaining C s - sent s

-- The most transfers of which a node may be the source in one round. It is Hadoop's hard limit for
-- the most urgent blocks and for a node that drains, else the soft one.
abbrev pub stream_limit : Level → Bool → ℕ
stream_limit Highest is_drained = 4
stream_limit _ is_drained = if is_drained then 4 else 2

-- the node of a storage; 0 for an unknown storage
unfoldable pub node_number : Cluster → ℕ → ℕ
node_number C s = unwrap_or (node_of C s) 0

-- the order of sources: first one on a node that drains, then one whose node sends fewer, then the
-- lesser node, then the lesser storage
unfoldable pub source_cmp : Cluster → (ℕ → ℕ) → ℕ → ℕ → Ordering
source_cmp C streams s t =
    nat_cmp (rank_if (is_draining C s)) (rank_if (is_draining C t))
    if_equal nat_cmp (streams s) (streams t)
    if_equal nat_cmp (node_number C s) (node_number C t)
    if_equal nat_cmp s t

-- The source of a wish at this level, among the storages of the block's usable replicas: the least
-- whose node may send one more. `streams` has for each storage the number of transfers that its
-- node sends already.
unfoldable pub least_source_by : Cluster → (ℕ → ℕ) → Level → List ℕ → Option ℕ
least_source_by C streams urgency usable =
    least (source_cmp C streams)
    (filter (λ s. nat_lt (streams s) (stream_limit urgency (is_draining C s))) usable)

-- as `least_source_by`, by the transfers that were chosen
unfoldable pub least_source : Cluster → List Transfer → Level → List ℕ → Option ℕ
least_source C chosen urgency usable = least_source_by C (streams_from C chosen) urgency usable

unfoldable pub targets_of : List Transfer → ℕ → List ℕ
targets_of chosen b = map (λ t. t.target) (filter (λ t. t.block == b) chosen)

-- the storages that hold a live replica of the block or will hold one: those of its live replicas,
-- its pending transfers and its chosen targets
unfoldable pub holders_of : Cluster → Holdings → List Transfer → ℕ → List ℕ
holders_of C H chosen b = live C H b ++ pending_targets H b ++ targets_of chosen b

-- the storages whose nodes are excluded as targets of the block: those of its replicas of any tag,
-- its pending transfers and its chosen targets
unfoldable pub excluded_for : Holdings → List Transfer → ℕ → List ℕ
excluded_for H chosen b =
    storages_where (λ _ _. true) H b ++ pending_targets H b ++ targets_of chosen b

unfoldable pub is_on_racks : Cluster → List ℕ → ℕ → Bool
is_on_racks C rs s = has_some (rack_of C s) (has rs)

abbrev pub are_on_one_rack : Cluster → List ℕ → Bool
are_on_one_rack C ss = length (racks C ss) == 1

abbrev pub are_two_on_two_racks : Cluster → List ℕ → Bool
are_two_on_two_racks C ss = (length (distinct ss) == 2) && (length (racks C ss) == 2)

-- The class of a target for a block that these storages hold, 0 before 1. If they are on one rack,
-- another rack is better; if they are two storages on two racks, one of these racks is; else every
-- rack is as good.
unfoldable pub class_of : Cluster → List ℕ → ℕ → ℕ
class_of C holders s =
    if are_on_one_rack C holders then (if is_on_racks C (racks C holders) s then 1 else 0)
    else if are_two_on_two_racks C holders then rank_if (is_on_racks C (racks C holders) s)
    else 0

-- the order of targets: the better class, then more free bytes, then the lesser storage
unfoldable pub target_cmp : Cluster → (ℕ → ℕ) → List ℕ → ℕ → ℕ → Ordering
target_cmp C sent holders s t =
    nat_cmp (class_of C holders s) (class_of C holders t)
    if_equal nat_cmp (free_bytes C sent t) (free_bytes C sent s)
    if_equal nat_cmp s t

-- whether a storage is on the node of one of these
unfoldable pub is_excluded : Cluster → List ℕ → ℕ → Bool
is_excluded C excluded s = list_any (λ t. share_node C t s) excluded

-- what decides the target of a copy
pub record TargetRequest : Type 0 where
  -- the level of the copy
  pub urgency : Level
  -- the storages that hold a live replica of its block or will hold one
  pub holders : List ℕ
  -- the storages whose nodes are excluded
  pub excluded : List ℕ
  -- the length of its block
  pub len : ℕ

-- whether a block is badly distributed, all its holders are on one rack, and s is on that rack too
abbrev pub would_stay_on_one_rack : Cluster → TargetRequest → ℕ → Bool
would_stay_on_one_rack C r s =
    is_at BadlyDistributed (Some r.urgency)
    && are_on_one_rack C r.holders
    && (class_of C r.holders s == 1)

-- A storage may be the target if the length fits with what is scheduled to it, and its node neither
-- drains nor is excluded. A badly distributed block that is held on one rack must get to another
-- one. `sent` has for each storage the bytes that are scheduled to it.
unfoldable pub is_target : Cluster → (ℕ → ℕ) → TargetRequest → ℕ → Bool
is_target C sent r s =
    nat_le (r.len + sent s) (remaining C s)
    && not (is_draining C s)
    && not (is_excluded C r.excluded s)
    && not (would_stay_on_one_rack C r s)

-- the target of a requested copy
unfoldable pub least_target_by : Cluster → (ℕ → ℕ) → TargetRequest → Option ℕ
least_target_by C sent r =
    least (target_cmp C sent r.holders) (filter (is_target C sent r) (keys C.storages))

-- as `least_target_by`, by the transfers that were chosen
unfoldable pub least_target : Cluster → List Transfer → TargetRequest → Option ℕ
least_target C chosen r = least_target_by C (scheduled_to chosen) r

-- whether a round is full: it has the greatest number of transfers
abbrev pub has_all_transfers : RoundLimits → Cluster → List Transfer → Bool
has_all_transfers limits C chosen = nat_le (limits.work * len C.nodes) (length chosen)

-- the request for the target of a wish, whose block has this information
abbrev pub target_request :
    Cluster → Holdings → List Transfer → RequestedCopy → BlockInfo → TargetRequest
target_request C H chosen w i = record {
  urgency = w.urgency;
  holders = holders_of C H chosen w.block;
  excluded = excluded_for H chosen w.block;
  len = i.stamp.len;
}

-- the transfer for a wish from this source: none without a target
abbrev pub transfer_from :
    Cluster → Holdings → List Transfer → RequestedCopy → BlockInfo → ℕ → Option Transfer
transfer_from C H chosen w i s =
    option_map (λ t. record { block = w.block; stamp = i.stamp; source = s; target = t })
    (least_target C chosen (target_request C H chosen w i))

-- the transfer for a wish whose block is known: none without a source or a target
abbrev pub transfer_of :
    Cluster → Holdings → List Transfer → RequestedCopy → BlockInfo → Option Transfer
transfer_of C H chosen w i =
    option_and_then (transfer_from C H chosen w i)
    (least_source C chosen w.urgency (sources_of C H w.block))

-- the transfer for a wish: none either if the round is full
unfoldable pub transfer_for :
    RoundLimits → Cluster → Holdings → List Transfer → RequestedCopy → Option Transfer
transfer_for limits C H chosen w =
    if has_all_transfers limits C chosen then None
    else option_and_then (transfer_of C H chosen w) (get H.blocks w.block)

-- the transfers chosen wish by wish, appended to those of chosen
abbrev pub transfers_from :
    RoundLimits → Cluster → Holdings → List Transfer → List RequestedCopy → List Transfer
transfers_from limits C H chosen [] = chosen
transfers_from limits C H chosen (w ∷ ws) =
    transfers_from limits C H (chosen ++ option_to_list (transfer_for limits C H chosen w)) ws

-- all transfers of a round
unfoldable pub transfers : RoundLimits → Cluster → Holdings → List Transfer
transfers limits C H = transfers_from limits C H [] (wishes C H)
