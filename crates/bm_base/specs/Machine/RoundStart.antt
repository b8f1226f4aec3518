-- A round's start: expired transfers leave, and surplus live replicas are marked. Source: Hadoop
-- 2's PendingReplicationBlocks (time-outs) and BlockManager.chooseExcessReplicates; the order of
-- choice is this project's own.
use Rattle.std.specs.Prelude.{ℕ, zero, suc, ◌+◌, ◌-◌, Bool, true, false, not, if◌then◌else◌, ◌==◌, nat_lt, nat_le, List, [], ◌∷◌, filter, length, count_by}
use Rattle.std.specs.declared.cmp.Ordering.{Ordering}
use Rattle.std.specs.Ordering.{nat_cmp}
use Rattle.std.specs.Option.{option_map_or}
use Rattle.bm_base.specs.declared.replica.ReplicaId.{ReplicaId}
use Rattle.bm_base.specs.declared.replica.Marks.{Marks}
use Rattle.bm_base.specs.Maps.Map.{get, keep, revise}
use Rattle.bm_base.specs.Machine.State.{Cluster, Holdings, State}
use Rattle.bm_base.specs.Maps.Lists.{has, least, ◌if_equal◌}
use Rattle.bm_base.specs.Machine.Replicas.{live, remaining, share_rack}

-- whether round t was `pend` rounds before round r, or earlier
abbrev pub is_expired : ℕ → ℕ → ℕ → Bool
is_expired pend r t = nat_le pend (r - t)

-- drops the transfers that are expired as round r begins
unfoldable pub without_expired : ℕ → ℕ → Holdings → Holdings
without_expired pend r H = record H { pending = keep H.pending (λ _ t. not (is_expired pend r t)) }

-- a replica in excess counts again if its delete was not ordered
abbrev pub with_excess_reset : Marks → Marks
with_excess_reset m = if m.ordered then m else record m { excess = false }

unfoldable pub without_unordered_excess : Holdings → Holdings
without_unordered_excess H = record H { replicas = revise H.replicas (λ _ m. with_excess_reset m) }

-- whether the rack of s holds two or more of the candidates, of which s is one
unfoldable pub has_rack_mate : Cluster → List ℕ → ℕ → Bool
has_rack_mate C candidates s = nat_lt 1 (count_by (share_rack C s) candidates)

-- 0 if a test passes, else 1, so that what passes comes first
abbrev pub rank_if : Bool → ℕ
rank_if b = if b then 0 else 1

-- The order of excess: first a candidate whose rack holds another one, then one with fewer
-- remaining bytes, then the greater number.
unfoldable pub excess_cmp : Cluster → List ℕ → ℕ → ℕ → Ordering
excess_cmp C candidates s t =
    nat_cmp (rank_if (has_rack_mate C candidates s)) (rank_if (has_rack_mate C candidates t))
    if_equal nat_cmp (remaining C s) (remaining C t)
    if_equal nat_cmp t s

-- n of the candidates, one after another, each the least of the remaining ones
abbrev pub excess_among : Cluster → ℕ → List ℕ → List ℕ
excess_among C zero candidates = []
excess_among C (suc k) candidates =
    option_map_or (λ x. x ∷ excess_among C k (filter (λ s. not (s == x)) candidates))
    (least (excess_cmp C candidates) candidates) []

-- the surplus of a block's live replicas, if `repl` are wanted
unfoldable pub excess_of : Cluster → List ℕ → ℕ → List ℕ
excess_of C live repl = excess_among C (length live - repl) live

-- the surplus of a known block; none of an unknown one
unfoldable pub excess_in : Cluster → Holdings → ℕ → List ℕ
excess_in C H b = option_map_or (λ i. excess_of C (live C H b) i.repl) (get H.blocks b) []

-- the marks of a replica, in excess if it is in its block's surplus
abbrev pub mark_if_surplus : Cluster → Holdings → ReplicaId → Marks → Marks
mark_if_surplus C H q m =
    if has (excess_in C H q.block) q.storage then record m { excess = true } else m

-- marks the surplus live replicas as excess
unfoldable pub with_surplus_marked : Cluster → Holdings → Holdings
with_surplus_marked C H = record H { replicas = revise H.replicas (mark_if_surplus C H) }

-- the state as its next round begins: the round number is one greater, and expired transfers have
-- left
unfoldable pub state_after_expiry : State → State
state_after_expiry M =
    let r = M.round + 1 in
    record M { round = r; holdings = without_expired M.limits.pend r M.holdings }

-- as `state_after_expiry`, with the replicas in excess marked again from scratch
unfoldable pub state_at_choice : State → State
state_at_choice M =
    let N = state_after_expiry M in
    record N { holdings = with_surplus_marked N.cluster (without_unordered_excess N.holdings) }
