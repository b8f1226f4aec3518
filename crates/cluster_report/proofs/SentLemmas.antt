-- In a lawful state, each copy that a round chooses has its source on an alive node.
use Rattle.std.proofs.Common.{◌≡◌, ℕ, ◌*◌, Bool, true, false, List, [], ◌∷◌, ◌++◌, Option, Some, filter, length, option_to_list, ap, sym, ◌∙◌}
use Rattle.std.specs.Prelude.{◌==◌, nat_lt, nat_le, option_map, option_and_then}
use Rattle.std.specs.Option.{option_map_or}
use Rattle.std.specs.List.{list_any}
use Rattle.bm_base.specs.declared.replica.Marks.{Marks}
use Rattle.bm_base.specs.declared.replica.ReplicaId.{ReplicaId}
use Rattle.bm_base.specs.declared.replica.BlockInfo.{BlockInfo}
use Rattle.bm_base.specs.declared.commands.Transfer.{Transfer}
use Rattle.bm_base.specs.Words.{Map, get, contains_key, keys, revise, len, RoundLimits, Cluster, Holdings, State, by_replica, replica_at, node_of, has_storage, is_draining, is_live_on, is_drained_on, live, drained, sources_of, storages_where, state_after_expiry, state_at_choice, with_surplus_marked, without_unordered_excess, without_expired, RequestedCopy, streams_from, stream_limit, source_cmp, least_source, least_source_by, least_target, holders_of, excluded_for, transfer_for, transfers_from, transfers, wishes}
use Rattle.bm_base.specs.Promises.Lawful.{IsLawful, IsLawfulCluster, IsLawfulHoldings}
use Rattle.bm_base.proofs.Options.{there, is_there, revised, chained}
use Rattle.bm_base.proofs.ForEach.{Each, each_then, each_appended, each_filtered, each_optional, least_is_one}
use Rattle.bm_base.proofs.ListTests.{same_again}
use Rattle.bm_base.proofs.Sets.{passing_some, has_keys}
use Rattle.bm_base.proofs.MapEntries.{known_revised}
use Rattle.bm_parts.proofs.ChosenCopies.{HasOne, each_storage, made, unless}

-- the storage is on an alive node
abbrev pub HasNode : Cluster → ℕ → Type 0
HasNode C s = list_any (λ n. has_storage C n s) (keys C.nodes) ≡ true

has_node : (C : Cluster) (s : ℕ) → IsLawfulCluster C → contains_key C.storages s ≡ true → HasNode C s
unfolding has_storage node_of
has_node C s L known =
    let i = there (get C.storages s) known in
    passing_some (λ n. has_storage C n s) (keys C.nodes) i.0.node (has_keys C.nodes i.0.node ∙ L.alive s i.0 i.1)
    (ap (λ o. option_map_or (λ m. m == i.0.node) (option_map (λ j. j.node) o) false) i.1 ∙ same_again i.0.node)

known_twice : (m : Map by_replica Marks) (f g : ReplicaId → Marks → Marks) (q : ReplicaId) → contains_key (revise (revise m f) g) q ≡ contains_key m q
known_twice m f g q = known_revised (revise m f) g q ∙ known_revised m f q

source_stored : (M : State) (p : ℕ → Marks → Bool) (b s : ℕ) → IsLawfulHoldings M.cluster M.holdings → HasOne p (state_at_choice M).holdings b s → contains_key M.cluster.storages s ≡ true
unfolding state_at_choice state_after_expiry with_surplus_marked without_unordered_excess without_expired
source_stored M p b s L one =
    L.stored (replica_at b s) (sym (known_twice M.holdings.replicas _ _ (replica_at b s)) ∙ is_there (get (state_at_choice M).holdings.replicas (replica_at b s)) one.0 one.1)

each_source : (M : State) → IsLawful M → (b : ℕ) → Each (HasNode M.cluster) (sources_of M.cluster (state_at_choice M).holdings b)
each_source M L b =
    each_appended (HasNode M.cluster) (live M.cluster (state_at_choice M).holdings b) (drained M.cluster (state_at_choice M).holdings b) (from (is_live_on M.cluster)) (from (is_drained_on M.cluster))
  where
    from : (p : ℕ → Marks → Bool) → Each (HasNode M.cluster) (storages_where p (state_at_choice M).holdings b)
    from p =
        each_then (HasOne p (state_at_choice M).holdings b) (HasNode M.cluster) (storages_where p (state_at_choice M).holdings b) (each_storage p (state_at_choice M).holdings b)
        (λ s one. has_node M.cluster s L.cluster (source_stored M p b s L.holdings one))

source_made : (b : ℕ) (found : Option BlockInfo) (source : Option ℕ) (target : BlockInfo → Option ℕ) (t : Transfer)
    → option_and_then (λ i. option_and_then (λ s. option_map (made b i s) (target i)) source) found ≡ Some t → source ≡ Some t.source
source_made b found source target t e =
    let i = chained (λ i. option_and_then (λ s. option_map (made b i s) (target i)) source) found t e in
    let s = chained (λ s. option_map (made b i.0 s) (target i.0)) source t i.2 in
    let u = revised (made b i.0 s.0) (target i.0) t s.2 in
    s.1 ∙ ap (λ (x : Transfer). Some x.source) u.2

source_passes : (P : ℕ → Type 0) (C : Cluster) (chosen : List Transfer) (w : RequestedCopy) (usable : List ℕ) (s : ℕ) → Each P usable → least_source C chosen w.urgency usable ≡ Some s → P s
unfolding least_source least_source_by
source_passes P C chosen w usable s each e =
    least_is_one P (source_cmp C (streams_from C chosen)) (filter (λ x. nat_lt (streams_from C chosen x) (stream_limit w.urgency (is_draining C x))) usable)
    (each_filtered P (λ x. nat_lt (streams_from C chosen x) (stream_limit w.urgency (is_draining C x))) usable each) s e

module _ (P : ℕ → Type 0) (limits : RoundLimits) (C : Cluster) (H : Holdings) (each : (b : ℕ) → Each P (sources_of C H b)) where
  transfer_source : (chosen : List Transfer) (w : RequestedCopy) (t : Transfer) → transfer_for limits C H chosen w ≡ Some t → P t.source
  unfolding transfer_for
  transfer_source chosen w t e =
      source_passes P C chosen w (sources_of C H w.block) t.source (each w.block)
      (source_made w.block (get H.blocks w.block) (least_source C chosen w.urgency (sources_of C H w.block)) (λ i. least_target C chosen (record { urgency = w.urgency; holders = holders_of C H chosen w.block; excluded = excluded_for H chosen w.block; len = i.stamp.len })) t
      (unless (nat_le (limits.work * len C.nodes) (length chosen)) _ t e))

  sources_from : (chosen : List Transfer) (ws : List RequestedCopy) → Each (λ t. P t.source) chosen → Each (λ t. P t.source) (transfers_from limits C H chosen ws)
  sources_from chosen [] h = h
  sources_from chosen (w ∷ ws) h =
      sources_from (chosen ++ option_to_list (transfer_for limits C H chosen w)) ws
      (each_appended (λ t. P t.source) chosen (option_to_list (transfer_for limits C H chosen w)) h (each_optional (λ t. P t.source) (transfer_for limits C H chosen w) (transfer_source chosen w)))

pub each_sent : (M : State) → IsLawful M → Each (λ t. HasNode M.cluster t.source) (transfers M.limits M.cluster (state_at_choice M).holdings)
unfolding transfers
each_sent M L = sources_from (HasNode M.cluster) M.limits M.cluster (state_at_choice M).holdings (each_source M L) [] (wishes M.cluster (state_at_choice M).holdings) tt
