-- A round copies from draining nodes first, never to them, and keeps their usable replicas.
use Rattle.std.specs.Prelude.{◌≡◌, ℕ, ◌≤◌, ◌⊎◌, Bool, true, false, ◌&&◌, ◌==◌, nat_lt, if◌then◌else◌, List, ◌∷◌, ◌++◌, map, filter, length, count_by, Some}
use Rattle.std.specs.Option.{option_map_or}
use Rattle.std.specs.Ordering.{nat_cmp, ordering_then}
use Rattle.std.proofs.Common.{refl, sym, ap, subst, ◌∙◌, arith, inl, inr}
use Rattle.std.proofs.lemmas.Bool.{ltb-false, false≢true, true≢false, or_right}
use Rattle.std.proofs.lemmas.List.Sums.{length-filter}
use Rattle.std.proofs.lemmas.List.{length-append}
use Rattle.bm_base.specs.declared.replica.Level.{Level}
use Rattle.bm_base.specs.declared.replica.Level.TheVariants.{Highest, VeryUnderReplicated, UnderReplicated, BadlyDistributed, NoUsableReplica}
use Rattle.bm_base.specs.declared.replica.ReplicaId.{ReplicaId}
use Rattle.bm_base.specs.declared.replica.Marks.{Marks}
use Rattle.bm_base.specs.declared.commands.Transfer.{Transfer}
use Rattle.bm_base.specs.declared.commands.Delete.{Delete}
use Rattle.bm_base.specs.Words.{get, entries, Cluster, Holdings, State, replica_at, has, live, drained, sources_of, is_usable, is_drained_on, is_draining, drains, has_storage, node_of, storages_where, state_after_expiry, state_at_choice, with_surplus_marked, excess_in, end_round, is_commanded, whole_round, stream_limit, streams_from, node_number, rank_if, source_cmp, least_source_by, least_source}
use Rattle.bm_base.specs.Promises.NextRound.{IsTransferCommanded, transfers_chosen, unmarked, drained_unmarked, drained_marked, drained_after}
use Rattle.bm_base.proofs.ListTests.{has_filter, and_first, filter_append}
use Rattle.bm_base.proofs.Membership.{revised_where, has_where}
use Rattle.laws_of_rounds.proofs.UsableReplicas.{sources_are}
use Rattle.laws_of_states.proofs.LiveReplicas.{drained_is}
use Rattle.laws_of_rounds.proofs.MarkedRacks.{least_below}
use Rattle.laws_of_states.proofs.RoundCommands.{IsTested, deleted_is}
use Rattle.laws_of_states.proofs.MarkedReplicas.{marked_in, ordered_by, ordered_usable, unordered_dropped}
use Rattle.laws_of_states.proofs.LiveAfterRound.{surplus_of, marks_before, deleted_marks, live_is_kept, weaker_kind}
use Rattle.laws_of_rounds.proofs.DeleteReasons.{surplus_live, live_before_is}
use Rattle.laws_of_rounds.proofs.TransferLaws.{chosen_at, four_at_most, storage_is, streams_of_node, fresh_node}
use Rattle.laws_of_rounds.proofs.NextRounds.{commanded_chosen}

-- Marks.

-- a replica that is chosen as surplus is not on a node that drains
surplus_stays_off : (M : State) (b s : ℕ) → has (surplus_of M b) s ≡ true → is_draining M.cluster s ≡ false
surplus_stays_off M b s h = ((live_before_is M b s).0 (surplus_live M b s h)).4

dropped_both : (o : Bool) (m : Marks) → m.ordered ≡ o → (if o then m else record m { excess = false }).excess ≡ true → (m.excess ≡ true) × (m.ordered ≡ true)
dropped_both true m is e = (e, is)
dropped_both false m is e = absurd (false≢true e)

pub none_marked : (M : State) (q : ReplicaId) (n : Marks) → is_draining M.cluster q.storage ≡ true → get (state_at_choice M).holdings.replicas q ≡ Some n → n.excess ≡ true
    → (m : Marks) × (get M.holdings.replicas q ≡ Some m) × (m.excess ≡ true) × (m.ordered ≡ true)
none_marked M q n drains found excess =
    let was = marks_before M q n found in
    let both = by_choice (has (surplus_of M q.block) q.storage) refl was.0 (ap (λ x. x.excess) was.2 ∙ excess) in
    (was.0, was.1, both.0, both.1)
  where
    by_choice : (c : Bool) → has (surplus_of M q.block) q.storage ≡ c → (m : Marks) → (if c then record (unordered_dropped m) { excess = true } else unordered_dropped m).excess ≡ true
        → (m.excess ≡ true) × (m.ordered ≡ true)
    by_choice true h m e = absurd (true≢false (sym drains ∙ surplus_stays_off M q.block q.storage h))
    by_choice false h m e = dropped_both m.ordered m refl e

-- Drained replicas stay drained.

unmoved : (chosen : Bool) (d : Bool) (m : Marks) → (chosen ≡ true → d ≡ false) → (is_usable (if chosen then record m { excess = true } else m) && d) ≡ (is_usable m && d)
unmoved false d m off = refl
unmoved true d m off = both_false (is_usable (record m { excess = true })) (is_usable m) d (off refl)
  where
    both_false : (u v e : Bool) → e ≡ false → (u && e) ≡ (v && e)
    both_false true true e is = refl
    both_false true false e is = is
    both_false false true e is = sym is
    both_false false false e is = refl

drained_marking : (C : Cluster) (H : Holdings) (b : ℕ) → ((k s : ℕ) → has (excess_in C H k) s ≡ true → is_draining C s ≡ false) → drained C (with_surplus_marked C H) b ≡ drained C H b
unfolding storages_where with_surplus_marked
drained_marking C H b off =
    revised_where (is_drained_on C) H b (λ q m. marked_in (excess_in C H q.block) q.storage m)
    ∙ ap (λ (p : ReplicaId × Marks → Bool). map (λ (e : ReplicaId × Marks). e.0.storage) (filter p (entries H.replicas)))
    (λ i e. (e.0.block == b) && unmoved (has (excess_in C H e.0.block) e.0.storage) (is_draining C e.0.storage) e.1 (off e.0.block e.0.storage) i)

drained_finished : (C : Cluster) (r : ℕ) (H : Holdings) (ts : List Transfer) (ds : List Delete) (b : ℕ) → drained C (end_round r H ts ds) b ≡ drained C H b
unfolding storages_where end_round
drained_finished C r H ts ds b =
    revised_where (is_drained_on C) H b (λ q m. ordered_by ds q m)
    ∙ ap (λ (p : ReplicaId × Marks → Bool). map (λ (e : ReplicaId × Marks). e.0.storage) (filter p (entries H.replicas)))
    (λ i e. (e.0.block == b) && (ordered_usable (is_commanded ds e.0) e.1 i && is_draining C e.0.storage))

drained_as_marked : (M : State) (b : ℕ) → drained_marked M b ≡ drained_unmarked M b
unfolding state_at_choice state_after_expiry
drained_as_marked M b = drained_marking M.cluster (unmarked M).holdings b (surplus_stays_off M)

drained_as_ended : (M : State) (b : ℕ) → drained_after M b ≡ drained_marked M b
unfolding whole_round
drained_as_ended M b = drained_finished M.cluster _ _ _ _ b

pub drained_stay : (M : State) (b : ℕ) → (drained_marked M b ≡ drained_unmarked M b) × (drained_after M b ≡ drained_unmarked M b)
drained_stay M b = (drained_as_marked M b, drained_as_ended M b ∙ drained_as_marked M b)

-- a round commands the delete of no drained replica
pub drained_kept : (M : State) (b t : ℕ) → has (drained_after M b) t ≡ true → IsTested M (replica_at b t) → ⊥
drained_kept M b t there h =
    let is = deleted_is M (replica_at b t) h in
    let marks = deleted_marks M (replica_at b t) is.0 is.2 in
    let mark : is_drained_on M.cluster t is.0 ≡ true =
    sym (ap (λ o. option_map_or (is_drained_on M.cluster t) o false) is.1) ∙ sym (has_where (is_drained_on M.cluster) (state_at_choice M).holdings b t) ∙ sym (ap (λ xs. has xs t) (drained_as_ended M b)) ∙ there in
    live_is_kept is.0.tag is.0.excess (and_first (is_usable is.0) (is_draining M.cluster t) mark) (weaker_kind is.0 _ marks.1)

-- Sources.

limit_drained : (l : Level) → stream_limit l true ≡ 4
limit_drained Highest = refl
limit_drained VeryUnderReplicated = refl
limit_drained UnderReplicated = refl
limit_drained BadlyDistributed = refl
limit_drained NoUsableReplica = refl

drained_rank : (d : Bool) → rank_if d ≤ 0 → d ≡ true
drained_rank true h = refl
drained_rank false h = absurd (omega (arith, h))

-- if a source on a node that drains may send one more, the chosen source is on one that drains
drained_least : (C : Cluster) (front : List Transfer) (urgency : Level) (ss : List ℕ) (s t : ℕ) → least_source C front urgency ss ≡ Some t
    → has ss s ≡ true → is_draining C s ≡ true → nat_lt (streams_from C front s) 4 ≡ true → is_draining C t ≡ true
unfolding least_source least_source_by source_cmp
drained_least C front urgency ss s t is there drained few =
    let may : ℕ → Bool = λ z. nat_lt (streams_from C front z) (stream_limit urgency (is_draining C z)) in
    let passes : may s ≡ true = ap (λ d. nat_lt (streams_from C front s) (stream_limit urgency d)) drained ∙ ap (nat_lt (streams_from C front s)) (limit_drained urgency) ∙ few in
    let below = least_below (λ z. rank_if (is_draining C z))
    (λ x y. ordering_then (nat_cmp (streams_from C front x) (streams_from C front y)) (ordering_then (nat_cmp (node_number C x) (node_number C y)) (nat_cmp x y)))
    (filter may ss) t is s (has_filter may ss s ∙ ap (λ b. b && has ss s) passes ∙ there) in
    drained_rank (is_draining C t) (subst (λ d. rank_if (is_draining C t) ≤ rank_if d) drained below)

-- no node is the source of more than four, however far the round has come
four_before : (M : State) (front back : List Transfer) (t : Transfer) (n : ℕ) → transfers_chosen M ≡ front ++ t ∷ back → length (filter (λ (u : Transfer). has_storage M.cluster n u.source) front) ≤ 4
four_before M front back t n is =
    let p : Transfer → Bool = λ u. has_storage M.cluster n u.source in
    let all : length (filter p (front ++ t ∷ back)) ≤ 4 = subst (λ ts. length (filter p ts) ≤ 4) is (four_at_most M n) in
    let long = ap length (filter_append p front (t ∷ back)) ∙ length-append (filter p front) (filter p (t ∷ back)) in
    omega (arith, all, long)

pub drained_first : (M : State) (front back : List Transfer) (t : Transfer) → transfers_chosen M ≡ front ++ t ∷ back
    → (s n : ℕ) → has (drained_marked M t.block) s ≡ true → node_of M.cluster s ≡ Some n
    → (is_draining M.cluster t.source ≡ true) ⊎ (count_by (λ (u : Transfer). has_storage M.cluster n u.source) front ≡ 4)
drained_first M front back t is s n there at =
    by_limit (nat_lt (streams_from M.cluster front s) 4) refl
  where
    by_limit : (few : Bool) → nat_lt (streams_from M.cluster front s) 4 ≡ few → (is_draining M.cluster t.source ≡ true) ⊎ (count_by (λ (u : Transfer). has_storage M.cluster n u.source) front ≡ 4)
    by_limit true e =
        let H : Holdings = (state_at_choice M).holdings in
        let why = chosen_at M front back t is in
        inl
        (drained_least M.cluster front why.urgency (sources_of M.cluster H t.block) s t.source why.source
        (sources_are M.cluster H t.block s ∙ or_right (has (live M.cluster H t.block) s) (has (drained_marked M t.block) s) there) ((drained_is M.cluster H t.block s).0 there).4 e)
    by_limit false e =
        let full = ltb-false (streams_from M.cluster front s) 4 e in
        let streams = streams_of_node M.cluster front n s (storage_is M.cluster n s at) in
        let counted = length-filter (λ (u : Transfer). has_storage M.cluster n u.source) front in
        let few = four_before M front back t n is in
        inr (omega (arith, full, streams, counted, few))

node_stays : (C : Cluster) (s n : ℕ) → node_of C s ≡ Some n → is_draining C s ≡ false → drains C n ≡ false
unfolding is_draining
node_stays C s n on e = sym (ap (λ o. option_map_or (drains C) o false) on) ∙ e

pub no_target_drains : (M : State) (t : Transfer) → IsTransferCommanded M t → (n : ℕ) × (node_of M.cluster t.target ≡ Some n) × (drains M.cluster n ≡ false)
no_target_drains M t h =
    let at = commanded_chosen M t h in
    let fresh = fresh_node M at.0 at.1 t at.2 in
    (fresh.known.0, fresh.known.1, node_stays M.cluster t.target fresh.known.0 fresh.known.1 fresh.not_draining)
