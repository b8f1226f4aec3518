-- Each chosen transfer has a usable source and an allowed target, within node and round limits.
use Rattle.std.specs.Prelude.{◌≡◌, ℕ, ◌+◌, ◌*◌, ◌≤◌, ◌<◌, ◌⊎◌, Bool, true, false, not, ◌&&◌, ◌||◌, ◌==◌, nat_le, if◌then◌else◌, List, [], ◌∷◌, ◌++◌, map, filter, flat_map, length, count_by, sum_by, Option, Some, None, is_some, option_map}
use Rattle.std.specs.Option.{option_map_or}
use Rattle.std.specs.List.{list_any, All}
use Rattle.std.proofs.Common.{cond, refl, sym, ap, subst, ◌∙◌, arith, inl, inr}
use Rattle.std.proofs.lemmas.Bool.{eqb-true, leb-true, false≢true, true≢false, or_left, or_cases, or_right, not-true}
use Rattle.std.proofs.lemmas.List.Sums.{length-filter, sum_by_push}
use Rattle.std.proofs.lemmas.List.Folds.{list_any-append}
use Rattle.std.proofs.lemmas.List.{length-append}
use Rattle.bm_base.specs.declared.replica.ReplicaId.{ReplicaId}
use Rattle.bm_base.specs.declared.replica.Marks.{Marks}
use Rattle.bm_base.specs.declared.replica.Level.{Level}
use Rattle.bm_base.specs.declared.replica.Level.TheVariants.{Highest, VeryUnderReplicated, UnderReplicated, BadlyDistributed, NoUsableReplica}
use Rattle.bm_base.specs.declared.storage.StorageInfo.{StorageInfo}
use Rattle.bm_base.specs.declared.replica.BlockInfo.{BlockInfo}
use Rattle.bm_base.specs.declared.commands.Transfer.{Transfer}
use Rattle.bm_base.specs.declared.commands.Delete.{Delete}
use Rattle.bm_base.specs.declared.commands.NodeCommands.{NodeCommands}
use Rattle.bm_base.specs.Words.{get, keys, entries, len, RoundLimits, Cluster, Holdings, State, replica_at, has, has_repeats, sources_of, node_of, has_storage, is_draining, storages_where, level, is_at, state_after_expiry, state_at_choice, with_surplus_marked, without_expired, without_unordered_excess, remaining, pending_targets, streams_from, scheduled_to, stream_limit, targets_of, holders_of, excluded_for, is_excluded, is_target, class_of, racks, whole_round, commands_of, node_commands, has_commands}
use Rattle.bm_base.specs.Promises.NextRound.{IsAmong, transfers_chosen, transfers_commanded, live_marked, drained_marked}
use Rattle.laws_of_rounds.specs.Transfers.{IsFreshNode}
use Rattle.bm_base.proofs.ListTests.{and_first, and_second, same_again, filter_append, filter_filter, any_map, any_filter}
use Rattle.bm_base.proofs.Membership.{has_where, has_listed, listed}
use Rattle.laws_of_rounds.proofs.NodeGroups.{on_one_node, each_node, all_of_each}
use Rattle.bm_base.proofs.Sets.{has_keys}
use Rattle.bm_base.proofs.OneWish.{once_keys}
use Rattle.laws_of_states.proofs.RoundCommands.{chosen_deletes_of}
use Rattle.laws_of_states.proofs.LiveAfterRound.{marks_started}
use Rattle.bm_base.proofs.Sets.{passing_some}
use Rattle.laws_of_rounds.proofs.UsableReplicas.{sources_are}
use Rattle.laws_of_rounds.proofs.ChosenTransfers.{EachAfter, after_split, after_whole, IsChosenAfter, each_chosen, source_is, target_is}

-- each transfer of the next round was chosen
pub each_of : (M : State) → EachAfter (IsChosenAfter M.limits M.cluster (state_at_choice M).holdings) [] (transfers_chosen M)
unfolding state_at_choice state_after_expiry
each_of M = each_chosen M.limits M.cluster (state_at_choice M).holdings

pub chosen_at : (M : State) (front back : List Transfer) (t : Transfer) → transfers_chosen M ≡ front ++ t ∷ back → IsChosenAfter M.limits M.cluster (state_at_choice M).holdings front t
chosen_at M front back t is = after_split (IsChosenAfter M.limits M.cluster (state_at_choice M).holdings) (transfers_chosen M) front back t (each_of M) is

-- Sources.

pub source_usable : (M : State) (front back : List Transfer) (t : Transfer) → transfers_chosen M ≡ front ++ t ∷ back
    → (has (sources_of M.cluster (state_at_choice M).holdings t.block) t.source ≡ true) × ((i : BlockInfo) × (get M.holdings.blocks t.block ≡ Some i) × (t.stamp ≡ i.stamp))
unfolding state_at_choice state_after_expiry with_surplus_marked without_expired without_unordered_excess
source_usable M front back t is =
    let why = chosen_at M front back t is in
    ((source_is M.cluster front why.urgency (sources_of M.cluster (state_at_choice M).holdings t.block) t.source why.source).1, (why.info, why.known, why.stamp))

pub source_live_or_drained : (M : State) (front back : List Transfer) (t : Transfer) → transfers_chosen M ≡ front ++ t ∷ back
    → ((has (live_marked M t.block) t.source ≡ true) ⊎ (has (drained_marked M t.block) t.source ≡ true)) × ((i : BlockInfo) × (get M.holdings.blocks t.block ≡ Some i) × (t.stamp ≡ i.stamp))
source_live_or_drained M front back t is =
    let there = source_usable M front back t is in (
      or_cases (has (live_marked M t.block) t.source) (has (drained_marked M t.block) t.source) (sym (sources_are M.cluster (state_at_choice M).holdings t.block t.source) ∙ there.0),
      there.1,
    )

limit_cases : (l : Level) (found : Option Level) (d : Bool) (n : ℕ) → found ≡ Some l → d ≡ false → n < stream_limit l d → (found ≡ Some Highest) ⊎ (n < 2)
limit_cases Highest found d n e s h = inl e
limit_cases VeryUnderReplicated found false n e s h = inr h
limit_cases UnderReplicated found false n e s h = inr h
limit_cases BadlyDistributed found false n e s h = inr h
limit_cases NoUsableReplica found false n e s h = inr h
limit_cases VeryUnderReplicated found true n e s h = absurd (true≢false s)
limit_cases UnderReplicated found true n e s h = absurd (true≢false s)
limit_cases BadlyDistributed found true n e s h = absurd (true≢false s)
limit_cases NoUsableReplica found true n e s h = absurd (true≢false s)

limit_two : (d : Bool) (n : ℕ) → n < (if d then 4 else 2) → n < 4
limit_two true n h = h
limit_two false n h = omega (arith, h)

limit_four : (l : Level) (d : Bool) (n : ℕ) → n < stream_limit l d → n < 4
limit_four Highest d n h = h
limit_four VeryUnderReplicated d n h = limit_two d n h
limit_four UnderReplicated d n h = limit_two d n h
limit_four BadlyDistributed d n h = limit_two d n h
limit_four NoUsableReplica d n h = limit_two d n h

pub two_below : (M : State) (front back : List Transfer) (t : Transfer) → transfers_chosen M ≡ front ++ t ∷ back → is_draining M.cluster t.source ≡ false
    → (level M.cluster (state_at_choice M).holdings t.block ≡ Some Highest) ⊎ (streams_from M.cluster front t.source < 2)
two_below M front back t is staying =
    let why = chosen_at M front back t is in
    limit_cases why.urgency (level M.cluster (state_at_choice M).holdings t.block) (is_draining M.cluster t.source) (streams_from M.cluster front t.source) why.at_level staying
    (source_is M.cluster front why.urgency (sources_of M.cluster (state_at_choice M).holdings t.block) t.source why.source).0

pub node_is : (C : Cluster) (n s : ℕ) → has_storage C n s ≡ true → node_of C s ≡ Some n
unfolding has_storage
node_is C n s = elim (node_of C s) as (λ o. option_map_or (λ m. m == n) o false ≡ true → o ≡ Some n) [
  | None ↦ λ e. absurd (false≢true e)
  | Some m ↦ λ e. ap Some (eqb-true m n e)
]

pub storage_is : (C : Cluster) (n s : ℕ) → node_of C s ≡ Some n → has_storage C n s ≡ true
unfolding has_storage
storage_is C n s e = ap (λ o. option_map_or (λ m. m == n) o false) e ∙ same_again n

pub streams_of_node : (C : Cluster) (front : List Transfer) (n s : ℕ) → has_storage C n s ≡ true → streams_from C front s ≡ length (filter (λ (t : Transfer). has_storage C n t.source) front)
unfolding streams_from
streams_of_node C front n s e =
    ap (λ o. count_by (λ (t : Transfer). option_map_or (λ m. has_storage C m t.source) o false) front) (node_is C n s e)
    ∙ sym (length-filter (λ (t : Transfer). has_storage C n t.source) front)

one_longer : {X : Type 0} (b : Bool) (x : X) → (b ≡ true → ⊥) → length (cond b (x ∷ []) []) ≡ 0
one_longer true x h = absurd (h refl)
one_longer false x h = refl

one_at_most : {X : Type 0} (b : Bool) (x : X) → length (cond b (x ∷ []) []) ≤ 1
one_at_most true x = omega arith
one_at_most false x = omega arith

module _ (limits : RoundLimits) (C : Cluster) (H : Holdings) where
  pub four_more : (n : ℕ) (front : List Transfer) (t : Transfer) → length (filter (λ (u : Transfer). has_storage C n u.source) front) ≤ 4 → IsChosenAfter limits C H front t
      → length (filter (λ (u : Transfer). has_storage C n u.source) (front ++ t ∷ [])) ≤ 4
  four_more n front t few why =
      let long : length (filter (λ (u : Transfer). has_storage C n u.source) (front ++ t ∷ []))
      ≡ length (filter (λ (u : Transfer). has_storage C n u.source) front) + length (filter (λ (u : Transfer). has_storage C n u.source) (t ∷ [])) =
      ap length (filter_append (λ (u : Transfer). has_storage C n u.source) front (t ∷ []))
      ∙ length-append (filter (λ (u : Transfer). has_storage C n u.source) front) (filter (λ (u : Transfer). has_storage C n u.source) (t ∷ [])) in
      (elim (has_storage C n t.source) as (λ b. has_storage C n t.source ≡ b → length (filter (λ (u : Transfer). has_storage C n u.source) (front ++ t ∷ [])) ≤ 4) [
        | true ↦ λ e.
            let below = limit_four why.urgency (is_draining C t.source) (streams_from C front t.source) (source_is C front why.urgency (sources_of C H t.block) t.source why.source).0 in
            let same = streams_of_node C front n t.source e in
            let one : length (filter (λ (u : Transfer). has_storage C n u.source) (t ∷ [])) ≤ 1 = one_at_most (has_storage C n t.source) t in
            omega (arith, long, below, same, one)
        | false ↦ λ e.
            let none : length (filter (λ (u : Transfer). has_storage C n u.source) (t ∷ [])) ≡ 0 = one_longer (has_storage C n t.source) t (λ f. true≢false (sym f ∙ e)) in
            omega (arith, long, few, none)
      ]) refl

pub four_at_most : (M : State) (n : ℕ) → length (filter (λ (u : Transfer). has_storage M.cluster n u.source) (transfers_chosen M)) ≤ 4
four_at_most M n =
    after_whole (IsChosenAfter M.limits M.cluster (state_at_choice M).holdings) (λ ts. length (filter (λ (u : Transfer). has_storage M.cluster n u.source) ts) ≤ 4)
    (four_more M.limits M.cluster (state_at_choice M).holdings n) [] (transfers_chosen M) (omega arith) (each_of M)

four_commanded : (M : State) (ds : List Delete) (n : ℕ) → length (node_commands M.cluster (transfers_chosen M) ds n).transfers ≤ 4
unfolding node_commands
four_commanded M ds n = four_at_most M n

pub four_a_node : (M : State) → All (λ (k : NodeCommands). length k.transfers ≤ 4) (whole_round M).0.nodes
unfolding whole_round state_at_choice state_after_expiry
four_a_node M =
    all_of_each (λ (k : NodeCommands). length k.transfers ≤ 4) (whole_round M).0.nodes
    (each_node M.cluster _ (transfers_chosen M) (chosen_deletes_of M) (λ k. length k.transfers ≤ 4) (four_commanded M (chosen_deletes_of M)))

-- Numbers of transfers.

pub few_chosen : (M : State) → length (transfers_chosen M) ≤ M.limits.work * len M.cluster.nodes
few_chosen M =
    after_whole (IsChosenAfter M.limits M.cluster (state_at_choice M).holdings) (λ ts. length ts ≤ M.limits.work * len M.cluster.nodes)
    (λ front t _ why. let few = why.few in let long = length-append front (t ∷ []) in omega (arith, few, long)) [] (transfers_chosen M) (omega arith) (each_of M)

module _ {X : Type 0} (on : ℕ → X → Bool) (apart : (n k : ℕ) (x : X) → on n x ≡ true → on k x ≡ true → n ≡ k) where
  not_on : (n k : ℕ) → (k == n) ≡ false → (x : X) → on k x ≡ (not (on n x) && on k x)
  not_on n k e x = by_tests (on n x) refl (on k x) refl
    where
      by_tests : (a : Bool) → on n x ≡ a → (b : Bool) → on k x ≡ b → on k x ≡ (not (on n x) && on k x)
      by_tests true f true g = absurd (true≢false (sym (same_again n) ∙ ap (λ z. z == n) (apart n k x f g) ∙ e))
      by_tests true f false g = g ∙ sym (ap (λ a. not a && on k x) f)
      by_tests false f b g = sym (ap (λ a. not a && on k x) f)

  -- taking out the elements of one number keeps the pieces of the others
  rest_of : (n : ℕ) (ns : List ℕ) (xs : List X) → has ns n ≡ false → flat_map (λ k. filter (on k) xs) ns ≡ flat_map (λ k. filter (on k) (filter (λ x. not (on n x)) xs)) ns
  rest_of n [] xs h = refl
  rest_of n (k ∷ ns) xs h =
      (elim (k == n) as (λ b. (k == n) ≡ b → (b || has ns n) ≡ false → filter (on k) xs ++ flat_map (λ l. filter (on l) xs) ns ≡ filter (on k) (filter (λ x. not (on n x)) xs) ++ flat_map (λ l. filter (on l) (filter (λ x. not (on n x)) xs)) ns) [
        | true ↦ λ _ e. absurd (true≢false e)
        | false ↦ λ ne e. λ j.
            (ap (λ (p : X → Bool). filter p xs) (λ i x. not_on n k ne x i) ∙ sym (filter_filter (on k) (λ x. not (on n x)) xs)) j ++ rest_of n ns xs e j
      ]) refl h

  split_count : (p : X → Bool) (xs : List X) → length (filter p xs) + length (filter (λ x. not (p x)) xs) ≡ length xs
  split_count p [] = omega arith
  split_count p (x ∷ xs) =
      let rest = split_count p xs in
      elim (p x) as (λ b. length (cond b (x ∷ filter p xs) (filter p xs)) + length (cond (not b) (x ∷ filter (λ y. not (p y)) xs) (filter (λ y. not (p y)) xs)) ≡ length (x ∷ xs)) [
        | true ↦ omega (arith, rest)
        | false ↦ omega (arith, rest)
      ]

  -- the groups together have no more elements than the list
  pub grouped_count : (ns : List ℕ) (xs : List X) → has_repeats ns ≡ false → length (flat_map (λ n. filter (on n) xs) ns) ≤ length xs
  grouped_count [] xs once = omega arith
  grouped_count (n ∷ ns) xs once =
      (elim (has ns n) as (λ t. has ns n ≡ t → (t || has_repeats ns) ≡ false → length (filter (on n) xs ++ flat_map (λ k. filter (on k) xs) ns) ≤ length xs) [
        | true ↦ λ _ e. absurd (true≢false e)
        | false ↦ λ none e.
            let long = length-append (filter (on n) xs) (flat_map (λ k. filter (on k) xs) ns) in
            let same = ap length (rest_of n ns xs none) in
            let below = grouped_count ns (filter (λ x. not (on n x)) xs) e in
            let all = split_count (on n) xs in
            omega (arith, long, same, below, all)
      ]) refl once

-- the nodes that have commands have no more transfers than all nodes
commanded_of : (C : Cluster) (ts : List Transfer) (ds : List Delete) (ns : List ℕ)
    → length (flat_map (λ (k : NodeCommands). k.transfers) (filter has_commands (map (node_commands C ts ds) ns))) ≤ length (flat_map (λ n. filter (λ (t : Transfer). has_storage C n t.source) ts) ns)
unfolding node_commands
commanded_of C ts ds [] = omega arith
commanded_of C ts ds (n ∷ ns) =
    let rest = commanded_of C ts ds ns in
    let first : List Transfer = filter (λ (t : Transfer). has_storage C n t.source) ts in
    let right = length-append first (flat_map (λ k. filter (λ (t : Transfer). has_storage C k t.source) ts) ns) in
    let left = length-append first (flat_map (λ (k : NodeCommands). k.transfers) (filter has_commands (map (node_commands C ts ds) ns))) in
    elim (has_commands (node_commands C ts ds n)) as (λ b. length (flat_map (λ (k : NodeCommands). k.transfers) (cond b (node_commands C ts ds n ∷ filter has_commands (map (node_commands C ts ds) ns)) (filter has_commands (map (node_commands C ts ds) ns))))
    ≤ length (first ++ flat_map (λ k. filter (λ (t : Transfer). has_storage C k t.source) ts) ns)) [
      | true ↦ omega (arith, rest, left, right)
      | false ↦ omega (arith, rest, right)
    ]

few_of : (C : Cluster) (r : ℕ) (ts : List Transfer) (ds : List Delete) → length (flat_map (λ (k : NodeCommands). k.transfers) (commands_of C r ts ds).nodes) ≤ length ts
unfolding commands_of
few_of C r ts ds =
    let a = commanded_of C ts ds (keys C.nodes) in
    let b = grouped_count (λ n (t : Transfer). has_storage C n t.source) (λ n k t. on_one_node C n k t.source) (keys C.nodes) ts (once_keys C.nodes) in
    omega (arith, a, b)

pub few_commanded : (M : State) → length (transfers_commanded M) ≤ M.limits.work * len M.cluster.nodes
unfolding whole_round
few_commanded M =
    let a = few_of (state_at_choice M).cluster (state_at_choice M).round (transfers_chosen M) (chosen_deletes_of M) in
    let b = few_chosen M in
    omega (arith, a, b)

-- Targets.

-- why a storage may be the target of a block of n bytes
pub record IsFit (C : Cluster) (front : List Transfer) (urgency : Level) (holders excluded : List ℕ) (n u : ℕ) : Type 0 where
  pub fits : n + scheduled_to front u ≤ remaining C u
  pub staying : is_draining C u ≡ false
  pub free : is_excluded C excluded u ≡ false
  pub apart : (is_at BadlyDistributed (Some urgency) && (length (racks C holders) == 1) && (class_of C holders u == 1)) ≡ false

pub target_parts : (C : Cluster) (front : List Transfer) (urgency : Level) (holders excluded : List ℕ) (n u : ℕ) → is_target C (scheduled_to front) (record { urgency = urgency; holders = holders; excluded = excluded; len = n }) u ≡ true
    → IsFit C front urgency holders excluded n u
unfolding is_target
target_parts C front urgency holders excluded n u e =
    let badly = is_at BadlyDistributed (Some urgency) && (length (racks C holders) == 1) && (class_of C holders u == 1) in
    let fits = nat_le (n + scheduled_to front u) (remaining C u) in
    let staying = not (is_draining C u) in
    let free = not (is_excluded C excluded u) in
    let three = and_first (fits && staying && free) (not badly) e in
    let two = and_first (fits && staying) free three in
    record {
      fits = leb-true (n + scheduled_to front u) (remaining C u) (and_first fits staying two);
      staying = not-true (is_draining C u) (and_second fits staying two);
      free = not-true (is_excluded C excluded u) (and_second (fits && staying) free three);
      apart = not-true badly (and_second (fits && staying && free) (not badly) e);
    }

some_of : {X : Type 0} (o : Option X) → is_some o ≡ true → (x : X) × (o ≡ Some x)
some_of None e = absurd (false≢true e)
some_of (Some x) e = (x, refl)

pub storage_known : (C : Cluster) (u : ℕ) → has (keys C.storages) u ≡ true → (n : ℕ) × (node_of C u ≡ Some n)
unfolding node_of
storage_known C u h =
    let found = some_of (get C.storages u) (sym (has_keys C.storages u) ∙ h) in
    (found.0.node, ap (option_map (λ i. i.node)) found.1)

-- no excluded storage is on the node of a storage that is not excluded
pub not_excluded : (C : Cluster) (excluded : List ℕ) (u s n : ℕ) → is_excluded C excluded u ≡ false → node_of C u ≡ Some n → has excluded s ≡ true → node_of C s ≡ node_of C u → ⊥
unfolding is_excluded
not_excluded C excluded u s n free at there same =
    true≢false (sym (passing_some (λ t. option_map_or (λ m. has_storage C m u) (node_of C t) false) excluded s there
    (ap (λ o. option_map_or (λ m. has_storage C m u) o false) (same ∙ at) ∙ storage_is C n u at)) ∙ free)

excluded_replica : (H : Holdings) (front : List Transfer) (b s : ℕ) → is_some (get H.replicas (replica_at b s)) ≡ true → has (excluded_for H front b) s ≡ true
unfolding excluded_for
excluded_replica H front b s e =
    list_any-append (λ y. y == s) (storages_where (λ _ _. true) H b ++ pending_targets H b) (targets_of front b)
    ∙ or_left (has (storages_where (λ _ _. true) H b ++ pending_targets H b) s) (has (targets_of front b) s)
    (list_any-append (λ y. y == s) (storages_where (λ _ _. true) H b) (pending_targets H b)
    ∙ or_left (has (storages_where (λ _ _. true) H b) s) (has (pending_targets H b) s) (has_where (λ _ _. true) H b s ∙ is_there (get H.replicas (replica_at b s)) e))
  where
    is_there : (o : Option Marks) → is_some o ≡ true → option_map_or (λ _. true) o false ≡ true
    is_there None e = e
    is_there (Some m) e = refl

always : (b : Bool) → b ≡ (b && true)
always true = refl
always false = refl

pub pending_listed : (H : Holdings) (b : ℕ) → pending_targets H b ≡ listed (λ _ _. true) b (entries H.pending)
unfolding pending_targets
pending_listed H b = ap (λ (p : ReplicaId × ℕ → Bool). map (λ (e : ReplicaId × ℕ). e.0.storage) (filter p (entries H.pending))) (λ i e. always (e.0.block == b) i)

pub has_pending : (H : Holdings) (b s : ℕ) → has (pending_targets H b) s ≡ is_some (get H.pending (replica_at b s))
has_pending H b s = ap (λ xs. has xs s) (pending_listed H b) ∙ has_listed H.pending (λ _ _. true) b s ∙ is_there (get H.pending (replica_at b s))
  where
    is_there : (o : Option ℕ) → option_map_or (λ _. true) o false ≡ is_some o
    is_there None = refl
    is_there (Some r) = refl

excluded_pending : (H : Holdings) (front : List Transfer) (b s : ℕ) → has (pending_targets H b) s ≡ true → has (excluded_for H front b) s ≡ true
unfolding excluded_for
excluded_pending H front b s e =
    list_any-append (λ y. y == s) (storages_where (λ _ _. true) H b ++ pending_targets H b) (targets_of front b)
    ∙ or_left (has (storages_where (λ _ _. true) H b ++ pending_targets H b) s) (has (targets_of front b) s)
    (list_any-append (λ y. y == s) (storages_where (λ _ _. true) H b) (pending_targets H b) ∙ or_right (has (storages_where (λ _ _. true) H b) s) (has (pending_targets H b) s) e)

excluded_target : (H : Holdings) (front : List Transfer) (b s : ℕ) → has (targets_of front b) s ≡ true → has (excluded_for H front b) s ≡ true
unfolding excluded_for
excluded_target H front b s e =
    list_any-append (λ y. y == s) (storages_where (λ _ _. true) H b ++ pending_targets H b) (targets_of front b)
    ∙ or_right (has (storages_where (λ _ _. true) H b ++ pending_targets H b) s) (has (targets_of front b) s) e

pub any_at : {X : Type 0} (p : X → Bool) (front back : List X) (x : X) → p x ≡ true → list_any p (front ++ x ∷ back) ≡ true
any_at p [] back x e = or_left (p x) (list_any p back) e
any_at p (y ∷ front) back x e = or_right (p y) (list_any p (front ++ x ∷ back)) (any_at p front back x e)

among_targets : (front : List Transfer) (u : Transfer) (b : ℕ) → IsAmong front u → u.block ≡ b → has (targets_of front b) u.target ≡ true
unfolding targets_of
among_targets front u b there same =
    any_map (λ s. s == u.target) (λ (t : Transfer). t.target) (filter (λ (t : Transfer). t.block == b) front)
    ∙ any_filter (λ (t : Transfer). t.target == u.target) (λ (t : Transfer). t.block == b) front
    ∙ subst (λ ts. list_any (λ (t : Transfer). (t.block == b) && (t.target == u.target)) ts ≡ true) (sym there.2)
    (any_at (λ (t : Transfer). (t.block == b) && (t.target == u.target)) there.0 there.1 u
    (ap (λ z. (u.block == z) && (u.target == u.target)) (sym same) ∙ ap (λ c. c && (u.target == u.target)) (same_again u.block) ∙ same_again u.target))

mapped_there : {X Y : Type 0} (f : X → Y) (o : Option X) → is_some o ≡ true → is_some (option_map f o) ≡ true
mapped_there f None e = e
mapped_there f (Some x) e = refl

pub fresh_node : (M : State) (front back : List Transfer) (t : Transfer) → transfers_chosen M ≡ front ++ t ∷ back → IsFreshNode M front t
fresh_node M front back t is =
    let why = chosen_at M front back t is in
    let H : Holdings = (state_at_choice M).holdings in
    let at = target_is M.cluster front why.urgency (holders_of M.cluster H front t.block) (excluded_for H front t.block) why.info.stamp.len t.target why.target in
    let parts = target_parts M.cluster front why.urgency (holders_of M.cluster H front t.block) (excluded_for H front t.block) why.info.stamp.len t.target at.0 in
    let known = storage_known M.cluster t.target at.1 in
    record {
      known = known;
      not_draining = parts.staying;
      no_replica = λ s there. not_excluded M.cluster (excluded_for H front t.block) t.target s known.0 parts.free known.1
          (excluded_replica H front t.block s (ap is_some (marks_started M (replica_at t.block s)) ∙ mapped_there _ (get M.holdings.replicas (replica_at t.block s)) there));
      none_pending = λ s there. not_excluded M.cluster (excluded_for H front t.block) t.target s known.0 parts.free known.1 (excluded_pending H front t.block s (has_pending H t.block s ∙ there));
      no_other = λ u there same. not_excluded M.cluster (excluded_for H front t.block) t.target u.target known.0 parts.free known.1 (excluded_target H front t.block u.target (among_targets front u t.block there same));
    }

sent_more : (C : Cluster) (limits : RoundLimits) (H : Holdings) (s : ℕ) (front : List Transfer) (t : Transfer) → scheduled_to front s ≤ remaining C s → IsChosenAfter limits C H front t
    → scheduled_to (front ++ t ∷ []) s ≤ remaining C s
unfolding scheduled_to
sent_more C limits H s front t fits why =
    let at = target_is C front why.urgency (holders_of C H front t.block) (excluded_for H front t.block) why.info.stamp.len t.target why.target in
    let parts = target_parts C front why.urgency (holders_of C H front t.block) (excluded_for H front t.block) why.info.stamp.len t.target at.0 in
    let long = sum_by_push (λ (u : Transfer). if u.target == s then u.stamp.len else 0) front t in
    let len_is = ap (λ x. x.len) why.stamp in
    by_target (t.target == s) refl (t.stamp.len) parts.fits len_is long
  where
    by_target : (b : Bool) → (t.target == s) ≡ b → (l : ℕ) → why.info.stamp.len + scheduled_to front t.target ≤ remaining C t.target → l ≡ why.info.stamp.len
        → scheduled_to (front ++ t ∷ []) s ≡ scheduled_to front s + (if t.target == s then l else 0) → scheduled_to (front ++ t ∷ []) s ≤ remaining C s
    by_target true e l enough same long =
        let here : why.info.stamp.len + scheduled_to front s ≤ remaining C s = subst (λ z. why.info.stamp.len + scheduled_to front z ≤ remaining C z) (eqb-true t.target s e) enough in
        let sum : scheduled_to (front ++ t ∷ []) s ≡ scheduled_to front s + l = long ∙ ap (λ b. scheduled_to front s + (if b then l else 0)) e in
        omega (arith, here, sum, same)
    by_target false e l enough same long =
        let sum : scheduled_to (front ++ t ∷ []) s ≡ scheduled_to front s + 0 = long ∙ ap (λ b. scheduled_to front s + (if b then l else 0)) e in
        omega (arith, fits, sum)

nothing_sent : (s n : ℕ) → scheduled_to [] s ≤ n
unfolding scheduled_to
nothing_sent s n = omega arith

sent_remaining : (M : State) (s : ℕ) → scheduled_to (transfers_chosen M) s ≤ remaining M.cluster s
sent_remaining M s =
    after_whole (IsChosenAfter M.limits M.cluster (state_at_choice M).holdings) (λ ts. scheduled_to ts s ≤ remaining M.cluster s)
    (sent_more M.cluster M.limits (state_at_choice M).holdings s) [] (transfers_chosen M) (nothing_sent s (remaining M.cluster s)) (each_of M)

pub sent_fits : (M : State) (s : ℕ) (i : StorageInfo) → get M.cluster.storages s ≡ Some i → sum_by (λ (t : Transfer). if t.target == s then t.stamp.len else 0) (transfers_chosen M) ≤ i.remaining
unfolding scheduled_to remaining
sent_fits M s i known = subst (λ o. scheduled_to (transfers_chosen M) s ≤ option_map_or (λ j. j.remaining) o 0) known (sent_remaining M s)
