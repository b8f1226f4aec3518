-- A block gets at most the replicas it lacks, or one copy on a second rack if all are on one.
use Rattle.std.specs.Prelude.{◌≡◌, ℕ, zero, suc, ◌+◌, ◌*◌, ◌≤◌, ◌⊎◌, Bool, true, false, ◌&&◌, ◌==◌, nat_lt, nat_le, if◌then◌else◌, List, [], ◌∷◌, ◌++◌, map, filter, flat_map, length, replicate, count_by, Option, Some, None, is_some, option_map, option_and_then, option_to_list}
use Rattle.std.specs.Option.{option_map_or}
use Rattle.std.proofs.Common.{cond, refl, sym, ap, ◌∙◌, arith, inl, inr, append-nil}
use Rattle.std.proofs.lemmas.Bool.{eqb-true, leb-true, false≢true, true≢false}
use Rattle.std.proofs.lemmas.List.{length-map, nil_from_length, length-replicate}
use Rattle.std.proofs.lemmas.List.{length-append}
use Rattle.bm_base.specs.declared.replica.Level.{Level}
use Rattle.bm_base.specs.declared.replica.Level.TheVariants.{Highest, VeryUnderReplicated, UnderReplicated, BadlyDistributed, NoUsableReplica}
use Rattle.bm_base.specs.declared.replica.BlockInfo.{BlockInfo}
use Rattle.bm_base.specs.declared.commands.Transfer.{Transfer}
use Rattle.bm_base.specs.Words.{get, keys, entries, RoundLimits, Cluster, Holdings, State, has, distinct, live, drained, sources_of, racks, rack_of, is_multi_rack, level, level_of, is_at, state_after_expiry, state_at_choice, with_surplus_marked, without_expired, without_unordered_excess, share_rack, RequestedCopy, requested_count, wishes_for, wishes, pending_targets, targets_of, holders_of, excluded_for, is_on_racks, class_of, least_source, least_target, transfer_for, transfers_from, transfers}
use Rattle.bm_base.specs.Promises.NextRound.{transfers_chosen, live_marked}
use Rattle.laws_of_rounds.specs.Transfers.{copies_chosen, copies_on_their_way}
use Rattle.std.proofs.lemmas.List.Sums.{length-filter}
use Rattle.bm_base.specs.declared.replica.ReplicaId.{ReplicaId}
use Rattle.laws_of_rounds.proofs.Needs.{level_known}
use Rattle.std.proofs.lemmas.Option.{same_Some}
use Rattle.bm_base.proofs.ForEach.{Each}
use Rattle.bm_base.proofs.ListTests.{filter_append, same_again}
use Rattle.laws_of_rounds.proofs.NodeGroups.{grouped}
use Rattle.bm_base.proofs.Sets.{has_keys}
use Rattle.bm_base.proofs.OneWish.{once_keys}
use Rattle.laws_of_rounds.proofs.ChosenTransfers.{target_is}
use Rattle.laws_of_rounds.proofs.TransferLaws.{chosen_at, target_parts}
use Rattle.laws_of_rounds.proofs.MarkedRacks.{share_is, share_of}
use Rattle.bm_base.proofs.Sets.{rack_among}

-- Requested copies of one block.

abbrev about : ℕ → RequestedCopy → Bool
about b w = w.block == b

each_about : (b : ℕ) (n : ℕ) (w : RequestedCopy) → (w.block == b) ≡ true → Each (λ v. about b v ≡ true) (replicate n w)
each_about b zero w e = tt
each_about b (suc n) w e = (e, each_about b n w e)

module _ (C : Cluster) (H : Holdings) where
  about_if : (urgency : Level) (b : ℕ) (t : Bool) (o : Option BlockInfo)
      → Each (λ w. about b w ≡ true) (if t then option_map_or (λ i. replicate (requested_count C H urgency i.repl b) (record { urgency = urgency; block = b })) o [] else [])
  about_if urgency b true None = tt
  about_if urgency b true (Some i) = each_about b (requested_count C H urgency i.repl b) (record { urgency = urgency; block = b }) (same_again b)
  about_if urgency b false o = tt

  about_for : (urgency : Level) (b : ℕ) → Each (λ w. about b w ≡ true) (wishes_for C H urgency b)
  unfolding wishes_for
  about_for urgency b = about_if urgency b (is_at urgency (level C H b)) (get H.blocks b)

  apart : (n k : ℕ) (w : RequestedCopy) → about n w ≡ true → about k w ≡ true → n ≡ k
  apart n k w e f = sym (eqb-true w.block n e) ∙ eqb-true w.block k f

  module _ (b : ℕ) (i : BlockInfo) (known : get H.blocks b ≡ Some i) where
    -- the requested copies of the block at one level
    of_level : (urgency : Level) → filter (about b) (flat_map (wishes_for C H urgency) (keys H.blocks)) ≡ wishes_for C H urgency b
    of_level urgency =
        grouped (wishes_for C H urgency) (λ n w. about n w) apart (about_for urgency) b (keys H.blocks) (once_keys H.blocks)
        ∙ ap (λ t. cond t (wishes_for C H urgency b) []) (has_keys H.blocks b ∙ ap is_some known)

    length_for : (urgency : Level) → length (wishes_for C H urgency b) ≡ cond (is_at urgency (level C H b)) (requested_count C H urgency i.repl b) 0
    unfolding wishes_for
    length_for urgency =
        let wish : RequestedCopy = record { urgency = urgency; block = b } in
        ap (λ o. length (if is_at urgency (level C H b) then option_map_or (λ j. replicate (requested_count C H urgency j.repl b) wish) o [] else [])) known
        ∙ (elim (is_at urgency (level C H b)) as (λ t. length (if t then replicate (requested_count C H urgency i.repl b) wish else []) ≡ cond t (requested_count C H urgency i.repl b) 0) [
          | true ↦ length-replicate (requested_count C H urgency i.repl b) wish
          | false ↦ refl
        ])

    length_at : (urgency : Level) → length (filter (about b) (flat_map (wishes_for C H urgency) (keys H.blocks))) ≡ cond (is_at urgency (level C H b)) (requested_count C H urgency i.repl b) 0
    length_at urgency = ap length (of_level urgency) ∙ length_for urgency

    sums : length (filter (about b) (wishes C H))
        ≡ cond (is_at Highest (level C H b)) (requested_count C H Highest i.repl b) 0
        + (cond (is_at VeryUnderReplicated (level C H b)) (requested_count C H VeryUnderReplicated i.repl b) 0
        + (cond (is_at UnderReplicated (level C H b)) (requested_count C H UnderReplicated i.repl b) 0
        + (cond (is_at BadlyDistributed (level C H b)) (requested_count C H BadlyDistributed i.repl b) 0 + 0)))
    unfolding wishes
    sums =
        step Highest (at VeryUnderReplicated ++ (at UnderReplicated ++ (at BadlyDistributed ++ []))) _
        (step VeryUnderReplicated (at UnderReplicated ++ (at BadlyDistributed ++ [])) _ (step UnderReplicated (at BadlyDistributed ++ []) _ (step BadlyDistributed [] 0 refl)))
      where
        at : Level → List RequestedCopy
        at urgency = flat_map (wishes_for C H urgency) (keys H.blocks)

        step : (urgency : Level) (rest : List RequestedCopy) (n : ℕ) → length (filter (about b) rest) ≡ n
            → length (filter (about b) (at urgency ++ rest)) ≡ cond (is_at urgency (level C H b)) (requested_count C H urgency i.repl b) 0 + n
        step urgency rest n e =
            ap length (filter_append (about b) (at urgency) rest) ∙ length-append (filter (about b) (at urgency)) (filter (about b) rest)
            ∙ (λ j. length_at urgency j + e j)

    -- the number of requested copies of the block is that for its level
    pub wishes_about : length (filter (about b) (wishes C H)) ≡ option_map_or (λ l. requested_count C H l i.repl b) (level C H b) 0
    wishes_about = sums ∙ by_level (level C H b)
      where
        by_level : (found : Option Level) → cond (is_at Highest found) (requested_count C H Highest i.repl b) 0
            + (cond (is_at VeryUnderReplicated found) (requested_count C H VeryUnderReplicated i.repl b) 0
            + (cond (is_at UnderReplicated found) (requested_count C H UnderReplicated i.repl b) 0
            + (cond (is_at BadlyDistributed found) (requested_count C H BadlyDistributed i.repl b) 0 + 0))) ≡ option_map_or (λ l. requested_count C H l i.repl b) found 0
        by_level None = omega arith
        by_level (Some Highest) = omega arith
        by_level (Some VeryUnderReplicated) = omega arith
        by_level (Some UnderReplicated) = omega arith
        by_level (Some BadlyDistributed) = omega arith
        by_level (Some NoUsableReplica) = omega arith

-- Transfers of one block.

count_append : (xs ys : List Transfer) (b : ℕ) → length (targets_of (xs ++ ys) b) ≡ length (targets_of xs b) + length (targets_of ys b)
unfolding targets_of
count_append xs ys b =
    length-map (filter (λ t. t.block == b) (xs ++ ys)) (λ t. t.target) ∙ ap length (filter_append (λ t. t.block == b) xs ys)
    ∙ length-append (filter (λ t. t.block == b) xs) (filter (λ t. t.block == b) ys)
    ∙ (λ j. sym (length-map (filter (λ t. t.block == b) xs) (λ t. t.target)) j + sym (length-map (filter (λ t. t.block == b) ys) (λ t. t.target)) j)

count_one : (t : Transfer) (b : ℕ) → length (targets_of (t ∷ []) b) ≡ cond (t.block == b) 1 0
unfolding targets_of
count_one t b = elim (t.block == b) as (λ c. length (map (λ u. u.target) (cond c (t ∷ []) [])) ≡ cond c 1 0) [ true ↦ refl | false ↦ refl ]

count_none : (b : ℕ) → length (targets_of [] b) ≡ 0
unfolding targets_of
count_none b = refl

block_mapped : (b s : ℕ) (i : BlockInfo) (o : Option ℕ) (t : Transfer) → option_map (λ u. record { block = b; stamp = i.stamp; source = s; target = u }) o ≡ Some t → t.block ≡ b
block_mapped b s i None t e = absurd (false≢true (ap is_some e))
block_mapped b s i (Some u) t e = ap (λ z. z.block) (sym (same_Some (record { block = b; stamp = i.stamp; source = s; target = u }) t e))

block_kept : (full : Bool) (o : Option BlockInfo) (from : Option ℕ) (to : BlockInfo → Option ℕ) (b : ℕ) (t : Transfer)
    → (if full then None else option_and_then (λ i. option_and_then (λ s. option_map (λ u. record { block = b; stamp = i.stamp; source = s; target = u }) (to i)) from) o) ≡ Some t → t.block ≡ b
block_kept true o from to b t e = absurd (false≢true (ap is_some e))
block_kept false None from to b t e = absurd (false≢true (ap is_some e))
block_kept false (Some i) None to b t e = absurd (false≢true (ap is_some e))
block_kept false (Some i) (Some s) to b t e = block_mapped b s i (to i) t e

module _ (limits : RoundLimits) (C : Cluster) (H : Holdings) (b : ℕ) where
  pub of_wish : (front : List Transfer) (w : RequestedCopy) (t : Transfer) → transfer_for limits C H front w ≡ Some t → t.block ≡ w.block
  unfolding transfer_for
  of_wish front w t e =
      block_kept _ (get H.blocks w.block) (least_source C front w.urgency (sources_of C H w.block))
      (λ i. least_target C front (record { urgency = w.urgency; holders = holders_of C H front w.block; excluded = excluded_for H front w.block; len = i.stamp.len })) w.block t e

  one_more : (front : List Transfer) (w : RequestedCopy) (o : Option Transfer) → ((t : Transfer) → o ≡ Some t → t.block ≡ w.block)
      → length (targets_of (front ++ option_to_list o) b) ≤ length (targets_of front b) + cond (w.block == b) 1 0
  one_more front w None same = let long = count_append front [] b in let none = count_none b in omega (arith, long, none)
  one_more front w (Some t) same =
      let long = count_append front (t ∷ []) b in
      let one : length (targets_of (t ∷ []) b) ≡ cond (w.block == b) 1 0 = count_one t b ∙ ap (λ z. cond (z == b) 1 0) (same t refl) in
      omega (arith, long, one)

  pub no_more_than_wishes : (front : List Transfer) (ws : List RequestedCopy) → length (targets_of (transfers_from limits C H front ws) b) ≤ length (targets_of front b) + length (filter (about b) ws)
  no_more_than_wishes front [] = omega arith
  no_more_than_wishes front (w ∷ ws) =
      let rest = no_more_than_wishes (front ++ option_to_list (transfer_for limits C H front w)) ws in
      let one = one_more front w (transfer_for limits C H front w) (of_wish front w) in
      by_test (w.block == b) (length (targets_of (transfers_from limits C H (front ++ option_to_list (transfer_for limits C H front w)) ws) b))
      (length (targets_of (front ++ option_to_list (transfer_for limits C H front w)) b)) rest one
    where
      by_test : (c : Bool) (n k : ℕ) → n ≤ k + length (filter (about b) ws) → k ≤ length (targets_of front b) + cond c 1 0 → n ≤ length (targets_of front b) + length (cond c (w ∷ filter (about b) ws) (filter (about b) ws))
      by_test true n k e f = omega (arith, e, f)
      by_test false n k e f = omega (arith, e, f)

lacks : (C : Cluster) (H : Holdings) (b repl n : ℕ) (found : Option Level) → 1 ≤ n → n ≤ option_map_or (λ l. requested_count C H l repl b) found 0
    → (length (live C H b) + length (pending_targets H b) + n ≤ repl) ⊎ ((found ≡ Some BadlyDistributed) × (length (pending_targets H b) ≡ 0) × (n ≡ 1))
lacks C H b repl n None some h = absurd (omega arith)
lacks C H b repl n (Some Highest) some h = inl (omega arith)
lacks C H b repl n (Some VeryUnderReplicated) some h = inl (omega arith)
lacks C H b repl n (Some UnderReplicated) some h = inl (omega arith)
lacks C H b repl n (Some NoUsableReplica) some h = absurd (omega arith)
lacks C H b repl n (Some BadlyDistributed) some h = inr (of_pending (length (pending_targets H b)) n some h)
  where
    of_pending : (p m : ℕ) → 1 ≤ m → m ≤ (if p == 0 then 1 else 0) → (Some BadlyDistributed ≡ Some BadlyDistributed) × (p ≡ 0) × (m ≡ 1)
    of_pending p m one few =
        (elim (p == 0) as (λ c. (p == 0) ≡ c → m ≤ (if c then 1 else 0) → (Some BadlyDistributed ≡ Some BadlyDistributed) × (p ≡ 0) × (m ≡ 1)) [
          | true ↦ λ e f. (refl, eqb-true p 0 e, omega (arith, one, f))
          | false ↦ λ _ f. absurd (omega (arith, one, f))
        ]) refl few

no_more_targets : (M : State) (b : ℕ) (i : BlockInfo) → get M.holdings.blocks b ≡ Some i → 1 ≤ length (targets_of (transfers_chosen M) b)
    → (length (live_marked M b) + length (pending_targets (state_at_choice M).holdings b) + length (targets_of (transfers_chosen M) b) ≤ i.repl)
    ⊎ ((level M.cluster (state_at_choice M).holdings b ≡ Some BadlyDistributed) × (length (pending_targets (state_at_choice M).holdings b) ≡ 0) × (length (targets_of (transfers_chosen M) b) ≡ 1))
unfolding transfers state_at_choice state_after_expiry with_surplus_marked without_expired without_unordered_excess
no_more_targets M b i known some =
    let H : Holdings = (state_at_choice M).holdings in
    let few = no_more_than_wishes M.limits M.cluster H b [] (wishes M.cluster H) in
    let none = count_none b in
    let wanted = wishes_about M.cluster H b i known in
    lacks M.cluster H b i.repl (length (targets_of (transfers_chosen M) b)) (level M.cluster H b) some (omega (arith, few, none, wanted))

copies_targets : (ts : List Transfer) (b : ℕ) → length (targets_of ts b) ≡ count_by (λ (t : Transfer). t.block == b) ts
unfolding targets_of
copies_targets ts b = length-map (filter (λ t. t.block == b) ts) (λ t. t.target) ∙ length-filter (λ (t : Transfer). t.block == b) ts

copies_pending : (H : Holdings) (b : ℕ) → length (pending_targets H b) ≡ count_by (λ (e : ReplicaId × ℕ). e.0.block == b) (entries H.pending)
unfolding pending_targets
copies_pending H b = length-map (filter (λ (e : ReplicaId × ℕ). e.0.block == b) (entries H.pending)) (λ (e : ReplicaId × ℕ). e.0.storage) ∙ length-filter (λ (e : ReplicaId × ℕ). e.0.block == b) (entries H.pending)

in_counts : (P : Type 0) (n p q k l repl : ℕ) → p ≡ q → k ≡ l → (n + p + k ≤ repl) ⊎ (P × (p ≡ 0) × (k ≡ 1)) → (n + q + l ≤ repl) ⊎ (P × (q ≡ 0) × (l ≡ 1))
in_counts P n p q k l repl e f (inl h) = inl (omega (arith, e, f, h))
in_counts P n p q k l repl e f (inr h) = inr (h.0, sym e ∙ h.1, sym f ∙ h.2)

pub no_more_than_lacks : (M : State) (b : ℕ) (i : BlockInfo) → get M.holdings.blocks b ≡ Some i → 1 ≤ copies_chosen M b
    → (length (live_marked M b) + copies_on_their_way M b + copies_chosen M b ≤ i.repl)
    ⊎ ((level M.cluster (state_at_choice M).holdings b ≡ Some BadlyDistributed) × (copies_on_their_way M b ≡ 0) × (copies_chosen M b ≡ 1))
no_more_than_lacks M b i known some =
    let chosen = copies_targets (transfers_chosen M) b in
    in_counts (level M.cluster (state_at_choice M).holdings b ≡ Some BadlyDistributed) (length (live_marked M b)) (length (pending_targets (state_at_choice M).holdings b)) (copies_on_their_way M b)
    (length (targets_of (transfers_chosen M) b)) (copies_chosen M b) i.repl (copies_pending (state_at_choice M).holdings b) chosen (no_more_targets M b i known (omega (arith, chosen, some)))

-- Another rack.

pub badly_counted : (n d repl rs : ℕ) (multi : Bool) → level_of (record { live = n; drained = d; wanted = repl; racks = rs; multi_rack = multi }) ≡ Some BadlyDistributed → (repl ≤ n) × ((rs == 1) ≡ true)
unfolding level_of
badly_counted n d repl rs multi e = by_tests (nat_le repl n) refl (nat_lt 1 repl) (rs == 1) multi e
  where
    by_tests : (a : Bool) → nat_le repl n ≡ a → (p q r : Bool)
        → (if a then (if p && q && r then Some BadlyDistributed else None) else Some (if n == 0 then (if d == 0 then NoUsableReplica else Highest) else if n == 1 then Highest else if nat_lt (n * 3) repl then VeryUnderReplicated else UnderReplicated)) ≡ Some BadlyDistributed
        → (repl ≤ n) × (q ≡ true)
    by_tests true f true true true e = (leb-true repl n f, refl)
    by_tests true f true true false e = absurd (false≢true (ap is_some e))
    by_tests true f true false r e = absurd (false≢true (ap is_some e))
    by_tests true f false q r e = absurd (false≢true (ap is_some e))
    by_tests false f p q r e = absurd (other (n == 0) (d == 0) (n == 1) (nat_lt (n * 3) repl) e)
      where
        other : (a z b c : Bool) → Some (if a then (if z then NoUsableReplica else Highest) else if b then Highest else if c then VeryUnderReplicated else UnderReplicated) ≡ Some BadlyDistributed → ⊥
        other true true b c e = cc
        other true false b c e = cc
        other false z true c e = cc
        other false z false true e = cc
        other false z false false e = cc

holders_alone : (C : Cluster) (H : Holdings) (front : List Transfer) (b : ℕ) → pending_targets H b ≡ [] → targets_of front b ≡ [] → holders_of C H front b ≡ live C H b
unfolding holders_of
holders_alone C H front b e f =
    (λ j. live C H b ++ e j ++ f j) ∙ append-nil (live C H b ++ []) ∙ append-nil (live C H b)

off_racks : (C : Cluster) (holders : List ℕ) (u : ℕ) → (length (racks C holders) == 1) ≡ true → (class_of C holders u == 1) ≡ false → is_on_racks C (racks C holders) u ≡ false
unfolding class_of
off_racks C holders u one = elim (length (racks C holders) == 1) as (λ t. t ≡ true
    → ((if t then (if is_on_racks C (racks C holders) u then 1 else 0) else if (length (distinct holders) == 2) && (length (racks C holders) == 2) then (if is_on_racks C (racks C holders) u then 0 else 1) else 0) == 1) ≡ false
    → is_on_racks C (racks C holders) u ≡ false) [
      | true ↦ λ _. (elim (is_on_racks C (racks C holders) u) as (λ b. ((if b then 1 else 0) == 1) ≡ false → b ≡ false) [ true ↦ λ e. e | false ↦ λ _. refl ])
      | false ↦ λ e. absurd (false≢true e)
    ] one

on_rack : (C : Cluster) (rs : List ℕ) (u r : ℕ) → rack_of C u ≡ Some r → has rs r ≡ true → is_on_racks C rs u ≡ true
unfolding is_on_racks
on_rack C rs u r e there = ap (λ o. option_map_or (has rs) o false) e ∙ there

known_before : (M : State) (b : ℕ) (i : BlockInfo) → get (state_at_choice M).holdings.blocks b ≡ Some i → get M.holdings.blocks b ≡ Some i
unfolding state_at_choice state_after_expiry with_surplus_marked without_expired without_unordered_excess
known_before M b i e = e

head_count : (t : Transfer) (back : List Transfer) → length (targets_of (t ∷ back) t.block) ≡ 1 + length (targets_of back t.block)
head_count t back = count_append (t ∷ []) back t.block ∙ ap (λ n. n + length (targets_of back t.block)) (count_one t t.block ∙ ap (λ b. cond b 1 0) (same_again t.block))

-- the target is on no rack of the block's live replicas, if no other copy of it is pending or
-- chosen
elsewhere : (C : Cluster) (H : Holdings) (front : List Transfer) (b u s : ℕ) → pending_targets H b ≡ [] → targets_of front b ≡ [] → (length (racks C (live C H b)) == 1) ≡ true
    → ((length (racks C (holders_of C H front b)) == 1) && (class_of C (holders_of C H front b) u == 1)) ≡ false → has (live C H b) s ≡ true → share_rack C s u ≡ false
elsewhere C H front b u s pending targets one off there =
    let same : racks C (holders_of C H front b) ≡ racks C (live C H b) = ap (racks C) (holders_alone C H front b pending targets) in
    let single : (length (racks C (holders_of C H front b)) == 1) ≡ true = ap (λ rs. length rs == 1) same ∙ one in
    let away : is_on_racks C (racks C (live C H b)) u ≡ false =
    ap (λ rs. is_on_racks C rs u) (sym same)
    ∙ off_racks C (holders_of C H front b) u single (other (length (racks C (holders_of C H front b)) == 1) (class_of C (holders_of C H front b) u == 1) single off) in
    by_test (share_rack C s u) refl away
  where
    other : (a c : Bool) → a ≡ true → (a && c) ≡ false → c ≡ false
    other true c e f = f
    other false c e f = absurd (false≢true e)

    by_test : (t : Bool) → share_rack C s u ≡ t → is_on_racks C (racks C (live C H b)) u ≡ false → t ≡ false
    by_test false e f = refl
    by_test true e f =
        let rack = share_is C s u e in
        absurd (true≢false (sym (on_rack C (racks C (live C H b)) u rack.0 rack.2 (rack_among C (live C H b) s rack.0 there rack.1)) ∙ f))

none_other : (C : Cluster) (H : Holdings) (front : List Transfer) (b repl n back : ℕ) → n ≡ length (targets_of front b) + 1 + back → repl ≤ length (live C H b)
    → (length (live C H b) + length (pending_targets H b) + n ≤ repl) ⊎ ((level C H b ≡ Some BadlyDistributed) × (length (pending_targets H b) ≡ 0) × (n ≡ 1))
    → (pending_targets H b ≡ []) × (targets_of front b ≡ [])
none_other C H front b repl n back long enough (inl h) = absurd (omega (arith, long, enough, h))
none_other C H front b repl n back long enough (inr h) =
    let one = h.2 in
    (nil_from_length (pending_targets H b) h.1, nil_from_length (targets_of front b) (omega (arith, long, one)))

first_off : (a b c : Bool) → a ≡ true → (a && b && c) ≡ false → (b && c) ≡ false
first_off true true c e f = f
first_off true false c e f = refl
first_off false b c e f = absurd (false≢true e)

second_rack_shared : (M : State) (front back : List Transfer) (t : Transfer) → transfers_chosen M ≡ front ++ t ∷ back → level M.cluster (state_at_choice M).holdings t.block ≡ Some BadlyDistributed
    → (s : ℕ) → has (live_marked M t.block) s ≡ true → share_rack M.cluster s t.target ≡ false
second_rack_shared M front back t is badly s there =
    let C : Cluster = M.cluster in
    let H : Holdings = (state_at_choice M).holdings in
    let why = chosen_at M front back t is in
    let counted = badly_counted (length (live C H t.block)) (length (drained C H t.block)) why.info.repl (length (racks C (live C H t.block))) (is_multi_rack C) (sym (level_known C H t.block why.info why.known) ∙ badly) in
    let long : length (targets_of (transfers_chosen M) t.block) ≡ length (targets_of front t.block) + length (targets_of (t ∷ back) t.block) =
    ap (λ ts. length (targets_of ts t.block)) is ∙ count_append front (t ∷ back) t.block in
    let head = head_count t back in
    let at = target_is C front why.urgency (holders_of C H front t.block) (excluded_for H front t.block) why.info.stamp.len t.target why.target in
    let parts = target_parts C front why.urgency (holders_of C H front t.block) (excluded_for H front t.block) why.info.stamp.len t.target at.0 in
    let urgent : why.urgency ≡ BadlyDistributed = same_Some why.urgency BadlyDistributed (sym why.at_level ∙ badly) in
    let off = first_off (is_at BadlyDistributed (Some why.urgency)) (length (racks C (holders_of C H front t.block)) == 1) (class_of C (holders_of C H front t.block) t.target == 1) (ap (λ l. is_at BadlyDistributed (Some l)) urgent) parts.apart in
    let none = none_other C H front t.block why.info.repl (length (targets_of (transfers_chosen M) t.block)) (length (targets_of back t.block)) (omega (arith, long, head)) counted.0
    (no_more_targets M t.block why.info (known_before M t.block why.info why.known) (omega (arith, long, head))) in
    elsewhere C H front t.block t.target s none.0 none.1 counted.1 off there

pub second_rack : (M : State) (front back : List Transfer) (t : Transfer) → transfers_chosen M ≡ front ++ t ∷ back → level M.cluster (state_at_choice M).holdings t.block ≡ Some BadlyDistributed
    → (s r : ℕ) → has (live_marked M t.block) s ≡ true → rack_of M.cluster s ≡ Some r → rack_of M.cluster t.target ≡ Some r → ⊥
second_rack M front back t is badly s r there at_s at_target =
    true≢false (sym (share_of M.cluster s t.target r at_s at_target) ∙ second_rack_shared M front back t is badly s there)
