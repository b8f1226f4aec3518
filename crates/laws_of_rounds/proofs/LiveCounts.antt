-- Once a round is obeyed, a block has gained one live replica for each commanded copy of it.
use Rattle.std.specs.Prelude.{◌≡◌, ℕ, ◌+◌, ◌≤◌, ◌⊎◌, Bool, true, false, not, ◌&&◌, ◌||◌, ◌==◌, List, [], ◌∷◌, ◌++◌, map, filter, length, Option, Some, None}
use Rattle.std.specs.Option.{option_map_or}
use Rattle.std.specs.Ordering.{eq_by_cmp}
use Rattle.std.specs.List.{list_any}
use Rattle.std.proofs.Common.{cond, refl, sym, ap, subst, ◌∙◌, arith, inl, inr, append_assoc}
use Rattle.std.proofs.lemmas.Bool.{eqb-true, false≢true, true≢false, and_from, or_parts, or_from, or_cases, false_from_ne_true, or_left, or_right}
use Rattle.std.proofs.lemmas.List.{length-append, length-map}
use Rattle.std.proofs.lemmas.List.Sums.{length-filter}
use Rattle.std.proofs.lemmas.List.Folds.{list_any-append}
use Rattle.bm_base.specs.declared.replica.ReplicaId.{ReplicaId}
use Rattle.bm_base.specs.declared.replica.Marks.{Marks}
use Rattle.bm_base.specs.declared.event.Event.{Event}
use Rattle.bm_base.specs.declared.commands.Transfer.{Transfer}
use Rattle.bm_base.specs.Words.{get, Cluster, State, by_replica, replica_cmp, replica_at, has, has_repeats, is_usable, is_draining, node_of, replaces, entered_marks, after_event}
use Rattle.bm_base.specs.Promises.NextRound.{IsAmong, IsTransferCommanded, transfers_commanded, deletes_commanded, transfers_commanded, after_round, live_after}
use Rattle.bm_base.proofs.Options.{staying}
use Rattle.bm_base.proofs.ForEach.{Each, each_all, each_then, each_any, each_appended, each_mapped}
use Rattle.bm_base.proofs.MapEntries.{same_key}
use Rattle.bm_base.proofs.ListTests.{same_again, has_filter, once_filter, any_map, any_filter, and_first, and_second}
use Rattle.laws_of_states.proofs.Surpluses.{others, others_fewer}
use Rattle.laws_of_rounds.specs.Obedience.{copies_commanded}
use Rattle.laws_of_rounds.specs.Obedience.{copied, erased, Obeys, ObeysAll, after_obeying, live_obeying, as_listed}
use Rattle.laws_of_rounds.proofs.NodeGroups.{all_of_each}
use Rattle.laws_of_rounds.proofs.NextRounds.{each_among, any_chosen}
use Rattle.laws_of_rounds.proofs.NodeCommands.{among_map}
use Rattle.laws_of_rounds.proofs.UsableReplicas.{live_once}
use Rattle.laws_of_rounds.proofs.DuringObedience.{IsUsable, HasSameBlocks, get_copied, get_without, same_after_copy, same_after_erasure, same_after_round, live_now, live_usable, stays_live, target_elsewhere, through}
use Rattle.laws_of_rounds.proofs.LiveTargets.{target_live}
use Rattle.laws_of_rounds.proofs.DistinctTargets.{OfTwo, GoApart, commanded_apart}
use Rattle.laws_of_rounds.proofs.TransferLaws.{any_at}

-- Lists without repeats.

once_append : (xs ys : List ℕ) → has_repeats xs ≡ false → has_repeats ys ≡ false → ((q : ℕ) → has xs q ≡ true → has ys q ≡ true → ⊥) → has_repeats (xs ++ ys) ≡ false
once_append [] ys ox oy apart = oy
once_append (x ∷ xs) ys ox oy apart =
    let once = or_parts (has xs x) (has_repeats xs) ox in
    or_from (has (xs ++ ys) x) (has_repeats (xs ++ ys))
    (list_any-append (λ y. y == x) xs ys ∙ or_from (has xs x) (has ys x) once.0 (false_from_ne_true (has ys x) (apart x (or_left (x == x) (has xs x) (same_again x)))))
    (once_append xs ys once.1 oy (λ q h k. apart q (or_right (x == q) (has xs q) h) k))

-- a list without repeats is no longer than another that has all its numbers
within : (xs ys : List ℕ) → has_repeats xs ≡ false → has_repeats ys ≡ false → ((q : ℕ) → has xs q ≡ true → has ys q ≡ true) → length xs ≤ length ys
within [] ys ox oy h = omega arith
within (x ∷ xs) ys ox oy h =
    let once = or_parts (has xs x) (has_repeats xs) ox in
    let fewer = others_fewer x ys oy (h x (or_left (x == x) (has xs x) (same_again x))) in
    let rest = within xs (others x ys) once.1 (once_filter (λ y. not (y == x)) ys oy) (λ q there.
    has_filter (λ y. not (y == x)) ys q ∙ and_from (not (q == x)) (has ys q) (ap not (false_from_ne_true (q == x) (λ same. true≢false (sym there ∙ ap (has xs) (eqb-true q x same) ∙ once.0)))) (h q (or_right (x == q) (has xs q) there))) in
    omega (arith, fewer, rest)

-- Targets of a block.

abbrev block_targets : List Transfer → ℕ → List ℕ
block_targets ts b = map (λ t. t.target) (filter (λ t. t.block == b) ts)

has_target : (ts : List Transfer) (b s : ℕ) → has (block_targets ts b) s ≡ list_any (λ (t : Transfer). (t.block == b) && (t.target == s)) ts
has_target ts b s = any_map (λ x. x == s) (λ (t : Transfer). t.target) (filter (λ (t : Transfer). t.block == b) ts) ∙ any_filter (λ (t : Transfer). t.target == s) (λ (t : Transfer). t.block == b) ts

once_targets : (C : Cluster) (ts : List Transfer) (b : ℕ) → OfTwo (GoApart C) ts → has_repeats (block_targets ts b) ≡ false
once_targets C [] b h = refl
once_targets C (t ∷ ts) b h = by_block (t.block == b) refl (once_targets C ts b h.1)
  where
    by_block : (c : Bool) → (t.block == b) ≡ c → has_repeats (block_targets ts b) ≡ false
        → has_repeats (map (λ (u : Transfer). u.target) (cond c (t ∷ filter (λ (u : Transfer). u.block == b) ts) (filter (λ (u : Transfer). u.block == b) ts))) ≡ false
    by_block true e rest =
        or_from (has (block_targets ts b) t.target) (has_repeats (block_targets ts b))
        (false_from_ne_true (has (block_targets ts b) t.target) (λ there.
        let u = each_any (GoApart C t) (λ (u : Transfer). (u.block == b) && (u.target == t.target)) ts h.0 (sym (has_target ts b t.target) ∙ there) in
        u.1 (eqb-true t.block b e ∙ sym (eqb-true u.0.block b (and_first (u.0.block == b) (u.0.target == t.target) u.2)))
        (ap (node_of C) (sym (eqb-true u.0.target t.target (and_second (u.0.block == b) (u.0.target == t.target) u.2))))))
        rest
    by_block false e rest = rest

one_target : (ts : List Transfer) (b s : ℕ) → has (block_targets ts b) s ≡ true → (t : Transfer) × IsAmong ts t × (t.block ≡ b) × (t.target ≡ s)
one_target ts b s h =
    let one = any_chosen (λ (t : Transfer). (t.block == b) && (t.target == s)) ts (sym (has_target ts b s) ∙ h) in
    (one.0, one.1, eqb-true one.0.block b (and_first (one.0.block == b) (one.0.target == s) one.2), eqb-true one.0.target s (and_second (one.0.block == b) (one.0.target == s) one.2))

target_among : (ts : List Transfer) (t : Transfer) → IsAmong ts t → has (block_targets ts t.block) t.target ≡ true
target_among ts t at =
    has_target ts t.block t.target
    ∙ ap (list_any (λ (u : Transfer). (u.block == t.block) && (u.target == t.target))) at.2
    ∙ any_at (λ (u : Transfer). (u.block == t.block) && (u.target == t.target)) at.0 at.1 t (and_from (t.block == t.block) (t.target == t.target) (same_again t.block) (same_again t.target))

-- Nothing else becomes usable.

abbrev IsCopy : State → ReplicaId → Type 0
IsCopy M q = (t : Transfer) × IsTransferCommanded M t × (q ≡ replica_at t.block t.target)

-- each usable replica was usable after the round, or is a copy that the round commands
abbrev AddsCopies : State → State → Type 0
AddsCopies M N = HasSameBlocks M N × ((q : ReplicaId) → IsUsable N.holdings q → IsUsable (after_round M).holdings q ⊎ IsCopy M q)

stayed : (b : Bool) (o : Option Marks) → option_map_or is_usable (staying b o) false ≡ true → option_map_or is_usable o false ≡ true
stayed b None e = e
stayed true (Some m) e = e
stayed false (Some m) e = absurd (false≢true e)

left : (b : Bool) (o : Option Marks) → option_map_or is_usable (cond b None o) false ≡ true → option_map_or is_usable o false ≡ true
left true o e = absurd (false≢true e)
left false o e = e

step_copies : (M N : State) (e : Event) → AddsCopies M N → Obeys M e → AddsCopies M (after_event N e)
step_copies M N e h (inl c) =
    subst (λ x. AddsCopies M (after_event N x)) (sym c.2)
    (same_after_copy M N h.0 c.0, λ q there. by_tie q (eq_by_cmp replica_cmp q (replica_at c.0.block c.0.target)) refl (sym (ap (λ o. option_map_or is_usable o false) (get_copied M N h.0 c.0 c.1 q)) ∙ there))
  where
    by_tie : (q : ReplicaId) (b : Bool) → eq_by_cmp replica_cmp q (replica_at c.0.block c.0.target) ≡ b
        → option_map_or is_usable (cond b (Some (entered_marks N.holdings (replica_at c.0.block c.0.target) c.0.stamp)) (staying (not (replaces N.cluster (replica_at c.0.block c.0.target) q)) (get N.holdings.replicas q))) false ≡ true
        → IsUsable (after_round M).holdings q ⊎ IsCopy M q
    by_tie q true tie there = inr (c.0, c.1, same_key by_replica q (replica_at c.0.block c.0.target) tie)
    by_tie q false tie there = h.1 q (stayed (not (replaces N.cluster (replica_at c.0.block c.0.target) q)) (get N.holdings.replicas q) there)
step_copies M N e h (inr c) =
    subst (λ x. AddsCopies M (after_event N x)) (sym c.2) (
      same_after_erasure M N h.0 c.0,
      λ q there.
          h.1 q (left (eq_by_cmp replica_cmp q (replica_at c.0.block c.0.storage)) (get N.holdings.replicas q) (sym (ap (λ o. option_map_or is_usable o false) (get_without M N h.0 c.0 c.1 q)) ∙ there)),
    )

-- The state once all commands are obeyed.

module _ (M : State) (es : List Event) (b : ℕ) (obeyed : ObeysAll M es) where
  each_obeys : Each (Obeys M) es
  each_obeys = each_all (Obeys M) es obeyed.only

  abbrev expected : List ℕ
  expected = live_after M b ++ block_targets (transfers_commanded M) b

  expected_once : has_repeats expected ≡ false
  expected_once =
      once_append (live_after M b) (block_targets (transfers_commanded M) b) (live_once M.cluster (after_round M).holdings b) (once_targets M.cluster (transfers_commanded M) b (commanded_apart M))
      (λ q there k.
      let t = one_target (transfers_commanded M) b q k in
      target_elsewhere M b q there t.0 t.1 (sym t.2) (ap (node_of M.cluster) (sym t.3)))

  expected_live : (q : ℕ) → has expected q ≡ true → has (live_obeying M es b) q ≡ true
  expected_live q h = by_part (or_cases (has (live_after M b) q) (has (block_targets (transfers_commanded M) b) q) (sym (list_any-append (λ y. y == q) (live_after M b) (block_targets (transfers_commanded M) b)) ∙ h))
    where
      by_part : (has (live_after M b) q ≡ true) ⊎ (has (block_targets (transfers_commanded M) b) q ≡ true) → has (live_obeying M es b) q ≡ true
      by_part (inl there) = stays_live M b q there es each_obeys
      by_part (inr k) =
          let t = one_target (transfers_commanded M) b q k in
          subst (λ (x : ℕ × ℕ). has (live_obeying M es x.0) x.1 ≡ true) (λ i. (t.2 i, t.3 i)) (target_live M t.0 t.1 es each_obeys (obeyed.each_copied t.0 t.1))

  only_copies_added : AddsCopies M (after_obeying M es)
  only_copies_added = through M (AddsCopies M) (step_copies M) (after_round M) (same_after_round M, λ p there. inl there) es each_obeys

  live_expected : (q : ℕ) → has (live_obeying M es b) q ≡ true → has expected q ≡ true
  live_expected q h =
      let is = live_usable (after_obeying M es).cluster (after_obeying M es).holdings b q h in
      list_any-append (λ y. y == q) (live_after M b) (block_targets (transfers_commanded M) b) ∙ by_origin (sym (ap (λ C. is_draining C q) only_copies_added.0.cluster) ∙ is.1) (only_copies_added.1 (replica_at b q) is.0)
    where
      by_origin : is_draining M.cluster q ≡ false → IsUsable (after_round M).holdings (replica_at b q) ⊎ IsCopy M (replica_at b q) → (has (live_after M b) q || has (block_targets (transfers_commanded M) b) q) ≡ true
      by_origin staying (inl was) = or_left (has (live_after M b) q) (has (block_targets (transfers_commanded M) b) q) (live_now M.cluster (after_round M).holdings b q was staying)
      by_origin staying (inr copy) =
          or_right (has (live_after M b) q) (has (block_targets (transfers_commanded M) b) q)
          ((λ i. has (block_targets (transfers_commanded M) (copy.2 i).block) (copy.2 i).storage) ∙ target_among (transfers_commanded M) copy.0 copy.1)

  pub gained : length (live_obeying M es b) ≡ length (live_after M b) + copies_commanded M b
  gained =
      let more = within expected (live_obeying M es b) expected_once (live_once (after_obeying M es).cluster (after_obeying M es).holdings b) expected_live in
      let fewer = within (live_obeying M es b) expected (live_once (after_obeying M es).cluster (after_obeying M es).holdings b) expected_once live_expected in
      let long = length-append (live_after M b) (block_targets (transfers_commanded M) b) in
      let count = length-map (filter (λ (t : Transfer). t.block == b) (transfers_commanded M)) (λ (t : Transfer). t.target) ∙ length-filter (λ (t : Transfer). t.block == b) (transfers_commanded M) in
      omega (arith, more, fewer, long, count)

-- The order in which the commands are listed.

pub listed_obeys : (M : State) → ObeysAll M (as_listed M)
listed_obeys M = record {
  only = all_of_each (Obeys M) (as_listed M)
      (each_appended (Obeys M) (map copied (transfers_commanded M)) (map erased (deletes_commanded M))
      (each_mapped (Obeys M) copied (transfers_commanded M) (each_then (IsAmong (transfers_commanded M)) (λ t. Obeys M (copied t)) (transfers_commanded M) (each_among (transfers_commanded M)) (λ t at. inl (t, at, refl))))
      (each_mapped (Obeys M) erased (deletes_commanded M) (each_then (IsAmong (deletes_commanded M)) (λ d. Obeys M (erased d)) (deletes_commanded M) (each_among (deletes_commanded M)) (λ d at. inr (d, at, refl)))));
  each_copied = λ t h.
      let at = among_map copied (transfers_commanded M) t h in
      (at.0, at.1 ++ map erased (deletes_commanded M), ap (λ es. es ++ map erased (deletes_commanded M)) at.2 ∙ append_assoc at.0 (copied t ∷ at.1) (map erased (deletes_commanded M)));
  each_erased = λ d h.
      let at = among_map erased (deletes_commanded M) d h in
      (map copied (transfers_commanded M) ++ at.0, at.1, ap (λ es. map copied (transfers_commanded M) ++ es) at.2 ∙ sym (append_assoc (map copied (transfers_commanded M)) at.0 (erased d ∷ at.1)));
}
