-- A retired node may die: no further block is missing, and blocks keep their live replicas.
use Rattle.std.proofs.Common.{◌≡◌, ℕ, ◌<◌, ◌≤◌, Bool, true, false, not, ◌&&◌, Option, Some, None, length, refl, sym, ap, ◌∙◌, arith, eqb-true, eq-eqb, true≢false}
use Rattle.std.specs.Prelude.{◌==◌, nat_le}
use Rattle.std.specs.Option.{option_map_or}
use Rattle.std.specs.List.{list_any}
use Rattle.std.proofs.lemmas.Bool.{and_parts, and_from, and_right, leb-true, le-leb, false_from_ne_true, not-true, not_from_false}
use Rattle.bm_base.specs.declared.replica.ReplicaId.{ReplicaId}
use Rattle.bm_base.specs.declared.replica.Marks.{Marks}
use Rattle.bm_base.specs.declared.replica.BlockInfo.{BlockInfo}
use Rattle.bm_base.specs.declared.refusal.Refusal.{Refusal}
use Rattle.bm_base.specs.declared.call.Call.TheVariants as call
use Rattle.bm_base.specs.declared.call.Answer.{Answer}
use Rattle.bm_base.specs.declared.call.Answer.TheVariants as answer
use Rattle.bm_base.specs.Words.{get, entries, keys, Cluster, Holdings, State, replica_at, has, is_usable, is_live_on, is_drained_on, node_of, has_storage, drains, is_draining, storages_where, live, drained, has_enough_live, usable, missing_blocks, is_held_back_by, is_retired, without_node, without_storages, change_cluster, change_holdings, node_refusal, step, refused_or, after_event}
use Rattle.bm_base.specs.Promises.Lawful.{IsLawfulHoldings, IsOrderly}
use Rattle.bm_base.proofs.MapEntries.{entry_passes, passes_entry}
use Rattle.laws_of_events.proofs.NodeChanges.{on_it, is_on_it, node_at, still_there}
use Rattle.bm_base.proofs.ListTests.{any_map}
use Rattle.bm_parts.proofs.Filters.{any_shown}
use Rattle.bm_parts.proofs.Storages.{storages_left}
use Rattle.bm_parts.proofs.Deaths.{draining_elsewhere}
use Rattle.laws_of_events.proofs.ListedReplicas.{stored_where, usable_marks, marks_usable, missing_is, is_missing}
use Rattle.laws_of_events.specs.DrainingNodes as law
use Rattle.laws_of_states.proofs.LiveAfterRound.{some_first}

-- Draining storages.

draining_at : (C : Cluster) (n s : ℕ) → has_storage C n s ≡ true → is_draining C s ≡ drains C n
unfolding has_storage is_draining
draining_at C n s h = ap (λ z. option_map_or (drains C) z false) (node_at (node_of C s) n h)

-- The answer of the query.

second_fails : (a b : Bool) → (a && not b) ≡ false → a ≡ true → b ≡ true
second_fails true true e h = refl
second_fails true false e h = cc
second_fails false b e h = cc

module _ (C : Cluster) (H : Holdings) (n : ℕ) where
  enough_is : (b : ℕ) (i : BlockInfo) → get H.blocks b ≡ Some i → has_enough_live C H b ≡ nat_le i.repl (length (live C H b))
  unfolding has_enough_live
  enough_is b i e = ap (λ z. option_map_or (λ i. nat_le i.repl (length (live C H b))) z false) e

  -- the entry is of a drained replica of the block on the node
  abbrev drained_there : ℕ → ReplicaId × Marks → Bool
  drained_there b e = ((e.0.block == b) && is_drained_on C e.0.storage e.1) && has_storage C n e.0.storage

  any_drained : (b : ℕ) → list_any (has_storage C n) (drained C H b) ≡ list_any (drained_there b) (entries H.replicas)
  unfolding storages_where
  any_drained b = any_shown (has_storage C n) (λ e. e.0.storage) (λ e. (e.0.block == b) && is_drained_on C e.0.storage e.1) (entries H.replicas)

  any_held_back : list_any (is_held_back_by C H n) (keys H.blocks) ≡ list_any (λ e. is_held_back_by C H n e.0) (entries H.blocks)
  unfolding keys
  any_held_back = any_map (is_held_back_by C H n) (λ e. e.0) (entries H.blocks)

  held_back_is : (b : ℕ) → is_held_back_by C H n b ≡ (list_any (has_storage C n) (drained C H b) && not (has_enough_live C H b))
  unfolding is_held_back_by
  held_back_is b = refl

  retired_is : is_retired C H n ≡ (drains C n && not (list_any (is_held_back_by C H n) (keys H.blocks)))
  unfolding is_retired
  retired_is = refl

  module _ (retired : is_retired C H n ≡ true) where
    drains_then : drains C n ≡ true
    drains_then = (and_parts (drains C n) (not (list_any (is_held_back_by C H n) (keys H.blocks))) (sym retired_is ∙ retired)).0

    none_holds_back : (b : ℕ) (i : BlockInfo) → get H.blocks b ≡ Some i → is_held_back_by C H n b ≡ false
    none_holds_back b i e =
        let none : list_any (is_held_back_by C H n) (keys H.blocks) ≡ false =
        not-true _ (and_parts (drains C n) (not (list_any (is_held_back_by C H n) (keys H.blocks))) (sym retired_is ∙ retired)).1 in
        false_from_ne_true (is_held_back_by C H n b) (λ h. true≢false (sym (any_held_back ∙ passes_entry H.blocks (λ e. is_held_back_by C H n e.0) b i e h) ∙ none))

    -- a block with a usable replica on the node has enough live ones
    enough : (b s : ℕ) (i : BlockInfo) (m : Marks) → get H.blocks b ≡ Some i → has_storage C n s ≡ true → get H.replicas (replica_at b s) ≡ Some m → is_usable m ≡ true → i.repl ≤ length (live C H b)
    enough b s i m info on is usable =
        let here : is_drained_on C s m ≡ true = and_from (is_usable m) (is_draining C s) usable (draining_at C n s on ∙ drains_then) in
        let some : list_any (has_storage C n) (drained C H b) ≡ true =
        any_drained b ∙ passes_entry H.replicas (drained_there b) (replica_at b s) m is (and_from ((b == b) && is_drained_on C s m) (has_storage C n s) (and_from (b == b) (is_drained_on C s m) (eq-eqb b b refl) here) on) in
        leb-true i.repl (length (live C H b)) (sym (enough_is b i info) ∙ second_fails (list_any (has_storage C n) (drained C H b)) (has_enough_live C H b) (sym (held_back_is b) ∙ none_holds_back b i info) some)

  -- no block holds the node back if each that has a usable replica there has enough live ones
  unheld : ((b s : ℕ) (i : BlockInfo) (m : Marks) → get H.blocks b ≡ Some i → has_storage C n s ≡ true → get H.replicas (replica_at b s) ≡ Some m → is_usable m ≡ true → i.repl ≤ length (live C H b))
      → list_any (is_held_back_by C H n) (keys H.blocks) ≡ true → ⊥
  unheld plain h =
      let b = entry_passes H.blocks (λ e. is_held_back_by C H n e.0) (sym any_held_back ∙ h) in
      let parts = and_parts (list_any (has_storage C n) (drained C H b.0)) (not (has_enough_live C H b.0)) (sym (held_back_is b.0) ∙ b.3) in
      let p = entry_passes H.replicas (drained_there b.0) (sym (any_drained b.0) ∙ parts.0) in
      let here = and_parts ((p.0.block == b.0) && is_drained_on C p.0.storage p.1) (has_storage C n p.0.storage) p.3 in
      let drained_here = and_parts (p.0.block == b.0) (is_drained_on C p.0.storage p.1) here.0 in
      let is : get H.replicas (replica_at b.0 p.0.storage) ≡ Some p.1 = ap (λ c. get H.replicas (replica_at c p.0.storage)) (sym (eqb-true p.0.block b.0 drained_here.0)) ∙ p.2 in
      let live_enough = plain b.0 p.0.storage b.1 p.1 b.2 here.1 is (and_parts (is_usable p.1) (is_draining C p.0.storage) drained_here.1).0 in
      true≢false (sym (enough_is b.0 b.1 b.2 ∙ le-leb b.1.repl (length (live C H b.0)) live_enough) ∙ not-true (has_enough_live C H b.0) parts.1)

pub said_plainly : law.retired_is_said_plainly
said_plainly C H n = (
  (λ h. (drains_then C H n h, λ b s i info on held. enough C H n h b s i held.0 info (on_it C n s on) held.1 (marks_usable held.0 held.2.0 held.2.1))),
  (λ h.
      retired_is C H n
      ∙ and_from (drains C n) (not (list_any (is_held_back_by C H n) (keys H.blocks))) h.0
      (not_from_false (list_any (is_held_back_by C H n) (keys H.blocks))
      (false_from_ne_true (list_any (is_held_back_by C H n) (keys H.blocks)) (unheld C H n (λ b s i m info on is usable. h.1 b s i info (is_on_it C n s on) (m, is, usable_marks m usable)))))),
)

-- The state after the node's death.

module _ (C : Cluster) (H : Holdings) (n : ℕ) (retired : is_retired C H n ≡ true) where
  abbrev left : Holdings
  left = without_storages H (has_storage C n)

  live_left : (s : ℕ) (m : Marks) (t : Bool) → has_storage C n s ≡ t → (not t && is_live_on (without_node C n) s m) ≡ is_live_on C s m
  live_left s m true e = sym (and_right (is_usable m) (not (is_draining C s)) (ap not (draining_at C n s e ∙ drains_then C H n retired)))
  live_left s m false e = ap (λ d. is_usable m && not d) (draining_elsewhere C n s e)

  live_stays : (b : ℕ) → live (without_node C n) left b ≡ live C H b
  live_stays b = storages_left H (has_storage C n) (is_live_on (without_node C n)) (is_live_on C) b (λ s m is. live_left s m (has_storage C n s) refl)

  usable_left : (b s : ℕ) (i : BlockInfo) (m : Marks) → get H.blocks b ≡ Some i → length (live C H b) < i.repl → get H.replicas (replica_at b s) ≡ Some m → (t : Bool) → has_storage C n s ≡ t → (not t && is_usable m) ≡ is_usable m
  usable_left b s i m info few is true on = sym (false_from_ne_true (is_usable m) (λ usable. let more = enough C H n retired b s i m info on is usable in absurd (omega (arith, few, more))))
  usable_left b s i m info few is false on = refl

  usable_stays : (b : ℕ) (i : BlockInfo) → get H.blocks b ≡ Some i → length (live C H b) < i.repl → usable left b ≡ usable H b
  usable_stays b i info few = storages_left H (has_storage C n) (λ _ m. is_usable m) (λ _ m. is_usable m) b (λ s m is. usable_left b s i m info few is (has_storage C n s) refl)

  left_blocks : left.blocks ≡ H.blocks
  unfolding without_storages
  left_blocks = refl

  left_there : (b s : ℕ) → has_storage C n s ≡ false → get left.replicas (replica_at b s) ≡ get H.replicas (replica_at b s)
  unfolding without_storages
  left_there b s e = still_there (has_storage C n) H.replicas (replica_at b s) e

  -- a block that is missing now had no usable replica
  had_none : IsLawfulHoldings C H → (b : ℕ) (i : BlockInfo) → get H.blocks b ≡ Some i → ((s : ℕ) (m : Marks) → get left.replicas (replica_at b s) ≡ Some m → is_usable m ≡ true → ⊥)
      → (s : ℕ) (m : Marks) → get H.replicas (replica_at b s) ≡ Some m → is_usable m ≡ true → (t : Bool) → has_storage C n s ≡ t → ⊥
  had_none L b i info never s m is usable true on =
      let some : i.repl ≤ length (live C H b) = enough C H n retired b s i m info on is usable in
      let wanted : 1 ≤ i.repl = (L.replicated b i info).0 in
      let one = some_first (live C H b) (omega (arith, some, wanted)) in
      let k = stored_where (is_live_on (without_node C n)) left b one.0 (ap (λ xs. has xs one.0) (live_stays b) ∙ one.1) in
      never one.0 k.0 k.1 (and_parts (is_usable k.0) (not (is_draining (without_node C n) one.0)) k.2).0
  had_none L b i info never s m is usable false off = never s m (left_there b s off ∙ is) usable

  none_missing : IsLawfulHoldings C H → (b : ℕ) → has (missing_blocks (without_node C n) left) b ≡ true → has (missing_blocks C H) b ≡ true
  none_missing L b h =
      let now = missing_is (without_node C n) left b h in
      let info : get H.blocks b ≡ Some now.0 = ap (λ m. get m b) (sym left_blocks) ∙ now.1 in
      is_missing C H b L (
        now.0,
        info,
        λ s held.
            had_none L b now.0 info (λ t m is usable. now.2 t (m, is, usable_marks m usable)) s held.0 held.1 (marks_usable held.0 held.2.0 held.2.1) (has_storage C n s) refl,
      )

yes : Answer → Bool
yes (answer.IsRetired b) = b
yes _ = false

yes_by : (M : State) (o : Option Refusal) (b : Bool) → (refused_or M o (answer.IsRetired b, M)).0 ≡ answer.IsRetired true → b ≡ true
unfolding yes
yes_by M None b e = ap yes e
yes_by M (Some r) b e = cc

said_yes : (M : State) (n : ℕ) → (step M (call.Retired n)).0 ≡ answer.IsRetired true → is_retired M.cluster M.holdings n ≡ true
unfolding step
said_yes M n e = yes_by M (node_refusal M.cluster n) (is_retired M.cluster M.holdings n) e

pub may_die : (M : State) → IsOrderly M → law.retired_node_may_die M
unfolding after_event change_cluster change_holdings
may_die M L n said =
    let retired = said_yes M n said in
    record {
      live_stay = live_stays M.cluster M.holdings n retired;
      usable_stay = usable_stays M.cluster M.holdings n retired;
      none_missing = none_missing M.cluster M.holdings n retired L.holdings;
    }
