-- Without notices between, rounds repeat no delete, and no copy to a node where one is pending.
use Rattle.std.specs.Prelude.{◌≡◌, ℕ, zero, suc, ◌+◌, ◌-◌, ◌<◌, Bool, true, false, not, ◌&&◌, ◌||◌, ◌==◌, nat_le, if◌then◌else◌, List, [], ◌∷◌, ◌++◌, map, Option, Some, None, is_some, option_and_then}
use Rattle.std.specs.List.{list_any}
use Rattle.std.specs.Ordering.{eq_by_cmp}
use Rattle.std.proofs.Common.{cond, refl, sym, ap, subst, ◌∙◌, arith}
use Rattle.std.proofs.lemmas.Bool.{lt-leb, false≢true, true≢false, or_left, or_right, and_from}
use Rattle.bm_base.specs.declared.replica.ReplicaId.{ReplicaId}
use Rattle.bm_base.specs.declared.replica.Marks.{Marks}
use Rattle.bm_base.specs.declared.commands.Transfer.{Transfer}
use Rattle.bm_base.specs.declared.commands.Delete.{Delete}
use Rattle.bm_base.specs.Words.{Map, get, insert, insert_all, Holdings, State, by_replica, replica_cmp, replica_at, node_of, state_after_expiry, state_at_choice, with_surplus_marked, without_expired, without_unordered_excess, end_round, is_commanded, whole_round}
use Rattle.bm_base.proofs.MapLaws.{get-keep, get-insert}
use Rattle.bm_base.proofs.Ties.{replica_tie}
use Rattle.bm_base.specs.Promises.NextRound.{IsTransferCommanded, IsAmong, deletes_commanded, transfers_commanded, transfers_chosen, after_round}
use Rattle.laws_of_rounds.specs.Rounds.{after_rounds}
use Rattle.bm_base.proofs.ForEach.{Each, each_any, each_then}
use Rattle.bm_base.proofs.ListTests.{same_again}
use Rattle.bm_base.proofs.MapEntries.{same_key}
use Rattle.laws_of_states.proofs.RoundCommands.{IsTested, chosen_deletes_of, each_delete, each_transfer, at_same}
use Rattle.laws_of_states.proofs.LiveAfterRound.{marks_started, remarked, remarked_ordered, surplus_of}
use Rattle.bm_base.proofs.Options.{revised}
use Rattle.laws_of_states.proofs.MarkedReplicas.{ordered_by}
use Rattle.laws_of_states.proofs.AfterRound.{marks_after}
use Rattle.laws_of_rounds.proofs.DeleteReasons.{not_ordered}
use Rattle.laws_of_rounds.proofs.TransferLaws.{fresh_node, any_at}

-- Members of a list.

among_more : {X : Type 0} (x : X) (xs : List X) (y : X) → IsAmong xs y → IsAmong (x ∷ xs) y
among_more x xs y h = (x ∷ h.0, h.1, ap (λ zs. x ∷ zs) h.2)

pub each_among : {X : Type 0} (xs : List X) → Each (IsAmong xs) xs
each_among [] = tt
each_among (x ∷ xs) = (([], xs, refl), each_then (IsAmong xs) (IsAmong (x ∷ xs)) xs (each_among xs) (among_more x xs))

pub each_at : {X : Type 0} (P : X → Type 0) (front back : List X) (x : X) → Each P (front ++ x ∷ back) → P x
each_at P [] back x h = h.0
each_at P (y ∷ front) back x h = each_at P front back x h.1

pub each_is : {X : Type 0} (P : X → Type 0) (xs : List X) (x : X) → Each P xs → IsAmong xs x → P x
each_is P xs x h at = each_at P at.0 at.1 x (subst (Each P) at.2 h)

-- a transfer that is commanded was chosen
pub commanded_chosen : (M : State) (t : Transfer) → IsTransferCommanded M t → IsAmong (transfers_chosen M) t
commanded_chosen M t h = each_is (IsAmong (transfers_chosen M)) (transfers_commanded M) t (each_transfer M (IsAmong (transfers_chosen M)) (each_among (transfers_chosen M))) h

-- Deletes.

each_is_commanded : (ds es : List Delete) → ((d : Delete) → list_any (λ e. (e.storage == d.storage) && (e.block == d.block)) es ≡ true → is_commanded ds (replica_at d.block d.storage) ≡ true)
    → Each (λ (d : Delete). is_commanded ds (replica_at d.block d.storage) ≡ true) es
each_is_commanded ds [] f = tt
each_is_commanded ds (d ∷ es) f = (
  f d (or_left ((d.storage == d.storage) && (d.block == d.block)) (list_any (λ e. (e.storage == d.storage) && (e.block == d.block)) es) (and_from (d.storage == d.storage) (d.block == d.block) (same_again d.storage) (same_again d.block))),
  each_is_commanded ds es (λ c g. f c (or_right ((d.storage == c.storage) && (d.block == c.block)) (list_any (λ e. (e.storage == c.storage) && (e.block == c.block)) es) g)),
)

commanded_itself : (ds : List Delete) → Each (λ (d : Delete). is_commanded ds (replica_at d.block d.storage) ≡ true) ds
unfolding is_commanded
commanded_itself ds = each_is_commanded ds ds (λ d h. h)

pub delete_chosen : (M : State) (q : ReplicaId) → IsTested M q → is_commanded (chosen_deletes_of M) q ≡ true
unfolding is_commanded
delete_chosen M q h =
    let found = each_any (λ (d : Delete). is_commanded (chosen_deletes_of M) (replica_at d.block d.storage) ≡ true) (λ d. (d.storage == q.storage) && (d.block == q.block)) (deletes_commanded M)
    (each_delete M (λ (d : Delete). is_commanded (chosen_deletes_of M) (replica_at d.block d.storage) ≡ true) (commanded_itself (chosen_deletes_of M))) h in
    subst (λ p. is_commanded (chosen_deletes_of M) p ≡ true) (at_same found.0 q found.2) found.1

-- a replica whose delete was commanded
abbrev pub IsOrdered : State → ReplicaId → Type 0
IsOrdered M q = (m : Marks) → get M.holdings.replicas q ≡ Some m → m.ordered ≡ true

ordered_now : (t : Bool) (m : Marks) → t ≡ true → (if t then record m { ordered = true } else m).ordered ≡ true
ordered_now true m e = refl
ordered_now false m e = absurd (false≢true e)

ordered_still : (t : Bool) (m : Marks) → m.ordered ≡ true → (if t then record m { ordered = true } else m).ordered ≡ true
ordered_still true m e = refl
ordered_still false m e = e

pub ordered_by_round : (M : State) (q : ReplicaId) → IsTested M q → IsOrdered (after_round M) q
ordered_by_round M q h m e =
    let was = revised (ordered_by (chosen_deletes_of M) q) (get (state_at_choice M).holdings.replicas q) m (sym (marks_after M q) ∙ e) in
    ap (λ x. x.ordered) (sym was.2) ∙ ordered_now (is_commanded (chosen_deletes_of M) q) was.0 (delete_chosen M q h)

pub ordered_stays : (M : State) (q : ReplicaId) → IsOrdered M q → IsOrdered (after_round M) q
ordered_stays M q h m e =
    let was = revised (ordered_by (chosen_deletes_of M) q) (get (state_at_choice M).holdings.replicas q) m (sym (marks_after M q) ∙ e) in
    let first = revised (remarked (surplus_of M q.block) q.storage) (get M.holdings.replicas q) was.0 (sym (marks_started M q) ∙ was.1) in
    ap (λ x. x.ordered) (sym was.2)
    ∙ ordered_still (is_commanded (chosen_deletes_of M) q) was.0 (ap (λ x. x.ordered) (sym first.2) ∙ remarked_ordered (surplus_of M q.block) q.storage first.0 ∙ h first.0 first.1)

ordered_for : (n : ℕ) (M : State) (q : ReplicaId) → IsOrdered M q → IsOrdered (after_rounds n M) q
ordered_for zero M q h = h
ordered_for (suc n) M q h = ordered_stays (after_rounds n M) q (ordered_for n M q h)

pub no_delete_twice : (M : State) (n : ℕ) (q : ReplicaId) → IsTested M q → IsTested (after_rounds n (after_round M)) q → ⊥
no_delete_twice M n q h again =
    let is = not_ordered (after_rounds n (after_round M)) q again in
    true≢false (sym (ordered_for n (after_round M) q (ordered_by_round M q h) is.0 is.1) ∙ is.2)

-- Transfers.

abbrev key_of : Transfer → ReplicaId
key_of t = replica_at t.block t.target

one_of : {X : Type 0} (a b : Bool) (r : X) (o : Option X) → cond b (Some r) (cond a (Some r) o) ≡ cond (a || b) (Some r) o
one_of true true r o = refl
one_of true false r o = refl
one_of false true r o = refl
one_of false false r o = refl

-- a key's value after one value is inserted for many keys
get_commanded : (ts : List Transfer) (r : ℕ) (m : Map by_replica ℕ) (q : ReplicaId)
    → get (insert_all m (map (λ t. (key_of t, r)) ts)) q ≡ cond (list_any (λ t. eq_by_cmp replica_cmp q (key_of t)) ts) (Some r) (get m q)
get_commanded [] r m q = refl
get_commanded (t ∷ ts) r m q =
    get_commanded ts r (insert m (key_of t) r) q
    ∙ ap (cond (list_any (λ u. eq_by_cmp replica_cmp q (key_of u)) ts) (Some r)) (get-insert m (key_of t) r q)
    ∙ one_of (eq_by_cmp replica_cmp q (key_of t)) (list_any (λ u. eq_by_cmp replica_cmp q (key_of u)) ts) r (get m q)

pending_finished : (r : ℕ) (H : Holdings) (ts : List Transfer) (ds : List Delete) (q : ReplicaId)
    → get (end_round r H ts ds).pending q ≡ cond (list_any (λ t. eq_by_cmp replica_cmp q (key_of t)) ts) (Some r) (get H.pending q)
unfolding end_round
pending_finished r H ts ds q = get_commanded ts r H.pending q

pending_after : (M : State) (q : ReplicaId)
    → get (after_round M).holdings.pending q ≡ cond (list_any (λ t. eq_by_cmp replica_cmp q (key_of t)) (transfers_chosen M)) (Some (M.round + 1)) (get (state_at_choice M).holdings.pending q)
unfolding whole_round state_at_choice state_after_expiry
pending_after M q = pending_finished (M.round + 1) (state_at_choice M).holdings (transfers_chosen M) (chosen_deletes_of M) q

pending_started : (M : State) (q : ReplicaId) (r : ℕ) → get M.holdings.pending q ≡ Some r → (M.round + 1) - r < M.limits.pend → get (state_at_choice M).holdings.pending q ≡ Some r
unfolding state_at_choice state_after_expiry with_surplus_marked without_expired without_unordered_excess
pending_started M q r e young =
    get-keep M.holdings.pending (λ _ t. not (nat_le M.limits.pend ((M.round + 1) - t))) q
    ∙ ap (option_and_then (λ t. cond (not (nat_le M.limits.pend ((M.round + 1) - t))) (Some t) None)) e
    ∙ ap (λ b. cond (not b) (Some r) None) (lt-leb M.limits.pend ((M.round + 1) - r) young)

replica_again : (k : ReplicaId) → eq_by_cmp replica_cmp k k ≡ true
replica_again k = replica_tie k k ∙ ap (λ b. b && (k.storage == k.storage)) (same_again k.block) ∙ same_again k.storage

pub pending_now : (M : State) (t : Transfer) → IsAmong (transfers_chosen M) t → get (after_round M).holdings.pending (key_of t) ≡ Some (M.round + 1)
pending_now M t at =
    pending_after M (key_of t)
    ∙ ap (λ b. cond b (Some (M.round + 1)) (get (state_at_choice M).holdings.pending (key_of t)))
    (ap (list_any (λ u. eq_by_cmp replica_cmp (key_of t) (key_of u))) at.2 ∙ any_at (λ u. eq_by_cmp replica_cmp (key_of t) (key_of u)) at.0 at.1 t (replica_again (key_of t)))

-- while a transfer is pending, no transfer of its block is chosen to its target's node
pub none_chosen : (M : State) (q : ReplicaId) (r : ℕ) (u : Transfer) → get M.holdings.pending q ≡ Some r → (M.round + 1) - r < M.limits.pend → IsAmong (transfers_chosen M) u
    → u.block ≡ q.block → node_of M.cluster q.storage ≡ node_of M.cluster u.target → ⊥
none_chosen M q r u e young at same node =
    let fresh = fresh_node M at.0 at.1 u at.2 in
    fresh.none_pending q.storage (ap is_some (ap (λ b. get (state_at_choice M).holdings.pending (replica_at b q.storage)) same ∙ pending_started M q r e young)) node

pub any_chosen : {X : Type 0} (p : X → Bool) (xs : List X) → list_any p xs ≡ true → (x : X) × IsAmong xs x × (p x ≡ true)
any_chosen p xs e = each_any (IsAmong xs) p xs (each_among xs) e

pub pending_stays : (M : State) (q : ReplicaId) (r : ℕ) → get M.holdings.pending q ≡ Some r → (M.round + 1) - r < M.limits.pend → get (after_round M).holdings.pending q ≡ Some r
pending_stays M q r e young = pending_after M q ∙ by_any (list_any (λ t. eq_by_cmp replica_cmp q (key_of t)) (transfers_chosen M)) refl
  where
    by_any : (b : Bool) → list_any (λ t. eq_by_cmp replica_cmp q (key_of t)) (transfers_chosen M) ≡ b → cond b (Some (M.round + 1)) (get (state_at_choice M).holdings.pending q) ≡ Some r
    by_any true f =
        let one = any_chosen (λ t. eq_by_cmp replica_cmp q (key_of t)) (transfers_chosen M) f in
        let is : q ≡ key_of one.0 = same_key by_replica q (key_of one.0) one.2 in
        absurd (none_chosen M q r one.0 e young one.1 (ap (λ p. p.block) (sym is)) (ap (λ p. node_of M.cluster p.storage) is))
    by_any false f = pending_started M q r e young

-- Rounds keep the cluster and the limits, and are counted.

cluster_kept : (M : State) → (after_round M).cluster ≡ M.cluster
unfolding whole_round state_at_choice state_after_expiry
cluster_kept M = refl

limits_kept : (M : State) → (after_round M).limits ≡ M.limits
unfolding whole_round state_at_choice state_after_expiry
limits_kept M = refl

round_counted : (M : State) → (after_round M).round ≡ M.round + 1
unfolding whole_round state_at_choice state_after_expiry
round_counted M = refl

same_cluster : (n : ℕ) (M : State) → (after_rounds n M).cluster ≡ M.cluster
same_cluster zero M = refl
same_cluster (suc n) M = cluster_kept (after_rounds n M) ∙ same_cluster n M

same_pend : (n : ℕ) (M : State) → (after_rounds n M).limits.pend ≡ M.limits.pend
same_pend zero M = refl
same_pend (suc n) M = ap (λ l. l.pend) (limits_kept (after_rounds n M)) ∙ same_pend n M

rounds_counted : (n : ℕ) (M : State) → (after_rounds n M).round ≡ M.round + n
rounds_counted zero M = omega arith
rounds_counted (suc n) M = let one = round_counted (after_rounds n M) in let rest = rounds_counted n M in omega (arith, one, rest)

-- a transfer that the last round commanded is still pending n rounds later, if n is below `pend`
pending_for : (n : ℕ) (M : State) (q : ReplicaId) → get M.holdings.pending q ≡ Some M.round → n < M.limits.pend → get (after_rounds n M).holdings.pending q ≡ Some M.round
pending_for zero M q e young = e
pending_for (suc n) M q e young =
    let count = rounds_counted n M in
    let pend = same_pend n M in
    pending_stays (after_rounds n M) q M.round (pending_for n M q e (omega (arith, young))) (omega (arith, count, pend, young))

pub no_transfer_twice : (M : State) (n : ℕ) (t u : Transfer) → n + 1 < M.limits.pend → IsTransferCommanded M t → IsTransferCommanded (after_rounds n (after_round M)) u
    → u.block ≡ t.block → node_of M.cluster u.target ≡ node_of M.cluster t.target → ⊥
no_transfer_twice M n t u young first later same node =
    let N : State = after_round M in
    let L : State = after_rounds n N in
    let count = rounds_counted n N in
    let pend : L.limits.pend ≡ M.limits.pend = same_pend n N ∙ ap (λ l. l.pend) (limits_kept M) in
    let pend_once : N.limits.pend ≡ M.limits.pend = ap (λ l. l.pend) (limits_kept M) in
    let cluster : L.cluster ≡ M.cluster = same_cluster n N ∙ cluster_kept M in
    let on_its_way : get L.holdings.pending (key_of t) ≡ Some N.round =
    pending_for n N (key_of t) (pending_now M t (commanded_chosen M t first) ∙ ap Some (sym (round_counted M))) (omega (arith, young, pend_once)) in
    none_chosen L (key_of t) N.round u on_its_way (omega (arith, count, pend, young)) (commanded_chosen L u later) same
    (subst (λ C. node_of C t.target ≡ node_of C u.target) (sym cluster) (sym node))
