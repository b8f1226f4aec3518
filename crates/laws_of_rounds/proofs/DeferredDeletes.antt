-- A round commands each due delete, unless its node gets the limit of deletes, which is not 0.
use Rattle.std.specs.Prelude.{◌≡◌, ℕ, zero, suc, ◌+◌, ◌≤◌, ◌⊎◌, Bool, true, false, not, ◌&&◌, ◌||◌, ◌==◌, nat_le, if◌then◌else◌, List, [], ◌∷◌, ◌++◌, map, filter, flat_map, length, take, Some, is_some, option_map}
use Rattle.std.specs.Option.{option_map_or}
use Rattle.std.specs.Ordering.{eq_by_cmp}
use Rattle.std.specs.FinMap.{find}
use Rattle.std.proofs.Common.{cond, refl, sym, ap, subst, ◌∙◌, arith, inl, inr}
use Rattle.std.proofs.lemmas.Bool.{le-leb, lt-ltb, false≢true}
use Rattle.bm_base.specs.declared.replica.ReplicaId.{ReplicaId}
use Rattle.bm_base.specs.declared.replica.Marks.{Marks}
use Rattle.bm_base.specs.declared.replica.BlockInfo.{BlockInfo}
use Rattle.bm_base.specs.declared.commands.Transfer.{Transfer}
use Rattle.bm_base.specs.declared.commands.Delete.{Delete}
use Rattle.bm_base.specs.declared.commands.NodeCommands.{NodeCommands}
use Rattle.bm_base.specs.Words.{Map, Order, get, entries, keys, RoundLimits, Cluster, Holdings, State, by_replica, has, is_stray, is_corrupt, node_of, has_storage, has_enough_live, state_after_expiry, state_at_choice, with_surplus_marked, without_expired, without_unordered_excess, is_deletable, deletable_on, deletes_of, deletes, whole_round, commands_of, node_commands, has_commands}
use Rattle.bm_base.specs.Promises.Lawful.{IsOrderly}
use Rattle.bm_base.specs.Promises.NextRound.{IsAmong, IsDeleteCommanded, live_marked, transfers_chosen}
use Rattle.laws_of_rounds.specs.Deletes.{IsToBeDeleted}
use Rattle.std.proofs.lemmas.Option.{same_Some}
use Rattle.bm_base.proofs.ListTests.{same_again}
use Rattle.bm_base.proofs.MapEntries.{same_key}
use Rattle.laws_of_rounds.proofs.NodeGroups.{deletes_on_node}
use Rattle.bm_base.proofs.Sets.{has_keys}
use Rattle.laws_of_states.proofs.RoundCommands.{chosen_deletes_of}
use Rattle.laws_of_states.proofs.LiveAfterRound.{marks_before}
use Rattle.laws_of_rounds.proofs.TransferLaws.{storage_is}
use Rattle.laws_of_rounds.proofs.NodeCommands.{no_cons, cons_head, cons_tail, among_cons, among_flat, among_map, among_filter, among_numbers, commanded_delete}
use Rattle.bm_base.proofs.Options.{there}

-- Positions in lists.

first_or_rest : {X : Type 0} (y : X) (ys : List X) (x : X) (front back : List X) → y ∷ ys ≡ front ++ x ∷ back → (y ≡ x) ⊎ IsAmong ys x
first_or_rest y ys x [] back e = inl (cons_head y x ys back e)
first_or_rest y ys x (z ∷ front) back e = inr (front, back, cons_tail y z ys (front ++ x ∷ back) e)

-- an item of a list is among its first n, or these are n items
taken_or_full : {X : Type 0} (n : ℕ) (xs : List X) (x : X) → IsAmong xs x → IsAmong (take n xs) x ⊎ (n ≤ length (take n xs))
taken_or_full zero xs x h = inr (omega arith)
taken_or_full (suc n) [] x h = absurd (no_cons h.0 h.1 x h.2)
taken_or_full (suc n) (y ∷ ys) x h = by_place (first_or_rest y ys x h.0 h.1 h.2) (taken_or_full n ys x)
  where
    more : IsAmong (take n ys) x ⊎ (n ≤ length (take n ys)) → IsAmong (y ∷ take n ys) x ⊎ (suc n ≤ length (y ∷ take n ys))
    more (inl a) = inl (among_cons y (take n ys) x a)
    more (inr long) = inr (omega (arith, long))

    by_place : (y ≡ x) ⊎ IsAmong ys x → (IsAmong ys x → IsAmong (take n ys) x ⊎ (n ≤ length (take n ys))) → IsAmong (y ∷ take n ys) x ⊎ (suc n ≤ length (y ∷ take n ys))
    by_place (inl e) rest = inl ([], take n ys, ap (λ z. z ∷ take n ys) e)
    by_place (inr a) rest = more (rest a)

-- what a map holds is among its entries
pub among_found : {K X : Type 0} (o : Order K) (k : K) (v : X) (es : List (K × X)) → find o.cmp k es ≡ Some v → IsAmong es (k, v)
among_found o k v [] e = absurd (false≢true (ap is_some e))
among_found o k v (d ∷ es) e = by_key (eq_by_cmp o.cmp k d.0) refl e (among_found o k v es)
  where
    by_key : (b : Bool) → eq_by_cmp o.cmp k d.0 ≡ b → cond b (Some d.1) (find o.cmp k es) ≡ Some v → (find o.cmp k es ≡ Some v → IsAmong es (k, v)) → IsAmong (d ∷ es) (k, v)
    by_key true t f rest = ([], es, λ j. (sym (same_key o k d.0 t) j, same_Some d.1 v f j) ∷ es)
    by_key false t f rest = among_cons d es (k, v) (rest f)

among_replicas : (m : Map by_replica Marks) (q : ReplicaId) (v : Marks) → get m q ≡ Some v → IsAmong (entries m) (q, v)
unfolding get entries
among_replicas m q v e = among_found by_replica q v m.list e

-- Replicas to delete.

deletable_if : (ordered stray excess corrupt enough : Bool) → ordered ≡ false → (stray ≡ true) ⊎ ((excess ≡ true) ⊎ ((corrupt ≡ true) × (enough ≡ true)))
    → (not ordered && (stray || excess || (corrupt && enough))) ≡ true
deletable_if true stray excess corrupt enough e h = sym e
deletable_if false true excess corrupt enough e h = refl
deletable_if false false true corrupt enough e h = refl
deletable_if false false false true true e h = refl
deletable_if false false false true false e (inl h) = h
deletable_if false false false true false e (inr (inl h)) = h
deletable_if false false false true false e (inr (inr h)) = h.1
deletable_if false false false false enough e (inl h) = h
deletable_if false false false false enough e (inr (inl h)) = h
deletable_if false false false false enough e (inr (inr h)) = h.0

enough_is : (M : State) (b : ℕ) (i : BlockInfo) → get M.holdings.blocks b ≡ Some i → i.repl ≤ length (live_marked M b) → has_enough_live M.cluster (state_at_choice M).holdings b ≡ true
unfolding has_enough_live state_at_choice state_after_expiry with_surplus_marked without_expired without_unordered_excess
enough_is M b i known h = ap (λ o. option_map_or (λ x. nat_le x.repl (length (live_marked M b))) o false) known ∙ le-leb i.repl (length (live_marked M b)) h

deletable_is : (M : State) (q : ReplicaId) (m : Marks) → m.ordered ≡ false → IsToBeDeleted M q m → is_deletable M.cluster (state_at_choice M).holdings q m ≡ true
unfolding is_deletable
deletable_is M q m unordered why =
    deletable_if m.ordered (is_stray m.tag) m.excess (is_corrupt m.tag) (has_enough_live M.cluster (state_at_choice M).holdings q.block) unordered (of_why why)
  where
    of_why : IsToBeDeleted M q m → (is_stray m.tag ≡ true) ⊎ ((m.excess ≡ true) ⊎ ((is_corrupt m.tag ≡ true) × (has_enough_live M.cluster (state_at_choice M).holdings q.block ≡ true)))
    of_why (inl h) = inl h
    of_why (inr (inl h)) = inr (inl h)
    of_why (inr (inr h)) = inr (inr (h.0, enough_is M q.block h.1.0 h.1.1 h.1.2))

abbrev delete_of : ReplicaId → Delete
delete_of q = record { storage = q.storage; block = q.block }

module _ (C : Cluster) (H : Holdings) (q : ReplicaId) (m : Marks) (found : get H.replicas q ≡ Some m) (test : is_deletable C H q m ≡ true) where
  on_storage : IsAmong (deletable_on C H q.storage) (delete_of q)
  unfolding deletable_on
  on_storage =
      among_map (λ e. record { storage = q.storage; block = e.0.block }) (filter (λ e. (e.0.storage == q.storage) && is_deletable C H e.0 e.1) (entries H.replicas)) (q, m)
      (among_filter (λ e. (e.0.storage == q.storage) && is_deletable C H e.0 e.1) (entries H.replicas) (q, m) (among_replicas H.replicas q m found)
      (ap (λ b. b && is_deletable C H q m) (same_again q.storage) ∙ test))

  on_node_if : (n : ℕ) (b : Bool) → b ≡ true → IsAmong (if b then deletable_on C H q.storage else []) (delete_of q)
  on_node_if n true e = on_storage
  on_node_if n false e = absurd (false≢true e)

  of_node : (limits : RoundLimits) (n : ℕ) → has (keys C.storages) q.storage ≡ true → has_storage C n q.storage ≡ true
      → IsAmong (deletes_of limits C H n) (delete_of q) ⊎ (limits.invalidate ≤ length (deletes_of limits C H n))
  unfolding deletes_of
  of_node limits n known on =
      taken_or_full limits.invalidate (flat_map (λ s. if has_storage C n s then deletable_on C H s else []) (keys C.storages)) (delete_of q)
      (among_flat (λ s. if has_storage C n s then deletable_on C H s else []) (keys C.storages) q.storage (delete_of q) (among_numbers (keys C.storages) q.storage known)
      (on_node_if n (has_storage C n q.storage) on))

among_deletes : (limits : RoundLimits) (C : Cluster) (H : Holdings) (n : ℕ) (d : Delete) → has (keys C.nodes) n ≡ true → IsAmong (deletes_of limits C H n) d → IsAmong (deletes limits C H) d
unfolding deletes
among_deletes limits C H n d alive at = among_flat (deletes_of limits C H) (keys C.nodes) n d (among_numbers (keys C.nodes) n alive) at

-- the commands of a node that has `invalidate` deletes or more
full_node : (limits : RoundLimits) (C : Cluster) (H : Holdings) (r : ℕ) (ts : List Transfer) (n : ℕ) → 1 ≤ limits.invalidate → has (keys C.nodes) n ≡ true → limits.invalidate ≤ length (deletes_of limits C H n)
    → (k : NodeCommands) × IsAmong (commands_of C r ts (deletes limits C H)).nodes k × (k.node ≡ n) × (limits.invalidate ≤ length k.deletes)
unfolding commands_of node_commands
full_node limits C H r ts n some alive long =
    let own : filter (λ (d : Delete). has_storage C n d.storage) (deletes limits C H) ≡ deletes_of limits C H n = deletes_on_node limits C H n ∙ ap (λ b. cond b (deletes_of limits C H n) []) alive in
    let full : limits.invalidate ≤ length (filter (λ (d : Delete). has_storage C n d.storage) (deletes limits C H)) = subst (λ xs. limits.invalidate ≤ length xs) (sym own) long in (
      node_commands C ts (deletes limits C H) n,
      among_filter has_commands (map (node_commands C ts (deletes limits C H)) (keys C.nodes)) (node_commands C ts (deletes limits C H) n)
          (among_map (node_commands C ts (deletes limits C H)) (keys C.nodes) n (among_numbers (keys C.nodes) n alive))
          (lt-ltb 0 (length (node_commands C ts (deletes limits C H) n).transfers + length (node_commands C ts (deletes limits C H) n).deletes) (omega (arith, full, some))),
      refl,
      full,
    )

pub only_limit : (M : State) (q : ReplicaId) (m : Marks) (n : ℕ) → IsOrderly M → 1 ≤ M.limits.invalidate
    → get (state_at_choice M).holdings.replicas q ≡ Some m → m.ordered ≡ false → IsToBeDeleted M q m → node_of M.cluster q.storage ≡ Some n
    → IsDeleteCommanded M q ⊎ ((k : NodeCommands) × IsAmong (whole_round M).0.nodes k × (k.node ≡ n) × (M.limits.invalidate ≤ length k.deletes))
unfolding whole_round state_at_choice state_after_expiry node_of
only_limit M q m n lawful some found unordered why on =
    let before = marks_before M q m found in
    let storage = there (get M.cluster.storages q.storage) (lawful.holdings.stored q (ap is_some before.1)) in
    let node : storage.0.node ≡ n = same_Some storage.0.node n (sym (ap (option_map (λ i. i.node)) storage.1) ∙ on) in
    let alive : has (keys M.cluster.nodes) n ≡ true =
    has_keys M.cluster.nodes n ∙ ap (λ z. is_some (get M.cluster.nodes z)) (sym node) ∙ lawful.cluster.alive q.storage storage.0 storage.1 in
    let here : has_storage M.cluster n q.storage ≡ true = storage_is M.cluster n q.storage on in
    of_case alive here (of_node M.cluster (state_at_choice M).holdings q m found (deletable_is M q m unordered why) M.limits n (has_keys M.cluster.storages q.storage ∙ ap is_some storage.1) here)
  where
    of_case : has (keys M.cluster.nodes) n ≡ true → has_storage M.cluster n q.storage ≡ true
        → IsAmong (deletes_of M.limits M.cluster (state_at_choice M).holdings n) (delete_of q) ⊎ (M.limits.invalidate ≤ length (deletes_of M.limits M.cluster (state_at_choice M).holdings n))
        → IsDeleteCommanded M q ⊎ ((k : NodeCommands) × IsAmong (whole_round M).0.nodes k × (k.node ≡ n) × (M.limits.invalidate ≤ length k.deletes))
    of_case alive here (inl at) =
        inl (commanded_delete M.cluster (state_at_choice M).round (transfers_chosen M) (chosen_deletes_of M) n (delete_of q) alive here (among_deletes M.limits M.cluster (state_at_choice M).holdings n (delete_of q) alive at))
    of_case alive here (inr long) = inr (full_node M.limits M.cluster (state_at_choice M).holdings (state_at_choice M).round (transfers_chosen M) n some alive long)
