-- Each node is commanded the chosen transfers, in order, and deletes of its own storages.
use Rattle.std.specs.Prelude.{◌≡◌, ℕ, ◌+◌, ◌≤◌, ◌<◌, ◌⊎◌, Bool, true, false, ◌&&◌, ◌||◌, ◌==◌, if◌then◌else◌, List, [], ◌∷◌, ◌++◌, map, filter, flat_map, length, Option, Some, None, is_some, option_map}
use Rattle.std.specs.Option.{option_map_or}
use Rattle.std.specs.List.{All}
use Rattle.std.proofs.Common.{cond, refl, sym, ap, subst, ◌∙◌, arith, inl, inr, append_assoc}
use Rattle.std.proofs.lemmas.Bool.{eqb-true, lt-ltb, false≢true}
use Rattle.bm_base.specs.declared.replica.ReplicaId.{ReplicaId}
use Rattle.bm_base.specs.declared.replica.Marks.{Marks}
use Rattle.bm_base.specs.declared.replica.Level.TheVariants.{Highest}
use Rattle.bm_base.specs.declared.commands.Transfer.{Transfer}
use Rattle.bm_base.specs.declared.commands.Delete.{Delete}
use Rattle.bm_base.specs.declared.commands.NodeCommands.{NodeCommands}
use Rattle.bm_base.specs.Words.{get, keys, RoundLimits, Cluster, Holdings, State, replica_at, has, node_of, has_storage, sources_of, is_usable, drains, is_draining, level, state_after_expiry, state_at_choice, with_surplus_marked, without_expired, without_unordered_excess, deletes_of, deletes, whole_round, commands_of, node_commands, has_commands, is_commanded, end_round}
use Rattle.bm_base.specs.Promises.Lawful.{IsOrderly}
use Rattle.bm_base.specs.Promises.NextRound.{IsAmong, IsTransferCommanded, deletes_commanded, transfers_chosen, after_round}
use Rattle.std.proofs.lemmas.Option.{same_Some}
use Rattle.bm_base.proofs.Options.{there}
use Rattle.bm_base.proofs.ForEach.{Each, each_of, each_then, each_filter_by, each_flat_map, each_any}
use Rattle.bm_base.proofs.Membership.{has_where}
use Rattle.laws_of_rounds.proofs.UsableReplicas.{sources_usable}
use Rattle.laws_of_rounds.proofs.NodeGroups.{each_node, each_on_node, all_of_each}
use Rattle.bm_base.proofs.Sets.{has_keys}
use Rattle.laws_of_states.proofs.RoundCommands.{IsTested, chosen_deletes_of, deleted_is}
use Rattle.laws_of_states.proofs.LiveAfterRound.{marks_started, marks_before, remarked, remarked_ordered, surplus_of}
use Rattle.bm_base.proofs.Options.{revised}
use Rattle.bm_base.proofs.Slices.{has_middle}
use Rattle.laws_of_states.proofs.MarkedReplicas.{ordered_by}
use Rattle.laws_of_states.proofs.CommandedDeletes.{commanded_among}
use Rattle.laws_of_rounds.proofs.TransferLaws.{node_is, storage_is, streams_of_node, two_below, source_usable}
use Rattle.laws_of_rounds.proofs.NextRounds.{each_among, each_is, commanded_chosen, ordered_by_round, pending_now}
use Rattle.laws_of_states.proofs.AfterRound.{marks_after}

-- The commands of a node are for its own storages.

own_of : (C : Cluster) (ts : List Transfer) (ds : List Delete) (n : ℕ)
    → All (λ (t : Transfer). node_of C t.source ≡ Some n) (node_commands C ts ds n).transfers × All (λ (d : Delete). node_of C d.storage ≡ Some n) (node_commands C ts ds n).deletes
unfolding node_commands
own_of C ts ds n = (
  all_of_each (λ (t : Transfer). node_of C t.source ≡ Some n) (filter (λ (t : Transfer). has_storage C n t.source) ts)
      (each_filter_by (λ (_ : Transfer). Unit {0}) (λ t. has_storage C n t.source) (λ t. node_of C t.source ≡ Some n) (λ t _ e. node_is C n t.source e) ts (each_of (λ (_ : Transfer). Unit {0}) ts (λ _. tt))),
  all_of_each (λ (d : Delete). node_of C d.storage ≡ Some n) (filter (λ (d : Delete). has_storage C n d.storage) ds)
      (each_filter_by (λ (_ : Delete). Unit {0}) (λ d. has_storage C n d.storage) (λ d. node_of C d.storage ≡ Some n) (λ d _ e. node_is C n d.storage e) ds (each_of (λ (_ : Delete). Unit {0}) ds (λ _. tt))),
)

abbrev IsOwn : Cluster → NodeCommands → Type 0
IsOwn C k = All (λ t. node_of C t.source ≡ Some k.node) k.transfers × All (λ d. node_of C d.storage ≡ Some k.node) k.deletes

own_node : (C : Cluster) (ts : List Transfer) (ds : List Delete) (n : ℕ) → IsOwn C (node_commands C ts ds n)
unfolding node_commands
own_node C ts ds n = own_of C ts ds n

pub each_own : (M : State) → All (IsOwn M.cluster) (whole_round M).0.nodes
unfolding whole_round state_at_choice state_after_expiry
each_own M = all_of_each (IsOwn M.cluster) (whole_round M).0.nodes (each_node M.cluster _ _ _ (IsOwn M.cluster) (own_node M.cluster _ _))

-- The order of a node's transfers is that of the choice.

pub cons_head : {X : Type 0} (x y : X) (xs ys : List X) → x ∷ xs ≡ y ∷ ys → x ≡ y
cons_head x y xs ys e = cc

pub cons_tail : {X : Type 0} (x y : X) (xs ys : List X) → x ∷ xs ≡ y ∷ ys → xs ≡ ys
cons_tail x y xs ys e = cc

pub no_cons : {X : Type 0} (front back : List X) (x : X) → [] ≡ front ++ x ∷ back → ⊥
no_cons [] back x e = cc
no_cons (y ∷ front) back x e = cc

-- a position in a filtered list is one in the whole list
pub unfiltered : {X : Type 0} (p : X → Bool) (xs front back : List X) (x : X) → filter p xs ≡ front ++ x ∷ back
    → (before : List X) × (after : List X) × (xs ≡ before ++ x ∷ after) × (filter p before ≡ front) × (p x ≡ true)
unfiltered {X = X} p [] front back x e = absurd (no_cons front back x e)
unfiltered {X = X} p (y ∷ xs) front back x e = by_test (p y) refl front e (λ ys. unfiltered p xs ys back x)
  where
    by_front : p y ≡ true → (ys : List X) → y ∷ filter p xs ≡ ys ++ x ∷ back
        → ((zs : List X) → filter p xs ≡ zs ++ x ∷ back → (before : List X) × (after : List X) × (xs ≡ before ++ x ∷ after) × (filter p before ≡ zs) × (p x ≡ true))
        → (before : List X) × (after : List X) × (y ∷ xs ≡ before ++ x ∷ after) × (filter p before ≡ ys) × (p x ≡ true)
    by_front t [] f rest =
        let is : y ≡ x = cons_head y x (filter p xs) back f in
        ([], xs, ap (λ z. z ∷ xs) is, refl, subst (λ z. p z ≡ true) is t)
    by_front t (z ∷ zs) f rest =
        let is : y ≡ z = cons_head y z (filter p xs) (zs ++ x ∷ back) f in
        let r = rest zs (cons_tail y z (filter p xs) (zs ++ x ∷ back) f) in
        (y ∷ r.0, r.1, ap (λ ws. y ∷ ws) r.2, ap (λ b. cond b (y ∷ filter p r.0) (filter p r.0)) t ∙ (λ j. is j ∷ r.3 j), r.4)

    by_test : (b : Bool) → p y ≡ b → (ys : List X) → cond b (y ∷ filter p xs) (filter p xs) ≡ ys ++ x ∷ back
        → ((zs : List X) → filter p xs ≡ zs ++ x ∷ back → (before : List X) × (after : List X) × (xs ≡ before ++ x ∷ after) × (filter p before ≡ zs) × (p x ≡ true))
        → (before : List X) × (after : List X) × (y ∷ xs ≡ before ++ x ∷ after) × (filter p before ≡ ys) × (p x ≡ true)
    by_test true t ys f rest = by_front t ys f rest
    by_test false t ys f rest =
        let r = rest ys f in
        (y ∷ r.0, r.1, ap (λ ws. y ∷ ws) r.2, ap (λ b. cond b (y ∷ filter p r.0) (filter p r.0)) t ∙ r.3, r.4)

abbrev AreFirstTwo : State → NodeCommands → Type 0
AreFirstTwo M k = drains M.cluster k.node ≡ false → (front back : List Transfer) (t : Transfer) → k.transfers ≡ front ++ t ∷ back → (level M.cluster (state_at_choice M).holdings t.block ≡ Some Highest) ⊎ (length front < 2)

not_draining : (C : Cluster) (n s : ℕ) → has_storage C n s ≡ true → drains C n ≡ false → is_draining C s ≡ false
unfolding is_draining
not_draining C n s on staying = ap (λ o. option_map_or (drains C) o false) (node_is C n s on) ∙ staying

first_two_of : (M : State) (ds : List Delete) (n : ℕ) → AreFirstTwo M (node_commands M.cluster (transfers_chosen M) ds n)
unfolding node_commands
first_two_of M ds n staying front back t e =
    let place = unfiltered (λ (u : Transfer). has_storage M.cluster n u.source) (transfers_chosen M) front back t e in
    of_case (two_below M place.0 place.1 t place.2 (not_draining M.cluster n t.source place.4 staying))
    (streams_of_node M.cluster place.0 n t.source place.4 ∙ ap length place.3)
  where
    of_case : {k : ℕ} → (level M.cluster (state_at_choice M).holdings t.block ≡ Some Highest) ⊎ (k < 2) → k ≡ length front → (level M.cluster (state_at_choice M).holdings t.block ≡ Some Highest) ⊎ (length front < 2)
    of_case (inl h) is = inl h
    of_case (inr h) is = inr (subst (λ z. z < 2) is h)

pub first_two : (M : State) → All (AreFirstTwo M) (whole_round M).0.nodes
unfolding whole_round state_at_choice state_after_expiry
first_two M =
    all_of_each (AreFirstTwo M) (whole_round M).0.nodes (each_node M.cluster _ (transfers_chosen M) (chosen_deletes_of M) (AreFirstTwo M) (first_two_of M (chosen_deletes_of M)))

-- All that is chosen is commanded.

among_back : {X : Type 0} (xs ys : List X) (x : X) → IsAmong ys x → IsAmong (xs ++ ys) x
among_back [] ys x h = h
among_back (y ∷ xs) ys x h = let r = among_back xs ys x h in (y ∷ r.0, r.1, ap (λ zs. y ∷ zs) r.2)

among_front : {X : Type 0} (xs ys : List X) (x : X) → IsAmong xs x → IsAmong (xs ++ ys) x
among_front xs ys x h = (h.0, h.1 ++ ys, ap (λ zs. zs ++ ys) h.2 ∙ append_assoc h.0 (x ∷ h.1) ys)

pub among_cons : {X : Type 0} (y : X) (xs : List X) (x : X) → IsAmong xs x → IsAmong (y ∷ xs) x
among_cons y xs x h = (y ∷ h.0, h.1, ap (λ zs. y ∷ zs) h.2)

module _ {X Y : Type 0} where
  among_flat_at : (f : X → List Y) (front back : List X) (x : X) (y : Y) → IsAmong (f x) y → IsAmong (flat_map f (front ++ x ∷ back)) y
  among_flat_at f [] back x y h = among_front (f x) (flat_map f back) y h
  among_flat_at f (z ∷ front) back x y h = among_back (f z) (flat_map f (front ++ x ∷ back)) y (among_flat_at f front back x y h)

  pub among_flat : (f : X → List Y) (xs : List X) (x : X) (y : Y) → IsAmong xs x → IsAmong (f x) y → IsAmong (flat_map f xs) y
  among_flat f xs x y h at = subst (λ zs. IsAmong (flat_map f zs) y) (sym h.2) (among_flat_at f h.0 h.1 x y at)

  among_map_at : (f : X → Y) (front back : List X) (x : X) → IsAmong (map f (front ++ x ∷ back)) (f x)
  among_map_at f [] back x = ([], map f back, refl)
  among_map_at f (z ∷ front) back x = among_cons (f z) (map f (front ++ x ∷ back)) (f x) (among_map_at f front back x)

  pub among_map : (f : X → Y) (xs : List X) (x : X) → IsAmong xs x → IsAmong (map f xs) (f x)
  among_map f xs x h = subst (λ zs. IsAmong (map f zs) (f x)) (sym h.2) (among_map_at f h.0 h.1 x)

among_filter_at : {X : Type 0} (p : X → Bool) (front back : List X) (x : X) → p x ≡ true → IsAmong (filter p (front ++ x ∷ back)) x
among_filter_at p [] back x e = subst (λ b. IsAmong (cond b (x ∷ filter p back) (filter p back)) x) (sym e) ([], filter p back, refl)
among_filter_at p (z ∷ front) back x e =
    let rest = among_filter_at p front back x e in
    elim (p z) as (λ b. IsAmong (cond b (z ∷ filter p (front ++ x ∷ back)) (filter p (front ++ x ∷ back))) x) [
      | true ↦ among_cons z (filter p (front ++ x ∷ back)) x rest
      | false ↦ rest
    ]

pub among_filter : {X : Type 0} (p : X → Bool) (xs : List X) (x : X) → IsAmong xs x → p x ≡ true → IsAmong (filter p xs) x
among_filter p xs x h e = subst (λ zs. IsAmong (filter p zs) x) (sym h.2) (among_filter_at p h.0 h.1 x e)

pub among_numbers : (xs : List ℕ) (n : ℕ) → has xs n ≡ true → IsAmong xs n
among_numbers [] n h = absurd (false≢true h)
among_numbers (x ∷ xs) n h =
    (elim (x == n) as (λ b. (x == n) ≡ b → (b || has xs n) ≡ true → IsAmong (x ∷ xs) n) [
      | true ↦ λ e _. subst (λ z. IsAmong (z ∷ xs) n) (sym (eqb-true x n e)) ([], xs, refl)
      | false ↦ λ _ f. among_cons x xs n (among_numbers xs n f)
    ]) refl h

some_long : {X : Type 0} (front back : List X) (x : X) → 1 ≤ length (front ++ x ∷ back)
some_long [] back x = omega arith
some_long (y ∷ front) back x = let rest = some_long front back x in omega (arith, rest)

long_of : {X : Type 0} (xs : List X) (x : X) → IsAmong xs x → 1 ≤ length xs
long_of xs x h = subst (λ zs. 1 ≤ length zs) (sym h.2) (some_long h.0 h.1 x)

module _ (C : Cluster) (r : ℕ) (ts : List Transfer) (ds : List Delete) where
  commanded_transfer : (n : ℕ) (t : Transfer) → has (keys C.nodes) n ≡ true → has_storage C n t.source ≡ true → IsAmong ts t → IsAmong (flat_map (λ (k : NodeCommands). k.transfers) (commands_of C r ts ds).nodes) t
  unfolding commands_of node_commands
  commanded_transfer n t alive on at =
      let own : IsAmong (node_commands C ts ds n).transfers t = among_filter (λ (u : Transfer). has_storage C n u.source) ts t at on in
      let long = long_of (node_commands C ts ds n).transfers t own in
      among_flat (λ (k : NodeCommands). k.transfers) (filter has_commands (map (node_commands C ts ds) (keys C.nodes))) (node_commands C ts ds n) t
      (among_filter has_commands (map (node_commands C ts ds) (keys C.nodes)) (node_commands C ts ds n) (among_map (node_commands C ts ds) (keys C.nodes) n (among_numbers (keys C.nodes) n alive))
      (lt-ltb 0 (length (node_commands C ts ds n).transfers + length (node_commands C ts ds n).deletes) (omega (arith, long)))) own

  pub commanded_delete : (n : ℕ) (d : Delete) → has (keys C.nodes) n ≡ true → has_storage C n d.storage ≡ true → IsAmong ds d → IsAmong (flat_map (λ (k : NodeCommands). k.deletes) (commands_of C r ts ds).nodes) d
  unfolding commands_of node_commands
  commanded_delete n d alive on at =
      let own : IsAmong (node_commands C ts ds n).deletes d = among_filter (λ (e : Delete). has_storage C n e.storage) ds d at on in
      let long = long_of (node_commands C ts ds n).deletes d own in
      among_flat (λ (k : NodeCommands). k.deletes) (filter has_commands (map (node_commands C ts ds) (keys C.nodes))) (node_commands C ts ds n) d
      (among_filter has_commands (map (node_commands C ts ds) (keys C.nodes)) (node_commands C ts ds n) (among_map (node_commands C ts ds) (keys C.nodes) n (among_numbers (keys C.nodes) n alive))
      (lt-ltb 0 (length (node_commands C ts ds n).transfers + length (node_commands C ts ds n).deletes) (omega (arith, long)))) own

pub passing_there : (p : Marks → Bool) (o : Option Marks) → option_map_or p o false ≡ true → is_some o ≡ true
passing_there p None e = e
passing_there p (Some m) e = refl

mapped_was : {X Y : Type 0} (f : X → Y) (o : Option X) → is_some (option_map f o) ≡ true → is_some o ≡ true
mapped_was f None e = e
mapped_was f (Some x) e = refl

-- the node of a source is alive
source_alive : (M : State) (b s : ℕ) → IsOrderly M → has (sources_of M.cluster (state_at_choice M).holdings b) s ≡ true → (n : ℕ) × (has (keys M.cluster.nodes) n ≡ true) × (has_storage M.cluster n s ≡ true)
unfolding node_of
source_alive M b s lawful h =
    let known = mapped_was (remarked (surplus_of M b) s) (get M.holdings.replicas (replica_at b s)) (sym (ap is_some (marks_started M (replica_at b s))) ∙ passing_there is_usable (get (state_at_choice M).holdings.replicas (replica_at b s)) (sym (has_where (λ _ m. is_usable m) (state_at_choice M).holdings b s) ∙ sym (sources_usable M.cluster (state_at_choice M).holdings b s) ∙ h)) in
    let storage = there (get M.cluster.storages s) (lawful.holdings.stored (replica_at b s) known) in
    (storage.0.node, has_keys M.cluster.nodes storage.0.node ∙ lawful.cluster.alive s storage.0 storage.1, storage_is M.cluster storage.0.node s (ap (option_map (λ i. i.node)) storage.1))

pub chosen_commanded : (M : State) (t : Transfer) → IsOrderly M → IsAmong (transfers_chosen M) t → IsTransferCommanded M t
unfolding whole_round state_at_choice state_after_expiry
chosen_commanded M t lawful at =
    let alive = source_alive M t.block t.source lawful (source_usable M at.0 at.1 t at.2).0 in
    commanded_transfer M.cluster (state_at_choice M).round (transfers_chosen M) (chosen_deletes_of M) alive.0 t alive.1 alive.2 at

-- Deletes, and the state.

abbrev IsOnAlive : Cluster → Delete → Type 0
IsOnAlive C d = (n : ℕ) × (has (keys C.nodes) n ≡ true) × (has_storage C n d.storage ≡ true)

pub has_among : (xs : List ℕ) (n : ℕ) → IsAmong xs n → has xs n ≡ true
has_among xs n h = ap (λ zs. has zs n) h.2 ∙ has_middle h.0 h.1 n

deletes_alive : (limits : RoundLimits) (C : Cluster) (H : Holdings) → Each (IsOnAlive C) (deletes limits C H)
unfolding deletes
deletes_alive limits C H =
    each_flat_map (IsAmong (keys C.nodes)) (IsOnAlive C) (deletes_of limits C H)
    (λ n at. each_then (λ (d : Delete). has_storage C n d.storage ≡ true) (IsOnAlive C) (deletes_of limits C H n) (each_on_node limits C H n) (λ d on. (n, has_among (keys C.nodes) n at, on)))
    (keys C.nodes) (each_among (keys C.nodes))

delete_commanded : (M : State) (q : ReplicaId) → is_commanded (chosen_deletes_of M) q ≡ true → IsTested M q
unfolding is_commanded whole_round state_at_choice state_after_expiry
delete_commanded M q h =
    let one = each_any (IsAmong (chosen_deletes_of M)) (λ (d : Delete). (d.storage == q.storage) && (d.block == q.block)) (chosen_deletes_of M) (each_among (chosen_deletes_of M)) h in
    let alive = each_is (IsOnAlive M.cluster) (chosen_deletes_of M) one.0 (deletes_alive M.limits M.cluster (state_at_choice M).holdings) one.1 in
    commanded_among q one.0 (deletes_commanded M) (commanded_delete M.cluster (state_at_choice M).round (transfers_chosen M) (chosen_deletes_of M) alive.0 one.0 alive.1 alive.2 one.1) one.2

pub ordered_after : (M : State) (q : ReplicaId) → IsTested M q → (m : Marks) × (get (after_round M).holdings.replicas q ≡ Some m) × (m.ordered ≡ true)
ordered_after M q h =
    let is = deleted_is M q h in
    let after : get (after_round M).holdings.replicas q ≡ Some (ordered_by (chosen_deletes_of M) q is.0) = marks_after M q ∙ ap (option_map (ordered_by (chosen_deletes_of M) q)) is.1 in
    (ordered_by (chosen_deletes_of M) q is.0, after, ordered_by_round M q h (ordered_by (chosen_deletes_of M) q is.0) after)

newly : (t : Bool) (m : Marks) → m.ordered ≡ false → (if t then record m { ordered = true } else m).ordered ≡ true → t ≡ true
newly true m e f = refl
newly false m e f = absurd (false≢true (sym e ∙ f))

pub ordered_commanded : (M : State) (q : ReplicaId) (m n : Marks) → get M.holdings.replicas q ≡ Some m → m.ordered ≡ false → get (after_round M).holdings.replicas q ≡ Some n → n.ordered ≡ true → IsTested M q
ordered_commanded M q m n before unordered after ordered =
    let was = revised (ordered_by (chosen_deletes_of M) q) (get (state_at_choice M).holdings.replicas q) n (sym (marks_after M q) ∙ after) in
    let first = marks_before M q was.0 was.1 in
    let same : first.0 ≡ m = same_Some first.0 m (sym first.1 ∙ before) in
    delete_commanded M q (newly (is_commanded (chosen_deletes_of M) q) was.0
    (ap (λ x. x.ordered) (sym first.2) ∙ remarked_ordered (surplus_of M q.block) q.storage first.0 ∙ ap (λ x. x.ordered) same ∙ unordered)
    (ap (λ x. x.ordered) was.2 ∙ ordered))

pub pending_commanded : (M : State) (t : Transfer) → IsTransferCommanded M t → get (after_round M).holdings.pending (replica_at t.block t.target) ≡ Some (M.round + 1)
pending_commanded M t h = pending_now M t (commanded_chosen M t h)

-- What a round keeps.

pub same_rest : (M : State) → ((after_round M).cluster ≡ M.cluster) × ((after_round M).holdings.blocks ≡ M.holdings.blocks) × ((after_round M).limits ≡ M.limits)
    × ((after_round M).round ≡ M.round + 1) × ((after_round M).calls ≡ M.calls)
unfolding whole_round state_at_choice state_after_expiry end_round with_surplus_marked without_expired without_unordered_excess
same_rest M = (refl, refl, refl, refl, refl)
