-- While nodes obey a round, usable replicas that no command takes stay usable, and live ones live.
use Rattle.std.specs.Prelude.{◌≡◌, ℕ, Bool, true, false, not, ◌&&◌, ◌==◌, if◌then◌else◌, List, [], ◌∷◌, Option, Some, None, is_some, option_map}
use Rattle.std.specs.Option.{option_map_or}
use Rattle.std.specs.Ordering.{eq_by_cmp}
use Rattle.std.proofs.Common.{cond, refl, sym, ap, subst, ◌∙◌, inl, inr}
use Rattle.std.proofs.lemmas.Bool.{eqb-true, false≢true, and_parts, false_from_ne_true, not-true, not_from_false}
use Rattle.bm_base.specs.declared.replica.ReplicaId.{ReplicaId}
use Rattle.bm_base.specs.declared.replica.Stamp.{Stamp}
use Rattle.bm_base.specs.declared.replica.Tag.{Tag}
use Rattle.bm_base.specs.declared.replica.Tag.TheVariants.{Good, Stale, Bad, Stray}
use Rattle.bm_base.specs.declared.replica.Marks.{Marks}
use Rattle.bm_base.specs.declared.replica.BlockInfo.{BlockInfo}
use Rattle.bm_base.specs.declared.event.Event.{Event}
use Rattle.bm_base.specs.declared.commands.Transfer.{Transfer}
use Rattle.bm_base.specs.declared.commands.Delete.{Delete}
use Rattle.bm_base.specs.Words.{get, Cluster, Holdings, State, by_replica, replica_cmp, replica_at, has, live, is_good, is_bad, is_usable, is_live_on, node_of, has_storage, is_draining, are_siblings, same_stamp, was_bad, was_excess, entered_tag, entered_marks, replaces, enter, remove_replica, change_cluster, change_holdings, after_event}
use Rattle.bm_base.specs.Promises.NextRound.{IsAmong, IsDeleteCommanded, IsTransferCommanded, deletes_commanded, after_round, live_after}
use Rattle.bm_base.proofs.Options.{is_there, revised, staying, all_stays}
use Rattle.bm_base.proofs.ForEach.{Each}
use Rattle.bm_base.proofs.MapLaws.{get-insert, get-keep, get-remove}
use Rattle.bm_base.proofs.MapEntries.{same_key, key_itself, not_tied}
use Rattle.bm_base.proofs.ListTests.{same_again}
use Rattle.bm_base.proofs.Membership.{has_where}
use Rattle.laws_of_states.proofs.LiveReplicas.{live_is}
use Rattle.laws_of_states.proofs.LiveAfterRound.{live_stays}
use Rattle.laws_of_states.proofs.AfterRound.{same_tag}
use Rattle.laws_of_states.proofs.CommandedDeletes.{tested}
use Rattle.laws_of_rounds.specs.Obedience.{copied, erased, Obeys, after_events, after_obeying, live_obeying}
use Rattle.laws_of_rounds.proofs.TransferLaws.{fresh_node, source_usable, node_is}
use Rattle.laws_of_rounds.proofs.NextRounds.{commanded_chosen}
use Rattle.laws_of_rounds.proofs.NodeCommands.{same_rest}

-- Marks.

-- the replica exists and is usable; below: it is usable if it exists
abbrev pub IsUsable : Holdings → ReplicaId → Type 0
IsUsable H q = option_map_or is_usable (get H.replicas q) false ≡ true

abbrev pub IsUnspoilt : Holdings → ReplicaId → Type 0
IsUnspoilt H q = option_map_or is_usable (get H.replicas q) true ≡ true

unspoilt : (o : Option Marks) → option_map_or is_usable o false ≡ true → option_map_or is_usable o true ≡ true
unspoilt None e = refl
unspoilt (Some m) e = e

mark_parts : (t : Tag) (x : Bool) → (is_good t && not x) ≡ true → (is_bad t ≡ false) × (x ≡ false)
mark_parts Good false e = (refl, refl)
mark_parts Good true e = absurd (false≢true e)
mark_parts Stale x e = absurd (false≢true e)
mark_parts Bad x e = absurd (false≢true e)
mark_parts Stray x e = absurd (false≢true e)

unspoilt_parts : (o : Option Marks) → option_map_or is_usable o true ≡ true → (option_map_or (λ m. is_bad m.tag) o false ≡ false) × (option_map_or (λ m. m.excess) o false ≡ false)
unspoilt_parts None e = (refl, refl)
unspoilt_parts (Some m) e = mark_parts m.tag m.excess e

same_as_itself : (a : Stamp) → same_stamp a a ≡ true
same_as_itself a = ap (λ b. b && (a.len == a.len)) (same_again a.generation) ∙ same_again a.len

-- A replica that is reported with its block's stamp is usable, if no unusable one was there before.
module _ (H : Holdings) (p : ReplicaId) (stamp : Stamp) (i : BlockInfo) (known : get H.blocks p.block ≡ Some i) (same : stamp ≡ i.stamp) (clean : IsUnspoilt H p) where
  not_bad : was_bad H p ≡ false
  unfolding was_bad
  not_bad = (unspoilt_parts (get H.replicas p) clean).0

  not_excess : was_excess H p ≡ false
  unfolding was_excess
  not_excess = (unspoilt_parts (get H.replicas p) clean).1

  tag_is_good : entered_tag H p stamp ≡ Good
  unfolding entered_tag
  tag_is_good =
      ap (λ o. option_map_or (λ j. if was_bad H p then Bad else if same_stamp stamp j.stamp then Good else Stale) o Stray) known
      ∙ ap (λ b. if b then Bad else if same_stamp stamp i.stamp then Good else Stale) not_bad
      ∙ ap (λ b. if b then Good else Stale) (ap (same_stamp stamp) (sym same) ∙ same_as_itself stamp)

  entered_usable : is_usable (entered_marks H p stamp) ≡ true
  unfolding entered_marks
  entered_usable = ap (λ t. is_good t && not (is_good t && was_excess H p)) tag_is_good ∙ ap not not_excess

-- Replicas that a copy replaces.

on_one_node : (C : Cluster) (s t : ℕ) (o : Option ℕ) → node_of C s ≡ o → option_map_or (λ n. has_storage C n t) o false ≡ true → node_of C t ≡ node_of C s
on_one_node C s t None at e = absurd (false≢true e)
on_one_node C s t (Some n) at e = node_is C n t e ∙ sym at

pub replaced_is : (C : Cluster) (p q : ReplicaId) → replaces C p q ≡ true → ((q.block == p.block) ≡ true) × (node_of C q.storage ≡ node_of C p.storage) × ((q.storage == p.storage) ≡ false)
unfolding replaces are_siblings
replaced_is C p q e =
    let is = and_parts (q.block == p.block) (are_siblings C p.storage q.storage) e in
    let siblings = and_parts (not (q.storage == p.storage)) (option_map_or (λ n. has_storage C n q.storage) (node_of C p.storage) false) is.1 in
    (is.0, on_one_node C p.storage q.storage (node_of C p.storage) refl siblings.1, not-true (q.storage == p.storage) siblings.0)

-- Steps.

get_entered : (C : Cluster) (H : Holdings) (p : ReplicaId) (stamp : Stamp) (q : ReplicaId)
    → get (enter C H p stamp).replicas q ≡ cond (eq_by_cmp replica_cmp q p) (Some (entered_marks H p stamp)) (staying (not (replaces C p q)) (get H.replicas q))
unfolding enter
get_entered C H p stamp q = get-insert _ p (entered_marks H p stamp) q ∙ ap (cond (eq_by_cmp replica_cmp q p) (Some (entered_marks H p stamp))) (get-keep H.replicas (λ r _. not (replaces C p r)) q)

get_erased : (H : Holdings) (p q : ReplicaId) → get (remove_replica H p).replicas q ≡ cond (eq_by_cmp replica_cmp q p) None (get H.replicas q)
unfolding remove_replica
get_erased H p q = get-remove H.replicas p q

after_copy : (N : State) (t : Transfer) → (after_event N (copied t)).holdings ≡ enter N.cluster N.holdings (replica_at t.block t.target) t.stamp
unfolding after_event change_holdings
after_copy N t = refl

after_erasure : (N : State) (d : Delete) → (after_event N (erased d)).holdings ≡ remove_replica N.holdings (replica_at d.block d.storage)
unfolding after_event change_holdings
after_erasure N d = refl

thinned : (b : Bool) (o : Option Marks) → option_map_or is_usable o true ≡ true → option_map_or is_usable (staying b o) true ≡ true
thinned b None e = refl
thinned true (Some m) e = e
thinned false (Some m) e = refl

emptied : (b : Bool) (o : Option Marks) → option_map_or is_usable o true ≡ true → option_map_or is_usable (cond b None o) true ≡ true
emptied true o e = refl
emptied false o e = e

-- Steps of a state with the nodes and blocks from before the round.

pub record HasSameBlocks (M N : State) : Type 0 where
  pub cluster : N.cluster ≡ M.cluster
  pub blocks : N.holdings.blocks ≡ M.holdings.blocks

-- no command of the round takes the replica
pub record IsSafe (M : State) (q : ReplicaId) : Type 0 where
  pub not_deleted : IsDeleteCommanded M q → ⊥
  pub not_replaced : (t : Transfer) → IsTransferCommanded M t → replaces M.cluster (replica_at t.block t.target) q ≡ false

stamp_known : (M : State) (t : Transfer) → IsTransferCommanded M t → (i : BlockInfo) × (get M.holdings.blocks t.block ≡ Some i) × (t.stamp ≡ i.stamp)
stamp_known M t h = let at = commanded_chosen M t h in (source_usable M at.0 at.1 t at.2).1

module _ (M N : State) (unchanged : HasSameBlocks M N) where
  pub same_after_copy : (t : Transfer) → HasSameBlocks M (after_event N (copied t))
  unfolding after_event change_cluster change_holdings enter
  same_after_copy t = record { cluster = unchanged.cluster; blocks = unchanged.blocks }

  pub same_after_erasure : (d : Delete) → HasSameBlocks M (after_event N (erased d))
  unfolding after_event change_cluster change_holdings remove_replica
  same_after_erasure d = record { cluster = unchanged.cluster; blocks = unchanged.blocks }

  module _ (t : Transfer) (h : IsTransferCommanded M t) where
    abbrev key : ReplicaId
    key = replica_at t.block t.target

    copy_usable : IsUnspoilt N.holdings key → is_usable (entered_marks N.holdings key t.stamp) ≡ true
    copy_usable clean =
        let is = stamp_known M t h in
        entered_usable N.holdings key t.stamp is.0 (ap (λ m. get m t.block) unchanged.blocks ∙ is.1) is.2 clean

    pub get_copied : (q : ReplicaId) → get (after_event N (copied t)).holdings.replicas q
        ≡ cond (eq_by_cmp replica_cmp q key) (Some (entered_marks N.holdings key t.stamp)) (staying (not (replaces N.cluster key q)) (get N.holdings.replicas q))
    get_copied q = ap (λ (G : Holdings). get G.replicas q) (after_copy N t) ∙ get_entered N.cluster N.holdings key t.stamp q

    copy_unspoilt : (q : ReplicaId) → IsUnspoilt N.holdings q → IsUnspoilt (after_event N (copied t)).holdings q
    copy_unspoilt q clean = ap (λ o. option_map_or is_usable o true) (get_copied q) ∙ by_tie (eq_by_cmp replica_cmp q key) refl
      where
        by_tie : (b : Bool) → eq_by_cmp replica_cmp q key ≡ b
            → option_map_or is_usable (cond b (Some (entered_marks N.holdings key t.stamp)) (staying (not (replaces N.cluster key q)) (get N.holdings.replicas q))) true ≡ true
        by_tie true tie = copy_usable (subst (IsUnspoilt N.holdings) (same_key by_replica q key tie) clean)
        by_tie false tie = thinned (not (replaces N.cluster key q)) (get N.holdings.replicas q) clean

    copy_keeps : (q : ReplicaId) → IsSafe M q → IsUsable N.holdings q → IsUsable (after_event N (copied t)).holdings q
    copy_keeps q safe there = ap (λ o. option_map_or is_usable o false) (get_copied q) ∙ by_tie (eq_by_cmp replica_cmp q key) refl
      where
        by_tie : (b : Bool) → eq_by_cmp replica_cmp q key ≡ b
            → option_map_or is_usable (cond b (Some (entered_marks N.holdings key t.stamp)) (staying (not (replaces N.cluster key q)) (get N.holdings.replicas q))) false ≡ true
        by_tie true tie = copy_usable (subst (IsUnspoilt N.holdings) (same_key by_replica q key tie) (unspoilt (get N.holdings.replicas q) there))
        by_tie false tie =
            ap (λ o. option_map_or is_usable o false) (all_stays (not (replaces N.cluster key q)) (get N.holdings.replicas q)
            (not_from_false (replaces N.cluster key q) (ap (λ C. replaces C key q) unchanged.cluster ∙ safe.not_replaced t h))) ∙ there

    pub copy_arrives : IsUnspoilt N.holdings key → IsUsable (after_event N (copied t)).holdings key
    copy_arrives clean =
        ap (λ o. option_map_or is_usable o false)
        (get_copied key ∙ ap (λ b. cond b (Some (entered_marks N.holdings key t.stamp)) (staying (not (replaces N.cluster key key)) (get N.holdings.replicas key))) (key_itself by_replica key))
        ∙ copy_usable clean

  module _ (d : Delete) (at : IsAmong (deletes_commanded M) d) where
    pub get_without : (q : ReplicaId) → get (after_event N (erased d)).holdings.replicas q ≡ cond (eq_by_cmp replica_cmp q (replica_at d.block d.storage)) None (get N.holdings.replicas q)
    get_without q = ap (λ (G : Holdings). get G.replicas q) (after_erasure N d) ∙ get_erased N.holdings (replica_at d.block d.storage) q

    erasure_unspoilt : (q : ReplicaId) → IsUnspoilt N.holdings q → IsUnspoilt (after_event N (erased d)).holdings q
    erasure_unspoilt q clean =
        ap (λ o. option_map_or is_usable o true) (get_without q) ∙ emptied (eq_by_cmp replica_cmp q (replica_at d.block d.storage)) (get N.holdings.replicas q) clean

    erasure_keeps : (q : ReplicaId) → IsSafe M q → IsUsable N.holdings q → IsUsable (after_event N (erased d)).holdings q
    erasure_keeps q safe there =
        ap (λ o. option_map_or is_usable o false)
        (get_without q
        ∙ ap (λ b. cond b None (get N.holdings.replicas q)) (not_tied by_replica q (replica_at d.block d.storage) (λ is. safe.not_deleted (subst (IsDeleteCommanded M) (sym is) at))))
        ∙ there

-- Events.

abbrev pub StaysIntact : State → ReplicaId → State → Type 0
StaysIntact M q N = HasSameBlocks M N × IsUnspoilt N.holdings q

abbrev pub StaysUsable : State → ReplicaId → State → Type 0
StaysUsable M q N = HasSameBlocks M N × IsUsable N.holdings q

pub step_unspoilt : (M : State) (q : ReplicaId) (N : State) (e : Event) → StaysIntact M q N → Obeys M e → StaysIntact M q (after_event N e)
step_unspoilt M q N e h (inl c) = subst (λ x. StaysIntact M q (after_event N x)) (sym c.2) (same_after_copy M N h.0 c.0, copy_unspoilt M N h.0 c.0 c.1 q h.1)
step_unspoilt M q N e h (inr c) = subst (λ x. StaysIntact M q (after_event N x)) (sym c.2) (same_after_erasure M N h.0 c.0, erasure_unspoilt M N h.0 c.0 c.1 q h.1)

pub step_usable : (M : State) (q : ReplicaId) → IsSafe M q → (N : State) (e : Event) → StaysUsable M q N → Obeys M e → StaysUsable M q (after_event N e)
step_usable M q safe N e h (inl c) = subst (λ x. StaysUsable M q (after_event N x)) (sym c.2) (same_after_copy M N h.0 c.0, copy_keeps M N h.0 c.0 c.1 q safe h.1)
step_usable M q safe N e h (inr c) = subst (λ x. StaysUsable M q (after_event N x)) (sym c.2) (same_after_erasure M N h.0 c.0, erasure_keeps M N h.0 c.0 c.1 q safe h.1)

-- all events together keep what each event that obeys keeps
pub through : (M : State) (P : State → Type 0) → ((N : State) (e : Event) → P N → Obeys M e → P (after_event N e)) → (N : State) → P N → (es : List Event) → Each (Obeys M) es → P (after_events N es)
through M P step N h [] each = h
through M P step N h (e ∷ es) each = through M P step (after_event N e) (step N e h each.0) es each.1

pub same_after_round : (M : State) → HasSameBlocks M (after_round M)
same_after_round M = record { cluster = (same_rest M).0; blocks = (same_rest M).1 }

same_after_step : (M N : State) (e : Event) → HasSameBlocks M N → Obeys M e → HasSameBlocks M (after_event N e)
same_after_step M N e h (inl c) = subst (λ x. HasSameBlocks M (after_event N x)) (sym c.2) (same_after_copy M N h c.0)
same_after_step M N e h (inr c) = subst (λ x. HasSameBlocks M (after_event N x)) (sym c.2) (same_after_erasure M N h c.0)

pub same_after_obedience : (M : State) (es : List Event) → Each (Obeys M) es → HasSameBlocks M (after_obeying M es)
same_after_obedience M es each = through M (HasSameBlocks M) (same_after_step M) (after_round M) (same_after_round M) es each

-- Live replicas.

passes : (d : Bool) (o : Option Marks) → option_map_or is_usable o false ≡ true → d ≡ false → option_map_or (λ m. is_usable m && not d) o false ≡ true
passes d None e staying = e
passes d (Some m) e staying = (λ i. e i && not (staying i))

pub live_now : (C : Cluster) (H : Holdings) (b s : ℕ) → IsUsable H (replica_at b s) → is_draining C s ≡ false → has (live C H b) s ≡ true
live_now C H b s there staying = has_where (is_live_on C) H b s ∙ passes (is_draining C s) (get H.replicas (replica_at b s)) there staying

pub live_usable : (C : Cluster) (H : Holdings) (b s : ℕ) → has (live C H b) s ≡ true → IsUsable H (replica_at b s) × (is_draining C s ≡ false)
live_usable C H b s h =
    let is = (live_is C H b s).0 h in
    (ap (λ o. option_map_or is_usable o false) is.1 ∙ ap (λ t. is_good t && not is.0.excess) is.2 ∙ ap not is.3, is.4)

-- a replica that exists after the round existed before it
pub there_before : (M : State) (q : ReplicaId) (m : Marks) → get (after_round M).holdings.replicas q ≡ Some m → is_some (get M.holdings.replicas q) ≡ true
there_before M q m found =
    let was = revised (λ (n : Marks). n.tag) (get M.holdings.replicas q) m.tag (sym (same_tag M q) ∙ ap (option_map (λ (n : Marks). n.tag)) found) in
    is_there (get M.holdings.replicas q) was.0 was.1

module _ (M : State) (b s : ℕ) (live_there : has (live_after M b) s ≡ true) where
  pub target_elsewhere : (t : Transfer) → IsTransferCommanded M t → b ≡ t.block → node_of M.cluster s ≡ node_of M.cluster t.target → ⊥
  target_elsewhere t h same node =
      let at = commanded_chosen M t h in
      let fresh = fresh_node M at.0 at.1 t at.2 in
      let is = (live_is M.cluster (after_round M).holdings b s).0 live_there in
      fresh.no_replica s (subst (λ c. is_some (get M.holdings.replicas (replica_at c s)) ≡ true) same (there_before M (replica_at b s) is.0 is.1)) node

  live_safe : IsSafe M (replica_at b s)
  live_safe = record {
    not_deleted = λ h. live_stays M b s live_there (tested M (replica_at b s) h);
    not_replaced = λ t h. false_from_ne_true (replaces M.cluster (replica_at t.block t.target) (replica_at b s)) (λ e.
        let is = replaced_is M.cluster (replica_at t.block t.target) (replica_at b s) e in
        target_elsewhere t h (eqb-true b t.block is.0) is.1);
  }

  pub stays_live : (es : List Event) → Each (Obeys M) es → has (live_obeying M es b) s ≡ true
  stays_live es each =
      let here = live_usable M.cluster (after_round M).holdings b s live_there in
      let end = through M (StaysUsable M (replica_at b s)) (step_usable M (replica_at b s) live_safe) (after_round M) (same_after_round M, here.0) es each in
      live_now (after_obeying M es).cluster (after_obeying M es).holdings b s end.1 (ap (λ C. is_draining C s) end.0.cluster ∙ here.1)
