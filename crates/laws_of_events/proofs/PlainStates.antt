-- Every state after calls on a new manager is sound, in plain words.
use Rattle.std.proofs.Common.{◌≡◌, ◌≢◌, ℕ, ◌≤◌, List, Bool, true, false, not, ◌&&◌, Some, None, is_some, refl, sym, ap, subst, ◌∙◌, eqb-true, eq-eqb, true≢false}
use Rattle.std.specs.Prelude.{◌==◌}
use Rattle.std.specs.Option.{option_map_or}
use Rattle.bm_base.specs.declared.replica.ReplicaId.{ReplicaId}
use Rattle.bm_base.specs.declared.replica.Tag.{Tag}
use Rattle.bm_base.specs.declared.replica.Tag.TheVariants.{Good, Stale, Bad, Stray}
use Rattle.bm_base.specs.declared.storage.StorageInfo.{StorageInfo}
use Rattle.bm_base.specs.declared.config.Config.{Config}
use Rattle.bm_base.specs.declared.limits.Limits.{Limits}
use Rattle.bm_base.specs.declared.call.Call.{Call}
use Rattle.bm_base.specs.Words.{get, contains_key, len, Cluster, State, first_state_within, empty_cluster, state_after, is_stray, drains, is_draining, node_of, has_storage, are_siblings}
use Rattle.bm_base.specs.Promises.Lawful.{IsOrderly, IsLawfulCluster}
use Rattle.bm_base.proofs.Options.{there, not_there}
use Rattle.bm_base.proofs.Clusters.{node_is, is_on}
use Rattle.laws_of_states.proofs.OrderlyStates.{calls_orderly}
use Rattle.laws_of_events.proofs.PendingTargets.{still_to_come}
use Rattle.laws_of_events.proofs.StatesAfterCalls.{limits_stay}
use Rattle.laws_of_events.proofs.NoTransferToDraining.{node_off, none_sent_there}
use Rattle.laws_of_events.proofs.ReportedMarks.{found_good}
use Rattle.laws_of_events.specs.PlainWords as law

alive_node : (C : Cluster) → IsLawfulCluster C → (s : ℕ) → contains_key C.storages s ≡ true → law.IsOnAliveNode C s
alive_node C L s known =
    let i = there (get C.storages s) known in
    let rack = there (get C.nodes i.0.node) (L.alive s i.0 i.1) in
    (i.0, rack.0, i.1, rack.1)

-- two storages of one node that are not siblings are the same
same_by : (t : Bool) → (not t && true) ≡ false → t ≡ true
same_by true e = refl
same_by false e = cc

no_sibling_same : (C : Cluster) (s t : ℕ) (i j : StorageInfo) → get C.storages s ≡ Some i → get C.storages t ≡ Some j → i.node ≡ j.node → are_siblings C s t ≡ false → t ≡ s
unfolding are_siblings
no_sibling_same C s t i j e f same h =
    let one : option_map_or (λ n. has_storage C n t) (node_of C s) false ≡ true =
    ap (λ z. option_map_or (λ n. has_storage C n t) z false) (node_is C s i e) ∙ is_on C i.node t j f ∙ eq-eqb j.node i.node (sym same) in
    eqb-true t s (same_by (t == s) (ap (λ b. not (t == s) && b) (sym one) ∙ h))

stray_is : (t : Tag) → t ≢ Stray → is_stray t ≡ false
stray_is Good never = refl
stray_is Stale never = refl
stray_is Bad never = refl
stray_is Stray never = absurd (never refl)

undone : (a b : Bool) → a ≡ not b → a ≡ true → b ≡ false
undone a true e h = absurd (true≢false (sym h ∙ e))
undone a false e h = refl

redone : (a b : Bool) → a ≡ not b → a ≡ false → b ≡ true
redone a true e h = refl
redone a false e h = absurd (true≢false (sym e ∙ h))

pub plainly : (l : Limits) (M : State) → M.cluster.limits ≡ l → IsOrderly M → ((p : ReplicaId) → is_some (get M.holdings.pending p) ≡ true → get M.holdings.replicas p ≡ None)
    → ((p : ReplicaId) → is_some (get M.holdings.pending p) ≡ true → is_draining M.cluster p.storage ≡ false) → law.SoundState l M
unfolding drains
plainly l M limits L coming spares =
    let H = L.holdings in
    record {
      replicas_alive = λ p is. alive_node M.cluster L.cluster p.storage (H.stored p is);
      draining_alive = L.cluster.draining_alive;
      draining_spared = λ p i is e. not_there (get M.cluster.draining i.node) (node_off M.cluster p.storage i.node (spares p is) (node_is M.cluster p.storage i e));
      transfers_alive = λ p is. alive_node M.cluster L.cluster p.storage (H.pending_stored p is);
      one_on_a_node = λ p q i j e f block at_p at_q node.
          let storage : q.storage ≡ p.storage = no_sibling_same M.cluster p.storage q.storage i j at_p at_q node (H.once p q e f block) in
          λ k. record { block = block k; storage = sym storage k };
      stray_unknown = λ p m e stray. not_there (get M.holdings.blocks p.block) (undone (is_stray m.tag) (contains_key M.holdings.blocks p.block) (H.strays p m e) (ap is_stray stray));
      others_known = λ p m e never. redone (is_stray m.tag) (contains_key M.holdings.blocks p.block) (H.strays p m e) (stray_is m.tag never);
      excess_good = λ p m e h. found_good m.tag (H.excess_is_good p m e h);
      transfers_known = H.pending_known;
      transfers_to_come = coming;
      nodes = subst (λ k. len M.cluster.nodes ≤ k.nodes) limits L.cluster.few_nodes;
      storages = subst (λ k. len M.cluster.storages ≤ k.storages) limits L.cluster.few_storages;
      replication = H.replicated;
    }

limits_after : (l : Limits) (c : Config) (ks : List Call) → (state_after (first_state_within l c) ks).cluster.limits ≡ l
unfolding empty_cluster
limits_after l c ks = limits_stay (first_state_within l c) ks

pub sound_from_first : law.calls_lead_to_sound
sound_from_first l c ks = plainly l (state_after (first_state_within l c) ks) (limits_after l c ks) (calls_orderly l c ks) (still_to_come l c ks) (none_sent_there l c ks)
