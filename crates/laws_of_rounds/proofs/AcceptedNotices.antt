-- The notices of obeyed commands are refused only once no further call can be counted.
use Rattle.std.specs.Prelude.{◌≡◌, ℕ, true, not, List, [], ◌∷◌, is_some}
use Rattle.std.proofs.Common.{sym, ap, ◌∙◌, inl, inr}
use Rattle.bm_base.specs.declared.event.Event.{Event}
use Rattle.bm_base.specs.declared.refusal.Refusal.TheVariants.{UnknownStorage}
use Rattle.bm_base.specs.declared.commands.Transfer.{Transfer}
use Rattle.bm_base.specs.declared.commands.Delete.{Delete}
use Rattle.bm_base.specs.Words.{keys, RoundLimits, Cluster, Holdings, State, has_storage, state_after_expiry, state_at_choice, deletes_of, deletes, first_of, ◌when◌, ◌before◌, knows_storage, cluster_checks, block_checks, calls_spent, refusal_of}
use Rattle.bm_base.specs.Promises.NextRound.{IsAmong, IsTransferCommanded, deletes_commanded}
use Rattle.bm_base.proofs.ForEach.{Each, each_all, each_of, each_then, each_flat_map}
use Rattle.bm_base.proofs.Clusters.{some_node}
use Rattle.laws_of_states.proofs.RoundCommands.{each_delete}
use Rattle.laws_of_rounds.specs.Obedience.{copied, erased, Obeys, OnlyObeys, after_obeying}
use Rattle.laws_of_rounds.proofs.NodeGroups.{each_on_node}
use Rattle.laws_of_rounds.proofs.TransferLaws.{fresh_node, node_is}
use Rattle.laws_of_rounds.proofs.NextRounds.{commanded_chosen, each_is}
use Rattle.laws_of_rounds.proofs.DuringObedience.{same_after_obedience}

abbrev IsKnown : Cluster → ℕ → Type 0
IsKnown C s = knows_storage C s ≡ true

known_on : (C : Cluster) (n s : ℕ) → has_storage C n s ≡ true → IsKnown C s
unfolding knows_storage
known_on C n s on = sym (some_node C s) ∙ ap is_some (node_is C n s on)

target_known : (M : State) (t : Transfer) → IsTransferCommanded M t → IsKnown M.cluster t.target
unfolding knows_storage
target_known M t h =
    let at = commanded_chosen M t h in
    sym (some_node M.cluster t.target) ∙ ap is_some (fresh_node M at.0 at.1 t at.2).known.1

deletes_known : (limits : RoundLimits) (C : Cluster) (H : Holdings) → Each (λ (d : Delete). IsKnown C d.storage) (deletes limits C H)
unfolding deletes
deletes_known limits C H =
    each_flat_map (λ _. Unit {0}) (λ (d : Delete). IsKnown C d.storage) (deletes_of limits C H)
    (λ n _. each_then (λ (d : Delete). has_storage C n d.storage ≡ true) (λ (d : Delete). IsKnown C d.storage) (deletes_of limits C H n) (each_on_node limits C H n) (λ d on. known_on C n d.storage on))
    (keys C.nodes) (each_of (λ _. Unit {0}) (keys C.nodes) (λ _. tt))

delete_known : (M : State) (d : Delete) → IsAmong (deletes_commanded M) d → IsKnown M.cluster d.storage
unfolding state_at_choice state_after_expiry
delete_known M d at =
    each_is (λ (c : Delete). IsKnown M.cluster c.storage) (deletes_commanded M) d
    (each_delete M (λ (c : Delete). IsKnown M.cluster c.storage) (deletes_known M.limits M.cluster (state_at_choice M).holdings)) at

-- A new check of `received` needs a further premise here: what a command guarantees of it.
copy_accepted : (N : State) (t : Transfer) → IsKnown N.cluster t.target → refusal_of N (copied t) ≡ calls_spent N
unfolding refusal_of cluster_checks block_checks
copy_accepted N t known = ap (λ b. first_of ((UnknownStorage when not b) ∷ []) before calls_spent N) known

-- A new check of `deleted` needs a further premise here: what a command guarantees of it.
erasure_accepted : (N : State) (d : Delete) → IsKnown N.cluster d.storage → refusal_of N (erased d) ≡ calls_spent N
unfolding refusal_of cluster_checks block_checks
erasure_accepted N d known = ap (λ b. first_of ((UnknownStorage when not b) ∷ []) before calls_spent N) known

pub not_refused : (M : State) (es : List Event) (e : Event) → OnlyObeys M es → Obeys M e → refusal_of (after_obeying M es) e ≡ calls_spent (after_obeying M es)
not_refused M es e only (inl c) =
    ap (refusal_of (after_obeying M es)) c.2
    ∙ copy_accepted (after_obeying M es) c.0 (ap (λ C. knows_storage C c.0.target) (same_after_obedience M es (each_all (Obeys M) es only)).cluster ∙ target_known M c.0 c.1)
not_refused M es e only (inr c) =
    ap (refusal_of (after_obeying M es)) c.2
    ∙ erasure_accepted (after_obeying M es) c.0 (ap (λ C. knows_storage C c.0.storage) (same_after_obedience M es (each_all (Obeys M) es only)).cluster ∙ delete_known M c.0 c.1)
