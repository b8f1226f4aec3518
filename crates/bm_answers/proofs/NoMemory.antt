-- Only a call that takes memory, and that nothing else refuses, may be answered out of memory.
use Rattle.std.proofs.Common.{◌≡◌, ℕ, Bool, true, false, not, nat_le, List, [], ◌∷◌, Option, None, Some, IsTrue, ◌⊎◌, inl, inr, ap, refl}
use Rattle.bm_base.specs.declared.event.Event.{Event}
use Rattle.bm_base.specs.declared.event.Event.TheVariants as event
use Rattle.bm_base.specs.declared.call.Call.{Call}
use Rattle.bm_base.specs.declared.call.Call.TheVariants as call
use Rattle.bm_base.specs.declared.call.Answer.{Answer}
use Rattle.bm_base.specs.declared.call.Answer.TheVariants as answer
use Rattle.bm_base.specs.declared.refusal.Refusal.{Refusal}
use Rattle.bm_base.specs.declared.refusal.Refusal.TheVariants as refusal
use Rattle.bm_base.specs.Words.{Cluster, Holdings, State, first_of, ◌when◌, ◌before◌, knows_node, knows_storage, knows_block, last_number, cluster_checks, block_checks, calls_spent, refusal_of, round_refusal, node_refusal, storage_refusal, block_refusal, step, refused_or, is_out_of_memory, MayAnswer, may_run_out_of_memory}

abbrev IsOther : Option Refusal → Type 0
IsOther None = Unit {0}
IsOther (Some r) = is_out_of_memory (answer.Refused r) ≡ false

abbrev AreOthers : List (Refusal × Bool) → Type 0
AreOthers [] = Unit {0}
AreOthers (c ∷ cs) = (is_out_of_memory (answer.Refused c.0) ≡ false) × AreOthers cs

first : (cs : List (Refusal × Bool)) → AreOthers cs → IsOther (first_of cs)
first [] others = tt
first ((r, true) ∷ cs) others = others.0
first ((r, false) ∷ cs) others = first cs others.1

either : (x y : Option Refusal) → IsOther x → IsOther y → IsOther (x before y)
either None y this next = next
either (Some r) y this next = this

of_cluster : (C : Cluster) (e : Event) → AreOthers (cluster_checks C e)
unfolding cluster_checks
of_cluster C (event.Register n rack ss) = (refl, (refl, (refl, tt)))
of_cluster C (event.Dead n) = (refl, tt)
of_cluster C (event.StorageFailed s) = (refl, tt)
of_cluster C (event.Heartbeat n rs) = (refl, (refl, (refl, tt)))
of_cluster C (event.Drain n) = (refl, tt)
of_cluster C (event.Undrain n) = (refl, tt)
of_cluster C (event.Received s b stamp) = (refl, tt)
of_cluster C (event.Deleted s b) = (refl, tt)
of_cluster C (event.Corrupt s b) = (refl, tt)
of_cluster C (event.FullReport s es) = (refl, (refl, tt))
of_cluster C (event.AddBlock b stamp repl) = tt
of_cluster C (event.DeleteBlock b) = tt
of_cluster C (event.SetReplication b repl) = tt
of_cluster C (event.Restamp b stamp) = tt

of_blocks : (H : Holdings) (e : Event) → AreOthers (block_checks H e)
unfolding block_checks
of_blocks H (event.AddBlock b stamp repl) = (refl, (refl, (refl, tt)))
of_blocks H (event.DeleteBlock b) = (refl, tt)
of_blocks H (event.SetReplication b repl) = (refl, (refl, tt))
of_blocks H (event.Restamp b stamp) = (refl, (refl, tt))
of_blocks H (event.Corrupt s b) = (refl, tt)
of_blocks H (event.Register n rack ss) = tt
of_blocks H (event.Dead n) = tt
of_blocks H (event.StorageFailed s) = tt
of_blocks H (event.Heartbeat n rs) = tt
of_blocks H (event.Drain n) = tt
of_blocks H (event.Undrain n) = tt
of_blocks H (event.Received s b stamp) = tt
of_blocks H (event.Deleted s b) = tt
of_blocks H (event.FullReport s es) = tt

of_calls : (M : State) → IsOther (calls_spent M)
unfolding calls_spent
of_calls M = first ((refusal.CallsSpent when nat_le last_number M.calls) ∷ []) (refl, tt)

of_event : (M : State) (e : Event) → IsOther (refusal_of M e)
unfolding refusal_of
of_event M e =
    either (first_of (cluster_checks M.cluster e)) (first_of (block_checks M.holdings e) before calls_spent M) (first (cluster_checks M.cluster e) (of_cluster M.cluster e))
    (either (first_of (block_checks M.holdings e)) (calls_spent M) (first (block_checks M.holdings e) (of_blocks M.holdings e)) (of_calls M))

of_round : (M : State) → IsOther (round_refusal M)
unfolding round_refusal
of_round M =
    let checks = (refusal.RoundsSpent when nat_le last_number M.round) ∷ [] in
    either (first_of checks) (calls_spent M) (first checks (refl, tt)) (of_calls M)

of_node : (C : Cluster) (n : ℕ) → IsOther (node_refusal C n)
unfolding node_refusal
of_node C n = first ((refusal.UnknownNode when not (knows_node C n)) ∷ []) (refl, tt)

of_storage : (C : Cluster) (s : ℕ) → IsOther (storage_refusal C s)
unfolding storage_refusal
of_storage C s = first ((refusal.UnknownStorage when not (knows_storage C s)) ∷ []) (refl, tt)

of_block : (H : Holdings) (b : ℕ) → IsOther (block_refusal H b)
unfolding block_refusal
of_block H b = first ((refusal.UnknownBlock when not (knows_block H b)) ∷ []) (refl, tt)

refused : (M : State) (o : Option Refusal) (next : Answer × State) → IsOther o → is_out_of_memory next.0 ≡ false → is_out_of_memory (refused_or M o next).0 ≡ false
refused M None next other is = is
refused M (Some r) next other is = other

of_step : (M : State) (k : Call) → is_out_of_memory (step M k).0 ≡ false
unfolding step
of_step M (call.Apply e) = refused M (refusal_of M e) _ (of_event M e) refl
of_step M call.Round = refused M (round_refusal M) _ (of_round M) refl
of_step M call.Replicas = refl
of_step M call.Corrupt = refl
of_step M call.Excess = refl
of_step M call.Missing = refl
of_step M (call.BlocksOn s) = refused M (storage_refusal M.cluster s) _ (of_storage M.cluster s) refl
of_step M (call.Places b) = refused M (block_refusal M.holdings b) _ (of_block M.holdings b) refl
of_step M (call.LevelOf b) = refused M (block_refusal M.holdings b) _ (of_block M.holdings b) refl
of_step M (call.Retired n) = refused M (node_refusal M.cluster n) _ (of_node M.cluster n) refl
of_step M call.Calls = refl
of_step M call.Rounds = refl

pub lacked : (M : State) (k : Call) (a : Answer) → MayAnswer M k a → is_out_of_memory a ≡ true → IsTrue (may_run_out_of_memory M k)
lacked M k a (inl is) w = absurd (cc (w, ap is_out_of_memory is, of_step M k))
lacked M k a (inr may) w = may.0
