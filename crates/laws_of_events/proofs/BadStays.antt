-- A bad replica stays bad through an event, if it still exists and its block is still known.
use Rattle.std.proofs.Common.{◌≡◌, ℕ, Bool, true, false, not, Some, is_some, refl, sym, ap, ◌∙◌, eqb-true}
use Rattle.std.specs.Prelude.{◌==◌, if◌then◌else◌}
use Rattle.std.specs.Ordering.{eq_by_cmp}
use Rattle.bm_base.specs.declared.replica.ReplicaId.{ReplicaId}
use Rattle.bm_base.specs.declared.replica.Tag.{Tag}
use Rattle.bm_base.specs.declared.replica.Tag.TheVariants.{Stale, Bad}
use Rattle.bm_base.specs.declared.replica.Marks.{Marks}
use Rattle.bm_base.specs.declared.event.Event.TheVariants.{Register, Dead, StorageFailed, Heartbeat, Drain, Undrain, AddBlock, DeleteBlock, SetReplication, Restamp, Received, Deleted, Corrupt, FullReport}
use Rattle.bm_base.specs.Words.{Map, get, revise, revise_at, remove, contains_key, Holdings, State, by_replica, replica_at, replica_cmp, is_good, has_storage, add_block, delete_block, set_replication, restamp, make_bad, remove_replica, without_storages, without_pending, change_marks_of_block, change_holdings, as_stray, as_bad, as_restamped, after_event}
use Rattle.bm_base.specs.Promises.Lawful.{IsOrderly}
use Rattle.bm_base.proofs.Options.{there}
use Rattle.bm_base.proofs.MapEntries.{get_kept, get_removed, get_revised, get_taken}
use Rattle.bm_parts.proofs.RemainingHoldings.{drained_replicas}
use Rattle.laws_of_events.proofs.ReportLaws.{report_leaves_bad, received_leaves_bad}
use Rattle.laws_of_events.specs.Changes as law
use Rattle.laws_of_events.specs.Reports.{IsBadIn}

-- a bad replica whose marks stay is bad
same_bad : (H : Holdings) (m : Map by_replica Marks) (p : ReplicaId) → ((k : Marks) → get m p ≡ Some k → get H.replicas p ≡ Some k) → IsBadIn H p → is_some (get m p) ≡ true
    → (k : Marks) × (get m p ≡ Some k) × (k.tag ≡ Bad)
same_bad H m p was bad is =
    let k = there (get m p) is in
    let two : Some k.0 ≡ Some bad.0 = sym (was k.0 k.1) ∙ bad.1 in
    let same : k.0 ≡ bad.0 = (cc) in
    (k.0, k.1, ap (λ x. x.tag) same ∙ bad.2)

-- a bad replica is still bad after a revision that keeps bad tags
revised_bad : (H : Holdings) (f : ReplicaId → Marks → Marks) (p : ReplicaId) → ((k : Marks) → k.tag ≡ Bad → (f p k).tag ≡ Bad) → IsBadIn H p → is_some (get (revise H.replicas f) p) ≡ true
    → (k : Marks) × (get (revise H.replicas f) p ≡ Some k) × (k.tag ≡ Bad)
revised_bad H f p stays bad is =
    let k = there (get (revise H.replicas f) p) is in
    let was = get_revised H.replicas f p k.0 k.1 in
    let two : Some was.0 ≡ Some bad.0 = sym was.1 ∙ bad.1 in
    let same : was.0 ≡ bad.0 = (cc) in
    (k.0, k.1, ap (λ x. x.tag) (sym was.2) ∙ stays was.0 (ap (λ x. x.tag) same ∙ bad.2))

if_bad : (t : Bool) (m k : Marks) → m.tag ≡ Bad → k.tag ≡ Bad → (if t then m else k).tag ≡ Bad
if_bad true m k e h = e
if_bad false m k e h = h

-- a bad replica of another block than the deleted one stays bad
if_elsewhere : (t : Bool) (m k : Marks) → t ≡ false → k.tag ≡ Bad → (if t then m else k).tag ≡ Bad
if_elsewhere true m k e h = cc
if_elsewhere false m k e h = h

restamped_bad : (t : Tag) → t ≡ Bad → (if is_good t then Stale else t) ≡ Bad
restamped_bad t e = ap (λ u. if is_good u then Stale else u) e

not_gone : (H : Holdings) (b c : ℕ) → contains_key (remove H.blocks b) c ≡ true → (t : Bool) → (c == b) ≡ t → t ≡ false
not_gone H b c known true e = let gone : false ≡ true = sym (ap is_some (get_taken H.blocks b)) ∙ ap (contains_key (remove H.blocks b)) (sym (eqb-true c b e)) ∙ known in cc
not_gone H b c known false e = refl

pub bad_stays : (M : State) → IsOrderly M → law.bad_replica_stays_bad M
unfolding after_event change_holdings without_storages add_block delete_block set_replication restamp make_bad remove_replica without_pending change_marks_of_block revise_at
bad_stays M L (Received s b stamp) p bad is known = received_leaves_bad M L s b stamp p bad is
bad_stays M L (FullReport s es) p bad is known = report_leaves_bad M L s es p bad is
bad_stays M L (Dead n) p bad is known = same_bad M.holdings _ p (λ k e. (get_kept M.holdings.replicas (λ q _. not (has_storage M.cluster n q.storage)) p k e).0) bad is
bad_stays M L (StorageFailed s) p bad is known = same_bad M.holdings _ p (λ k e. (get_kept M.holdings.replicas (λ q _. not (q.storage == s)) p k e).0) bad is
bad_stays M L (DeleteBlock b) p bad is known =
    revised_bad M.holdings (λ q m. if q.block == b then as_stray m else m) p (λ k e. if_elsewhere (p.block == b) (as_stray k) k (not_gone M.holdings b p.block known (p.block == b) refl) e) bad is
bad_stays M L (Restamp b stamp) p bad is known = revised_bad M.holdings (λ q m. if q.block == b then as_restamped m else m) p (λ k e. if_bad (p.block == b) (as_restamped k) k (restamped_bad k.tag e) e) bad is
bad_stays M L (Deleted s b) p bad is known = same_bad M.holdings _ p (λ k e. (get_removed M.holdings.replicas (replica_at b s) p k e).1) bad is
bad_stays M L (Corrupt s b) p bad is known =
    revised_bad M.holdings (λ q m. if eq_by_cmp replica_cmp q (replica_at b s) then as_bad m else m) p (λ k e. if_bad (eq_by_cmp replica_cmp p (replica_at b s)) (as_bad k) k refl e) bad is
bad_stays M L (Register n rack ss) p bad is known = bad
bad_stays M L (Heartbeat n rs) p bad is known = bad
bad_stays M L (Drain n) p bad is known = (bad.0, ap (λ m. get m p) (drained_replicas M.cluster M.holdings n) ∙ bad.1, bad.2)
bad_stays M L (Undrain n) p bad is known = bad
bad_stays M L (AddBlock b stamp repl) p bad is known = bad
bad_stays M L (SetReplication b repl) p bad is known = bad
