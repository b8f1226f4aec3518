-- Only registration, death, drain and undrain change which nodes drain; drains end transfers there.
use Rattle.std.proofs.Common.{◌≡◌, ◌≢◌, ℕ, Bool, true, false, cond, Option, Some, None, is_some, refl, sym, ap, ◌∙◌}
use Rattle.std.specs.Prelude.{if◌then◌else◌}
use Rattle.std.specs.Ordering.{eq_by_cmp, nat_cmp}
use Rattle.bm_base.specs.declared.event.Event.TheVariants.{Register, Dead, StorageFailed, Heartbeat, Drain, Undrain, AddBlock, DeleteBlock, SetReplication, Restamp, Received, Deleted, Corrupt, FullReport}
use Rattle.bm_base.specs.Words.{Set, by_number, get, insert, remove, contains_key, Holdings, has_storage, drains, register, heartbeat, without_node, without_storage, drain, undrain, begin_drain, change_cluster, change_holdings, new_replicas, done, done_by, after_event, count_call}
use Rattle.bm_base.proofs.MapLaws.{same_map, get-insert, get-remove}
use Rattle.bm_base.proofs.Options.{not_there}
use Rattle.bm_base.proofs.MapEntries.{same_key, get_here, get_other, get_taken, get_left}
use Rattle.bm_parts.proofs.RemainingHoldings.{fewer_sent, same_either, drained_blocks, drained_replicas}
use Rattle.bm_parts.proofs.OneShard.{nothing_done}
use Rattle.laws_of_events.proofs.NodeChanges.{gone_there, still_there, on_it, not_on_it}
use Rattle.laws_of_events.specs.DrainingNodes as law

-- Which nodes drain.

begun_at : (d : Set by_number) (n : ℕ) → (contains_key (insert d n tt) n ≡ true) × ((m : ℕ) → m ≢ n → contains_key (insert d n tt) m ≡ contains_key d m)
begun_at d n = (ap is_some (get_here d n tt), λ m other. ap is_some (get_other d n tt m other))

ceased_at : (d : Set by_number) (n : ℕ) → (contains_key (remove d n) n ≡ false) × ((m : ℕ) → m ≢ n → contains_key (remove d n) m ≡ contains_key d m)
ceased_at d n = (ap is_some (get_taken d n), λ m other. ap is_some (get_left d n m other))

pub begins : law.node_begins_to_drain
unfolding after_event change_cluster drain drains
begins M n = begun_at M.cluster.draining n

pub ceases : law.node_ceases_to_drain
unfolding after_event change_cluster undrain drains
ceases M n = ceased_at M.cluster.draining n

pub registered_off : law.registered_node_does_not_drain
unfolding after_event change_cluster register drains
registered_off M n rack ss = ceased_at M.cluster.draining n

pub dead_off : law.dead_node_does_not_drain
unfolding after_event change_cluster without_node drains
dead_off M n = ceased_at M.cluster.draining n

pub others_leave : law.other_events_leave_draining
unfolding after_event change_cluster heartbeat without_storage
others_leave M (Register n rack ss) e = cc
others_leave M (Dead n) e = cc
others_leave M (Drain n) e = cc
others_leave M (Undrain n) e = cc
others_leave M (StorageFailed s) e = refl
others_leave M (Heartbeat n rs) e = refl
others_leave M (AddBlock b stamp repl) e = refl
others_leave M (DeleteBlock b) e = refl
others_leave M (SetReplication b repl) e = refl
others_leave M (Restamp b stamp) e = refl
others_leave M (Received s b stamp) e = refl
others_leave M (Deleted s b) e = refl
others_leave M (Corrupt s b) e = refl
others_leave M (FullReport s es) e = refl

-- What else changes.

-- no replica came or went if the replicas are the same
none_came : (H G : Holdings) → G.replicas ≡ H.replicas → done H G ≡ record { added = 0; removed = 0 }
unfolding done
none_came H G e = (λ i. record { added = new_replicas H.replicas (e i); removed = new_replicas (e i) H.replicas }) ∙ nothing_done H

pub drain_takes : law.drain_takes_transfers
unfolding after_event done_by change_cluster change_holdings drain begin_drain
drain_takes M n =
    let C = M.cluster in
    let H = M.holdings in (
      record { nodes = refl; storages = refl; blocks = drained_blocks C H n; replicas = drained_replicas C H n; round = refl },
      (λ p idle on. ap (λ b. get (if b then H else fewer_sent C H n).pending p) idle ∙ gone_there (has_storage C n) H.pending p (on_it C n p.storage on)),
      (λ p off. same_either (λ G. get G.pending p) H (fewer_sent C H n) (drains C n) (still_there (has_storage C n) H.pending p (not_on_it C n p.storage off))),
      none_came H (begin_drain C H n) (drained_replicas C H n),
    )

pub undrain_takes : law.undrain_takes_nothing
unfolding after_event done_by change_cluster change_holdings undrain
undrain_takes M n = (record { nodes = refl; storages = refl; blocks = refl; replicas = refl; round = refl }, refl, none_came M.holdings M.holdings refl)

-- Events that change nothing.

-- adding a member again, and removing one that is absent, changes nothing
put_again : (d : Set by_number) (n : ℕ) → contains_key d n ≡ true → insert d n tt ≡ d
put_again d n there = same_map (insert d n tt) d (λ q. get-insert d n tt q ∙ by_tie q (eq_by_cmp nat_cmp q n) refl)
  where
    some_unit : (z : Option (Unit {0})) → is_some z ≡ true → Some tt ≡ z
    some_unit None e = cc
    some_unit (Some x) e = refl

    by_tie : (q : ℕ) (b : Bool) → eq_by_cmp nat_cmp q n ≡ b → cond b (Some tt) (get d q) ≡ get d q
    by_tie q true e = some_unit (get d q) (ap (contains_key d) (same_key by_number q n e) ∙ there)
    by_tie q false e = refl

not_taken_out : (d : Set by_number) (n : ℕ) → contains_key d n ≡ false → remove d n ≡ d
not_taken_out d n none = same_map (remove d n) d (λ q. get-remove d n q ∙ by_tie q (eq_by_cmp nat_cmp q n) refl)
  where
    by_tie : (q : ℕ) (b : Bool) → eq_by_cmp nat_cmp q n ≡ b → cond b None (get d q) ≡ get d q
    by_tie q true e = sym (ap (get d) (same_key by_number q n e) ∙ not_there (get d n) none)
    by_tie q false e = refl

pub drained_again : law.second_drain_changes_nothing
unfolding after_event change_cluster change_holdings drain begin_drain drains
drained_again M n there =
    let d : insert M.cluster.draining n tt ≡ M.cluster.draining = put_again M.cluster.draining n there in
    let H : (if drains M.cluster n then M.holdings else fewer_sent M.cluster M.holdings n) ≡ M.holdings = ap (λ b. if b then M.holdings else fewer_sent M.cluster M.holdings n) there in
    λ i. count_call (record M { cluster = record M.cluster { draining = d i }; holdings = H i })

pub undrained_idly : law.idle_undrain_changes_nothing
unfolding after_event change_cluster change_holdings undrain drains
undrained_idly M n none =
    let d : remove M.cluster.draining n ≡ M.cluster.draining = not_taken_out M.cluster.draining n none in
    λ i. count_call (record M { cluster = record M.cluster { draining = d i } })
