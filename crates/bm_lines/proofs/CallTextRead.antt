-- The object for a call with an op and numbers in range, its members sorted, is read as the call.
use Rattle.std.proofs.Common.{◌≡◌, ℕ, suc, ◌==◌, ◌<◌, ◌^◌, Bool, true, false, All, List, [], ◌∷◌, Option, Some, refl, ap, arith, lt-ltb, eqb-true}
use Rattle.serde_json.specs.Data.{Data, array}
use Rattle.bm_base.specs.declared.replica.Stamp.{Stamp}
use Rattle.bm_base.specs.declared.event.Entry.{Entry}
use Rattle.bm_base.specs.declared.event.Remaining.{Remaining}
use Rattle.bm_base.specs.declared.event.Event.{Event}
use Rattle.bm_base.specs.declared.event.Event.TheVariants.{Register, Heartbeat, Dead, StorageFailed, Drain, Undrain, AddBlock, DeleteBlock, SetReplication, Restamp, Received, Deleted, Corrupt, FullReport}
use Rattle.bm_base.specs.declared.call.Call.{Call}
use Rattle.bm_base.specs.declared.call.Call.TheVariants as call
use Rattle.bm_lines.specs.CallText.{has_op}
use Rattle.bm_lines.specs.Parser.Fields.{listed, each, below_32, small_number, entry_in, remaining_in}
use Rattle.bm_lines.specs.Parser.CallOf.{call_of_value}
use Rattle.bm_lines.specs.FittingNumbers.{FitsEntry, FitsRemaining, FitsWholeEvent, FitsWhole}
use Rattle.bm_lines.proofs.Sound.{in_order, items_in_order}
use Rattle.bm_lines.proofs.CallTextData.{whole, items_by, remaining_data, run_items, stamp_items, entry_data, asking_data}

small : (n : ℕ) → n < 2 ^ 32 → below_32 n ≡ Some n
small n h = rw (lt-ltb n (2 ^ 32) h) refl

-- reading each item of an array made of a list gives the list again
module _ {A : Type 0} (f : A → Data) (read : Data → Option A) (P : A → Type 0) (back : (x : A) → P x → read (in_order (f x)) ≡ Some x) where
  each_back : (xs : List A) → All P xs → each read (listed (items_in_order (items_by f xs))) ≡ Some xs
  each_back [] h = refl
  each_back (x ∷ xs) h = rw (back x (h 0 x (omega arith)), each_back xs (λ k d l. h (suc k) d (omega arith))) refl

remaining_back : (r : Remaining) → FitsRemaining r → remaining_in (in_order (remaining_data r)) ≡ Some r
unfolding remaining_in
remaining_back r h = rw (lt-ltb r.storage (2 ^ 32) h.0) refl

run_back : (b : Bool) (from to : ℕ) (stamp : Stamp) → (from == to) ≡ b → entry_in (in_order (array (run_items b from to (stamp_items stamp)))) ≡ Some (record { from = from; to = to; stamp = stamp })
unfolding entry_in
run_back true from to stamp e = ap (λ n. Some (record { from = from; to = n; stamp = stamp })) (eqb-true from to e)
run_back false from to stamp e = refl

entry_back : (e : Entry) → FitsEntry e → entry_in (in_order (entry_data e)) ≡ Some e
entry_back e h = run_back (e.from == e.to) e.from e.to e.stamp refl

call_of_value-event : (e : Event) → FitsWholeEvent e → call_of_value (in_order (asking_data (call.Apply e))) ≡ Some (call.Apply e)
call_of_value-event (Register node rack storages) h =
    rw (lt-ltb node (2 ^ 32) h.0, lt-ltb rack (2 ^ 32) h.1, each_back whole small_number (λ s. s < 2 ^ 32) (λ s. small s) storages h.2) refl
call_of_value-event (Heartbeat node remaining) h = rw (lt-ltb node (2 ^ 32) h.0, each_back remaining_data remaining_in FitsRemaining remaining_back remaining h.1) refl
call_of_value-event (Dead node) h = rw (lt-ltb node (2 ^ 32) h) refl
call_of_value-event (StorageFailed storage) h = rw (lt-ltb storage (2 ^ 32) h) refl
call_of_value-event (Drain node) h = rw (lt-ltb node (2 ^ 32) h) refl
call_of_value-event (Undrain node) h = rw (lt-ltb node (2 ^ 32) h) refl
call_of_value-event (AddBlock id stamp repl) h = rw (lt-ltb repl (2 ^ 32) h.2) refl
call_of_value-event (DeleteBlock id) h = refl
call_of_value-event (SetReplication id repl) h = rw (lt-ltb repl (2 ^ 32) h.1) refl
call_of_value-event (Restamp id stamp) h = refl
call_of_value-event (Received storage id stamp) h = rw (lt-ltb storage (2 ^ 32) h.0) refl
call_of_value-event (Deleted storage id) h = rw (lt-ltb storage (2 ^ 32) h.0) refl
call_of_value-event (Corrupt storage id) h = rw (lt-ltb storage (2 ^ 32) h.0) refl
call_of_value-event (FullReport storage entries) h = rw (lt-ltb storage (2 ^ 32) h.0, each_back entry_data entry_in FitsEntry entry_back entries h.1) refl

pub call_of_value-asking_data : (k : Call) → has_op k ≡ true → FitsWhole k → call_of_value (in_order (asking_data k)) ≡ Some k
call_of_value-asking_data (call.Apply e) some h = call_of_value-event e h
call_of_value-asking_data call.Round some h = refl
call_of_value-asking_data call.Replicas some h = refl
call_of_value-asking_data call.Corrupt some h = refl
call_of_value-asking_data call.Excess some h = refl
call_of_value-asking_data call.Missing some h = refl
call_of_value-asking_data (call.BlocksOn storage) some h = rw (lt-ltb storage (2 ^ 32) h) refl
call_of_value-asking_data (call.Places id) some h = refl
call_of_value-asking_data (call.LevelOf id) some h = refl
call_of_value-asking_data (call.Retired node) some h = rw (lt-ltb node (2 ^ 32) h) refl
call_of_value-asking_data call.Calls some h = absurd cc
call_of_value-asking_data call.Rounds some h = absurd cc
