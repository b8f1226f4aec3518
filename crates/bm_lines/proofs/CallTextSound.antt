-- The object of a call with numbers in range has plain strings only, and is not too deep to read.
use Rattle.std.proofs.Common.{◌≡◌, ℕ, suc, ◌==◌, ◌<◌, ◌≤◌, ◌^◌, Bool, true, false, All, List, [], ◌∷◌, refl, arith}
use Rattle.json.specs.Print.{escape_byte, quoted}
use Rattle.serde_json.specs.Data.{Data, array, Items, depth, items_depth, members_depth}
use Rattle.serde_json.specs.Read.{max_depth}
use Rattle.bm_base.specs.declared.replica.Stamp.{Stamp}
use Rattle.bm_base.specs.declared.event.Entry.{Entry}
use Rattle.bm_base.specs.declared.event.Remaining.{Remaining}
use Rattle.bm_base.specs.declared.event.Event.{Event}
use Rattle.bm_base.specs.declared.event.Event.TheVariants.{Register, Heartbeat, Dead, StorageFailed, Drain, Undrain, AddBlock, DeleteBlock, SetReplication, Restamp, Received, Deleted, Corrupt, FullReport}
use Rattle.bm_base.specs.declared.call.Call.{Call}
use Rattle.bm_base.specs.declared.call.Call.TheVariants as call
use Rattle.bm_lines.specs.CallText.{event_op, call_op}
use Rattle.bm_lines.specs.FittingNumbers.{FitsEntry, FitsRemaining, FitsWholeEvent, FitsWhole}
use Rattle.bm_lines.proofs.PlainText.{is_plain}
use Rattle.bm_lines.proofs.Sound.{IsSound, AreSound, HasSound}
use Rattle.bm_lines.proofs.CallTextData.{whole, items_by, remaining_data, run_items, stamp_items, entry_data, event_members, call_members, asking_data}

wide : (n : ℕ) → n < 2 ^ 32 → n < 2 ^ 64
wide n h = omega arith

module _ {A : Type 0} (f : A → Data) (P : A → Type 0) (sound : (x : A) → P x → IsSound (f x)) where
  items_sound : (xs : List A) → All P xs → AreSound (items_by f xs)
  items_sound [] h = tt
  items_sound (x ∷ xs) h = (sound x (h 0 x (omega arith)), items_sound xs (λ k d l. h (suc k) d (omega arith)))

module _ {A : Type 0} (f : A → Data) (shallow : (x : A) → depth (f x) ≤ 1) where
  items_shallow : (xs : List A) → items_depth (items_by f xs) ≤ 1
  items_shallow [] = omega arith
  items_shallow (x ∷ xs) = omega (arith, shallow x, items_shallow xs)

remaining_sound : (r : Remaining) → FitsRemaining r → IsSound (remaining_data r)
remaining_sound r h = (wide _ h.0, (h.1, tt))

run_sound : (b : Bool) (from to : ℕ) (rest : Items) → from < 2 ^ 64 → to < 2 ^ 64 → AreSound rest → AreSound (run_items b from to rest)
run_sound true from to rest h k more = (h, more)
run_sound false from to rest h k more = (h, (k, more))

entry_sound : (e : Entry) → FitsEntry e → IsSound (entry_data e)
entry_sound e h = run_sound (e.from == e.to) e.from e.to (stamp_items e.stamp) h.0 h.1 (h.2.0, (h.2.1, tt))

entry_shallow : (b : Bool) (from to : ℕ) (stamp : Stamp) → depth (array (run_items b from to (stamp_items stamp))) ≤ 1
entry_shallow true from to stamp = omega arith
entry_shallow false from to stamp = omega arith

members_of_event : (e : Event) → FitsWholeEvent e → HasSound (event_members e)
unfolding escape_byte
members_of_event (Register node rack storages) h = (refl, (wide _ h.0, (refl, (wide _ h.1, (refl, (items_sound whole (λ s. s < 2 ^ 32) (λ s. wide s) storages h.2, tt))))))
members_of_event (Heartbeat node remaining) h = (refl, (wide _ h.0, (refl, (items_sound remaining_data FitsRemaining remaining_sound remaining h.1, tt))))
members_of_event (Dead node) h = (refl, (wide _ h, tt))
members_of_event (StorageFailed storage) h = (refl, (wide _ h, tt))
members_of_event (Drain node) h = (refl, (wide _ h, tt))
members_of_event (Undrain node) h = (refl, (wide _ h, tt))
members_of_event (AddBlock id stamp repl) h = (refl, (h.0, (refl, (h.1.0, (refl, (h.1.1, (refl, (wide _ h.2, tt))))))))
members_of_event (DeleteBlock id) h = (refl, (h, tt))
members_of_event (SetReplication id repl) h = (refl, (h.0, (refl, (wide _ h.1, tt))))
members_of_event (Restamp id stamp) h = (refl, (h.0, (refl, (h.1.0, (refl, (h.1.1, tt))))))
members_of_event (Received storage id stamp) h = (refl, (wide _ h.0, (refl, (h.1, (refl, (h.2.0, (refl, (h.2.1, tt))))))))
members_of_event (Deleted storage id) h = (refl, (wide _ h.0, (refl, (h.1, tt))))
members_of_event (Corrupt storage id) h = (refl, (wide _ h.0, (refl, (h.1, tt))))
members_of_event (FullReport storage entries) h = (refl, (wide _ h.0, (refl, (items_sound entry_data FitsEntry entry_sound entries h.1, tt))))

members_of_call : (k : Call) → FitsWhole k → HasSound (call_members k)
unfolding escape_byte
members_of_call (call.Apply e) h = members_of_event e h
members_of_call call.Round h = tt
members_of_call call.Replicas h = tt
members_of_call call.Corrupt h = tt
members_of_call call.Excess h = tt
members_of_call call.Missing h = tt
members_of_call (call.BlocksOn storage) h = (refl, (wide _ h, tt))
members_of_call (call.Places id) h = (refl, (h, tt))
members_of_call (call.LevelOf id) h = (refl, (h, tt))
members_of_call (call.Retired node) h = (refl, (wide _ h, tt))
members_of_call call.Calls h = tt
members_of_call call.Rounds h = tt

plain_event_op : (e : Event) → is_plain (quoted (event_op e)) ≡ true
unfolding escape_byte
plain_event_op (Register node rack storages) = refl
plain_event_op (Heartbeat node remaining) = refl
plain_event_op (Dead node) = refl
plain_event_op (StorageFailed storage) = refl
plain_event_op (Drain node) = refl
plain_event_op (Undrain node) = refl
plain_event_op (AddBlock id stamp repl) = refl
plain_event_op (DeleteBlock id) = refl
plain_event_op (SetReplication id repl) = refl
plain_event_op (Restamp id stamp) = refl
plain_event_op (Received storage id stamp) = refl
plain_event_op (Deleted storage id) = refl
plain_event_op (Corrupt storage id) = refl
plain_event_op (FullReport storage entries) = refl

plain_op : (k : Call) → is_plain (quoted (call_op k)) ≡ true
unfolding escape_byte
plain_op (call.Apply e) = plain_event_op e
plain_op call.Round = refl
plain_op call.Replicas = refl
plain_op call.Corrupt = refl
plain_op call.Excess = refl
plain_op call.Missing = refl
plain_op (call.BlocksOn storage) = refl
plain_op (call.Places id) = refl
plain_op (call.LevelOf id) = refl
plain_op (call.Retired node) = refl
plain_op call.Calls = refl
plain_op call.Rounds = refl

pub IsSound-asking_data : (k : Call) → FitsWhole k → IsSound (asking_data k)
unfolding escape_byte
IsSound-asking_data k h = (refl, (plain_op k, members_of_call k h))

event_shallow : (e : Event) → members_depth (event_members e) ≤ 2
event_shallow (Register node rack storages) = omega (arith, items_shallow whole (λ n. omega arith) storages)
event_shallow (Heartbeat node remaining) = omega (arith, items_shallow remaining_data (λ r. omega arith) remaining)
event_shallow (Dead node) = omega arith
event_shallow (StorageFailed storage) = omega arith
event_shallow (Drain node) = omega arith
event_shallow (Undrain node) = omega arith
event_shallow (AddBlock id stamp repl) = omega arith
event_shallow (DeleteBlock id) = omega arith
event_shallow (SetReplication id repl) = omega arith
event_shallow (Restamp id stamp) = omega arith
event_shallow (Received storage id stamp) = omega arith
event_shallow (Deleted storage id) = omega arith
event_shallow (Corrupt storage id) = omega arith
event_shallow (FullReport storage entries) = omega (arith, items_shallow entry_data (λ e. entry_shallow (e.from == e.to) e.from e.to e.stamp) entries)

call_shallow : (k : Call) → members_depth (call_members k) ≤ 2
call_shallow (call.Apply e) = event_shallow e
call_shallow call.Round = omega arith
call_shallow call.Replicas = omega arith
call_shallow call.Corrupt = omega arith
call_shallow call.Excess = omega arith
call_shallow call.Missing = omega arith
call_shallow (call.BlocksOn storage) = omega arith
call_shallow (call.Places id) = omega arith
call_shallow (call.LevelOf id) = omega arith
call_shallow (call.Retired node) = omega arith
call_shallow call.Calls = omega arith
call_shallow call.Rounds = omega arith

pub depth-asking_data : (k : Call) → depth (asking_data k) ≤ max_depth
depth-asking_data k = omega (arith, call_shallow k)
