-- The line that asks for a call is the compact text of its JSON object.
use Rattle.std.proofs.Common.{◌≡◌, ℕ, ◌==◌, Bool, true, false, List, [], ◌∷◌, ◌++◌, codes, decimal, refl, sym, ap, ◌∙◌, append_assoc}
use Rattle.std.specs.List.{flat_map}
use Rattle.json.specs.Print.{escape_byte, escape}
use Rattle.serde_json.specs.Data.{Data, string, array, object, Members, no_members, member}
use Rattle.serde_json.specs.Written.{compact_text, items_text, members_text}
use Rattle.bm_base.specs.declared.replica.Stamp.{Stamp}
use Rattle.bm_base.specs.declared.event.Entry.{Entry}
use Rattle.bm_base.specs.declared.event.Remaining.{Remaining}
use Rattle.bm_base.specs.declared.event.Event.{Event}
use Rattle.bm_base.specs.declared.event.Event.TheVariants.{Register, Heartbeat, Dead, StorageFailed, Drain, Undrain, AddBlock, DeleteBlock, SetReplication, Restamp, Received, Deleted, Corrupt, FullReport}
use Rattle.bm_base.specs.declared.call.Call.{Call}
use Rattle.bm_base.specs.declared.call.Call.TheVariants as call
use Rattle.bm_lines.specs.CallText.{event_op, call_op, number_text, with_commas, list_text, stamp_text, remaining_text, run_text, entry_text, event_fields, call_fields, line_text}
use Rattle.bm_lines.proofs.CallTextData.{whole, items_by, remaining_data, run_items, stamp_items, entry_data, numbered, stamped, event_members, call_members, asking_data}

module _ {A : Type 0} (f : A → Data) (text : A → List ℕ) (same : (x : A) → compact_text (f x) ≡ text x) where
  later_items : (xs : List A) → items_text true (items_by f xs) ≡ flat_map (λ y. codes "," ++ text y) xs ++ 93 ∷ []
  later_items [] = refl
  later_items (x ∷ xs) = rw (same x, later_items xs) (ap (λ l. 44 ∷ l) (sym (append_assoc (text x) (flat_map (λ y. codes "," ++ text y) xs) (93 ∷ []))))

  items_text-items_by : (xs : List A) → items_text false (items_by f xs) ≡ with_commas text xs ++ 93 ∷ []
  items_text-items_by [] = refl
  items_text-items_by (x ∷ xs) = rw (same x, later_items xs) (sym (append_assoc (text x) (flat_map (λ y. codes "," ++ text y) xs) (93 ∷ [])))

text_of_remaining : (r : Remaining) → compact_text (remaining_data r) ≡ remaining_text r
unfolding remaining_text
text_of_remaining r = refl

text_of_run : (b : Bool) (from to : ℕ) (stamp : Stamp) → (from == to) ≡ b
    → compact_text (array (run_items b from to (stamp_items stamp))) ≡ codes "[" ++ (run_text from to ++ (codes "," ++ (decimal stamp.generation ++ (codes "," ++ (decimal stamp.len ++ codes "]")))))
text_of_run true from to stamp e = rw e refl
text_of_run false from to stamp e = rw e (simp append_assoc)

text_of_entry : (e : Entry) → compact_text (entry_data e) ≡ entry_text e
unfolding entry_text
text_of_entry e = text_of_run _ e.from e.to e.stamp refl

-- a field and the fields after it, if its name needs no escape
number_then : (name : List ℕ) (n : ℕ) (fields : List ℕ) (ms : Members) → escape name ≡ name → fields ≡ members_text true ms → number_text name n ++ fields ≡ members_text true (numbered name n ms)
number_then name n fields ms plain same =
    rw (plain, ← same) (ap (λ l. 44 ∷ 34 ∷ l) (append_assoc name (34 ∷ 58 ∷ decimal n) fields ∙ sym (append_assoc name (34 ∷ []) (58 ∷ (decimal n ++ fields)))))

stamp_then : (stamp : Stamp) (fields : List ℕ) (ms : Members) → fields ≡ members_text true ms → stamp_text stamp ++ fields ≡ members_text true (stamped stamp ms)
unfolding escape_byte
stamp_then stamp fields ms same =
    append_assoc (number_text (codes "gen") stamp.generation) (number_text (codes "len") stamp.len) fields
    ∙ number_then (codes "gen") stamp.generation _ (numbered (codes "len") stamp.len ms) refl (number_then (codes "len") stamp.len fields ms refl same)

-- the last field, if it is a list
list_last : {A : Type 0} (f : A → Data) (text : A → List ℕ) → ((x : A) → compact_text (f x) ≡ text x) → (name : List ℕ) (xs : List A) → escape name ≡ name
    → list_text name text xs ++ 125 ∷ [] ≡ members_text true (member name (array (items_by f xs)) no_members)
unfolding list_text
list_last f text same name xs plain =
    rw (plain, items_text-items_by f text same xs)
    (ap (λ l. 44 ∷ 34 ∷ l) (append_assoc name (34 ∷ 58 ∷ 91 ∷ (with_commas text xs ++ 93 ∷ [])) (125 ∷ []) ∙ sym (append_assoc name (34 ∷ []) (58 ∷ 91 ∷ ((with_commas text xs ++ 93 ∷ []) ++ 125 ∷ [])))))

number_last : (name : List ℕ) (n : ℕ) → escape name ≡ name → number_text name n ++ 125 ∷ [] ≡ members_text true (numbered name n no_members)
number_last name n plain = number_then name n (125 ∷ []) no_members plain refl

two_numbers : (first second : List ℕ) (n m : ℕ) → escape first ≡ first → escape second ≡ second
    → (number_text first n ++ number_text second m) ++ 125 ∷ [] ≡ members_text true (numbered first n (numbered second m no_members))
two_numbers first second n m p q = append_assoc (number_text first n) (number_text second m) (125 ∷ []) ∙ number_then first n _ (numbered second m no_members) p (number_last second m q)

fields_of_event : (e : Event) → event_fields e ++ 125 ∷ [] ≡ members_text true (event_members e)
unfolding escape_byte
fields_of_event (Register node rack storages) =
    append_assoc (number_text (codes "node") node) (number_text (codes "rack") rack ++ list_text (codes "storages") decimal storages) (125 ∷ [])
    ∙ number_then (codes "node") node _ (numbered (codes "rack") rack (member (codes "storages") (array (items_by whole storages)) no_members)) refl (append_assoc (number_text (codes "rack") rack) (list_text (codes "storages") decimal storages) (125 ∷ [])
    ∙ number_then (codes "rack") rack _ (member (codes "storages") (array (items_by whole storages)) no_members) refl (list_last whole decimal (λ n. refl) (codes "storages") storages refl))
fields_of_event (Heartbeat node remaining) =
    append_assoc (number_text (codes "node") node) (list_text (codes "remaining") remaining_text remaining) (125 ∷ [])
    ∙ number_then (codes "node") node _ (member (codes "remaining") (array (items_by remaining_data remaining)) no_members) refl (list_last remaining_data remaining_text text_of_remaining (codes "remaining") remaining refl)
fields_of_event (Dead node) = number_last (codes "node") node refl
fields_of_event (StorageFailed storage) = number_last (codes "storage") storage refl
fields_of_event (Drain node) = number_last (codes "node") node refl
fields_of_event (Undrain node) = number_last (codes "node") node refl
fields_of_event (AddBlock id stamp repl) =
    let last = numbered (codes "repl") repl no_members in
    append_assoc (number_text (codes "id") id) (stamp_text stamp ++ number_text (codes "repl") repl) (125 ∷ [])
    ∙ number_then (codes "id") id _ (stamped stamp last) refl (append_assoc (stamp_text stamp) (number_text (codes "repl") repl) (125 ∷ []) ∙ stamp_then stamp _ last (number_last (codes "repl") repl refl))
fields_of_event (DeleteBlock id) = number_last (codes "id") id refl
fields_of_event (SetReplication id repl) = two_numbers (codes "id") (codes "repl") id repl refl refl
fields_of_event (Restamp id stamp) =
    append_assoc (number_text (codes "id") id) (stamp_text stamp) (125 ∷ []) ∙ number_then (codes "id") id _ (stamped stamp no_members) refl (stamp_then stamp (125 ∷ []) no_members refl)
fields_of_event (Received storage id stamp) =
    append_assoc (number_text (codes "storage") storage) (number_text (codes "id") id ++ stamp_text stamp) (125 ∷ [])
    ∙ number_then (codes "storage") storage _ (numbered (codes "id") id (stamped stamp no_members)) refl (append_assoc (number_text (codes "id") id) (stamp_text stamp) (125 ∷ [])
    ∙ number_then (codes "id") id _ (stamped stamp no_members) refl (stamp_then stamp (125 ∷ []) no_members refl))
fields_of_event (Deleted storage id) = two_numbers (codes "storage") (codes "id") storage id refl refl
fields_of_event (Corrupt storage id) = two_numbers (codes "storage") (codes "id") storage id refl refl
fields_of_event (FullReport storage entries) =
    append_assoc (number_text (codes "storage") storage) (list_text (codes "blocks") entry_text entries) (125 ∷ [])
    ∙ number_then (codes "storage") storage _ (member (codes "blocks") (array (items_by entry_data entries)) no_members) refl (list_last entry_data entry_text text_of_entry (codes "blocks") entries refl)

fields_of_call : (k : Call) → call_fields k ++ 125 ∷ [] ≡ members_text true (call_members k)
unfolding escape_byte
fields_of_call (call.Apply e) = fields_of_event e
fields_of_call call.Round = refl
fields_of_call call.Replicas = refl
fields_of_call call.Corrupt = refl
fields_of_call call.Excess = refl
fields_of_call call.Missing = refl
fields_of_call (call.BlocksOn storage) = number_last (codes "storage") storage refl
fields_of_call (call.Places id) = number_last (codes "id") id refl
fields_of_call (call.LevelOf id) = number_last (codes "id") id refl
fields_of_call (call.Retired node) = number_last (codes "node") node refl
fields_of_call call.Calls = refl
fields_of_call call.Rounds = refl

-- no op needs an escape

event_op_plain : (e : Event) → escape (event_op e) ≡ event_op e
unfolding escape_byte
event_op_plain (Register node rack storages) = refl
event_op_plain (Heartbeat node remaining) = refl
event_op_plain (Dead node) = refl
event_op_plain (StorageFailed storage) = refl
event_op_plain (Drain node) = refl
event_op_plain (Undrain node) = refl
event_op_plain (AddBlock id stamp repl) = refl
event_op_plain (DeleteBlock id) = refl
event_op_plain (SetReplication id repl) = refl
event_op_plain (Restamp id stamp) = refl
event_op_plain (Received storage id stamp) = refl
event_op_plain (Deleted storage id) = refl
event_op_plain (Corrupt storage id) = refl
event_op_plain (FullReport storage entries) = refl

op_plain : (k : Call) → escape (call_op k) ≡ call_op k
unfolding escape_byte
op_plain (call.Apply e) = event_op_plain e
op_plain call.Round = refl
op_plain call.Replicas = refl
op_plain call.Corrupt = refl
op_plain call.Excess = refl
op_plain call.Missing = refl
op_plain (call.BlocksOn storage) = refl
op_plain (call.Places id) = refl
op_plain (call.LevelOf id) = refl
op_plain (call.Retired node) = refl
op_plain call.Calls = refl
op_plain call.Rounds = refl

op_then : (op fields : List ℕ) (ms : Members) → escape op ≡ op → fields ++ 125 ∷ [] ≡ members_text true ms
    → codes "{\"op\":\"" ++ (op ++ (codes "\"" ++ (fields ++ codes "}"))) ≡ compact_text (object (member (codes "op") (string op) ms))
unfolding escape_byte
op_then op fields ms plain same =
    rw (plain, ← same) (ap (λ l. codes "{\"op\":\"" ++ l) (sym (append_assoc op (34 ∷ []) (fields ++ 125 ∷ []))))

-- the line is the object's text
pub line_text-data : (k : Call) → line_text k ≡ compact_text (asking_data k)
unfolding line_text
line_text-data k = op_then (call_op k) (call_fields k) (call_members k) (op_plain k) (fields_of_call k)
