-- A call that is read from a line has an op, so a line that asks for it can be written.
use Rattle.std.proofs.Common.{◌≡◌, true, Option, Some, None, option_map, option_and_then, refl, sym, subst}
use Rattle.std.specs.Prelude.{IfSome}
use Rattle.serde_json.specs.Data.{Data}
use Rattle.bm_base.specs.declared.event.Event.{Event}
use Rattle.bm_base.specs.declared.call.Call.{Call}
use Rattle.bm_lines.specs.declared.parser.op.Op.{Op}
use Rattle.bm_lines.specs.declared.parser.op.Op.TheVariants.{Register, Heartbeat, Dead, StorageFailed, Drain, Undrain, Add, Delete, SetReplication, Restamp, Received, Deleted, Corrupt, Report, Round, ListReplicas, ListCorrupt, ListMissing, ListExcess, ListStorage, ListPlaces, Level, Retired}
use Rattle.bm_lines.specs.Parser.CallOf.{apply_one, apply_two, apply_three, call_for, call_of_value}
use Rattle.bm_lines.specs.CallText.{has_op}

abbrev pub HasOp : Option Call → Type 0
HasOp o = IfSome o (λ k. has_op k ≡ true)

mapped : {A : Type 0} (f : A → Call) → ((x : A) → has_op (f x) ≡ true) → (o : Option A) → HasOp (option_map f o)
mapped f h None = tt
mapped f h (Some x) = h x

one_has : {A : Type 0} (event : A → Event) (a : Option A) → HasOp (apply_one event a)
one_has event None = tt
one_has event (Some x) = refl

two_has : {A B : Type 0} (event : A → B → Event) (a : Option A) (b : Option B) → HasOp (apply_two event a b)
two_has event None b = tt
two_has event (Some x) None = tt
two_has event (Some x) (Some y) = refl

three_has : {A B D : Type 0} (event : A → B → D → Event) (a : Option A) (b : Option B) (c : Option D) → HasOp (apply_three event a b c)
three_has event None b c = tt
three_has event (Some x) None c = tt
three_has event (Some x) (Some y) None = tt
three_has event (Some x) (Some y) (Some z) = refl

call_for_has : (d : Data) (o : Op) → HasOp (call_for o d)
call_for_has d Register = three_has _ _ _ _
call_for_has d Heartbeat = two_has _ _ _
call_for_has d Dead = one_has _ _
call_for_has d StorageFailed = one_has _ _
call_for_has d Drain = one_has _ _
call_for_has d Undrain = one_has _ _
call_for_has d Add = three_has _ _ _ _
call_for_has d Delete = one_has _ _
call_for_has d SetReplication = two_has _ _ _
call_for_has d Restamp = two_has _ _ _
call_for_has d Received = three_has _ _ _ _
call_for_has d Deleted = two_has _ _ _
call_for_has d Corrupt = two_has _ _ _
call_for_has d Report = two_has _ _ _
call_for_has d Round = refl
call_for_has d ListReplicas = refl
call_for_has d ListCorrupt = refl
call_for_has d ListMissing = refl
call_for_has d ListExcess = refl
call_for_has d ListStorage = mapped _ (λ n. refl) _
call_for_has d ListPlaces = mapped _ (λ n. refl) _
call_for_has d Level = mapped _ (λ n. refl) _
call_for_has d Retired = mapped _ (λ n. refl) _

after : {A : Type 0} (f : A → Option Call) → ((x : A) → HasOp (f x)) → (o : Option A) → HasOp (option_and_then f o)
after f h None = tt
after f h (Some x) = h x

pub call_of_value-has_op : (d : Data) → HasOp (call_of_value d)
call_of_value-has_op d = after (λ o. call_for o d) (call_for_has d) _

-- an option that is the call in an object has an op
pub read_has_op : (d : Data) (o : Option Call) → o ≡ call_of_value d → HasOp o
read_has_op d o e = subst HasOp (sym e) (call_of_value-has_op d)
