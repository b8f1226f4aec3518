-- Text in the canonical form of a number, an entry or a line is the text written for its value.
use Rattle.std.proofs.Common.{◌≡◌, ◌≢◌, ℕ, ◌+◌, ◌-◌, ◌*◌, ◌<◌, ◌≤◌, ◌^◌, List, [], ◌∷◌, ◌++◌, Bool, true, false, Option, Some, None, IfSome, All, decimal, length, length-append, get_or, take, drop, refl, ap, sym, ◌∙◌, arith, codes, append_assoc, append-nil}
use Rattle.bm_base.specs.declared.event.Entry.{Entry}
use Rattle.std.specs.Bool.{then_some}
use Rattle.std.specs.List.{flat_map}
use Rattle.std.proofs.lemmas.List.{flat_map_more}
use Rattle.std.proofs.lemmas.List.Elements.{All-nil, All-push}
use Rattle.bm_lines.specs.CallText.{call_fields, line_text, entry_text, remaining_text, with_commas}
use Rattle.bm_lines.specs.Parser.Canonical.{Asks}
use Rattle.bm_base.specs.declared.call.Call.{Call}
use Rattle.std.specs.Char.{digit_value}
use Rattle.std.specs.Option.{MatchOption}
use Rattle.std.specs.Str.Parse.{digits_value, AllDigits}
use Rattle.std.proofs.lemmas.List.{take-append-drop, length-take-le, get_or-take, take_rest}
use Rattle.std.proofs.lemmas.Str.{digit_value_digit}
use Rattle.std.proofs.lemmas.Str.Parse.{numerals_by_value, tells_digits}
use Rattle.std.proofs.lemmas.Int.Digits.{digits_more, digits_value_more}
use Rattle.std.proofs.lemmas.Bool.{eq-eqb, ne_eqb}
use Rattle.std.proofs.lemmas.Fmt.{decimal-digits_value}

-- if a match on an option holds, its case for a value holds of the value
pub where_some : {A : Type 0} (N : Type 0) (P : A → Type 0) (r : Option A) → MatchOption r N P → IfSome r P
where_some N P (Some x) h = h
where_some N P None h = tt

digit_below : (c : ℕ) → 48 ≤ c → c ≤ 57 → digit_value c ≡ c - 48
digit_below c low high = omega (arith, digit_value_digit c (low, high))

-- one more digit
pub digits_step : (bytes : List ℕ) (count : ℕ) → count < length bytes → AllDigits 10 (take count bytes) → 48 ≤ get_or bytes count 0 → get_or bytes count 0 ≤ 57
    → AllDigits 10 (take (count + 1) bytes)
digits_step bytes count less h low high = digits_more 10 bytes count less h (omega (arith, digit_below _ low high))

pub value_step : (bytes : List ℕ) (count : ℕ) → count < length bytes → 48 ≤ get_or bytes count 0 → get_or bytes count 0 ≤ 57
    → digits_value 10 (take count bytes) * 10 + (get_or bytes count 0 - 48) ≡ digits_value 10 (take (count + 1) bytes)
value_step bytes count less low high = omega (arith, digits_value_more 10 bytes count less, digit_below _ low high)

-- digits without a leading zero are the decimal text of their number
pub as_written : (bytes : List ℕ) (count number : ℕ) → number ≡ digits_value 10 (take count bytes) → AllDigits 10 (take count bytes) → count ≤ length bytes
    → number < 2 ^ 64 → count ≢ 0 → (get_or bytes 0 0 ≡ 48 → count ≡ 1) → bytes ≡ decimal number ++ take (length bytes - count) (drop count bytes)
as_written bytes count number value h within fits some plain =
    let long : length (take count bytes) ≡ count = length-take-le count bytes within in
    let first : get_or (take count bytes) 0 0 ≡ get_or bytes 0 0 = get_or-take count bytes 0 0 (omega arith) in
    let same : decimal (digits_value 10 (take count bytes)) ≡ take count bytes =
    decimal-digits_value (numerals_by_value (AllDigits 10) tells_digits) (take count bytes) h (omega arith) (λ zero. long ∙ plain (sym first ∙ zero)) (omega arith) in
    rw (value, same, take_rest) (sym (take-append-drop count bytes))

-- two numbers in brackets, three and four

two : (first a comma b close rest : List ℕ) → first ++ (a ++ (comma ++ (b ++ (close ++ rest)))) ≡ (first ++ (a ++ (comma ++ (b ++ close)))) ++ rest
two first a comma b close rest = simp append_assoc

three : (first a comma b point c close rest : List ℕ)
    → first ++ (a ++ (comma ++ (b ++ (point ++ (c ++ (close ++ rest)))))) ≡ (first ++ (a ++ (comma ++ (b ++ (point ++ (c ++ close)))))) ++ rest
three first a comma b point c close rest = simp append_assoc

four : (first a mark b comma c point d close rest : List ℕ)
    → first ++ (a ++ (mark ++ (b ++ (comma ++ (c ++ (point ++ (d ++ (close ++ rest)))))))) ≡ (first ++ ((a ++ (mark ++ b)) ++ (comma ++ (c ++ (point ++ (d ++ close)))))) ++ rest
four first a mark b comma c point d close rest = simp append_assoc

-- what remains on a storage

pub free_space : (bytes first second rest : List ℕ) (s m : ℕ) → bytes ≡ codes "[" ++ (decimal s ++ first) → first ≡ codes "," ++ (decimal m ++ second) → second ≡ codes "]" ++ rest
    → bytes ≡ remaining_text (record { storage = s; remaining = m }) ++ rest
unfolding remaining_text
free_space bytes first second rest s m a b c = rw (a, b, c) (two (codes "[") (decimal s) (codes ",") (decimal m) (codes "]") rest)

-- an entry of one block, and one of a run

pub one_block : (bytes first second third rest : List ℕ) (n g l : ℕ) (e : Entry) → bytes ≡ codes "[" ++ (decimal n ++ first) → first ≡ codes "," ++ (decimal g ++ second)
    → second ≡ codes "," ++ (decimal l ++ third) → third ≡ codes "]" ++ rest → e.from ≡ n → e.to ≡ n → e.stamp.generation ≡ g → e.stamp.len ≡ l → bytes ≡ entry_text e ++ rest
unfolding entry_text
one_block bytes first second third rest n g l e a b c d from to generation len =
    rw (a, b, c, d, from, to, generation, len, eq-eqb n n refl) (three (codes "[") (decimal n) (codes ",") (decimal g) (codes ",") (decimal l) (codes "]") rest)

pub run_of_blocks : (bytes first second third fourth rest : List ℕ) (n m g l : ℕ) (e : Entry) → bytes ≡ codes "[" ++ (decimal n ++ first) → first ≡ codes "," ++ (decimal m ++ second)
    → second ≡ codes "," ++ (decimal g ++ third) → third ≡ codes "," ++ (decimal l ++ fourth) → fourth ≡ codes "]" ++ rest → n ≢ m
    → e.from ≡ n → e.to ≡ m → e.stamp.generation ≡ g → e.stamp.len ≡ l → bytes ≡ entry_text e ++ rest
unfolding entry_text
run_of_blocks bytes first second third fourth rest n m g l e a b c d f other from to generation len =
    rw (a, b, c, d, f, from, to, generation, len, ne_eqb n m other) (four (codes "[") (decimal n) (codes ",") (decimal m) (codes ",") (decimal g) (codes ",") (decimal l) (codes "]") rest)

-- a list between its name and bracket and the closing one, with a rest
pub in_list : (fields name list body after rest : List ℕ) (before mark behind : List ℕ) → fields ≡ before ++ (name ++ (mark ++ list)) → list ≡ body ++ after → after ≡ behind ++ rest
    → fields ≡ (before ++ (name ++ (mark ++ (body ++ behind)))) ++ rest
in_list fields name list body after rest before mark behind a b c = rw (a, b, c) (simp append_assoc)

-- the items of a list: none, the first, and one more behind a comma

pub no_items : {A : Type 0} (text : A → List ℕ) (items : List A) (list : List ℕ) → items ≡ [] → list ≡ with_commas text items ++ list
no_items text items list e = rw e refl

pub first_item : {A : Type 0} (text : A → List ℕ) (none items : List A) (x : A) (list rest : List ℕ) → none ≡ [] → items ≡ none ++ x ∷ [] → list ≡ text x ++ rest → list ≡ with_commas text items ++ rest
first_item text none items x list rest e f a = rw (f, e) (a ∙ ap (λ l. l ++ rest) (sym (append-nil (text x))))

pub next_item : {A : Type 0} (text : A → List ℕ) (before items : List A) (x : A) (list rest next behind : List ℕ) → 0 < length before → items ≡ before ++ x ∷ []
    → list ≡ with_commas text before ++ rest → rest ≡ codes "," ++ next → next ≡ text x ++ behind → list ≡ with_commas text items ++ behind
next_item text [] items x list rest next behind some e a b c = absurd (omega (arith, some))
next_item {A = A} text (y ∷ ys) items x list rest next behind some e a b c =
    let item : A → List ℕ = λ z. codes "," ++ text z in
    let first = text y ++ flat_map item ys in
    a ∙ ap (λ l. first ++ l) (b ∙ ap (λ l. codes "," ++ l) c ∙ sym (append_assoc (codes ",") (text x) behind)) ∙ sym (append_assoc first (item x) behind)
    ∙ ap (λ l. l ++ behind) (flat_map_more item (text y) ys x) ∙ ap (λ l. with_commas text l ++ behind) (sym e)

pub first_fits : {A : Type 0} (P : A → Type 0) (none items : List A) (x : A) → none ≡ [] → items ≡ none ++ x ∷ [] → P x → All P items
first_fits P none items x e f h = rw (f, e) (All-push P [] x (All-nil P) h)

pub next_fits : {A : Type 0} (P : A → Type 0) (before items : List A) (x : A) → items ≡ before ++ x ∷ [] → All P before → P x → All P items
next_fits P before items x e known h = rw e (All-push P before x known h)

pub has_item : {A : Type 0} (before items : List A) (x : A) → items ≡ before ++ x ∷ [] → 0 < length items
has_item before items x e = rw e (omega (arith, length-append before (x ∷ [])))

-- a call that is answered at the end of the line alone

pub at_end : (b : Bool) (op fields rest : List ℕ) (k : Call) (o : Option Call) → o ≡ then_some b k → (b ≡ true → rest ≡ codes "}") → (rest ≡ codes "}" → Asks op fields k) → IfSome o (Asks op fields)
at_end true op fields rest k o e ends asks = rw e (asks (ends refl))
at_end false op fields rest k o e ends asks = rw e tt

pub two_fields : (fields second rest end x y : List ℕ) → fields ≡ x ++ second → second ≡ y ++ rest → rest ≡ end → fields ≡ (x ++ y) ++ end
two_fields fields second rest end x y a b c = a ∙ ap (λ l. x ++ l) (b ∙ ap (λ l. y ++ l) c) ∙ sym (append_assoc x y end)

pub three_fields : (fields second third rest end x y z : List ℕ) → fields ≡ x ++ second → second ≡ y ++ third → third ≡ z ++ rest → rest ≡ end → fields ≡ (x ++ (y ++ z)) ++ end
three_fields fields second third rest end x y z a b c d = a ∙ ap (λ l. x ++ l) (two_fields second third rest end y z b c d) ∙ sym (append_assoc x (y ++ z) end)

-- a whole line, from its op and the fields after it
pub asked_line : (line behind fields op : List ℕ) (o : Option Call) → line ≡ codes "{\"op\":\"" ++ behind → behind ≡ (op ++ codes "\"") ++ fields
    → IfSome o (λ k. Asks op fields k) → IfSome o (λ k. line ≡ line_text k)
unfolding line_text
asked_line line behind fields op (Some k) a b h =
    rw (a, b, h.same, h.named) (ap (λ l. codes "{\"op\":\"" ++ l) (append_assoc op (codes "\"") (call_fields k ++ codes "}")))
asked_line line behind fields op None a b h = tt
