-- A list of values is read, item by item, as the data that they represent.
use Rattle.std.proofs.Common.{◌≡◌, ℕ, suc, ◌+◌, ◌<◌, ◌≤◌, List, [], ◌∷◌, ◌++◌, Option, length, get_or, drop, option_map, refl, ap, sym, ◌∙◌, add-one, append_assoc, append-nil, drop-cons, arith}
use Rattle.std.proofs.lemmas.List.{drop_all}
use Rattle.std.specs.Prelude.{Some, None, map, option_and_then}
use Rattle.serde_json.specs.Data.{Data}
use Rattle.serde_json.specs.Find.{as_array, get}
use Rattle.serde_json.specs.View.{view, items_of, items_view}
use Rattle.serde_json.specs.declared.value.Value.{Value}
use Rattle.bm_lines.specs.Parser.Fields.{listed, each, list_field, entry_among, entry_in, remaining_among, remaining_in}

-- a list of data, made into items and listed again
pub listed-items : (ds : List Data) → listed (items_of ds) ≡ ds
listed-items [] = refl
listed-items (d ∷ ds) = ap (λ xs. d ∷ xs) (listed-items ds)

pub list_field-items : {A : Type 0} (f : Data → Option A) (name : List ℕ) (vs : List Value) (d : Data) → Some (items_view vs) ≡ option_and_then as_array (get name d)
    → each f (map view vs) ≡ list_field f name d
list_field-items f name vs d e = rw (← e, listed-items) refl

-- a slice of three or four items

pub three_values : (vs : List Value) (a b c : Value) → 3 ≤ length vs → length vs < 4 → a ≡ get_or vs 0 a → b ≡ get_or vs 1 b → c ≡ get_or vs 2 c → vs ≡ a ∷ b ∷ c ∷ []
three_values (x ∷ y ∷ z ∷ []) a b c least below e f g = rw (e, f, g) refl
three_values [] a b c least below e f g = absurd (omega arith)
three_values (x ∷ []) a b c least below e f g = absurd (omega arith)
three_values (x ∷ y ∷ []) a b c least below e f g = absurd (omega arith)
three_values (x ∷ y ∷ z ∷ w ∷ others) a b c least below e f g = absurd (omega arith)

pub four_values : (vs : List Value) (a b c d : Value) → 4 ≤ length vs → length vs < 5 → a ≡ get_or vs 0 a → b ≡ get_or vs 1 b → c ≡ get_or vs 2 c → d ≡ get_or vs 3 d → vs ≡ a ∷ b ∷ c ∷ d ∷ []
four_values (x ∷ y ∷ z ∷ w ∷ []) a b c d least below e f g h = rw (e, f, g, h) refl
four_values [] a b c d least below e f g h = absurd (omega arith)
four_values (x ∷ []) a b c d least below e f g h = absurd (omega arith)
four_values (x ∷ y ∷ []) a b c d least below e f g h = absurd (omega arith)
four_values (x ∷ y ∷ z ∷ []) a b c d least below e f g h = absurd (omega arith)
four_values (x ∷ y ∷ z ∷ w ∷ v ∷ others) a b c d least below e f g h = absurd (omega arith)

pub entry_in-items : (vs : List Value) (d : Data) → Some (items_view vs) ≡ as_array d → entry_among (map view vs) ≡ entry_in d
unfolding entry_in
entry_in-items vs d e = rw (← e, listed-items) refl

pub entry_in-none : (d : Data) → None ≡ as_array d → None ≡ entry_in d
unfolding entry_in
entry_in-none d e = rw (← e) refl

pub remaining_in-items : (vs : List Value) (d : Data) → Some (items_view vs) ≡ as_array d → remaining_among (map view vs) ≡ remaining_in d
unfolding remaining_in
remaining_in-items vs d e = rw (← e, listed-items) refl

pub remaining_in-none : (d : Data) → None ≡ as_array d → None ≡ remaining_in d
unfolding remaining_in
remaining_in-none d e = rw (← e) refl

-- Items are read one after another: `all` is what is read of all values.

at_value : (values : List Value) (i : ℕ) (v : Value) → i < length values → v ≡ get_or values i v → drop i values ≡ v ∷ drop (i + 1) values
at_value values i v less same = rw (add-one i) (drop-cons values i v less ∙ ap (λ w. w ∷ drop (suc i) values) (sym same))

pushed : {A : Type 0} (items : List A) (x : A) (o : Option (List A)) → option_map (λ ys. (items ++ x ∷ []) ++ ys) o ≡ option_map (λ ys. items ++ ys) (option_map (λ ys. x ∷ ys) o)
pushed items x (Some ys) = ap (λ l. Some l) (append_assoc items (x ∷ []) ys)
pushed items x None = refl

-- what is read of a value and of those after it
abbrev of_value : {A : Type 0} → (Data → Option A) → List A → List Value → Option A → Option (List A)
of_value f items others o = option_map (λ ys. items ++ ys) (option_and_then (λ y. option_map (λ ys. y ∷ ys) (each f (map view others))) o)

pub none_read : {A : Type 0} (items : List A) (all : Option (List A)) → items ≡ [] → option_map (λ ys. items ++ ys) all ≡ all
none_read items (Some ys) e = rw e refl
none_read items None e = refl

pub one_read : {A : Type 0} (f : Data → Option A) (values : List Value) (i : ℕ) (v : Value) (before items : List A) (x : A) (all : Option (List A)) → i < length values → v ≡ get_or values i v
    → Some x ≡ f (view v) → items ≡ before ++ x ∷ [] → option_map (λ ys. before ++ ys) (each f (map view (drop i values))) ≡ all → option_map (λ ys. items ++ ys) (each f (map view (drop (i + 1) values))) ≡ all
one_read f values i v before items x all less same read e known =
    let others = drop (i + 1) values in
    ap (λ xs. option_map (λ ys. xs ++ ys) (each f (map view others))) e ∙ pushed before x (each f (map view others))
    ∙ ap (of_value f before others) read ∙ ap (λ vs. option_map (λ ys. before ++ ys) (each f (map view vs))) (sym (at_value values i v less same)) ∙ known

pub not_read : {A : Type 0} (f : Data → Option A) (values : List Value) (i : ℕ) (v : Value) (items : List A) (all : Option (List A)) → i < length values → v ≡ get_or values i v
    → None ≡ f (view v) → option_map (λ ys. items ++ ys) (each f (map view (drop i values))) ≡ all → None ≡ all
not_read f values i v items all less same read known =
    ap (of_value f items (drop (i + 1) values)) read ∙ ap (λ vs. option_map (λ ys. items ++ ys) (each f (map view vs))) (sym (at_value values i v less same)) ∙ known

pub all_read : {A : Type 0} (f : Data → Option A) (values : List Value) (i : ℕ) (items : List A) (all : Option (List A)) → length values ≤ i
    → option_map (λ ys. items ++ ys) (each f (map view (drop i values))) ≡ all → Some items ≡ all
all_read f values i items all end known =
    ap (λ l. Some l) (sym (append-nil items)) ∙ ap (λ vs. option_map (λ ys. items ++ ys) (each f (map view vs))) (sym (drop_all i values end)) ∙ known
