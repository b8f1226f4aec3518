-- Data of numbers below 2^64 and plain strings, not too deep, are read back, their members sorted.
use Rattle.std.proofs.Common.{◌≡◌, suc, max, ◌<◌, ◌≤◌, ◌^◌, Bool, true, false, List, [], ◌∷◌, ◌++◌, Option, Some, option_map, option_and_then, refl, sym, ap, ap₂, ◌∙◌, arith, append-nil}
use Rattle.std.specs.Prelude.{⊤}
use Rattle.json.specs.Json as json
use Rattle.json.specs.Lex.{tokens}
use Rattle.json.specs.Print.{quoted}
use Rattle.json.specs.Token.{Token}
use Rattle.json.specs.Tree as tree
use Rattle.json.proofs.Printed.Decimals.{IsNumber-decimal}
use Rattle.json.proofs.Printed.Tokens.{tokens-print}
use Rattle.json.proofs.Printed.Trees.{value-json_tokens, ArePrintable-json_tokens}
use Rattle.serde_json.specs.Data.{Num, unsigned, negative, float, Data, null, boolean, number, string, array, object, Items, no_items, item, Members, no_members, member, put, depth, items_depth, members_depth}
use Rattle.serde_json.specs.Read.{read, max_depth, of_json, of_items, of_members}
use Rattle.serde_json.specs.Written.{outline, items_outline, members_outline, comma_if, compact_text, items_text, members_text}
use Rattle.serde_json.proofs.Numbers.{number_of-decimal}
use Rattle.serde_json.proofs.Texts.{print-outline}
use Rattle.bm_lines.proofs.PlainText.{is_plain, is_plain-append, is_plain-decimal}

abbrev pub FitsNumber : Num → Type 0
FitsNumber (unsigned n) = n < 2 ^ 64
FitsNumber (negative z) = ⊥
FitsNumber (float x) = ⊥

abbrev mutual
  pub IsSound : Data → Type 0
  IsSound null = ⊥
  IsSound (boolean b) = ⊥
  IsSound (number n) = FitsNumber n
  IsSound (string s) = is_plain (quoted s) ≡ true
  IsSound (array ds) = AreSound ds
  IsSound (object ms) = HasSound ms

  pub AreSound : Items → Type 0
  AreSound no_items = ⊤
  AreSound (item d ds) = IsSound d × AreSound ds

  pub HasSound : Members → Type 0
  HasSound no_members = ⊤
  HasSound (member k d ms) = (is_plain (quoted k) ≡ true) × (IsSound d × HasSound ms)

-- the members in the order of their names, as they are read
abbrev mutual
  pub in_order : Data → Data
  in_order null = null
  in_order (boolean b) = boolean b
  in_order (number n) = number n
  in_order (string s) = string s
  in_order (array ds) = array (items_in_order ds)
  in_order (object ms) = object (members_in_order ms no_members)

  pub items_in_order : Items → Items
  items_in_order no_items = no_items
  items_in_order (item d ds) = item (in_order d) (items_in_order ds)

  pub members_in_order : Members → Members → Members
  members_in_order no_members found = found
  members_in_order (member k d ms) found = members_in_order ms (put k (in_order d) found)

mutual
  numbers_of : (d : Data) → IsSound d → tree.HasNumbers (outline d)
  numbers_of null h = absurd h
  numbers_of (boolean b) h = absurd h
  numbers_of (number (unsigned n)) h = IsNumber-decimal n h
  numbers_of (number (negative z)) h = absurd h
  numbers_of (number (float x)) h = absurd h
  numbers_of (string s) h = tt
  numbers_of (array ds) h = numbers_of_items ds h
  numbers_of (object ms) h = numbers_of_members ms h

  numbers_of_items : (ds : Items) → AreSound ds → tree.ItemsHaveNumbers (items_outline ds)
  numbers_of_items no_items h = tt
  numbers_of_items (item d ds) h = (numbers_of d h.0, numbers_of_items ds h.1)

  numbers_of_members : (ms : Members) → HasSound ms → tree.MembersHaveNumbers (members_outline ms)
  numbers_of_members no_members h = tt
  numbers_of_members (member k d ms) h = (numbers_of d h.1.0, numbers_of_members ms h.1.1)

mutual
  of_json-outline : (d : Data) → IsSound d → of_json (outline d) ≡ Some (in_order d)
  of_json-outline null h = absurd h
  of_json-outline (boolean b) h = absurd h
  of_json-outline (number (unsigned n)) h = ap (option_map number) (number_of-decimal n h)
  of_json-outline (number (negative z)) h = absurd h
  of_json-outline (number (float x)) h = absurd h
  of_json-outline (string s) h = refl
  of_json-outline (array ds) h = ap (option_map array) (of_items-outline ds h)
  of_json-outline (object ms) h = ap (option_map object) (of_members-outline ms no_members h)

  of_items-outline : (ds : Items) → AreSound ds → of_items (items_outline ds) ≡ Some (items_in_order ds)
  of_items-outline no_items h = refl
  of_items-outline (item d ds) h =
      ap (option_and_then (λ e. option_map (item e) (of_items (items_outline ds)))) (of_json-outline d h.0) ∙ ap (option_map (item (in_order d))) (of_items-outline ds h.1)

  of_members-outline : (ms found : Members) → HasSound ms → of_members (members_outline ms) found ≡ Some (members_in_order ms found)
  of_members-outline no_members found h = refl
  of_members-outline (member k d ms) found h =
      ap (option_and_then (λ e. of_members (members_outline ms) (put k e found))) (of_json-outline d h.1.0) ∙ of_members-outline ms (put k (in_order d) found) h.1.1

mutual
  depth-outline : (d : Data) → tree.depth (outline d) ≡ depth d
  depth-outline null = refl
  depth-outline (boolean b) = refl
  depth-outline (number n) = refl
  depth-outline (string s) = refl
  depth-outline (array ds) = ap suc (depth-items ds)
  depth-outline (object ms) = ap suc (depth-members ms)

  depth-items : (ds : Items) → tree.items_depth (items_outline ds) ≡ items_depth ds
  depth-items no_items = refl
  depth-items (item d ds) = ap₂ max (depth-outline d) (depth-items ds)

  depth-members : (ms : Members) → tree.members_depth (members_outline ms) ≡ members_depth ms
  depth-members no_members = refl
  depth-members (member k d ms) = ap₂ max (depth-outline d) (depth-members ms)

plain_comma : (later : Bool) → is_plain (comma_if later) ≡ true
plain_comma true = refl
plain_comma false = refl

mutual
  -- the text is one line
  pub plain_text : (d : Data) → IsSound d → is_plain (compact_text d) ≡ true
  plain_text null h = absurd h
  plain_text (boolean b) h = absurd h
  plain_text (number (unsigned n)) h = is_plain-decimal n h
  plain_text (number (negative z)) h = absurd h
  plain_text (number (float x)) h = absurd h
  plain_text (string s) h = h
  plain_text (array ds) h = plain_items false ds h
  plain_text (object ms) h = plain_members false ms h

  plain_items : (later : Bool) (ds : Items) → AreSound ds → is_plain (items_text later ds) ≡ true
  plain_items later no_items h = refl
  plain_items later (item d ds) h =
      let rest = items_text true ds in
      is_plain-append (comma_if later) (compact_text d ++ rest) (plain_comma later) (is_plain-append (compact_text d) rest (plain_text d h.0) (plain_items true ds h.1))

  plain_members : (later : Bool) (ms : Members) → HasSound ms → is_plain (members_text later ms) ≡ true
  plain_members later no_members h = refl
  plain_members later (member k d ms) h =
      let rest = compact_text d ++ members_text true ms in
      let value = is_plain-append (compact_text d) (members_text true ms) (plain_text d h.1.0) (plain_members true ms h.1.1) in
      is_plain-append (comma_if later) (quoted k ++ 58 ∷ rest) (plain_comma later) (is_plain-append (quoted k) (58 ∷ rest) h.0 value)

-- the data read of a text, from what the grammar finds at its beginning
abbrev whole : Option (json.Json × List Token) → Option Data
whole found = option_and_then of_json (option_and_then (λ p. json.if_last p.0 p.1) found)

-- the text is read as the same object, its members in order
pub read-compact_text : (d : Data) → IsSound d → depth d ≤ max_depth → read (compact_text d) ≡ Some (in_order d)
read-compact_text d h shallow =
    let same : tokens (compact_text d) ≡ tree.json_tokens (outline d) = ap tokens (sym (print-outline d)) ∙ tokens-print _ (ArePrintable-json_tokens (outline d) (numbers_of d h)) in
    ap whole (ap (json.value max_depth) (same ∙ sym (append-nil _)) ∙ value-json_tokens (outline d) max_depth [] (omega (arith, depth-outline d))) ∙ of_json-outline d h
