-- Without groups and globals, a parsed option with a default has a text that its parser accepts.
use Rattle.std.proofs.Common.{zero, suc, ◌≡◌, ◌∙◌, ◌<◌, ◌≤◌, ap, ℕ, true, false, List, [], ◌∷◌, length, Some, None, refl, sym, subst, inl, inr, arith}
use Rattle.std.specs.List.{All, slice_index_or}
use Rattle.std.specs.Str.{bytes_eq}
use Rattle.std.specs.Prelude.{find, option_map, slice_get}
use Rattle.std.specs.Borrow.{Bor}
use Rattle.std.proofs.lemmas.List.Elements.{All-get_or}
use Rattle.std.proofs.lemmas.Slice.Eq.{bytes_eq-Decides}
use Rattle.clap.specs.Facts.{args_of, groups_of, AllowsNone, Entry, EntryPasses, EntryValuesPass, HasReading, IsCountArg, IsFilledEntry, IsGroupEntry, IsKnownGroup, MayBeEmpty, PassesArg, ReadsByParser, WantsDefault, least_values, parser_of, parser_of_value}
use Rattle.clap.specs.Built.{IsAuto, IsParsedFrom, NamesNoGroup, SameRules}
use Rattle.clap.specs.Matches.{found_of, first_value, matched_of, one_text}
use Rattle.clap.specs.Values.{Accepts, read_as, reading_of}
use Rattle.clap.specs.declared.builder.action.ArgAction.TheVariants.{Count, Set}
use Rattle.clap.specs.declared.builder.arg.Arg.{Arg}
use Rattle.clap.specs.declared.builder.command.Command.{Command}
use Rattle.clap.specs.declared.builder.command.Command.TheViews.{out-Command}
use Rattle.clap.specs.declared.builder.value_parser.ValueParser.{ValueParser}
use Rattle.clap.specs.declared.builder.value_parser.Reading.{Reading}
use Rattle.clap.specs.declared.parser.matches.ArgMatches.{ArgMatches}
use Rattle.clap.specs.declared.parser.matches.Found.{Found}
use Rattle.clap.specs.declared.parser.matches.MatchedArg.{MatchedArg}
use Rattle.clap.proofs.CallerLemmas.{default_present, entry_by_id, same_rules_by_id}

-- the text of an argument, and its properties
pub record HasText (f : Found) (a : Arg) (q : ValueParser) : Type 0 where
  pub text : List ℕ
  pub value : first_value f a.id.now ≡ Some text
  pub read : one_text f a.id.now ≡ Some (read_as (reading_of q) text)
  pub accepted : Accepts a.ignore_case q text

-- an argument that takes a value and has a name of its own
pub record IsOption (a : Arg) (q : ValueParser) : Type 0 where
  pub default : WantsDefault a
  pub action : a.action ≡ Some Set
  pub delimiter : a.val_delim ≡ None
  pub least : 1 ≤ least_values a
  pub parser : a.value_parser ≡ Some q
  pub named : a.id.now ≡ [] → ⊥
  pub own : IsAuto a → ⊥

-- each argument of c with the name of a follows the rules of a
abbrev KeepsRules : Command → Arg → Type 0
KeepsRules c a = (j : ℕ) (x : Arg) → j < length (args_of c) → slice_index_or (args_of c) j x ≡ x → bytes_eq x.id.now a.id.now ≡ true → SameRules a x

not_zero : (n : ℕ) → 1 ≤ n → n ≡ 0 → ⊥
not_zero n least none = absurd (omega arith)

found_of_has : (i : ℕ) (xs : List Entry) (id : List ℕ) → i < length xs → ((d : Entry) → bytes_eq (slice_index_or xs i d).0.now id ≡ true)
    → (x : MatchedArg) × (option_map (λ e. e.1) (find (λ e. bytes_eq e.0.now id) xs) ≡ Some x)
found_of_has i [] id lt h = absurd (omega arith)
found_of_has zero (x ∷ xs) id lt h = (x.1, rw (h x) refl)
found_of_has (suc i) (x ∷ xs) id lt h = go (bytes_eq x.0.now id) refl (found_of_has i xs id (omega arith) h)
  where
    go : (b : _) → bytes_eq x.0.now id ≡ b
        → (y : MatchedArg) × (option_map (λ e. e.1) (find (λ e. bytes_eq e.0.now id) xs) ≡ Some y)
        → (y : MatchedArg) × (option_map (λ e. e.1) (find (λ e. bytes_eq e.0.now id) (x ∷ xs)) ≡ Some y)
    go true e rest = (x.1, rw e refl)
    go false e rest = (rest.0, rw e rest.1)

first_passes : (P : Bor (List ℕ) → Type 0) (vs : List (Bor (List ℕ))) → All P vs → 0 < length vs
    → (v : Bor (List ℕ)) × (slice_get vs 0 ≡ Some v) × P v
first_passes P [] h lt = absurd (omega arith)
first_passes P (v ∷ vs) h lt = (v, refl, All-get_or P (v ∷ vs) 0 v (omega arith) h)

accepted_by : (c : Command) (a : Arg) (q : ValueParser) (v : List ℕ) → KeepsRules c a → a.value_parser ≡ Some q → PassesArg c a.id.now v
    → Accepts a.ignore_case q v
accepted_by c a q v same parser pass =
    let s = same pass.0 pass.1 pass.2 pass.3 pass.4.0 in
    let is_q : parser_of pass.1 ≡ q = ap parser_of_value (s.parser q parser) in
    let as_q : Accepts pass.1.ignore_case q v = subst (λ (w : ValueParser). Accepts pass.1.ignore_case w v) is_q pass.4.1 in
    subst (λ (b : _). Accepts b q v) s.ignore_case as_q

reading_by : (c : Command) (a : Arg) (q : ValueParser) (r : Reading) → KeepsRules c a → a.value_parser ≡ Some q → HasReading c a.id.now r
    → r ≡ reading_of q
reading_by c a q r same parser any =
    let s = same any.0 any.1 any.2 any.3 any.4.0 in
    let is_q : parser_of any.1 ≡ q = ap parser_of_value (s.parser q parser) in
    sym any.4.1 ∙ ap reading_of is_q

not_group : (c : Command) (e : Entry) (id : List ℕ) → groups_of c ≡ [] → (id ≡ [] → ⊥) → e.0.now ≡ id → IsGroupEntry c e → e.1.is_group ≡ true → ⊥
not_group c e id no_groups named key h g = go (h g)
  where
    go : IsKnownGroup c e.0.now → ⊥
    go (inl empty) = named (sym key ∙ empty)
    go (inr lots) =
        let bad : 0 < 0 = rw no_groups at lots in
        absurd (omega arith)

values_pass : (c : Command) (e : Entry) → (e.1.is_group ≡ true → ⊥) → EntryValuesPass c e → All (λ v. PassesArg c e.0.now v.now) e.1.vals.items
values_pass c e no_group (inl g) = absurd (no_group g)
values_pass c e no_group (inr h) = h

reading_is : (c : Command) (e : Entry) (a : Arg) (q : ValueParser) → (e.1.is_group ≡ true → ⊥) → KeepsRules c a → a.value_parser ≡ Some q
    → e.0.now ≡ a.id.now → ReadsByParser c e → e.1.reading ≡ reading_of q
reading_is c e a q no_group same parser key (inl g) = absurd (no_group g)
reading_is c e a q no_group same parser key (inr h) = reading_by c a q e.1.reading same parser (subst (λ (w : List ℕ). HasReading c w e.1.reading) key h)

counts_not : (c : Command) (a : Arg) (q : ValueParser) → KeepsRules c a → IsOption a q → IsCountArg c a.id.now → ⊥
counts_not c a q same o any =
    let s = same any.0 any.1 any.2 any.3 any.4.0 in
    let is_set : any.1.action ≡ Some Set = s.action Set o.action in
    let bad : Set ≡ Count = rw is_set at any.4.1 in
    cc

empty_not : (c : Command) (a : Arg) (q : ValueParser) → KeepsRules c a → IsOption a q → AllowsNone c a.id.now → ⊥
empty_not c a q same o any = go (same any.0 any.1 any.2 any.3 any.4.0) any.4.1
  where
    go : SameRules a any.1 → MayBeEmpty any.1 → ⊥
    go s (inl none) = not_zero (least_values any.1) (s.least o.action o.least) none
    go s (inr has) =
        let bad : false ≡ true = rw (s.val_delim, o.delimiter) at has in
        cc

is_filled : (c : Command) (e : Entry) (a : Arg) (q : ValueParser) → (e.1.is_group ≡ true → ⊥) → KeepsRules c a → IsOption a q
    → e.0.now ≡ a.id.now → IsFilledEntry c e → 0 < length e.1.vals.items
is_filled c e a q no_group same o key (inl h) = absurd (no_group h.0)
is_filled c e a q no_group same o key (inr (inl h)) = h
is_filled c e a q no_group same o key (inr (inr (inl h))) = absurd (counts_not c a q same o (subst (λ (w : List ℕ). IsCountArg c w) key h.1))
is_filled c e a q no_group same o key (inr (inr (inr h))) = absurd (empty_not c a q same o (subst (λ (w : List ℕ). AllowsNone c w) key h))

text_of_entry : (c : Command) (f : Found) (a : Arg) (q : ValueParser) (e : Entry) → groups_of c ≡ [] → KeepsRules c a
    → IsOption a q → matched_of f a.id.now ≡ Some e.1 → e.0.now ≡ a.id.now → EntryPasses c e → HasText f a q
text_of_entry c f a q e no_groups same o found key pass =
    let no_group = not_group c e a.id.now no_groups o.named key pass.3 in
    let all = values_pass c e no_group pass.0 in
    let some = is_filled c e a q no_group same o key pass.1 in
    let is = reading_is c e a q no_group same o.parser key pass.4 in
    finish is (first_passes (λ v. PassesArg c e.0.now v.now) e.1.vals.items all some)
  where
    finish : e.1.reading ≡ reading_of q → ((v : Bor (List ℕ)) × (slice_get e.1.vals.items 0 ≡ Some v) × PassesArg c e.0.now v.now) → HasText f a q
    finish is hd = record {
      text = hd.0.now;
      value = rw (found, hd.1) refl;
      read = rw (found, hd.1, is) refl;
      accepted = accepted_by c a q hd.0.now same o.parser (subst (λ (w : List ℕ). PassesArg c w hd.0.now) key hd.2);
    }

-- of an option of a command without groups and global arguments, whose name no other argument has
pub option_text : (old : Command) (m : ArgMatches) (p : IsParsedFrom old m) → NamesNoGroup old → groups_of old ≡ []
    → (out-Command old).has_globals ≡ false → (k : ℕ) (a : Arg) → k < length (args_of old) → slice_index_or (args_of old) k a ≡ a
    → ((j : ℕ) (e : Arg) → j < length (args_of old) → bytes_eq (slice_index_or (args_of old) j e).id.now a.id.now ≡ true → j ≡ k)
    → (q : ValueParser) → IsOption a q → HasText (found_of m) a q
option_text old m p no_group groups globals k a lt at unique q o =
    let kept = p.from.same_groups no_group in
    let same : KeepsRules p.built a = subst (λ (w : Arg).
    ((j : ℕ) (e : Arg) → j < length (args_of old) → bytes_eq (slice_index_or (args_of old) j e).id.now w.id.now ≡ true → j ≡ k)
    → (IsAuto w → ⊥) → KeepsRules p.built w) at (same_rules_by_id old m p k a lt) unique o.own in
    let has = default_present old m p globals k a lt (rw at o.default) in
    let x = found_of_has has.0 (found_of m).entries.items a.id.now has.1 (λ d. rw at at (has.2 d)) in
    let parsed = p.parsed (p.from.globals ∙ globals) in
    let e = entry_by_id (EntryPasses p.built) (found_of m).entries.items a.id.now x.0 parsed.values x.1 in
    text_of_entry p.built (found_of m) a q e.0 (kept.1 ∙ groups) same o (x.1 ∙ ap Some (sym e.1)) ((bytes_eq-Decides e.0.0.now a.id.now).0 e.2) e.3
