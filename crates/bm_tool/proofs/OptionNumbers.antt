-- An option's number is the one on the command line, or its default, and is in the option's range.
use Rattle.std.proofs.Common.{zero, suc, ◌||◌, fold, ◌≡◌, ◌∙◌, ◌<◌, ◌≤◌, ◌^◌, drop, take, ap, map, ℕ, Bool, true, false, not, List, [], ◌∷◌, ◌++◌, length, Option, Some, None, refl, sym, subst, inl, inr, arith, codes, true≢false, is_some}
use Rattle.std.specs.List.{list_any, slice_index_or}
use Rattle.std.specs.Option.{option_map_or}
use Rattle.std.specs.Str.{bytes_eq}
use Rattle.std.specs.Str.Parse.{IsNumeral, starts_with_minus, without_leading_plus}
use Rattle.std.specs.Prelude.{pos}
use Rattle.std.proofs.lemmas.Int.{ints}
use Rattle.std.proofs.lemmas.List.{get_or-map, length-map}
use Rattle.std.proofs.lemmas.List.Sums.{AllPass-from_list_all}
use Rattle.std.proofs.lemmas.Slice.Eq.{bytes_eq-Decides}
use Rattle.std.proofs.lemmas.Bool.{or_parts}
use Rattle.clap.specs.Lexer.{without_minus}
use Rattle.clap.specs.Facts.{args_of, groups_of, unwrap_or_range}
use Rattle.clap.specs.Built.{IsParsedFrom, NamesNoGroup}
use Rattle.clap.specs.Texts.{items_of}
use Rattle.clap.specs.Matches.{first_value, found_of, one_text}
use Rattle.clap.specs.Values.{IsSignedIn}
use Rattle.clap.specs.Walk.{Rule, Text, first_of, with_default, is_simple_arg, rule_of, rows_of, texts}
use Rattle.clap.specs.Simple.{App, HasMatchesOf, app_of, built, has_plain_fields, is_simple, matches_of, new_rule}
use Rattle.clap.specs.declared.builder.arg.Arg.{Arg}
use Rattle.clap.specs.declared.builder.command.Command.{Command}
use Rattle.clap.specs.declared.builder.command.Command.TheViews.{out-Command}
use Rattle.clap.specs.declared.builder.value_parser.ValueParser.TheVariants.{Signed}
use Rattle.clap.specs.declared.parser.matches.ArgMatches.{ArgMatches}
use Rattle.clap.proofs.SimpleLemmas.{is_false, is_nil}
use Rattle.clap.proofs.WalkLemmas.{both, first_value-rows}
use Rattle.bm_tool.specs.Options.{IsNumberOf, number_for, rows_given, number_of, option_rule, options, tool}
use Rattle.bm_tool.proofs.OptionRows.{given_or_standard, has_name}
use Rattle.bm_tool.proofs.OptionTexts.{HasText, IsOption, option_text}

-- ---- texts that passed a range from 1 on

no_minus : (t : Text) → starts_with_minus t ≡ false → without_minus t ≡ t
no_minus [] e = refl
no_minus (x ∷ xs) e = rw e refl

-- such a text has no minus, and its number is in the range
in_range : (most : ℕ) (t : Text) → IsSignedIn (pos 1) (pos most) t
    → (without_minus t ≡ t) × IsNumeral 10 (without_leading_plus t) × (1 ≤ number_of t) × (number_of t ≤ most)
in_range most t passed = go (starts_with_minus t) refl
  where
    go : (b : Bool) → starts_with_minus t ≡ b
        → (without_minus t ≡ t) × IsNumeral 10 (without_leading_plus t) × (1 ≤ number_of t) × (number_of t ≤ most)
    go true minus =
        let low = rw minus at passed.2 in
        absurd (omega (arith, ints))
    go false minus =
        let low = rw minus at passed.2 in
        let high = rw minus at passed.3 in
        (no_minus t minus, rw minus at passed.0, omega (arith, ints), omega (arith, ints))

-- ---- indices of options

none_at : {X : Type 0} (p : X → Bool) (xs : List X) → list_any p xs ≡ false → (j : ℕ) (d : X) → j < length xs → p (slice_index_or xs j d) ≡ true → ⊥
none_at p [] none j d lt is = absurd (omega arith)
none_at p (x ∷ xs) none zero d lt is =
    let bad : true ≡ false = rw is at none in
    cc
none_at p (x ∷ xs) none (suc j) d lt is = go (p x) refl (λ h. none_at p xs h j d (omega arith) is)
  where
    go : (b : Bool) → p x ≡ b → (list_any p xs ≡ false → ⊥) → ⊥
    go true e rest =
        let bad : true ≡ false = rw e at none in
        cc
    go false e rest = rest (rw e at none)

only_index : {X : Type 0} (p : X → Bool) (before : List X) (x : X) (after : List X) → list_any p before ≡ false → list_any p after ≡ false
    → (j : ℕ) (d : X) → j < length (before ++ x ∷ after) → p (slice_index_or (before ++ x ∷ after) j d) ≡ true → j ≡ length before
only_index p [] x after none_before none_after zero d lt is = refl
only_index p [] x after none_before none_after (suc j) d lt is = absurd (none_at p after none_after j d (omega arith) is)
only_index p (y ∷ before) x after none_before none_after zero d lt is = absurd (none_at p (y ∷ before) none_before 0 d (omega arith) is)
only_index p (y ∷ before) x after none_before none_after (suc j) d lt is = go (p y) refl (λ h. only_index p before x after h none_after j d (omega arith) is)
  where
    go : (b : Bool) → p y ≡ b → (list_any p before ≡ false → j ≡ length before) → suc j ≡ suc (length before)
    go true e rest =
        let bad : true ≡ false = rw e at none_before in
        cc
    go false e rest = ap suc (rest (rw e at none_before))

at_middle : {X : Type 0} (before : List X) (x : X) (after : List X) (d : X) → slice_index_or (before ++ x ∷ after) (length before) d ≡ x
at_middle [] x after d = refl
at_middle (y ∷ before) x after d = at_middle before x after d

nth : (xs : List Arg) (k : ℕ) → k < length xs → (a : Arg) × (slice_index_or xs k a ≡ a)
nth [] k lt = absurd (omega arith)
nth (x ∷ xs) zero lt = (x, refl)
nth (x ∷ xs) (suc k) lt = nth xs k (omega arith)

-- ---- what the rule of an argument implies

none_of : {X : Type 0} (o : Option X) → not (is_some o) ≡ true → o ≡ None
none_of None e = refl
none_of (Some x) e = absurd (true≢false (sym e))

simple_parts : (a : Arg) → is_simple_arg a ≡ true → (a.default_vals_ifs.items ≡ []) × (a.groups.items ≡ []) × (a.val_delim ≡ None)
simple_parts a e =
    let p = both _ _ e in
    let q = both _ _ p.1 in
    let r = both _ _ q.1 in
    let s = both _ _ r.1 in
    (is_nil _ q.0, is_nil _ r.0, none_of _ s.0)

differ : (t u : Text) → bytes_eq t u ≡ false → t ≡ u → ⊥
differ t u unlike is =
    let yes = (bytes_eq-Decides t u).1 is in
    let bad : true ≡ false = rw yes at unlike in
    cc

is_option : (a : Arg) (name d : Text) (most : ℕ) → rule_of a ≡ option_rule name d most → bytes_eq name [] ≡ false
    → bytes_eq name (codes "help") ≡ false → bytes_eq name (codes "version") ≡ false → IsOption a (Signed (pos 1) (pos most))
is_option a name d most is named help version =
    let simple = simple_parts a (ap (λ (r : Rule). r.is_simple) is) in
    let is_name : a.id.now ≡ name = ap (λ (r : Rule). r.id) is in
    let one : length (texts (items_of a.default_vals)) ≡ 1 = ap (λ (r : Rule). length r.defaults) is in
    let same : length (texts (items_of a.default_vals)) ≡ length (items_of a.default_vals) = length-map (items_of a.default_vals) (λ s. s.now) in
    let least : (unwrap_or_range a.num_vals).start_inclusive ≡ 1 = ap (λ (r : Rule). (unwrap_or_range r.range).start_inclusive) is in
    record {
      default = (simple.0, subst (λ n. 0 < n) (sym (sym same ∙ one)) (omega arith));
      action = ap (λ (r : Rule). r.action) is;
      delimiter = simple.2;
      least = subst (λ n. 1 ≤ n) (sym least) (omega arith);
      parser = ap (λ (r : Rule). r.parser) is;
      named = λ e. differ name [] named (sym is_name ∙ e);
      own = λ auto. elim auto [
        | inl e ↦ differ name (codes "help") help (sym is_name ∙ e)
        | inr e ↦ differ name (codes "version") version (sym is_name ∙ e)
      ];
    }

-- ---- the command

abbrev blank : Rule
blank = new_rule []

rule_at : (cmd : Command) → app_of cmd ≡ tool → (j : ℕ) (e : Arg) → j < length (args_of cmd)
    → rule_of (slice_index_or (args_of cmd) j e) ≡ slice_index_or options j blank
rule_at cmd is j e lt =
    let rules : map rule_of (args_of cmd) ≡ options = ap (λ (a : App). a.top.rules) is in
    sym (get_or-map rule_of (args_of cmd) j e blank lt) ∙ ap (λ (l : List Rule). slice_index_or l j blank) rules

args_count : (cmd : Command) → app_of cmd ≡ tool → length (args_of cmd) ≡ 5
args_count cmd is = sym (length-map (args_of cmd) rule_of) ∙ ap (λ (a : App). length a.top.rules) is

plain_facts : (cmd : Command) → has_plain_fields (out-Command cmd) ≡ true → (groups_of cmd ≡ []) × ((out-Command cmd).has_globals ≡ false)
plain_facts cmd e =
    let p = both _ _ e in
    let q = both _ _ p.1 in
    let r = both _ _ q.1 in
    (is_nil _ p.0, is_false _ r.0)

no_groups : (cmd : Command) → app_of cmd ≡ tool → NamesNoGroup cmd
no_groups cmd is k d lt =
    let count = args_count cmd is in
    let simple : (slice_index_or options k blank).is_simple ≡ true = AllPass-from_list_all (λ (r : Rule). r.is_simple) options refl k blank (subst (λ n. k < n) count lt) in
    (simple_parts (slice_index_or (args_of cmd) k d) (ap (λ (r : Rule). r.is_simple) (rule_at cmd is k d lt) ∙ simple)).1

-- an option's index among the options, and among those that are filled in for the parse
pub record Place (name d : Text) (most : ℕ) : Type 0 where
  pub place : ℕ
  pub before : List Rule
  pub after : List Rule
  pub rules : options ≡ before ++ option_rule name d most ∷ after
  pub count : length before ≡ place
  pub below : place < 5
  pub alone : (list_any (has_name name) before || list_any (has_name name) after) ≡ false
  pub filled_before : List Rule
  pub filled : Rule
  pub filled_after : List Rule
  pub filled_rules : (built tool).top.rules ≡ filled_before ++ filled ∷ filled_after
  pub filled_alone : (list_any (has_name name) filled_before || list_any (has_name name) filled_after) ≡ false
  pub filled_name : filled.id ≡ name
  pub filled_default : filled.defaults ≡ d ∷ []
  pub other_names : (bytes_eq name [] || (bytes_eq name (codes "help") || bytes_eq name (codes "version"))) ≡ false
  pub fits : most < 2 ^ 32

only_named : (name d : Text) (most : ℕ) (w : Place name d most) (j : ℕ) → j < 5 → bytes_eq (slice_index_or options j blank).id name ≡ true → j ≡ w.place
only_named name d most w j lt same =
    let apart = or_parts _ _ w.alone in
    only_index (has_name name) w.before (option_rule name d most) w.after apart.0 apart.1 j blank
    (subst (λ (l : List Rule). j < length l) w.rules lt) (subst (λ (l : List Rule). bytes_eq (slice_index_or l j blank).id name ≡ true) w.rules same)
    ∙ w.count

rule_here : (name d : Text) (most : ℕ) (w : Place name d most) → slice_index_or options w.place blank ≡ option_rule name d most
rule_here name d most w = subst (λ n. slice_index_or options n blank ≡ option_rule name d most) w.count
    (ap (λ (l : List Rule). slice_index_or l (length w.before) blank) w.rules ∙ at_middle w.before (option_rule name d most) w.after blank)

-- the text of an option after a parse
record IsFound (m : ArgMatches) (name : Text) (most : ℕ) : Type 0 where
  pub text : Text
  pub value : first_value (found_of m) name ≡ Some text
  pub read : one_text (found_of m) name ≡ Some (without_minus text)
  pub accepted : IsSignedIn (pos 1) (pos most) text

named_text : (m : ArgMatches) (a : Arg) (name : Text) (most : ℕ) → a.id.now ≡ name → HasText (found_of m) a (Signed (pos 1) (pos most)) → IsFound m name most
named_text m a name most is got = record {
  text = got.text;
  value = rw is at got.value;
  read = rw is at got.read;
  accepted = got.accepted;
}

text_found : (cmd : Command) (m : ArgMatches) → app_of cmd ≡ tool → IsParsedFrom cmd m → (name d : Text) (most : ℕ) → Place name d most → IsFound m name most
text_found cmd m is p name d most w =
    let count = args_count cmd is in
    let lt : w.place < length (args_of cmd) = subst (λ n. w.place < n) (sym count) w.below in
    let a = nth (args_of cmd) w.place lt in
    let other = or_parts _ _ w.other_names in
    let others = or_parts _ _ other.1 in
    let rule : rule_of a.0 ≡ option_rule name d most = ap rule_of (sym a.1) ∙ (rule_at cmd is w.place a.0 lt ∙ rule_here name d most w) in
    let is_name : a.0.id.now ≡ name = ap (λ (r : Rule). r.id) rule in
    let plain = plain_facts cmd (ap (λ (x : App). x.top.is_plain) is) in
    let unique : (j : ℕ) (e : Arg) → j < length (args_of cmd) → bytes_eq (slice_index_or (args_of cmd) j e).id.now a.0.id.now ≡ true → j ≡ w.place =
    λ j e low same. only_named name d most w j (subst (λ n. j < n) count low)
    (subst (λ (r : Rule). bytes_eq r.id name ≡ true) (rule_at cmd is j e low) (subst (λ (u : Text). bytes_eq (slice_index_or (args_of cmd) j e).id.now u ≡ true) is_name same)) in
    named_text m a.0 name most is_name
    (option_text cmd m p (no_groups cmd is) plain.0 plain.1 w.place a.0 lt a.1 unique (Signed (pos 1) (pos most))
    (is_option a.0 name d most rule other.0 others.0 others.1))

-- the number that the words give, from the text that is found
given_number : (words : List Text) (name d : Text) (most : ℕ) (w : Place name d most) (t : Text) → first_of name (matches_of tool words) ≡ Some t
    → number_for name (number_of d) words ≡ number_of t
given_number words name d most w t found =
    let apart = or_parts _ _ w.filled_alone in
    let split : first_of name (fold with_default (rows_given words) (w.filled_before ++ w.filled ∷ w.filled_after)) ≡ Some t
    = ap (λ (l : List Rule). first_of name (fold with_default (rows_given words) l)) (sym w.filled_rules) ∙ found in
    subst (λ (u : Text). list_any (has_name u) w.filled_before ≡ false → list_any (has_name u) w.filled_after ≡ false
    → first_of u (fold with_default (rows_given words) (w.filled_before ++ w.filled ∷ w.filled_after)) ≡ Some t
    → option_map_or number_of (first_of u (rows_given words)) (number_of d) ≡ number_of t) w.filled_name
    (given_or_standard d w.filled_before w.filled w.filled_after (rows_given words) t
    ((bytes_eq-Decides w.filled.id w.filled.id).1 refl) w.filled_default)
    apart.0 apart.1 split

below : (a b c : ℕ) → a ≤ b → b < c → a < c
below a b c le lt = omega arith

-- the number that is read of an option is the one that the words give, and in its range
pub record IsGiven (name d : Text) (most : ℕ) (words : List Text) (n : ℕ) : Type 0 where
  pub number : n ≡ number_for name (number_of d) words
  pub least : 1 ≤ n
  pub at_most : n ≤ most

pub option_number : (words : List Text) (cmd : Command) (m : ArgMatches) → app_of cmd ≡ tool → IsParsedFrom cmd m → HasMatchesOf (app_of cmd) words m
    → (name d : Text) (most : ℕ) → Place name d most → (n : ℕ) → IsNumberOf (found_of m) name n → IsGiven name d most words n
option_number words cmd m is p h name d most w n read =
    let got = text_found cmd m is p name d most w in
    let range = in_range most got.text got.accepted in
    let rows : rows_of (found_of m) ≡ matches_of tool words = (h (ap is_simple is)).0 ∙ ap (λ (a : App). matches_of a words) is in
    let found : first_of name (matches_of tool words) ≡ Some got.text =
    ap (first_of name) (sym rows) ∙ (sym (first_value-rows (found_of m) name) ∙ got.value) in
    let number : n ≡ number_of got.text = read got.text (got.read ∙ ap Some range.0) range.1 (below (number_of got.text) most (2 ^ 32) range.3 w.fits) in
    record {
      number = number ∙ sym (given_number words name d most w got.text found);
      least = subst (λ k. 1 ≤ k) (sym number) range.2;
      at_most = subst (λ k. k ≤ most) (sym number) range.3;
    }

-- ---- the five options

abbrev filled_options : List Rule
filled_options = (built tool).top.rules

-- the place of an option by its index: the options before it, and those after it
place_at : (name d : Text) (most i : ℕ) → options ≡ take i options ++ option_rule name d most ∷ drop (suc i) options → length (take i options) ≡ i → i < 5
    → (list_any (has_name name) (take i options) || list_any (has_name name) (drop (suc i) options)) ≡ false
    → (built tool).top.rules ≡ take i filled_options ++ slice_index_or filled_options i blank ∷ drop (suc i) filled_options
    → (list_any (has_name name) (take i filled_options) || list_any (has_name name) (drop (suc i) filled_options)) ≡ false
    → (slice_index_or filled_options i blank).id ≡ name → (slice_index_or filled_options i blank).defaults ≡ d ∷ []
    → (bytes_eq name [] || (bytes_eq name (codes "help") || bytes_eq name (codes "version"))) ≡ false → most < 2 ^ 32 → Place name d most
place_at name d most i rules count below alone filled_rules filled_alone filled_name filled_default other_names fits = record {
  place = i;
  before = take i options;
  after = drop (suc i) options;
  rules = rules;
  count = count;
  below = below;
  alone = alone;
  filled_before = take i filled_options;
  filled = slice_index_or filled_options i blank;
  filled_after = drop (suc i) filled_options;
  filled_rules = filled_rules;
  filled_alone = filled_alone;
  filled_name = filled_name;
  filled_default = filled_default;
  other_names = other_names;
  fits = fits;
}

pub shards_index : Place (codes "shards") (codes "1") 64
shards_index = place_at _ _ _ 0 refl refl (omega arith) refl refl refl refl refl refl (omega arith)

pub workers_index : Place (codes "workers") (codes "1") 16
workers_index = place_at _ _ _ 1 refl refl (omega arith) refl refl refl refl refl refl (omega arith)

pub work_index : Place (codes "work") (codes "2") 1000
work_index = place_at _ _ _ 2 refl refl (omega arith) refl refl refl refl refl refl (omega arith)

pub invalidate_index : Place (codes "invalidate") (codes "1000") 1000000
invalidate_index = place_at _ _ _ 3 refl refl (omega arith) refl refl refl refl refl refl (omega arith)

pub pend_index : Place (codes "pend") (codes "100") 1000000
pend_index = place_at _ _ _ 4 refl refl (omega arith) refl refl refl refl refl refl (omega arith)
