-- The options of the command line, which the crate clap parses. Its definition `matches_of` states
-- which forms it takes: a name and a value, as two words or as one with `=`. `fault_of` states what
-- it refuses.
use Rattle.std.specs.Prelude.{ℕ, ◌==◌, ◌&&◌, ◌||◌, Bool, not, List, [], ◌∷◌, Option, Some, None, unwrap_or, option_and_then, option_map, codes, if◌then◌else◌}
use Rattle.std.specs.List.{list_any, list_all, slice_split}
use Rattle.std.specs.Str.{bytes_eq}
use Rattle.clap.specs.Walk.{Rule, first_of}
use Rattle.clap.specs.Simple.{App, matches_of, new_rule, new_shape}
use Rattle.clap.specs.Faults.{fault_of}
use Rattle.clap.specs.Kinds.{Kinds, or_else}
use Rattle.clap.specs.declared.builder.action.ArgAction.TheVariants.{Set, SetTrue}
use Rattle.clap.specs.declared.error.kind.ErrorKind.TheVariants.{ValueValidation}
use Rattle.fsck_text.specs.Cuts.{Text, is_empty, number_of}
use Rattle.fsck_files.specs.declared.skips.Skips.{Skips}
use Rattle.fsck_files.specs.declared.skips.Unclear.{Unclear}
use Rattle.fsck_files.specs.declared.skips.Unclear.TheVariants as unclear
use Rattle.fsck_import.specs.declared.options.Values.{Values}

-- an option --name with one value, as a rule of clap
abbrev pub option_rule : Text → Rule
option_rule name = record (new_rule name) { long = Some name; action = Some Set; value_names = 1 }

-- an option --name without a value
abbrev pub flag_rule : Text → Rule
flag_rule name = record (new_rule name) { long = Some name; action = Some SetTrue }

abbrev pub options : List Rule
options =
    option_rule (codes "remaining") ∷ option_rule (codes "names") ∷ option_rule (codes "files") ∷ option_rule (codes "nodes")
    ∷ option_rule (codes "skip") ∷ option_rule (codes "unclear") ∷ flag_rule (codes "quiet") ∷ option_rule (codes "progress") ∷ []

-- the command line: the options, and --help, which the library adds
abbrev pub program : App
program = record { top = record (new_shape (codes "fsck_import")) { rules = options }; subs = [] }

-- the value of an option in the words, if it is there; the first word is the program's name
abbrev pub given : Text → List Text → Option Text
given name words = first_of name (matches_of program words)

-- the free bytes of a storage, by the option's text: one TiB without it
abbrev pub remaining_for : Option Text → Option ℕ
remaining_for None = Some 1099511627776
remaining_for (Some text) = number_of text

-- the words of a list, separated by commas, 44
abbrev pub words_of : Text → List Text
words_of list = slice_split (λ b. b == 44) list

-- a kind of file that can be left out
abbrev pub is_kind : Text → Bool
is_kind word =
    bytes_eq word (codes "erasure-coded") || bytes_eq word (codes "open") || bytes_eq word (codes "snapshots")
    || bytes_eq word (codes "replication-over-16")

abbrev pub are_kinds : Text → Bool
are_kinds list = list_all is_kind (words_of list)

abbrev pub has_word : Text → Text → Bool
has_word list word = list_any (bytes_eq word) (words_of list)

abbrev pub skips_by : Text → Skips
skips_by list = record {
  erasure_coded = has_word list (codes "erasure-coded");
  open_files = has_word list (codes "open");
  snapshots = has_word list (codes "snapshots");
  over_replicated = has_word list (codes "replication-over-16");
}

abbrev pub skips_in : Text → Option Skips
skips_in list = if not (is_empty list) && not (are_kinds list) then None else Some (skips_by list)

-- the kinds of files that are left out, by the option's text: none without it
abbrev pub skips_for : Option Text → Option Skips
skips_for text = skips_in (unwrap_or text [])

-- the treatment of unclear blocks, by the option's text: they are refused without it
abbrev pub unclear_for : Option Text → Option Unclear
unclear_for None = Some unclear.Refuse
unclear_for (Some text) =
    if bytes_eq text (codes "omit") then Some unclear.Omit
    else (if bytes_eq text (codes "good") then Some unclear.Good else None)

-- the values of these options
abbrev pub values_of : Option Text → Option Text → Option Text → Option Values
values_of remaining skip how =
    option_and_then (λ r. option_and_then (λ s. option_map (λ u. record { remaining = r; skips = s; unclear = u }) (unclear_for how))
    (skips_for skip)) (remaining_for remaining)

-- the refusal of a text that is no value of its option
abbrev pub value_kinds : Option Values → Kinds
value_kinds None = ValueValidation ∷ []
value_kinds (Some v) = []

abbrev pub values_given : List Text → Option Values
values_given words = values_of (given (codes "remaining") words) (given (codes "skip") words) (given (codes "unclear") words)

-- the reason for no run: a request for help, or refused words
abbrev pub refusals_of : List Text → Kinds
refusals_of words = or_else (fault_of program words) (value_kinds (values_given words))
