-- The configuration by the words of a command line, which the crate clap reads. Its definition
-- `walk` states how: an option's name and its value, by two words or by one with `=`. Its
-- `fault_of` states when words are refused.
use Rattle.std.specs.Prelude.{◌≡◌, ◌⊎◌, ⊤, ◌<◌, ◌^◌, ℕ, List, [], ◌∷◌, Option, Some, codes, pos}
use Rattle.std.specs.Option.{option_map_or}
use Rattle.std.specs.Str.Parse.{IsNumeral, digits_value, without_leading_plus}
use Rattle.clap.specs.Walk.{Row, Rule, Text, first_of, nothing_held, settled, walk}
use Rattle.clap.specs.Simple.{App, argument_words, built, names_of, new_rule, new_shape}
use Rattle.clap.specs.Faults.{fault_of}
use Rattle.clap.specs.Kinds.{IsAmong, Kinds}
use Rattle.clap.specs.Matches.{one_text}
use Rattle.clap.specs.declared.parser.matches.Found.{Found}
use Rattle.clap.specs.declared.builder.action.ArgAction.TheVariants.{Set}
use Rattle.clap.specs.declared.builder.value_parser.ValueParser.TheVariants.{Signed}
use Rattle.clap.specs.declared.error.kind.ErrorKind.{ErrorKind}
use Rattle.clap.specs.declared.error.kind.ErrorKind.TheVariants.{OutOfMemory}
use Rattle.bm_base.specs.Machine.Configuration.{standard}
use Rattle.bm_base.specs.declared.config.Config.{Config}
use Rattle.bm_tool.specs.Status.{end_of}
use Rattle.bm_tool.specs.declared.status.End.{End}
use Rattle.bm_tool.specs.declared.status.End.TheVariants.{Answered, Helped, Faulted, Misused}

-- an option --name N, with a whole number from 1 to most, in the library's words
abbrev pub option_rule : Text → Text → ℕ → Rule
option_rule name standard_text most = record (new_rule name) {
  long = Some name;
  action = Some Set;
  value_names = 1;
  defaults = standard_text ∷ [];
  parser = Some (Signed (pos 1) (pos most));
}

-- the options with their standard values and their greatest ones
abbrev pub options : List Rule
options = option_rule (codes "shards") (codes "1") 64
    ∷ option_rule (codes "workers") (codes "1") 16
    ∷ option_rule (codes "work") (codes "2") 1000
    ∷ option_rule (codes "invalidate") (codes "1000") 1000000
    ∷ option_rule (codes "pend") (codes "100") 1000000
    ∷ []

-- the command line: these options, and --help, which the library adds
abbrev pub tool : App
tool = record { top = record (new_shape (codes "bm_tool")) { rules = options }; subs = [] }

-- what the words give, without the default values of other options
abbrev pub rows_given : List Text → List Row
rows_given words =
    (settled (built tool).top.rules (walk (built tool).top.rules (names_of (built tool)) nothing_held (argument_words tool words)).held).rows

-- the text that the words give an option, if they name it
abbrev pub given : Text → List Text → Option Text
given name words = first_of name (rows_given words)

abbrev pub number_of : Text → ℕ
number_of text = digits_value 10 (without_leading_plus text)

-- n is the number in an option's text, if it fits into 32 bits
abbrev pub IsNumberOf : Found → Text → ℕ → Type 0
IsNumberOf found name n = (text : Text) → one_text found name ≡ Some text → IsNumeral 10 (without_leading_plus text) → number_of text < 2 ^ 32
    → n ≡ number_of text

-- an option's number: the one that the words give, and otherwise the standard one
abbrev pub number_for : Text → ℕ → List Text → ℕ
number_for name standard_number words = option_map_or number_of (given name words) standard_number

-- the configuration that the words of a command line name, the program's name first
abbrev pub configured_by : List Text → Config
configured_by words = record standard {
  shards = number_for (codes "shards") standard.shards words;
  workers = number_for (codes "workers") standard.workers words;
  work = number_for (codes "work") standard.work words;
  invalidate = number_for (codes "invalidate") standard.invalidate words;
  pend = number_for (codes "pend") standard.pend words;
}

-- why there is no configuration: help is asked for, or the words are refused; none if they are
-- accepted
abbrev pub refusals_of : List Text → Kinds
refusals_of words = fault_of tool words

-- a run was made, whatever came of it
abbrev pub IsOfRun : End → Type 0
IsOfRun Answered = ⊤
IsOfRun (Faulted fault) = ⊤
IsOfRun Helped = ⊥
IsOfRun Misused = ⊥

-- How the program ends: by a run, if no reason refuses its words. Else by one of the reasons, or
-- out of memory.
abbrev pub EndsBy : Kinds → End → Type 0
EndsBy reasons end = ((reasons ≡ []) × IsOfRun end) ⊎ ((k : ErrorKind) × IsAmong k (OutOfMemory ∷ reasons) × (end ≡ end_of k))
