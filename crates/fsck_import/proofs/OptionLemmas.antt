-- A parsed option has its text in the command line, and words are refused for the defined reasons.
use Rattle.std.proofs.Common.{◌≡◌, ◌∙◌, ap, sym, subst, true, List, [], ◌∷◌, Option, Some, None, refl, inl, inr}
use Rattle.clap.specs.Walk.{first_of}
use Rattle.clap.specs.Words.{first_value, found_of, kind_of}
use Rattle.clap.specs.Simple.{App, HasMatchesOf, app_of, is_simple, matches_of}
use Rattle.clap.specs.Kinds.{HasKind, Kinds, or_else}
use Rattle.clap.specs.Faults.{fault_of, is_simple_and_free}
use Rattle.clap.specs.declared.builder.command.Command.{Command}
use Rattle.clap.specs.declared.error.Error.{Error}
use Rattle.clap.specs.declared.error.kind.ErrorKind.TheVariants.{ValueValidation}
use Rattle.clap.specs.declared.parser.matches.ArgMatches.{ArgMatches}
use Rattle.clap.proofs.WalkLemmas.{first_value-rows}
use Rattle.fsck_text.specs.Cuts.{Text}
use Rattle.fsck_import.specs.Options.{given, value_kinds, values_of, program}
use Rattle.fsck_import.specs.declared.options.Values.{Values}

-- the text that is found for an option is the one that the words give
pub found : (words : List Text) (cmd : Command) (m : ArgMatches) → app_of cmd ≡ program → HasMatchesOf (app_of cmd) words m → (name : Text)
    → first_value (found_of m) name ≡ given name words
found words cmd m is h name =
    first_value-rows (found_of m) name ∙ ap (first_of name) ((h (ap is_simple is)).0 ∙ ap (λ (a : App). matches_of a words) is)

-- if the parser accepts the words, only the text of an option's value can be refused
pub taken : (words : List Text) (cmd : Command) → app_of cmd ≡ program → (is_simple_and_free (app_of cmd) ≡ true → fault_of (app_of cmd) words ≡ [])
    → (next : Kinds) → or_else (fault_of program words) next ≡ next
taken words cmd is none next =
    ap (λ (ks : Kinds). or_else ks next) (ap (λ (a : App). fault_of a words) (sym is) ∙ none (ap is_simple_and_free is))

first_kinds : (ks next : Kinds) (e : Error) → HasKind ks e → HasKind (or_else ks next) e
first_kinds [] next e (inl memory) = inl memory
first_kinds [] next e (inr among) = absurd among
first_kinds (k ∷ ks) next e h = h

-- words that the parser refuses are refused
pub refused : (words : List Text) (cmd : Command) (e : Error) → app_of cmd ≡ program
    → (is_simple_and_free (app_of cmd) ≡ true → HasKind (fault_of (app_of cmd) words) e) → (next : Kinds) → HasKind (or_else (fault_of program words) next) e
refused words cmd e is h next =
    first_kinds (fault_of program words) next e (subst (λ (a : App). HasKind (fault_of a words) e) is (h (ap is_simple_and_free is)))

-- a text that is no value of its option is refused
pub wrong_value : (n : Option Values) (e : Error) → None ≡ n → kind_of e ≡ ValueValidation → HasKind (value_kinds n) e
wrong_value None e none kind = inr (inl kind)
wrong_value (Some n) e none kind = cc

-- equal texts give equal values
pub values_found : (a b c d e f : Option Text) → a ≡ b → c ≡ d → e ≡ f → values_of a c e ≡ values_of b d f
values_found a b c d e f x y z = rw (x, y, z) refl
