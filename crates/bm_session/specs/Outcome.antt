-- The output of a run that read an input.
use Rattle.std.specs.Prelude.{◌≡◌, ℕ, ◌+◌, ◌<◌, ◌≤◌, ◌⊎◌, List, [], ◌++◌, length, take, Option, Some, None, Result, MatchResult, Bool, true, IfErr}
use Rattle.std.specs.Io.KnownBytes.{Appends, IsAtEnd}
use Rattle.bm_base.specs.declared.config.Config.{Config}
use Rattle.bm_base.specs.declared.refusal.Refusal.TheVariants.{BadConfig}
use Rattle.bm_base.specs.Words.{config_refusal, first_state}
use Rattle.bm_session.specs.declared.fault.Summary.{Summary}
use Rattle.bm_session.specs.declared.limits.TheConstants.{MAX_LINES, MAX_BYTES, PIECE}
use Rattle.bm_session.specs.declared.fault.Fault.{Fault}
use Rattle.bm_session.specs.declared.fault.Fault.TheVariants as fault
use Rattle.bm_lines.specs.Lines.{lines_of, whole_lines}
use Rattle.bm_session.specs.Text.{texts, text}
use Rattle.bm_session.specs.Progress.{Answered, IsSummary}

-- more bytes or lines were read than a run accepts
abbrev pub IsTooMuch : List ℕ → Type 0
IsTooMuch input = (MAX_BYTES < length input) ⊎ (MAX_LINES < length (lines_of (take MAX_BYTES input)))

-- the input was read to its end, and all of it is answered
pub record Finished (config : Config) (input : List ℕ) (left old new : Option (List ℕ)) (summary : Summary) : Type 0 where
  pub at_end : IsAtEnd left
  pub bounded : length input ≤ MAX_BYTES
  pub wrote : Appends old new (text config input)
  pub counted : IsSummary (first_state config) (lines_of input) summary

-- Out of memory: every line that ended before the last piece is answered, and a prefix of those
-- that end in it; nothing else is written. The piece is at most as long as the last read.
pub record IsOutOfMemory (config : Config) (input : List ℕ) (last : ℕ) (old new : Option (List ℕ)) : Type 0 where
  pub done : List ℕ
  pub piece : List ℕ
  pub read : input ≡ done ++ piece
  pub is_last : length piece ≤ last
  pub bounded : length piece ≤ PIECE
  pub answered : ℕ
  pub written : Answered (first_state config) old new done piece answered

-- the output after each fault, with this length of the last read
abbrev pub Faulted : Config → List ℕ → ℕ → Option (List ℕ) → Option (List ℕ) → Fault → Type 0
Faulted config input last old new fault.Config = (input ≡ []) × (new ≡ old)
Faulted config input last old new fault.Read = (length input ≤ MAX_BYTES) × (length (lines_of input) ≤ MAX_LINES) × Appends old new (texts (first_state config) (whole_lines input))
Faulted config input last old new fault.Write = Unit {0}
Faulted config input last old new fault.Memory = IsOutOfMemory config input last old new
Faulted config input last old new fault.TooMuch = IsTooMuch input × Appends old new (texts (first_state config) (take MAX_LINES (whole_lines (take MAX_BYTES input))))

abbrev pub Leaves : Config → List ℕ → Option (List ℕ) → ℕ → Option (List ℕ) → Option (List ℕ) → Result Summary Fault → Type 0
Leaves config input left last old new result = MatchResult result (Finished config input left old new) (Faulted config input last old new)

-- the failures of the reader and of the writer, before and after
abbrev pub FaultCounts : ℕ → ℕ → ℕ → ℕ → Fault → Type 0
FaultCounts reads reads' writes writes' fault.Config = (reads' ≡ reads) × (writes' ≡ writes)
FaultCounts reads reads' writes writes' fault.Read = (reads' ≡ reads + 1) × (writes' ≡ writes)
FaultCounts reads reads' writes writes' fault.Write = (reads' ≡ reads) × (writes' ≡ writes + 1)
FaultCounts reads reads' writes writes' fault.Memory = (reads' ≡ reads) × (writes' ≡ writes)
FaultCounts reads reads' writes writes' fault.TooMuch = (reads' ≡ reads) × (writes' ≡ writes)

abbrev pub HasCause : ℕ → ℕ → ℕ → ℕ → Result Summary Fault → Type 0
HasCause reads reads' writes writes' result = MatchResult result (λ _. (reads' ≡ reads) × (writes' ≡ writes)) (FaultCounts reads reads' writes writes')

-- whether the configuration was the cause of a fault
abbrev pub ConfigOfFault : Config → Fault → Type 0
ConfigOfFault config fault.Config = config_refusal config ≡ Some BadConfig
ConfigOfFault config _ = config_refusal config ≡ None

-- a run refuses the configuration exactly if it is outside its ranges
abbrev pub ChecksConfig : Config → Result Summary Fault → Type 0
ChecksConfig config result = MatchResult result (λ _. config_refusal config ≡ None) (ConfigOfFault config)

-- After a read error all output is flushed, if it was at the start. A clause about a run's end
-- cannot say that each read came after a flush.
abbrev pub IsFlushedAtRead : Bool → Bool → Result Summary Fault → Type 0
IsFlushedAtRead old new result = IfErr result (λ f. f ≡ fault.Read → old ≡ true → new ≡ true)
