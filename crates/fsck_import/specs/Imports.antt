-- The output of a whole run, and the faults that end it.
use Rattle.std.specs.Prelude.{◌≡◌, ⊤, ℕ, List, [], ◌∷◌, ◌++◌, option_to_list, Option, IfSome, Result, Ok, Err, IsOk, if◌then◌else◌}
use Rattle.std.specs.Io.KnownBytes.{Appends}
use Rattle.bm_lines.specs.Lines.{lines_of}
use Rattle.fsck_text.specs.Cuts.{Text}
use Rattle.fsck_text.specs.Feeds.{joined, goes_on, whole_line}
use Rattle.fsck_files.specs.Files as files
use Rattle.fsck_files.specs.declared.files.Files.{Files}
use Rattle.fsck_files.specs.declared.refusal.Refusal.{Refusal}
use Rattle.fsck_files.specs.declared.replicas.Block.{Block}
use Rattle.fsck_import.specs.CallsFor.{calls_for}
use Rattle.fsck_import.specs.Laws.{IsFresh, DescribesBlocks}
use Rattle.fsck_import.specs.Lines.{without_end}
use Rattle.fsck_import.specs.FileTables.{files_text}
use Rattle.fsck_import.specs.NameTable.{table_of}
use Rattle.fsck_import.specs.TextReading.{reading_of}
use Rattle.fsck_import.specs.WrittenCalls.{WritesCalls}
use Rattle.fsck_import.specs.declared.fault.Unread.{Unread}
use Rattle.fsck_import.specs.declared.fault.Fault.{Fault}
use Rattle.fsck_import.specs.declared.fault.Fault.TheVariants as fault
use Rattle.fsck_import.specs.declared.text_reader.Reading.{Reading}

abbrev pub taken : (Files → List Block) → Result (Files × Option Block) Refusal → List Block
taken next (Ok p) = option_to_list p.1 ++ next p.0
taken next (Err r) = []

-- the blocks that these lines add, after the lines of a path so far
abbrev pub blocks_after : Text → Files → List Text → List Block
blocks_after path f [] = []
blocks_after path f (line ∷ lines) =
    let text = without_end 13 line in
    if goes_on (joined path text) then blocks_after (joined path text) f lines
    else taken (λ g. blocks_after [] g lines) (files.after_line f (whole_line (joined path text) text))

-- the blocks that these lines add
abbrev pub blocks_of : Reading → Text → List Block
blocks_of start text = blocks_after start.path start.files (lines_of text)

-- the calls for what was read describe the blocks of the text, if the start has no block
abbrev pub HasBlocks : Reading → Text → Reading → Type 0
HasBlocks start text read =
    (remaining : ℕ) → IsFresh start.cluster → DescribesBlocks start.cluster (blocks_of start text) read.cluster remaining

-- the lines that were written are the calls for the cluster of a text
pub record WritesText (text : Text) (start : Reading) (remaining : ℕ) (old new : Option Text) : Type 0 where
  pub read : Reading
  pub read_is : reading_of start text ≡ Ok read
  -- the line tool reads the calls for the cluster
  pub writes : WritesCalls (calls_for read.cluster remaining) old new
  -- the calls describe the blocks that are taken, if the start has no block
  pub blocks : IsFresh start.cluster → DescribesBlocks start.cluster (blocks_of start text) read.cluster remaining

-- what was written is the table of the names of a text
pub record WritesNames (text : Text) (start : Reading) (old new : Option Text) : Type 0 where
  pub read : Reading
  pub read_is : reading_of start text ≡ Ok read
  pub written : Appends old new (table_of read.cluster)

-- what was written is the table of the files of a text
pub record WritesFiles (text : Text) (start : Reading) (old new : Option Text) : Type 0 where
  pub read : Reading
  pub read_is : reading_of start text ≡ Ok read
  pub written : Appends old new (files_text read.listing.files)

-- a refusal is the one of the first refused line; a fault of writing needs an accepted text
abbrev pub IsRunFault : Fault → Result Reading Unread → Type 0
IsRunFault (fault.Refused unread) outcome = outcome ≡ Err unread
IsRunFault (fault.Write error) outcome = IsOk outcome
IsRunFault fault.Table outcome = IsOk outcome
IsRunFault fault.LongReport outcome = IsOk outcome
IsRunFault _ outcome = ⊤

-- a fault of a run on a text, if it is known
abbrev pub IsFaultOfRun : Reading → Fault → Option Text → Type 0
IsFaultOfRun start f known = IfSome known (λ text. IsRunFault f (reading_of start text))

-- a run that ends while it reads leaves the destination of a table unchanged
abbrev pub WritesNothing : {W : Type 0} → Fault → W → W → Type 0
WritesNothing (fault.Refused unread) old new = new ≡ old
WritesNothing (fault.Read error) old new = new ≡ old
WritesNothing _ old new = ⊤

-- a run that ends at a refused line or a failed read, or that cannot write a table, leaves the
-- writer of lines unchanged
abbrev pub WritesNoLine : {W : Type 0} → Fault → W → W → Type 0
WritesNoLine (fault.Refused unread) old new = new ≡ old
WritesNoLine (fault.Read error) old new = new ≡ old
WritesNoLine fault.Table old new = new ≡ old
WritesNoLine _ old new = ⊤
