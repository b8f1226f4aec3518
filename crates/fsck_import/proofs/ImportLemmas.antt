-- A run on a known text writes its calls and tables, or ends with a fault that the text allows.
use Rattle.std.proofs.Common.{◌≡◌, ℕ, Option, Some, None, IfSome, Result, Ok, refl, sym, subst}
use Rattle.std.specs.Prelude.{IsOk}
use Rattle.fsck_text.specs.Cuts.{Text}
use Rattle.std.specs.Io.KnownBytes.{Appends}
use Rattle.fsck_import.specs.CallsFor.{calls_for}
use Rattle.fsck_import.specs.Imports.{IsFaultOfRun, IsRunFault, WritesFiles, WritesNames, WritesText, WritesNoLine, WritesNothing}
use Rattle.fsck_import.specs.FileTables.{files_text}
use Rattle.fsck_import.specs.NameTable.{table_of}
use Rattle.fsck_import.specs.Lines.{IsReadFault}
use Rattle.fsck_import.specs.TextReading.{reading_of, IsFaultOfReading}
use Rattle.fsck_import.specs.WrittenCalls.{IsOutputFault, IsTableFault, IsWriteFault, WritesCalls}
use Rattle.fsck_import.specs.declared.fault.Unread.{Unread}
use Rattle.fsck_import.specs.declared.fault.Fault.{Fault}
use Rattle.fsck_import.specs.declared.fault.Fault.TheVariants as fault
use Rattle.fsck_import.specs.declared.text_reader.Reading.{Reading}
use Rattle.fsck_import.proofs.TextBlocks.{writes_text}

pub table_output : (f : Fault) → IsTableFault f → IsOutputFault f
table_output (fault.Refused unread) h = h
table_output (fault.Read error) h = h
table_output (fault.Write error) h = tt
table_output fault.Table h = tt
table_output fault.Memory h = tt
table_output fault.LongReport h = tt

pub write_output : (f : Fault) → IsWriteFault f → IsOutputFault f
write_output (fault.Refused unread) h = h
write_output (fault.Read error) h = h
write_output (fault.Write error) h = tt
write_output fault.Table h = tt
write_output fault.Memory h = tt
write_output fault.LongReport h = tt

each_known : {P Q : Text → Type 0} (known : Option Text) → ((text : Text) → P text → Q text) → IfSome known P → IfSome known Q
each_known None h p = tt
each_known (Some text) h p = h text p

-- a fault of reading is one of the run
read_run : (f : Fault) (outcome : Result Reading Unread) → IsReadFault f outcome → IsRunFault f outcome
read_run (fault.Refused unread) outcome h = h
read_run fault.Memory outcome h = tt
read_run (fault.Read error) outcome h = tt
read_run (fault.Write error) outcome h = absurd h
read_run fault.Table outcome h = absurd h
read_run fault.LongReport outcome h = absurd h

pub reading_refuses : (f : Fault) (start : Reading) (known : Option Text) → IsFaultOfReading start f known → IsFaultOfRun start f known
reading_refuses f start known = each_known known (λ text h. read_run f (reading_of start text) h)

-- a fault of the output is one of a run on an accepted text
output_run : (f : Fault) (outcome : Result Reading Unread) → IsOk outcome → IsOutputFault f → IsRunFault f outcome
output_run (fault.Refused unread) outcome taken h = absurd h
output_run (fault.Read error) outcome taken h = absurd h
output_run fault.Memory outcome taken h = tt
output_run (fault.Write error) outcome taken h = taken
output_run fault.Table outcome taken h = taken
output_run fault.LongReport outcome taken h = taken

is_taken : (outcome : Result Reading Unread) (read : Reading) → outcome ≡ Ok read → IsOk outcome
is_taken outcome read e = subst IsOk (sym e) refl

pub output_refuses : (f : Fault) (start read : Reading) (known : Option Text) → IfSome known (λ text. reading_of start text ≡ Ok read) → IsOutputFault f → IsFaultOfRun start f known
output_refuses f start read known read_is h = each_known known (λ text e. output_run f (reading_of start text) (is_taken (reading_of start text) read e) h) read_is

-- an unchanged writer was not written to
pub unwritten : {W : Type 0} (f : Fault) (w : W) → WritesNoLine f w w
unwritten (fault.Refused unread) w = refl
unwritten (fault.Read error) w = refl
unwritten fault.Table w = refl
unwritten (fault.Write error) w = tt
unwritten fault.Memory w = tt
unwritten fault.LongReport w = tt

pub write_lines : {W : Type 0} (f : Fault) (old new : W) → IsWriteFault f → WritesNoLine f old new
write_lines (fault.Refused unread) old new h = absurd h
write_lines (fault.Read error) old new h = absurd h
write_lines fault.Table old new h = absurd h
write_lines (fault.Write error) old new h = tt
write_lines fault.Memory old new h = tt
write_lines fault.LongReport old new h = tt

pub output_writes : {W : Type 0} (f : Fault) (old new : W) → IsOutputFault f → WritesNothing f old new
output_writes (fault.Refused unread) old new h = absurd h
output_writes (fault.Read error) old new h = absurd h
output_writes (fault.Write error) old new h = tt
output_writes fault.Table old new h = tt
output_writes fault.Memory old new h = tt
output_writes fault.LongReport old new h = tt

-- the output of a run that succeeds
pub whole_text : (known : Option Text) (start read : Reading) (remaining : ℕ) (old new : Option Text) → IfSome known (λ text. reading_of start text ≡ Ok read)
    → WritesCalls (calls_for read.cluster remaining) old new → IfSome known (λ text. WritesText text start remaining old new)
whole_text known start read remaining old new read_is writes =
    each_known known (λ text e. writes_text text start read remaining old new e writes) read_is

pub whole_names : (known : Option Text) (start read : Reading) (old new : Option Text) → IfSome known (λ text. reading_of start text ≡ Ok read)
    → Appends old new (table_of read.cluster) → IfSome known (λ text. WritesNames text start old new)
whole_names known start read old new read_is written =
    each_known known (λ text e. record { read = read; read_is = e; written = written }) read_is

pub whole_files : (known : Option Text) (start read : Reading) (old new : Option Text) → IfSome known (λ text. reading_of start text ≡ Ok read)
    → Appends old new (files_text read.listing.files) → IfSome known (λ text. WritesFiles text start old new)
whole_files known start read old new read_is written =
    each_known known (λ text e. record { read = read; read_is = e; written = written }) read_is
