-- The state after a text was read.
use Rattle.std.specs.Prelude.{◌≡◌, ℕ, true, false, Bool, List, [], Ok}
use Rattle.bm_base.specs.Machine.State.{State}
use Rattle.bm_lines.specs.Lines.{lines_of}
use Rattle.cluster_names.specs.FileTable.{FileTable}
use Rattle.cluster_names.specs.declared.names.Names.{Names}
use Rattle.cluster_report.specs.LineNotes.{after_lines, all_accepted, notes_text}
use Rattle.fsck_import.specs.CallsFor.{calls_for}
use Rattle.fsck_import.specs.Imports.{HasBlocks}
use Rattle.fsck_import.specs.TextReading.{reading_of}
use Rattle.fsck_import.specs.declared.text_reader.Reading.{Reading}
use Rattle.cluster_input.specs.ClusterNames.{names_of}
use Rattle.cluster_input.specs.Kinds.{are_lines}
use Rattle.cluster_input.specs.MadeCalls.{Makes}
use Rattle.cluster_input.specs.declared.loaded_cluster.Loaded.{Loaded}

-- A text of fsck was read. The calls for its cluster, and no other, were made and accepted. Racks,
-- nodes, storages and files have the names of the text.
pub record IsRead (start : Reading) (remaining : ℕ) (text : List ℕ) (old new : Loaded) : Type 0 where
  pub read : Reading
  pub read_is : reading_of start text ≡ Ok read
  pub makes : Makes (calls_for read.cluster remaining) old.session.manager new.session.manager
  -- the calls describe the text's blocks
  pub blocks : HasBlocks start text read
  pub names : new.names ≡ names_of read.cluster
  pub files : new.files ≡ read.listing.files

-- Lines of the tool were read: their calls were made, and no name changed.
pub record AreTaken (text : List ℕ) (old new : Loaded) : Type 0 where
  pub state : new.session.manager ≡ after_lines old.session.manager (lines_of text)
  pub names : new.names ≡ old.names
  pub files : new.files ≡ old.files

-- the state after a text of either kind
abbrev pub IsAfter : Bool → Reading → ℕ → List ℕ → Loaded → Loaded → Type 0
IsAfter true start remaining text old new = AreTaken text old new
IsAfter false start remaining text old new = IsRead start remaining text old new

-- whether every call was accepted; for a text of fsck, always
abbrev pub accepts_as : Bool → State → List ℕ → Bool
accepts_as true M text = all_accepted M (lines_of text)
accepts_as false M text = true

abbrev pub accepts : State → List ℕ → Bool
accepts M text = accepts_as (are_lines text) M text

-- the notes on refused lines, each with its number; a text of fsck has none
abbrev pub notes_as : Bool → State → List ℕ → List ℕ
notes_as true M text = notes_text 1 M (lines_of text)
notes_as false M text = []

abbrev pub notes_on : State → List ℕ → List ℕ
notes_on M text = notes_as (are_lines text) M text
