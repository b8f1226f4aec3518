-- The cluster of a whole text.
use Rattle.std.specs.Prelude.{◌≡◌, ⊤, ℕ, ◌-◌, Bool, [], Option, Some, None, IfSome, Result, Ok, Err, if◌then◌else◌}
use Rattle.fsck_text.specs.Cuts.{Text}
use Rattle.fsck_text.specs.Feeds.{joined, goes_on, whole_line}
use Rattle.fsck_text.specs.Wrongs.{after_ok}
use Rattle.fsck_files.specs.Files as files
use Rattle.fsck_files.specs.declared.files.Files.{Files}
use Rattle.fsck_files.specs.declared.files.LineFault.{LineFault as FileFault}
use Rattle.fsck_files.specs.declared.files.LineFault.TheVariants as file_fault
use Rattle.fsck_files.specs.declared.refusal.Refusal.{Refusal}
use Rattle.fsck_files.specs.declared.refusal.Refusal.TheVariants as refusal
use Rattle.fsck_files.specs.declared.refusal.Why.TheVariants as why
use Rattle.fsck_files.specs.declared.replicas.Block.{Block}
use Rattle.fsck_files.specs.declared.skips.Skips.{Skips}
use Rattle.fsck_files.specs.declared.skips.Unclear.{Unclear}
use Rattle.fsck_cluster.specs.Clusters.{After, after_block, with_spares}
use Rattle.fsck_cluster.specs.NodeLists as nodes
use Rattle.fsck_cluster.specs.declared.cluster.Cluster.{Cluster}
use Rattle.fsck_cluster.specs.declared.node_list.NodeList.{NodeList}
use Rattle.fsck_cluster.specs.declared.node_list.NodeFault.{NodeFault}
use Rattle.fsck_cluster.specs.declared.node_list.NodeFault.TheVariants as node_fault
use Rattle.fsck_cluster.specs.declared.node_list.NodeRefusal.{NodeRefusal}
use Rattle.fsck_cluster.specs.declared.node_list.NodeRefusal.TheVariants as node_refusal
use Rattle.fsck_import.specs.Quotes.{quoted}
use Rattle.fsck_import.specs.Listings.{Listing, no_listing, headed, with_listed}
use Rattle.fsck_import.specs.Lines.{at_line, after_text, IsReadFault}
use Rattle.fsck_import.specs.declared.fault.Cause.{Cause}
use Rattle.fsck_import.specs.declared.fault.Cause.TheVariants as cause
use Rattle.fsck_import.specs.declared.fault.LineFault.{LineFault}
use Rattle.fsck_import.specs.declared.fault.LineFault.TheVariants as fault
use Rattle.fsck_import.specs.declared.fault.Unread.{Unread}
use Rattle.fsck_import.specs.declared.fault.Fault.{Fault}
use Rattle.fsck_import.specs.declared.text_reader.Reading.{Reading}

-- before the first line: the known nodes, and whether the files of blocks are kept
abbrev pub beginning : Cluster → Skips → Unclear → Bool → Reading
beginning known skips unclear kept =
    record { files = files.no_files skips unclear; cluster = known; listing = no_listing kept; path = [] }

-- why a line is refused
abbrev pub cause_of : Text → Refusal → Cause
cause_of line (refusal.Wrong w) = cause.Word (quoted line w)
cause_of line (refusal.Why y) = cause.File y

-- the fault is that of a line of fsck, or out of memory
abbrev pub IsFileFault : LineFault → Text → FileFault → Type 0
IsFileFault fault.Memory line f = ⊤
IsFileFault (fault.Refused c) line file_fault.Memory = ⊥
IsFileFault (fault.Refused c) line (file_fault.Refused r) = c ≡ cause_of line r

abbrev pub with_cluster : Files → Listing → After → Result Reading Cause
with_cluster f l (Ok c) = Ok (record { files = f; cluster = c; listing = l; path = [] })
with_cluster f l (Err w) = Err (cause.Cluster w)

-- with one more block, the last one read so far of its file
abbrev pub after_taken : Files → Listing → Cluster → Block → Result Reading Cause
after_taken f l c b = with_cluster f (with_listed l b.id (f.file.read - 1)) (after_block c b)

abbrev pub with_taken : Text → Listing → Cluster → Result (Files × Option Block) Refusal → Result Reading Cause
with_taken line l c (Ok (f, None)) = Ok (record { files = f; cluster = c; listing = l; path = [] })
with_taken line l c (Ok (f, Some b)) = after_taken f l c b
with_taken line l c (Err r) = Err (cause_of line r)

-- after a whole line of fsck
abbrev pub after_whole : Reading → Text → Result Reading Cause
after_whole s line = with_taken line (headed s.listing line) s.cluster (files.after_line s.files line)

-- after one more line of fsck, which may go on or end a path with line feeds
abbrev pub after_line : Reading → Text → Result Reading Cause
after_line s line =
    if goes_on (joined s.path line) then Ok (record s { path = joined s.path line })
    else after_whole s (whole_line (joined s.path line) line)

-- at the end of the text, if its last line was read; each known node gets a storage
abbrev pub at_end : Reading → Result Reading Cause
at_end s = if files.is_whole s.files.section then with_cluster s.files s.listing (with_spares s.cluster) else Err (cause.File why.CutOff)

abbrev pub ended : Reading × ℕ → Result Reading Unread
ended p = at_line p.1 (at_end p.0)

-- the result of a whole text, or the first refused line
abbrev pub reading_of : Reading → Text → Result Reading Unread
reading_of start text = after_ok ended (after_text after_line start text)

-- the fault is one of this text, if the text is known
abbrev pub IsFaultOfReading : Reading → Fault → Option Text → Type 0
IsFaultOfReading start f known = IfSome known (λ text. IsReadFault f (reading_of start text))

-- why a line of the report on DataNodes is refused
abbrev pub node_cause : Text → NodeRefusal → Cause
node_cause line (node_refusal.Wrong w) = cause.Word (quoted line w)
node_cause line (node_refusal.Why y) = cause.Node y

-- the fault is that of a line of the report, or out of memory
abbrev pub IsNodeFault : LineFault → Text → NodeFault → Type 0
IsNodeFault fault.Memory line f = ⊤
IsNodeFault (fault.Refused c) line node_fault.Memory = ⊥
IsNodeFault (fault.Refused c) line (node_fault.Refused r) = c ≡ node_cause line r

abbrev pub with_nodes : {A : Type 0} → Text → Result A NodeRefusal → Result A Cause
with_nodes line (Ok s) = Ok s
with_nodes line (Err r) = Err (node_cause line r)

-- after one more line of the report
abbrev pub after_node_line : NodeList → Text → Result NodeList Cause
after_node_line s line = with_nodes line (nodes.after_line s line)

abbrev pub ended_nodes : NodeList × ℕ → Result Cluster Unread
ended_nodes p = at_line p.1 (with_nodes [] (nodes.at_end p.0))

-- the nodes of a whole report, or the first refused line
abbrev pub nodes_of : Text → Result Cluster Unread
nodes_of text = after_ok ended_nodes (after_text after_node_line nodes.no_list text)

abbrev pub IsFaultOfNodes : Fault → Option Text → Type 0
IsFaultOfNodes f known = IfSome known (λ text. IsReadFault f (nodes_of text))
