-- If a text's cluster starts with nodes only, the calls for it describe the blocks of the text.
use Rattle.std.proofs.Common.{◌≡◌, ℕ, Bool, true, false, if◌then◌else◌, ◌+◌, ◌-◌, List, [], ◌∷◌, Option, Some, None, IfSome, map, Result, Ok, Err, sym, ap, subst, ◌∙◌}
use Rattle.std.specs.Str.{is_utf8}
use Rattle.bm_lines.specs.Lines.{lines_of}
use Rattle.fsck_text.specs.Cuts.{Text}
use Rattle.fsck_text.specs.Feeds.{joined, goes_on, whole_line}
use Rattle.fsck_text.specs.Wrongs.{after_ok}
use Rattle.fsck_files.specs.Files as files
use Rattle.fsck_files.specs.declared.files.Files.{Files}
use Rattle.fsck_files.specs.declared.refusal.Refusal.{Refusal}
use Rattle.fsck_files.specs.declared.refusal.Why.TheVariants as why
use Rattle.fsck_files.specs.declared.replicas.Block.{Block}
use Rattle.fsck_cluster.specs.Clusters.{After, after_block, with_spares}
use Rattle.fsck_cluster.specs.NodeLists as nodes
use Rattle.fsck_cluster.specs.declared.cluster.Cluster.{Cluster}
use Rattle.fsck_cluster.specs.declared.node_list.NodeList.{NodeList}
use Rattle.fsck_cluster.specs.declared.node_list.NodeRefusal.{NodeRefusal}
use Rattle.fsck_import.specs.CallsFor.{calls_for}
use Rattle.fsck_import.specs.Imports.{HasBlocks, WritesText, blocks_after, blocks_of, taken}
use Rattle.fsck_import.specs.Laws.{IsFresh, after_blocks}
use Rattle.fsck_import.specs.Listings.{Listing, headed, with_listed}
use Rattle.fsck_import.specs.Lines.{after_bytes, after_lines, after_text, at_line, without_end}
use Rattle.fsck_import.specs.TextReading.{after_line, after_whole, after_node_line, at_end, cause_of, ended, ended_nodes, node_cause, nodes_of, reading_of, with_cluster, with_nodes, with_taken}
use Rattle.fsck_import.specs.Starts.{after_node_lines}
use Rattle.fsck_import.specs.WrittenCalls.{WritesCalls}
use Rattle.fsck_import.specs.declared.fault.Cause.{Cause}
use Rattle.fsck_import.specs.declared.fault.Cause.TheVariants as cause
use Rattle.fsck_import.specs.declared.text_reader.Reading.{Reading}
use Rattle.fsck_import.proofs.NameLemmas.{came_of, err_is_not_ok, if_ok, same_ok}
use Rattle.fsck_import.proofs.StartLemmas.{nodes_fresh}
use Rattle.fsck_import.proofs.BlockCalls.{describes_blocks}

-- a line that is not refused
line_ok : {A : Type 0} (n : ℕ) (r : Result A Cause) (x : A) → at_line n r ≡ Ok x → r ≡ Ok x
line_ok n (Ok y) x e = ap Ok (same_ok y x e)
line_ok n (Err c) x e = absurd (err_is_not_ok (record { line = n; why = c }) x e)

bytes_ok : {T : Type 0} (after : T → Text → Result T Cause) (s t : T) (line : Text) → after_bytes after s line ≡ Ok t → after s (without_end 13 line) ≡ Ok t
bytes_ok after s t line e = (if_ok (is_utf8 line) (after s (without_end 13 line)) cause.NotText t e).1

-- with a block that is taken
with_one : (f : Files) (l : Listing) (q : After) (u : Reading) (t : Cluster) (next : Text → Files → List Block) → with_cluster f l q ≡ Ok u → after_blocks u.cluster (next u.path u.files) ≡ Ok t
    → after_ok (λ d. after_blocks d (next [] f)) q ≡ Ok t
with_one f l (Ok d) u t next e rest = subst (λ (x : Reading). after_blocks x.cluster (next x.path x.files) ≡ Ok t) (sym (same_ok (record { files = f; cluster = d; listing = l; path = [] }) u e)) rest
with_one f l (Err w) u t next e rest = absurd (err_is_not_ok (cause.Cluster w) u e)

-- with a line that is taken
one_line : (line : Text) (l : Listing) (c : Cluster) (r : Result (Files × Option Block) Refusal) (u : Reading) (t : Cluster) (next : Text → Files → List Block)
    → with_taken line l c r ≡ Ok u → after_blocks u.cluster (next u.path u.files) ≡ Ok t → after_blocks c (taken (next []) r) ≡ Ok t
one_line line l c (Ok (f, None)) u t next e rest = subst (λ (x : Reading). after_blocks x.cluster (next x.path x.files) ≡ Ok t) (sym (same_ok (record { files = f; cluster = c; listing = l; path = [] }) u e)) rest
one_line line l c (Ok (f, Some b)) u t next e rest = with_one f (with_listed l b.id (f.file.read - 1)) (after_block c b) u t next e rest
one_line line l c (Err r) u t next e rest = absurd (err_is_not_ok (cause_of line r) u e)

-- with a line that goes on a path, or is taken
joined_line : (b : Bool) (s u : Reading) (text line : Text) (t : Cluster) (next : Text → Files → List Block)
    → (if b then Ok (record s { path = text }) else after_whole s line) ≡ Ok u → after_blocks u.cluster (next u.path u.files) ≡ Ok t
    → after_blocks s.cluster (if b then next text s.files else taken (next []) (files.after_line s.files line)) ≡ Ok t
joined_line true s u text line t next e rest = subst (λ (x : Reading). after_blocks x.cluster (next x.path x.files) ≡ Ok t) (sym (same_ok (record s { path = text }) u e)) rest
joined_line false s u text line t next e rest = one_line line (headed s.listing line) s.cluster (files.after_line s.files line) u t next e rest

lines_taken : (n : ℕ) (s : Reading) (lines : List Text) (p : Reading × ℕ) → after_lines after_line n s lines ≡ Ok p
    → after_blocks s.cluster (blocks_after s.path s.files lines) ≡ Ok p.0.cluster
lines_taken n s [] p e = ap (λ (x : Reading × ℕ). Ok x.0.cluster) (same_ok (s, n) p e)
lines_taken n s (line ∷ lines) p e =
    let first = came_of (λ u. after_lines after_line (n + 1) u lines) (at_line n (after_bytes after_line s line)) p e in
    let u = first.0 in
    let after = bytes_ok after_line s u line (line_ok n (after_bytes after_line s line) u first.1) in
    let text = without_end 13 line in
    let path = joined s.path text in
    joined_line (goes_on path) s u path (whole_line path text) p.0.cluster (λ q g. blocks_after q g lines) after (lines_taken (n + 1) u lines p first.2)

-- the end of a text
at_spares : (f : Files) (l : Listing) (q : After) (read : Reading) → with_cluster f l q ≡ Ok read → q ≡ Ok read.cluster
at_spares f l (Ok d) read e = ap (λ (x : Reading). Ok x.cluster) (same_ok (record { files = f; cluster = d; listing = l; path = [] }) read e)
at_spares f l (Err w) read e = absurd (err_is_not_ok (cause.Cluster w) read e)

end_taken : (s read : Reading) → at_end s ≡ Ok read → with_spares s.cluster ≡ Ok read.cluster
end_taken s read e =
    at_spares s.files s.listing (with_spares s.cluster) read (if_ok (files.is_whole s.files.section) (with_cluster s.files s.listing (with_spares s.cluster)) (cause.File why.CutOff) read e).1

-- the calls for what was read describe the blocks of the text
pub has_blocks : (text : Text) (start read : Reading) → reading_of start text ≡ Ok read → HasBlocks start text read
has_blocks text start read read_is remaining fresh =
    let all = came_of ended (after_text after_line start text) read read_is in
    let last = line_ok all.0.1 (at_end all.0.0) read all.2 in
    describes_blocks start.cluster all.0.0.cluster read.cluster (blocks_of start text) remaining fresh
    (lines_taken 1 start (lines_of text) all.0 all.1) (end_taken all.0.0 read last)

pub known_blocks : (known : Option Text) (start read : Reading) → IfSome known (λ text. reading_of start text ≡ Ok read)
    → IfSome known (λ text. HasBlocks start text read)
known_blocks None start read read_is = tt
known_blocks (Some text) start read read_is = has_blocks text start read read_is

pub writes_text : (text : Text) (start read : Reading) (remaining : ℕ) (old new : Option Text) → reading_of start text ≡ Ok read
    → WritesCalls (calls_for read.cluster remaining) old new → WritesText text start remaining old new
writes_text text start read remaining old new read_is writes =
    record { read = read; read_is = read_is; writes = writes; blocks = λ fresh. has_blocks text start read read_is remaining fresh }

-- The nodes of a report.

nodes_ok : {A : Type 0} (line : Text) (r : Result A NodeRefusal) (x : A) → with_nodes line r ≡ Ok x → r ≡ Ok x
nodes_ok line (Ok y) x e = ap Ok (same_ok y x e)
nodes_ok line (Err r) x e = absurd (err_is_not_ok (node_cause line r) x e)

nodes_taken : (n : ℕ) (s : NodeList) (lines : List Text) (p : NodeList × ℕ) → after_lines after_node_line n s lines ≡ Ok p
    → after_node_lines s (map (without_end 13) lines) ≡ Ok p.0
nodes_taken n s [] p e = ap (λ (x : NodeList × ℕ). Ok x.0) (same_ok (s, n) p e)
nodes_taken n s (line ∷ lines) p e =
    let first = came_of (λ u. after_lines after_node_line (n + 1) u lines) (at_line n (after_bytes after_node_line s line)) p e in
    let u = first.0 in
    let after = bytes_ok after_node_line s u line (line_ok n (after_bytes after_node_line s line) u first.1) in
    let one = nodes_ok (without_end 13 line) (nodes.after_line s (without_end 13 line)) u after in
    ap (after_ok (λ t. after_node_lines t (map (without_end 13) lines))) one ∙ nodes_taken (n + 1) u lines p first.2

pub nodes_are_fresh : (text : Text) (c : Cluster) → nodes_of text ≡ Ok c → IsFresh c
nodes_are_fresh text c read_is =
    let all = came_of ended_nodes (after_text after_node_line nodes.no_list text) c read_is in
    let last = nodes_ok [] (nodes.at_end all.0.0) c (line_ok all.0.1 (with_nodes [] (nodes.at_end all.0.0)) c all.2) in
    nodes_fresh (map (without_end 13) (lines_of text)) all.0.0 c (nodes_taken 1 nodes.no_list (lines_of text) all.0 all.1) last

pub fresh_nodes : (known : Option Text) (list : NodeList) (n : ℕ) (c : Cluster) → IfSome known (λ text. after_text after_node_line nodes.no_list text ≡ Ok (list, n))
    → ended_nodes (list, n) ≡ Ok c → IfSome known (λ text. IsFresh c)
fresh_nodes None list n c read_is e = tt
fresh_nodes (Some text) list n c read_is e = nodes_are_fresh text c (ap (after_ok ended_nodes) read_is ∙ e)
