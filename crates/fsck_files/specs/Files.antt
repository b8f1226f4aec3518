-- The files of a text, line by line.
use Rattle.std.specs.Prelude.{◌≡◌, ⊤, ℕ, ◌+◌, ◌==◌, ◌&&◌, ◌||◌, Bool, true, false, not, max, nat_lt, length, List, [], Option, Some, None, unwrap_or, Result, Ok, Err, if◌then◌else◌}
use Rattle.std.specs.Option.{option_map_or}
use Rattle.fsck_text.specs.Cuts.{Text}
use Rattle.fsck_text.specs.Blocks.{block_of, corrupt_block, is_missing, is_being_written}
use Rattle.fsck_text.specs.Headings.{differ}
use Rattle.fsck_text.specs.Lines.{line_of}
use Rattle.fsck_text.specs.Lists.{list_of}
use Rattle.fsck_text.specs.declared.block.BlockLine.{BlockLine}
use Rattle.fsck_text.specs.declared.heading.Heading.{Heading}
use Rattle.fsck_text.specs.declared.heading.Layout.{Layout}
use Rattle.fsck_text.specs.declared.heading.Layout.TheVariants as layout
use Rattle.fsck_text.specs.declared.line.Line.{Line}
use Rattle.fsck_text.specs.declared.line.Line.TheVariants as line
use Rattle.fsck_text.specs.declared.list.ListedReplica.{ListedReplica}
use Rattle.fsck_text.specs.declared.summary.Count.{Count}
use Rattle.fsck_text.specs.declared.reason.Fault.{Fault}
use Rattle.fsck_text.specs.declared.reason.Fault.TheVariants as text_fault
use Rattle.fsck_text.specs.declared.reason.Wrong.{Wrong}
use Rattle.fsck_files.specs.Counts.{no_counts, none_summed, with_blocks, with_missing, with_corrupt, has_blocks, is_healthy, number_of, with_sum}
use Rattle.fsck_files.specs.Numbers.{has_number, with_number}
use Rattle.fsck_files.specs.Replicas.{claims, are_unmarked, maintained}
use Rattle.fsck_files.specs.Skips.{kind_of, skips, left_out_with, over_replicated, plus}
use Rattle.fsck_files.specs.declared.files.File.{File}
use Rattle.fsck_files.specs.declared.files.Files.{Files}
use Rattle.fsck_files.specs.declared.files.LineFault.{LineFault}
use Rattle.fsck_files.specs.declared.files.LineFault.TheVariants as fault
use Rattle.fsck_files.specs.declared.files.Section.{Section}
use Rattle.fsck_files.specs.declared.files.Section.TheVariants as section
use Rattle.fsck_files.specs.declared.refusal.Refusal.{Refusal}
use Rattle.fsck_files.specs.declared.refusal.Refusal.TheVariants as refusal
use Rattle.fsck_files.specs.declared.refusal.Why.{Why}
use Rattle.fsck_files.specs.declared.refusal.Why.TheVariants as why
use Rattle.fsck_files.specs.declared.replicas.Block.{Block}
use Rattle.fsck_files.specs.declared.skips.Kind.{Kind}
use Rattle.fsck_files.specs.declared.skips.Kind.TheVariants as kind
use Rattle.fsck_files.specs.declared.skips.Skips.{Skips}
use Rattle.fsck_files.specs.declared.skips.Unclear.{Unclear}
use Rattle.fsck_files.specs.declared.skips.Unclear.TheVariants as unclear

-- no file is being read
abbrev pub no_file : File
no_file = record { target = None; announced = 0; read = 0; corrupt_read = 0; is_coded = false; is_left_out = false }

-- nothing was read
abbrev pub no_files : Skips → Unclear → Files
no_files skips unclear = record {
  skips = skips;
  unclear = unclear;
  section = section.Before;
  file = no_file;
  corrupt = [];
  counts = no_counts;
  summed = none_summed;
  is_healthy = false;
  is_of_all = false;
  unlisted = 0;
  left_out = record { erasure_coded = 0; open_files = 0; snapshots = 0; over_replicated = 0 };
  unclear_blocks = 0;
  maintained = 0;
}

-- the state after a line, or why the line is refused
abbrev pub After : Type 0
After = Result Files Why

-- the first line of fsck comes once, before all files
abbrev pub after_first : Files → Section → After
after_first s section.Before = Ok (record s { section = section.Begun })
after_first s _ = Err why.OutOfPlace

-- the file is left out, if its kind is
abbrev pub left_out : Files → Kind → After
left_out s kind =
    if skips s.skips kind
    then Ok (record s { file = record s.file { is_left_out = true }; left_out = left_out_with s.left_out kind })
    else Err (why.Unsupported kind)

abbrev pub is_coded : Layout → Bool
is_coded layout.ErasureCoded = true
is_coded layout.Replicated = false

-- the heading of a file may come before the summary
abbrev pub may_head : Section → Bool
may_head section.Summary = false
may_head section.Behind = false
may_head _ = true

abbrev pub headed : Files → Heading → Files
headed s h = record s {
  section = section.Files;
  file = record { target = h.target; announced = h.blocks; read = 0; corrupt_read = 0; is_coded = is_coded h.layout; is_left_out = false };
  corrupt = [];
  counts = with_blocks s.counts (is_coded h.layout) h.blocks;
}

-- fewer blocks of the file were read than its heading announces
abbrev pub lacks_blocks : File → Bool
lacks_blocks f = nat_lt f.read f.announced

-- Fewer corrupt blocks of the file were read than fsck reports under its heading. Those of a file
-- that is left out are not known.
abbrev pub lacks_corrupt : Files → Bool
lacks_corrupt s = not s.file.is_left_out && nat_lt s.file.corrupt_read (length s.corrupt)

-- why the next heading or the summary may not come here
abbrev pub unended : Files → Option Why
unended s =
    if not (may_head s.section) then Some why.OutOfPlace
    else (if lacks_blocks s.file then Some why.BlockLeftOut
    else (if lacks_corrupt s then Some why.CorruptElsewhere else None))

-- the heading of the next file comes after all blocks of the previous file
abbrev pub after_heading : Files → Heading → After
after_heading s h =
    option_map_or (λ reason. Err reason) (unended s) (option_map_or (left_out (headed s h)) (kind_of h) (Ok (headed s h)))

abbrev pub is_files : Section → Bool
is_files section.Files = true
is_files _ = false

-- a line about a file comes after its heading and before its blocks
abbrev pub is_open : Files → Bool
is_open s = is_files s.section && (s.file.read == 0)

-- the result for a parsed line, or the fault of the line
abbrev pub read_as : {A B : Type 0} → (A → Result B Refusal) → Result A Wrong → Result B Refusal
read_as f (Ok x) = f x
read_as f (Err w) = Err (refusal.Wrong w)

abbrev pub counted_corrupt : Files → Files
counted_corrupt s = record s { counts = with_corrupt s.counts s.file.is_coded }

-- fsck reports a block of the file as corrupt
abbrev pub after_corrupt : Files → Text → Result Files Refusal
after_corrupt s text =
    if not (is_open s) then Err (refusal.Why why.OutOfPlace)
    else (if s.file.is_left_out then Ok (counted_corrupt s)
    else read_as (λ id. Ok (record (counted_corrupt s) { corrupt = with_number s.corrupt id })) (corrupt_block text))

abbrev pub with_target : Files → ℕ → Files
with_target s target = record s { file = record s.file { target = Some target } }

-- a line has the number of wanted replicas of one block of the file, and so of all
abbrev pub after_target : Files → ℕ → After
after_target s target =
    if not (is_open s) then Err why.OutOfPlace
    else (if s.file.is_left_out then Ok s
    else (if differ s.file.target (Some target) then Err why.TwoTargets
    else (if over_replicated target then left_out (with_target s target) kind.OverReplicated
    else Ok (with_target s target))))

-- the summary begins after all blocks of the last file
abbrev pub after_status : Files → Bool → After
after_status s healthy =
    option_map_or (λ reason. Err reason) (unended s) (Ok (record s { section = section.Summary; is_healthy = healthy }))

abbrev pub is_summary : Section → Bool
is_summary section.Summary = true
is_summary _ = false

-- a number of the summary agrees with what was read
abbrev pub compared : Files → Count → ℕ → After
compared s count sum =
    if sum == number_of s.counts count then Ok (record s { summed = with_sum s.summed count })
    else Err (why.Mismatch (record { count = count; sum = sum; read = number_of s.counts count }))

-- a number of the summary is compared; a number outside the summary is ignored
abbrev pub after_sum : Files → Count → ℕ → After
after_sum s count sum = if is_summary s.section then compared s count sum else Ok s

-- the summary reports the number of files that are not in the text
abbrev pub after_unlisted : Files → ℕ → Files
after_unlisted s files = if is_summary s.section then record s { unlisted = plus s.unlisted files } else s

-- the summary and the last line both report all files as healthy, or neither does
abbrev pub agrees : Bool → Bool → Bool
agrees first second = if first then second else not second

-- a text of one path alone has blocks, a text of all files may have none
abbrev pub behind : Files → Bool → After
behind s of_all =
    if of_all || has_blocks s.counts then Ok (record s { section = section.Behind; is_of_all = of_all }) else Err why.NoBlock

-- the text ends if its summary and its last line report the health of the blocks that were read
abbrev pub ended : Files → Bool → Bool → After
ended s healthy of_all =
    if agrees (is_healthy s.counts) healthy && agrees s.is_healthy healthy then behind s of_all else Err why.OtherHealth

-- the last line of fsck comes after a summary with the numbers of blocks and of corrupt blocks
abbrev pub after_last : Files → Bool → Bool → After
after_last s healthy of_all =
    if not (is_summary s.section) then Err why.OutOfPlace
    else (if not s.summed.blocks then Err why.NoSum
    else (if not s.summed.corrupt then Err why.NoCorruptSum
    else ended s healthy of_all))

-- the number of wanted replicas of a block: that of its file if known, else the number of live
-- replicas, and at least 1
abbrev pub wanted : Option ℕ → Option ℕ → ℕ
wanted (Some count) live = count
wanted None live = max 1 (unwrap_or live 1)

-- the state after a line, and the block that it adds, if any; or why the line is refused
abbrev pub LineResult : Type 0
LineResult = Result (Files × Option Block) Refusal

abbrev pub refused : {A : Type 0} → Why → Result A Refusal
refused reason = Err (refusal.Why reason)

-- no block is added
abbrev pub without : After → LineResult
without (Ok s) = Ok (s, None)
without (Err reason) = Err (refusal.Why reason)

abbrev pub without_block : Result Files Refusal → LineResult
without_block (Ok s) = Ok (s, None)
without_block (Err r) = Err r

-- adds a block, whose replicas are clear or are taken as good
abbrev pub emitted : Files → BlockLine → ℕ → List ListedReplica → LineResult
emitted s b repl listed =
    Ok (
      record s { maintained = plus s.maintained (maintained (has_number s.corrupt b.id) listed) },
      Some (record { id = b.id; stamp = b.stamp; wanted = repl; is_corrupt = has_number s.corrupt b.id; replicas = listed }),
    )

abbrev pub one_unclear : Files → Files
one_unclear s = record s { unclear_blocks = plus s.unclear_blocks 1 }

-- a block with more places that may be live than live replicas: it is refused, left out, or added
-- with each place as a good replica
abbrev pub unclear_by : Unclear → Files → BlockLine → ℕ → List ListedReplica → ℕ → ℕ → LineResult
unclear_by unclear.Refuse s b repl listed places live = refused (why.MoreThanLive places live)
unclear_by unclear.Omit s b repl listed places live = Ok (one_unclear s, None)
unclear_by unclear.Good s b repl listed places live = emitted (one_unclear s) b repl listed

-- compares the number of places that may be live with the number of live replicas
abbrev pub by_places : Files → BlockLine → ℕ → List ListedReplica → ℕ → ℕ → LineResult
by_places s b repl listed places live =
    if nat_lt places live then refused (why.FewerThanLive places live)
    else (if nat_lt live places then unclear_by s.unclear s b repl listed places live else emitted s b repl listed)

-- Compares the places that may be live with fsck's number of live replicas, unless each known
-- replica is corrupt and no place has a mark. In that case Hadoop 2.6 writes the number of the
-- places, and later versions 0.
abbrev pub by_count : Files → BlockLine → ℕ → List ListedReplica → ℕ → LineResult
by_count s b repl listed live =
    if are_unmarked (has_number s.corrupt b.id) listed then emitted s b repl listed
    else by_places s b repl listed (claims (has_number s.corrupt b.id) listed) live

-- Compares the count of live replicas if fsck has one; else the block is missing.
abbrev pub by_live : Files → BlockLine → ℕ → List ListedReplica → Option ℕ → LineResult
by_live s b repl listed None = emitted (record s { counts = with_missing s.counts false }) b repl listed
by_live s b repl listed (Some live) = by_count s b repl listed live

-- the file with one more block read, which fsck reports as corrupt or not
abbrev pub with_one_read : File → Bool → File
with_one_read f corrupt = record f { read = f.read + 1; corrupt_read = if corrupt then plus f.corrupt_read 1 else f.corrupt_read }

abbrev pub one_read : Files → Bool → Files
one_read s corrupt = record s { file = with_one_read s.file corrupt }

abbrev pub after_listed : Files → BlockLine → ℕ → Result (List ListedReplica) Wrong → LineResult
after_listed s b repl (Ok listed) = by_live (one_read s (has_number s.corrupt b.id)) b repl listed b.live
after_listed s b repl (Err w) = Err (refusal.Wrong w)

-- more than 16 replicas of a block are wanted: its file is left out, if this is its first block
abbrev pub after_over : Files → LineResult
after_over s =
    if s.file.read == 0 then without (left_out (one_read s false) kind.OverReplicated) else refused (why.Unsupported kind.OverReplicated)

-- A block whose line is understood. Hadoop 2 does not print the replication of a file without
-- under-replicated blocks, so its first block shows whether more than 16 replicas are wanted.
abbrev pub after_block : Files → BlockLine → LineResult
after_block s b =
    let repl = wanted s.file.target b.live in
    if repl == 0 then refused why.NoneWanted
    else (if over_replicated repl then after_over s
    else after_listed s b repl (list_of b.list))

-- a block of a file that is left out is counted if it is missing
abbrev pub passed : Files → Text → Files
passed s text = if is_missing text then record s { counts = with_missing s.counts s.file.is_coded } else s

-- a block of this index is the next one of the file
abbrev pub is_next : File → ℕ → Bool
is_next f index = (index == f.read) && nat_lt f.read f.announced

-- whether this is the next block, and is being written: while it is empty, the heading does not
-- count it
abbrev pub is_begun : File → ℕ → Text → Bool
is_begun f index text = (index == f.read) && is_being_written text

-- a line of a block whose file is left out
abbrev pub after_passed : Files → ℕ → Text → LineResult
after_passed s index text =
    if is_next s.file index then Ok (passed (one_read s false) text, None)
    else (if is_begun s.file index text then Ok (s, None) else refused why.NotNext)

-- a line of a block with this index
abbrev pub after_indexed : Files → ℕ → Text → LineResult
after_indexed s index text =
    if s.file.is_left_out then after_passed s index text
    else (if is_next s.file index then read_as (after_block s) (block_of text) else refused why.NotNext)

-- a block comes after the heading of its file, and before the summary
abbrev pub after_placed : Section → Files → ℕ → Text → LineResult
after_placed section.Before s index text = refused why.NoHeading
after_placed section.Begun s index text = refused why.NoHeading
after_placed section.Files s index text = after_indexed s index text
after_placed section.Summary s index text = refused why.OutOfPlace
after_placed section.Behind s index text = refused why.OutOfPlace

abbrev pub after_kind : Files → Line → LineResult
after_kind s line.First = without (after_first s s.section)
after_kind s (line.Heading h) = without (after_heading s h)
after_kind s (line.Corrupt text) = without_block (after_corrupt s text)
after_kind s (line.Target target) = without (after_target s target)
after_kind s (line.Block index text) = after_placed s.section s index text
after_kind s (line.Status healthy) = without (after_status s healthy)
after_kind s (line.Sum count sum) = without (after_sum s count sum)
after_kind s (line.Unlisted files) = Ok (after_unlisted s files, None)
after_kind s (line.Last healthy of_all) = without (after_last s healthy of_all)
after_kind s line.Other = Ok (s, None)

-- the state after one more line
abbrev pub after_line : Files → Text → LineResult
after_line s text = read_as (after_kind s) (line_of text)

-- the fault of a list, as the fault of its line
abbrev pub line_fault : Fault → LineFault
line_fault text_fault.Memory = fault.Memory
line_fault (text_fault.Wrong w) = fault.Refused (refusal.Wrong w)

-- the fault is this refusal, or out of memory
abbrev pub IsCause : {A : Type 0} → LineFault → Result A Refusal → Type 0
IsCause fault.Memory after = ⊤
IsCause (fault.Refused r) after = after ≡ Err r

abbrev pub is_whole : Section → Bool
is_whole section.Behind = true
is_whole _ = false
