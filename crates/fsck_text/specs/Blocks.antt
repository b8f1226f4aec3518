-- The line of a block, after its index.
use Rattle.std.specs.Prelude.{ℕ, Bool, Option, Some, None, is_some, option_map, option_and_then, unwrap_or, Result, Ok, Err, if◌then◌else◌, codes}
use Rattle.std.specs.Option.{option_map_or, option_or}
use Rattle.std.specs.Str.{bytes_eq}
use Rattle.fsck_text.specs.Cuts.{Text, is_empty, cut_at, after_prefix, after_first, before_last, word_and_rest, number_of, small_number_of}
use Rattle.fsck_text.specs.Wrongs.{wrong, shown, after_ok, or_wrong}
use Rattle.fsck_text.specs.declared.block.BlockLine.{BlockLine}
use Rattle.fsck_text.specs.declared.block.BlockName.{BlockName}
use Rattle.fsck_text.specs.declared.block.Replicas.{Replicas}
use Rattle.fsck_text.specs.declared.reason.Reason.TheVariants as reason
use Rattle.fsck_text.specs.declared.reason.Wrong.{Wrong}

-- the number in the name of a block; a number below 0 begins with a minus, 45
abbrev pub id_of : Text → Text → Result ℕ Wrong
id_of name id =
    if is_some (after_first 45 id) then Err (wrong reason.NegativeBlock name) else or_wrong reason.NotABlock name (number_of id)

-- the name without the pool of the block, which ends at a colon, 58
abbrev pub without_pool : Text → Text
without_pool name = option_map_or (λ p. p.1) (cut_at 58 name) name

-- the number and the stamp, with a low line, 95, between them
abbrev pub numbers_of : Text → Option (Text × Text)
numbers_of name = option_and_then (cut_at 95) (after_prefix (codes "blk_") (without_pool name))

abbrev pub stamped : Text → Text → ℕ → Result BlockName Wrong
stamped name generation id = or_wrong reason.NotABlock name (option_map (λ g. record { id = id; generation = g }) (number_of generation))

-- the block of a name at the start of a text: a pool and a colon, or nothing, then blk_, its number
-- and its generation stamp
abbrev pub block_named : Text → Text → Result BlockName Wrong
block_named name text =
    option_map_or (λ p. after_ok (stamped name p.1) (id_of name p.0)) (numbers_of name) (Err (wrong reason.NotABlock (shown name text)))

-- the length of a block in bytes, from the first word of a text
abbrev pub length_of : Text → Text → Result ℕ Wrong
length_of word text = or_wrong reason.NotALength (shown word text) (option_and_then number_of (after_prefix (codes "len=") word))

-- the number of live replicas, from the first word of a text
abbrev pub live_of : Text → Text → Result ℕ Wrong
live_of word text =
    or_wrong reason.NotACount (shown word text)
    (option_and_then small_number_of (option_or (after_prefix (codes "Live_repl=") word) (after_prefix (codes "repl=") word)))

-- the text between the brackets of a list, 91 and 93
abbrev pub bracketed : Text → Option Text
bracketed list = option_and_then (before_last 93) (after_first 91 list)

-- the text between the brackets of a list, after at most one more space, 32; empty for no text
abbrev pub list_text : Text → Result Text Wrong
list_text text =
    let list = unwrap_or (after_first 32 text) text in
    if is_empty list then Ok list else or_wrong reason.NotAList text (bracketed list)

abbrev pub with_list : Text → ℕ → Result Replicas Wrong
with_list text live = after_ok (λ list. Ok (record { live = Some live; list = list })) (list_text text)

-- no replica is known, and the line has no list
abbrev pub no_replicas : Text → Result Replicas Wrong
no_replicas rest = if is_empty rest then Ok (record { live = None; list = rest }) else Err (wrong reason.NotAList rest)

-- the count and the list of a block's line, after its length
abbrev pub replicas_of : Text → Result Replicas Wrong
replicas_of text =
    let p = word_and_rest text in
    if bytes_eq p.0 (codes "MISSING!") then no_replicas p.1 else after_ok (with_list p.1) (live_of p.0 text)

abbrev pub block_line : BlockName → ℕ → Replicas → BlockLine
block_line named len counted =
    record { id = named.id; stamp = record { generation = named.generation; len = len }; live = counted.live; list = counted.list }

-- the parsed line of a block, after its index: its name, its length, and its replicas
abbrev pub block_of : Text → Result BlockLine Wrong
block_of text =
    let name = word_and_rest text in
    let len = word_and_rest name.1 in
    after_ok (λ named. after_ok (λ n. after_ok (λ counted. Ok (block_line named n counted)) (replicas_of len.1)) (length_of len.0 name.1)) (block_named name.0 text)

-- the word after a block's length
abbrev pub after_length : Text → Text
after_length text = (word_and_rest (word_and_rest (word_and_rest text).1).1).0

-- whether no replica of the block is known
abbrev pub is_missing : Text → Bool
is_missing text = bytes_eq (after_length text) (codes "MISSING!")

-- whether the block is being written: then fsck counts the expected locations
abbrev pub is_being_written : Text → Bool
is_being_written text = is_some (after_prefix (codes "Expected_repl=") (after_length text))

-- the number of the block that fsck reports as corrupt, from the text after CORRUPT blockpool: the
-- pool, and the block
abbrev pub corrupt_block : Text → Result ℕ Wrong
corrupt_block text =
    let rest = (word_and_rest text).1 in
    let p = word_and_rest rest in
    if bytes_eq p.0 (codes "block")
    then option_map_or (id_of p.1) (after_prefix (codes "blk_") p.1) (Err (wrong reason.NotABlock p.1))
    else Err (wrong reason.NotABlock (shown p.0 rest))
