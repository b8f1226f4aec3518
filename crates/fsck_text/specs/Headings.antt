-- The heading of a file.
use Rattle.std.specs.Prelude.{ℕ, ◌==◌, ◌||◌, Bool, [], is_some, true, false, not, Option, Some, None, option_map, option_and_then, unwrap_or, Result, Ok, Err, if◌then◌else◌, codes}
use Rattle.std.specs.List.{list_any, slice_split}
use Rattle.std.specs.Option.{option_map_or, option_or}
use Rattle.std.specs.Str.{bytes_eq}
use Rattle.fsck_text.specs.Cuts.{Text, cut_at, last_cut_at, after_prefix, after_first, word_and_rest, small_number_of}
use Rattle.fsck_text.specs.Wrongs.{wrong, shown, after_ok, or_wrong}
use Rattle.fsck_text.specs.declared.heading.Layout.{Layout}
use Rattle.fsck_text.specs.declared.heading.Layout.TheVariants as layout
use Rattle.fsck_text.specs.declared.heading.Heading.{Heading}
use Rattle.fsck_text.specs.declared.heading.HeadingStart.{HeadingStart}
use Rattle.fsck_text.specs.declared.reason.Reason.TheVariants as reason
use Rattle.fsck_text.specs.declared.reason.Wrong.{Wrong}

-- the value of a key up to a comma, 44, and the text after the comma
abbrev pub after_key : Text → Text → Option (Text × Text)
after_key key text = option_and_then (cut_at 44) (after_prefix key text)

abbrev pub heading_start : Layout → Option ℕ → ℕ → Bool → Text → HeadingStart
heading_start layout replication blocks is_open problem =
    record { layout = layout; replication = replication; blocks = blocks; is_open = is_open; problem = problem }

-- the first of two that exists
abbrev pub first_of : {A : Type 0} → Option A → Option A → A → A
first_of (Some x) _ none = x
first_of None (Some x) none = x
first_of None None none = none

-- a number of blocks, and the end of the heading of a file that is open or not
abbrev pub ended : Layout → Option ℕ → Text → ℕ → Result HeadingStart Wrong
ended layout replication rest blocks =
    first_of (option_map (λ problem. Ok (heading_start layout replication blocks false problem)) (after_prefix (codes "block(s):") rest))
    (option_map (λ problem. Ok (heading_start layout replication blocks true problem)) (after_prefix (codes "block(s), OPENFORWRITE:") rest))
    (Err (wrong reason.NotAHeading rest))

-- the number of blocks, whether the file is open, and then the problem
abbrev pub counted : Layout → Option ℕ → Text → Result HeadingStart Wrong
counted layout replication text =
    let words = unwrap_or (after_first 32 text) text in
    let p = word_and_rest words in
    after_ok (ended layout replication p.1) (or_wrong reason.NotAHeading (shown p.0 words) (small_number_of p.0))

-- Hadoop 3, a replicated file: its replication and the number of its blocks
abbrev pub replicated : Text → Result HeadingStart Wrong
replicated text =
    option_map_or (λ p. after_ok (λ n. counted layout.Replicated (Some n) p.1) (or_wrong reason.NotATarget (shown p.0 text) (small_number_of p.0)))
    (after_key (codes " replication=") text) (Err (wrong reason.NotAHeading text))

-- Hadoop 3, an erasure coded file: its policy and the number of its blocks
abbrev pub coded : Text → Result HeadingStart Wrong
coded text =
    option_map_or (λ p. counted layout.ErasureCoded None p.1) (after_key (codes " policy=") text) (Err (wrong reason.NotAHeading text))

-- the last word of a text
abbrev pub last_word : Text → Text
last_word text = option_map_or (λ p. p.1) (last_cut_at 32 text) text

-- Hadoop 2: the number of blocks is the last word before block(s)
abbrev pub old : Text → Text → Bool → Result HeadingStart Wrong
old front problem is_open =
    after_ok (λ blocks. Ok (heading_start layout.Replicated None blocks is_open problem))
    (or_wrong reason.NotAHeading (shown (last_word front) front) (small_number_of (last_word front)))

-- Hadoop 2, an open file
abbrev pub old_open : Text → Text → Result HeadingStart Wrong
old_open front problem =
    option_map_or (λ p. if bytes_eq p.1 (codes "block(s),") then old p.0 problem true else Err (wrong reason.NotAHeading front))
    (last_cut_at 32 front) (Err (wrong reason.NotAHeading front))

-- the start of a heading, by the last word before the colon
abbrev pub heading_start_of : Text → Text → Text → Result HeadingStart Wrong
heading_start_of front last after =
    if bytes_eq last (codes "replicated") then replicated after
    else (if bytes_eq last (codes "erasure-coded") then coded after
    else (if bytes_eq last (codes "block(s)") then old front after false
    else (if bytes_eq last (codes "OPENFORWRITE") then old_open front after
    else Err (wrong reason.NotAHeading (shown last front)))))

abbrev pub number_at : Text → Result ℕ Wrong
number_at text = or_wrong reason.NotATarget (shown (word_and_rest text).0 text) (small_number_of (word_and_rest text).0)

-- the number of wanted replicas of a block, from the text after Under replicated: the block, and
-- the number
abbrev pub target_of : Text → Result ℕ Wrong
target_of text =
    let rest = (word_and_rest text).1 in
    option_map_or number_at (after_prefix (codes "Target Replicas is ") rest) (Err (wrong reason.NotATarget rest))

-- the number of wanted replicas, if the problem is an under-replicated block
abbrev pub problem_target : Text → Result (Option ℕ) Wrong
problem_target problem =
    option_map_or (λ text. after_ok (λ n. Ok (Some n)) (target_of text)) (after_prefix (codes "  Under replicated ") problem) (Ok None)

-- both exist and differ
abbrev pub differ : Option ℕ → Option ℕ → Bool
differ (Some a) (Some b) = not (a == b)
differ _ _ = false

-- whether a path has the component with which HDFS names snapshots; a slash, 47, comes before each
-- component
abbrev pub is_in_snapshot : Text → Bool
is_in_snapshot path = list_any (bytes_eq (codes ".snapshot")) (slice_split (λ b. b == 47) path)

abbrev pub heading_by : Text → HeadingStart → Option ℕ → Result Heading Wrong
heading_by front heading_start target =
    if differ heading_start.replication target then Err (wrong reason.TwoTargets heading_start.problem)
    else Ok (record {
      layout = heading_start.layout;
      is_open = heading_start.is_open;
      is_snapshot = is_in_snapshot front;
      blocks = heading_start.blocks;
      target = option_or heading_start.replication target;
    })

-- a heading ends with nothing, with OK, or with the first problem of the file
abbrev pub is_ending : Text → Bool
is_ending text =
    bytes_eq text [] || bytes_eq text (codes " ") || bytes_eq text (codes "  OK")
    || is_some (after_prefix (codes "  Under replicated ") text)
    || is_some (after_prefix (codes "  Replica placement policy is violated for ") text)
    || is_some (after_prefix (codes "  MISSING ") text)

abbrev pub ended_by : Text → HeadingStart → Result Heading Wrong
ended_by front b =
    if is_ending b.problem then after_ok (heading_by front b) (problem_target b.problem)
    else Err (wrong reason.NotAHeading b.problem)

abbrev pub heading_with : Text → Text → Text → Result Heading Wrong
heading_with front last after =
    after_ok (ended_by front) (heading_start_of front last after)

-- the heading of a file, from its text before the first colon and after it
abbrev pub heading_of : Text → Text → Result Heading Wrong
heading_of before after =
    option_map_or (λ p. heading_with p.0 p.1 after) (last_cut_at 32 before) (Err (wrong reason.NotAHeading before))
