-- Laws of full reports whose entries are runs of block numbers.
use Rattle.std.specs.Prelude.{◌≡◌, ℕ, ◌+◌, ◌≤◌, ◌<◌, ◌==◌, if◌then◌else◌, ◌↔◌, Any, IsTrue, List, [], ◌∷◌, ◌++◌, map, length, Option, Some, None}
use Rattle.std.specs.Option.{option_or}
use Rattle.bm_base.specs.declared.replica.Stamp.{Stamp}
use Rattle.bm_base.specs.declared.event.Entry.{Entry}
use Rattle.bm_base.specs.declared.event.Event.TheVariants.{FullReport}
use Rattle.bm_base.specs.Words.{has, State, ReportedBlock, expanded, numbers_in, done_by, after_event}
use Rattle.laws_of_events.specs.Reports.{numbers_of}

-- a report names exactly the numbers of its runs, each run from its first to its last
abbrev pub runs_name_their_numbers : Type 0
runs_name_their_numbers = (es : List Entry) (b : ℕ) → IsTrue (has (numbers_of es) b) ↔ Any (λ e. (e.from ≤ b) × (b ≤ e.to)) es

-- the count of named numbers, repeats counted, is the sum that limits a report's length
abbrev pub numbers_are_counted : Type 0
numbers_are_counted = (es : List Entry) → length (numbers_of es) ≡ numbers_in es

-- Two reports of a storage have the same next state and the same answer.
abbrev pub AreAlike : State → ℕ → List Entry → List Entry → Type 0
AreAlike M s ds es = (after_event M (FullReport s ds) ≡ after_event M (FullReport s es)) × (done_by M (FullReport s ds) ≡ done_by M (FullReport s es))

-- the last stamp that is reported for a number
abbrev pub last_stamp : List ReportedBlock → ℕ → Option Stamp
last_stamp [] b = None
last_stamp (t ∷ ts) b = option_or (last_stamp ts b) (if t.id == b then Some t.stamp else None)

-- only the last stamp of each number counts
abbrev pub last_stamp_counts : Type 0
last_stamp_counts = (M : State) (s : ℕ) (ds es : List Entry) → ((b : ℕ) → last_stamp (expanded ds) b ≡ last_stamp (expanded es) b) → AreAlike M s ds es

-- so the runs may be cut in any way that gives the same numbers and stamps in the same order
abbrev pub same_blocks_are_alike : Type 0
same_blocks_are_alike = (M : State) (s : ℕ) (ds es : List Entry) → expanded ds ≡ expanded es → AreAlike M s ds es

-- the entry of one number
abbrev pub one_of : ReportedBlock → Entry
one_of t = record { from = t.id; to = t.id; stamp = t.stamp }

-- a report in runs is like the report with an entry for each number
abbrev pub runs_are_alike_one_by_one : Type 0
runs_are_alike_one_by_one = (M : State) (s : ℕ) (es : List Entry) → AreAlike M s es (map one_of (expanded es))

-- a run may be cut in two after number m
abbrev pub run_may_be_cut : Type 0
run_may_be_cut =
    (M : State) (s : ℕ) (front : List Entry) (e : Entry) (behind : List Entry) (m : ℕ) → e.from ≤ m + 1 → m ≤ e.to
    → AreAlike M s (front ++ (e ∷ behind)) (front ++ (record e { to = m } ∷ record e { from = m + 1 } ∷ behind))

-- a run that ends before it begins names nothing
abbrev pub backward_run_names_none : Type 0
backward_run_names_none =
    (M : State) (s : ℕ) (front : List Entry) (e : Entry) (behind : List Entry) → e.to < e.from → AreAlike M s (front ++ (e ∷ behind)) (front ++ behind)
