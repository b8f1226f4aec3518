-- What a reader that learns of versions may see.
use Rattle.std.specs.Prelude.{ℕ, ◌<◌, ◌≤◌, IfSome}
use Rattle.callers.specs.declared.concurrent_reader.Seen.{Seen}

-- it sees no version older than the one that it learned of
abbrev pub IsNoOlder : Seen → Type 0
IsNoOlder s = IfSome s.found (λ found. s.learnt ≤ found.calls)

-- it learned of a version after more than this number of calls
abbrev pub IsLearntAfter : ℕ → Seen → Type 0
IsLearntAfter calls s = calls < s.learnt
