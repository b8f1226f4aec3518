use Rattle.std.proofs.Common.{◌≡◌, All}
use Rattle.callers.specs.ConcurrentReader.{IsNoOlder, IsLearntAfter}
use Rattle.callers.proofs.concurrent_reader.locate_after_each.Given as goal

-- the locator stays in its view, and each receipt so far was new and no newer than its answer
abbrev pub invariant-loop-notice : goal.invariant-loop-notice
invariant-loop-notice g l =
    (l.locator.home ≡ l.fn.locator.home)
    × All (IsLearntAfter g.J.Home.before) l.seen.items
    × All IsNoOlder l.seen.items
