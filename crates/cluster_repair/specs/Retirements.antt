-- The notes about retired nodes.
use Rattle.std.specs.Prelude.{◌≡◌, ℕ, ◌/◌, Bool, true, false, nat_eq, if◌then◌else◌, List, [], ◌∷◌, length, Option, Some, None, is_some}
use Rattle.std.specs.List.{find}
use Rattle.bm_base.specs.Words.{State, has, is_retired}
use Rattle.cluster_repair.specs.declared.repair.Repair.{Repair}
use Rattle.cluster_repair.specs.declared.repair.Retirement.{Retirement}
use Rattle.cluster_repair.specs.declared.ticks.Ticks.{Ticks}
use Rattle.cluster_repair.specs.History.{RoundRecord, ComesAt}

-- the note that a node is retired since a number of rounds, with the time of the next round in
-- seconds
abbrev pub note_at : ℕ → ℕ → ℕ → Retirement
note_at n rounds seconds = record { node = n; rounds = rounds; seconds = seconds }

-- the note about a node
abbrev pub retirement_of : List Retirement → ℕ → Option Retirement
retirement_of ts n = find (λ t. nat_eq t.node n) ts

-- what the manager answers about a node
abbrev pub is_retired_in : State → ℕ → Bool
is_retired_in M n = is_retired M.cluster M.holdings n

-- A note after one more answer: a no drops it, and a yes is noted unless the note exists.
abbrev pub noted : Bool → Option Retirement → Retirement → Option Retirement
noted false before now = None
noted true None now = Some now
noted true (Some before) now = Some before

-- the notes before and after the manager answered about these nodes; the other notes stay
abbrev pub AreAnswered : State → List ℕ → ℕ → ℕ → List Retirement → List Retirement → Type 0
AreAnswered M nodes rounds seconds old new =
    (n : ℕ) → retirement_of new n ≡ (if has nodes n then noted (is_retired_in M n) (retirement_of old n) (note_at n rounds seconds) else retirement_of old n)

-- the note about a node, if the manager was asked in each of these rounds before its commands
abbrev pub retired_since : List RoundRecord → ℕ → Option Retirement
retired_since [] n = None
retired_since (round ∷ before) n = noted (is_retired_in round.state n) (retired_since before n) (note_at n (length before) (round.time / 1000000))

-- At the end, where the next round would come: a drained node is listed exactly if it is retired.
-- It is listed with the round since which the answer has been yes.
pub record AreRetired (ticks : Ticks) (N : State) (taken : List RoundRecord) (r : Repair) : Type 0 where
  pub next : ℕ
  pub comes : ComesAt ticks taken next
  pub listed : (n : ℕ) → has r.drained.items n ≡ true → is_some (retirement_of r.retired.items n) ≡ is_retired_in N n
  pub since : (n : ℕ) → has r.drained.items n ≡ true
      → retirement_of r.retired.items n ≡ noted (is_retired_in N n) (retired_since taken n) (note_at n (length taken) (next / 1000000))
