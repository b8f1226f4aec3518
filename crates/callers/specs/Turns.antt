-- At which call a turn or a list of changes is refused.
use Rattle.std.specs.Prelude.{◌≡◌, ◌⊎◌, ℕ, true, List, [], ◌∷◌, Option, Some, None, fold, take, drop}
use Rattle.bm_base.specs.declared.event.Event.{Event}
use Rattle.bm_base.specs.declared.refusal.Refusal.{Refusal}
use Rattle.bm_base.specs.declared.refusal.Refusal.TheVariants.{Memory}
use Rattle.bm_base.specs.Words.{State, after_event, refusal_of, round_refusal, Refuses}

-- why the next of these events is refused; if there is none, why a round is
abbrev pub next_refusal : State → List Event → Option Refusal
next_refusal M [] = round_refusal M
next_refusal M (e ∷ es) = refusal_of M e

-- The first events were accepted. The next call ran out of memory, or the definition refused it.
pub record StopsAt (M : State) (events : List Event) (r : Refusal) (N : State) : Type 0 where
  pub taken : ℕ
  pub state : N ≡ fold after_event M (take taken events)
  pub cause : Refuses (next_refusal N (drop taken events)) true r

-- why the next of these events is refused, if there is one
abbrev pub event_refusal : State → List Event → Option Refusal
event_refusal M [] = None
event_refusal M (e ∷ es) = refusal_of M e

-- The first events were accepted. Then memory ran out, or the definition refused the next event.
pub record StopsAmong (M : State) (events : List Event) (r : Refusal) (N : State) : Type 0 where
  pub taken : ℕ
  pub state : N ≡ fold after_event M (take taken events)
  pub cause : (r ≡ Memory) ⊎ (event_refusal N (drop taken events) ≡ Some r)
