-- Changes stop at a refused event or when memory runs out, with all earlier events applied.
use Rattle.std.proofs.Common.{◌≡◌, ◌⊎◌, ◌<◌, ◌+◌, ◌∙◌, ℕ, Bool, true, false, List, Option, Some, None, fold, take, get_or, length, sym, ap, subst, refl, inl, inr}
use Rattle.std.proofs.lemmas.List.{drop_more}
use Rattle.std.proofs.lemmas.List.Sums.{fold_more}
use Rattle.bm_base.specs.declared.event.Event.{Event}
use Rattle.bm_base.specs.declared.refusal.Refusal.{Refusal}
use Rattle.bm_base.specs.declared.refusal.Refusal.TheVariants.{Memory}
use Rattle.bm_base.specs.Words.{State, after_event, refusal_of, Refuses}
use Rattle.callers.specs.Turns.{StopsAmong, event_refusal}

-- a refusal is `Memory`, or the one that the definition gives
refused_so : (o : Option Refusal) (takes : Bool) (e : Refusal) → Refuses o takes e → (e ≡ Memory) ⊎ (o ≡ Some e)
refused_so None true e h = inl h
refused_so None false e h = absurd h
refused_so (Some r) takes e h = inr (ap Some (sym h))

-- one more event is accepted
pub one_more : (M L N : State) (events : List Event) (i : ℕ) (x d : Event) → i < length events → x ≡ get_or events i d → L ≡ fold after_event M (take i events) → N ≡ after_event L x → N ≡ fold after_event M (take (i + 1) events)
one_more M L N events i x d inside is before now =
    now ∙ ap (λ P. after_event P x) before ∙ ap (after_event (fold after_event M (take i events))) is ∙ sym (fold_more after_event M events i d inside)

-- changes stop at an event that is refused
pub stops_at : (M N : State) (events : List Event) (i : ℕ) (x d : Event) (e : Refusal) (takes : Bool) → i < length events → x ≡ get_or events i d → N ≡ fold after_event M (take i events) → Refuses (refusal_of N x) takes e → StopsAmong M events e N
stops_at M N events i x d e takes inside is state cause = record {
  taken = i;
  state = state;
  cause = subst (λ es. (e ≡ Memory) ⊎ (event_refusal N es ≡ Some e)) (sym (drop_more events i d inside))
      (subst (λ y. (e ≡ Memory) ⊎ (refusal_of N y ≡ Some e)) is (refused_so (refusal_of N x) takes e cause));
}

-- memory runs out after an accepted event, and changes stop there
pub stops_behind : (M N : State) (events : List Event) (i : ℕ) (e : Refusal) → N ≡ fold after_event M (take (i + 1) events) → e ≡ Memory → StopsAmong M events e N
stops_behind M N events i e state cause = record {
  taken = i + 1;
  state = state;
  cause = inl cause;
}

-- an accepted event is counted
pub calls_of-after_event : (M : State) (e : Event) → (after_event M e).calls ≡ M.calls + 1
unfolding after_event
calls_of-after_event M e = refl
