-- Laws of obedience: what a round leads to if the nodes obey it, in whatever order, and nothing
-- else happens.
use Rattle.std.specs.Prelude.{◌≡◌, ℕ, ◌+◌, ◌⊎◌, true, List, [], ◌∷◌, ◌++◌, map, length, count_by, ◌==◌}
use Rattle.std.specs.List.{All}
use Rattle.bm_base.specs.declared.event.Event.{Event}
use Rattle.bm_base.specs.declared.event.Event.TheVariants.{Received, Deleted}
use Rattle.bm_base.specs.declared.commands.Transfer.{Transfer}
use Rattle.bm_base.specs.declared.commands.Delete.{Delete}
use Rattle.bm_base.specs.Words.{State, has, live, refusal_of, calls_spent, after_event}
use Rattle.bm_base.specs.Promises.NextRound.{IsAmong, IsTransferCommanded, transfers_commanded, deletes_commanded, after_round, live_after}

-- the notice of an obeyed transfer: its target has received the block, with the transfer's stamp
abbrev pub copied : Transfer → Event
copied t = Received t.target t.block t.stamp

-- the notice of an obeyed delete
abbrev pub erased : Delete → Event
erased d = Deleted d.storage d.block

-- the event is the notice of an obeyed command of the next round
abbrev pub Obeys : State → Event → Type 0
Obeys M e = ((t : Transfer) × IsTransferCommanded M t × (e ≡ copied t)) ⊎ ((d : Delete) × IsAmong (deletes_commanded M) d × (e ≡ erased d))

-- All events are notices of obeyed commands of the next round: of all commands or some, in any
-- order, each once or more often.
abbrev pub OnlyObeys : State → List Event → Type 0
OnlyObeys M es = All (Obeys M) es

-- All events are notices of obeyed commands, and each command of the next round has one.
pub record ObeysAll (M : State) (es : List Event) : Type 0 where
  pub only : OnlyObeys M es
  pub each_copied : (t : Transfer) → IsTransferCommanded M t → IsAmong es (copied t)
  pub each_erased : (d : Delete) → IsAmong (deletes_commanded M) d → IsAmong es (erased d)

-- the state after these events, one after another, if none is refused
abbrev pub after_events : State → List Event → State
after_events M [] = M
after_events M (e ∷ es) = after_events (after_event M e) es

-- the state once these events have followed the next round, and a block's live replicas in it
abbrev pub after_obeying : State → List Event → State
after_obeying M es = after_events (after_round M) es

abbrev pub live_obeying : State → List Event → ℕ → List ℕ
live_obeying M es b = let N = after_obeying M es in live N.cluster N.holdings b

-- One way to obey all commands: first the transfers, as listed node by node, and then the deletes.
abbrev pub as_listed : State → List Event
as_listed M = map copied (transfers_commanded M) ++ map erased (deletes_commanded M)

abbrev pub ListedOrderObeysAll : Type 0
ListedOrderObeysAll = (M : State) → ObeysAll M (as_listed M)

-- the notice of an obeyed command is refused only if no further call can be counted
abbrev pub ObedienceIsNotRefused : Type 0
ObedienceIsNotRefused = (M : State) (es : List Event) (e : Event) → OnlyObeys M es → Obeys M e → refusal_of (after_obeying M es) e ≡ calls_spent (after_obeying M es)

-- a replica that is live after the round stays live, however far the round is obeyed
abbrev pub LiveStaysLive : Type 0
LiveStaysLive = (M : State) (es : List Event) (b s : ℕ) → OnlyObeys M es → has (live_after M b) s ≡ true → has (live_obeying M es b) s ≡ true

-- the target of each transfer that the round commands is live once all commands are obeyed
abbrev pub TargetBecomesLive : Type 0
TargetBecomesLive = (M : State) (es : List Event) (t : Transfer) → ObeysAll M es → IsTransferCommanded M t → has (live_obeying M es t.block) t.target ≡ true

-- the number of copies of a block that the next round commands
abbrev pub copies_commanded : State → ℕ → ℕ
copies_commanded M b = count_by (λ t. t.block == b) (transfers_commanded M)

-- Once all commands are obeyed, the number of a block's live replicas is that after the round, plus
-- one for each copy of the block that the round commands.
abbrev pub EachCopyIsGained : Type 0
EachCopyIsGained = (M : State) (es : List Event) (b : ℕ) → ObeysAll M es → length (live_obeying M es b) ≡ length (live_after M b) + copies_commanded M b
