-- Laws of rounds one after another, with no notice between them.
use Rattle.std.specs.Prelude.{◌≡◌, ℕ, zero, suc, ◌+◌, ◌<◌}
use Rattle.bm_base.specs.declared.replica.ReplicaId.{ReplicaId}
use Rattle.bm_base.specs.declared.commands.Transfer.{Transfer}
use Rattle.bm_base.specs.Words.{State, node_of}
use Rattle.bm_base.specs.Promises.NextRound.{IsDeleteCommanded, IsTransferCommanded, after_round}

-- the state n rounds later
abbrev pub after_rounds : ℕ → State → State
after_rounds zero M = M
after_rounds (suc n) M = after_round (after_rounds n M)

-- no later round commands a delete again
abbrev pub NoDeleteTwice : Type 0
NoDeleteTwice = (M : State) (n : ℕ) (q : ReplicaId) → IsDeleteCommanded M q → IsDeleteCommanded (after_rounds n (after_round M)) q → ⊥

-- The round that is n + 1 rounds after that of t commands no copy of the block to the target's
-- node, if n + 1 is below `pend`.
abbrev pub NoTransferTwice : Type 0
NoTransferTwice =
    (M : State) (n : ℕ) (t u : Transfer) → n + 1 < M.limits.pend → IsTransferCommanded M t → IsTransferCommanded (after_rounds n (after_round M)) u
    → u.block ≡ t.block → node_of M.cluster u.target ≡ node_of M.cluster t.target → ⊥
