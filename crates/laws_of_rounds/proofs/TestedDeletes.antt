-- If `is_commanded` finds a replica among a round's deletes, the round commands its delete.
use Rattle.std.specs.Prelude.{◌&&◌, ◌==◌}
use Rattle.std.proofs.Common.{subst}
use Rattle.bm_base.specs.declared.replica.ReplicaId.{ReplicaId}
use Rattle.bm_base.specs.declared.commands.Delete.{Delete}
use Rattle.bm_base.specs.Words.{State, is_commanded}
use Rattle.bm_base.specs.Promises.NextRound.{IsAmong, IsDeleteCommanded, deletes_commanded}
use Rattle.laws_of_states.proofs.RoundCommands.{IsTested, at_same}
use Rattle.laws_of_states.proofs.CommandedDeletes.{delete_of}
use Rattle.laws_of_rounds.proofs.NextRounds.{any_chosen}

pub untested : (M : State) (q : ReplicaId) → IsTested M q → IsDeleteCommanded M q
unfolding is_commanded
untested M q h =
    let one = any_chosen (λ (d : Delete). (d.storage == q.storage) && (d.block == q.block)) (deletes_commanded M) h in
    let is = at_same one.0 q one.2 in
    subst (λ p. IsAmong (deletes_commanded M) (delete_of p)) is one.1
