use Rattle.bm_base.specs.Words.{first_state_within, replica_at, state_after}
use Rattle.laws_of_states.proofs.OrderlyStates.{calls_orderly}
use Rattle.laws_of_rounds.proofs.OrderedDeletes.{done_reached, good_stays}
use Rattle.laws_of_states.proofs.CommandedDeletes.{tested}
use Rattle.laws_of_rounds.proofs.deletes.good_replica_is_left_by_all_rounds.Goals as goal

pub returns : goal.returns
returns c = λ l config ks b s i known h.
    good_stays (state_after (first_state_within l config) ks) b s i (done_reached l config ks) (calls_orderly l config ks) known (tested (state_after (first_state_within l config) ks) (replica_at b s) h)
