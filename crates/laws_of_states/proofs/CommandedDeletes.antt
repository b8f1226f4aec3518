-- A delete that is commanded in the sense of the laws passes the definitions' test.
use Rattle.std.specs.Prelude.{◌≡◌, true, ◌&&◌, ◌==◌, List, [], ◌∷◌, ◌++◌}
use Rattle.std.specs.List.{list_any}
use Rattle.std.proofs.Common.{sym, subst}
use Rattle.std.proofs.lemmas.Bool.{or_left, and_from, or_right}
use Rattle.bm_base.specs.declared.replica.ReplicaId.{ReplicaId}
use Rattle.bm_base.specs.declared.commands.Delete.{Delete}
use Rattle.bm_base.specs.Words.{State, is_commanded}
use Rattle.bm_base.specs.Promises.NextRound.{IsAmong, IsDeleteCommanded, deletes_commanded}
use Rattle.bm_base.proofs.ListTests.{same_again}
use Rattle.laws_of_states.proofs.RoundCommands.{IsTested}

commanded_at : (q : ReplicaId) (d : Delete) (front back : List Delete) → ((d.storage == q.storage) && (d.block == q.block)) ≡ true → list_any (λ e. (e.storage == q.storage) && (e.block == q.block)) (front ++ d ∷ back) ≡ true
commanded_at q d [] back e = or_left ((d.storage == q.storage) && (d.block == q.block)) (list_any (λ c. (c.storage == q.storage) && (c.block == q.block)) back) e
commanded_at q d (c ∷ front) back e =
    or_right ((c.storage == q.storage) && (c.block == q.block)) (list_any (λ f. (f.storage == q.storage) && (f.block == q.block)) (front ++ d ∷ back)) (commanded_at q d front back e)

pub commanded_among : (q : ReplicaId) (d : Delete) (ds : List Delete) → IsAmong ds d → ((d.storage == q.storage) && (d.block == q.block)) ≡ true → list_any (λ e. (e.storage == q.storage) && (e.block == q.block)) ds ≡ true
commanded_among q d ds at e = subst (λ es. list_any (λ (c : Delete). (c.storage == q.storage) && (c.block == q.block)) es ≡ true) (sym at.2) (commanded_at q d at.0 at.1 e)

abbrev pub delete_of : ReplicaId → Delete
delete_of q = record { storage = q.storage; block = q.block }

pub tested : (M : State) (q : ReplicaId) → IsDeleteCommanded M q → IsTested M q
unfolding is_commanded
tested M q h = commanded_among q (delete_of q) (deletes_commanded M) h (and_from (q.storage == q.storage) (q.block == q.block) (same_again q.storage) (same_again q.block))
