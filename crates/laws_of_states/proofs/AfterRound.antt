-- A round's commands change no tag, and mark only the replicas of commanded deletes.
use Rattle.std.specs.Prelude.{◌≡◌, ℕ, List, Option, Some, None, option_map}
use Rattle.std.proofs.Common.{refl, ap, ◌∙◌}
use Rattle.bm_base.specs.declared.replica.ReplicaId.{ReplicaId}
use Rattle.bm_base.specs.declared.replica.Marks.{Marks}
use Rattle.bm_base.specs.declared.commands.Transfer.{Transfer}
use Rattle.bm_base.specs.declared.commands.Delete.{Delete}
use Rattle.bm_base.specs.Words.{get, Holdings, State, state_at_choice, end_round, is_commanded, whole_round}
use Rattle.bm_base.specs.Promises.NextRound.{transfers_chosen, after_round}
use Rattle.bm_base.proofs.MapLaws.{get-revise}
use Rattle.laws_of_states.proofs.LawfulRounds.{ordered_tag}
use Rattle.laws_of_states.proofs.MarkedReplicas.{ordered_by}
use Rattle.laws_of_states.proofs.RoundCommands.{chosen_deletes_of}
use Rattle.laws_of_states.proofs.LiveAfterRound.{marks_started, remarked, remarked_tag, surplus_of}

marks_finished : (r : ℕ) (H : Holdings) (ts : List Transfer) (ds : List Delete) (q : ReplicaId) → get (end_round r H ts ds).replicas q ≡ option_map (ordered_by ds q) (get H.replicas q)
unfolding end_round
marks_finished r H ts ds q = get-revise H.replicas (λ p m. ordered_by ds p m) q

pub marks_after : (M : State) (q : ReplicaId) → get (after_round M).holdings.replicas q ≡ option_map (ordered_by (chosen_deletes_of M) q) (get (state_at_choice M).holdings.replicas q)
unfolding whole_round
marks_after M q = marks_finished (state_at_choice M).round (state_at_choice M).holdings (transfers_chosen M) (chosen_deletes_of M) q

tag_twice : (f g : Marks → Marks) → ((m : Marks) → (f m).tag ≡ m.tag) → ((m : Marks) → (g m).tag ≡ m.tag) → (o : Option Marks)
    → option_map (λ m. m.tag) (option_map f (option_map g o)) ≡ option_map (λ m. m.tag) o
tag_twice f g hf hg None = refl
tag_twice f g hf hg (Some m) = ap Some (hf (g m) ∙ hg m)

pub same_tag : (M : State) (q : ReplicaId) → option_map (λ m. m.tag) (get (after_round M).holdings.replicas q) ≡ option_map (λ m. m.tag) (get M.holdings.replicas q)
same_tag M q =
    ap (option_map (λ (m : Marks). m.tag)) (marks_after M q ∙ ap (option_map (ordered_by (chosen_deletes_of M) q)) (marks_started M q))
    ∙ tag_twice (ordered_by (chosen_deletes_of M) q) (remarked (surplus_of M q.block) q.storage) (λ m. ordered_tag (is_commanded (chosen_deletes_of M) q) m) (remarked_tag (surplus_of M q.block) q.storage) (get M.holdings.replicas q)
