-- A book updated for a round still follows the manager; a list of the leveled blocks misses none.
use Rattle.std.proofs.Common.{◌≡◌, ◌∙◌, ◌-◌, ℕ, List, None, not, refl, sym, ap, inl}
use Rattle.std.specs.Prelude.{nat_le}
use Rattle.std.specs.List.{flat_map}
use Rattle.bm_base.specs.declared.commands.Commands.{Commands}
use Rattle.bm_base.specs.declared.call.Call.TheVariants as call
use Rattle.bm_base.specs.declared.call.Answer.TheVariants as answer
use Rattle.bm_base.specs.Words.{State, level, keep, insert_all, whole_round, round_refusal, step, refused_or, count_call}
use Rattle.bm_base.specs.Promises.Lawful.{IsLawful}
use Rattle.laws_of_repairs.specs.Repairs.{Covers}
use Rattle.cluster_report.specs.declared.book.Book.{Book}
use Rattle.cluster_report.specs.Copies.{commanded_to}
use Rattle.cluster_report.specs.Sessions.{Follows}
use Rattle.cluster_report.proofs.StepLemmas.{follows_by}
use Rattle.cluster_repair.specs.Rows.{AreLeveled}
use Rattle.bm_base.proofs.Options.{not_there}

pub leveled_cover : (M : State) (bs : List ℕ) → AreLeveled M bs → Covers M bs
leveled_cover M bs are b none = not_there (level M.cluster M.holdings b) (sym (are.all b) ∙ none)

-- the answer to a round, and the state after it
pub round_answer : (M : State) (k : Commands) → round_refusal M ≡ None → k ≡ (whole_round M).0 → answer.Commanded k ≡ (step M call.Round).0
unfolding step
round_answer M k accepted is = ap answer.Commanded is ∙ sym (ap (λ r. (refused_or M r (answer.Commanded (whole_round M).0, count_call (whole_round M).1)).0) accepted)

pub round_state : (M N : State) → round_refusal M ≡ None → N ≡ count_call (whole_round M).1 → N ≡ (step M call.Round).1
unfolding step
round_state M N accepted after = after ∙ sym (ap (λ r. (refused_or M r (answer.Commanded (whole_round M).0, count_call (whole_round M).1)).1) accepted)

-- the book follows the manager after a round
pub follows_round : (M N : State) (old new : Book) (k : Commands) → IsLawful M → round_refusal M ≡ None → k ≡ (whole_round M).0 → N ≡ count_call (whole_round M).1
    → new.topology.cluster ≡ old.topology.cluster
    → new.transfers.copies ≡ insert_all (keep old.transfers.copies (λ _ r. not (nat_le old.transfers.pend (k.round - r)))) (flat_map (commanded_to k.round) k.nodes)
    → new.transfers.pend ≡ old.transfers.pend → new.blocks ≡ old.blocks → Follows old M → Follows new N
follows_round M N old new k lawful accepted is after cluster copies pend blocks before =
    follows_by M N old new call.Round (answer.Commanded k) lawful before (inl (round_answer M k accepted is)) refl (round_state M N accepted after) cluster copies pend blocks
