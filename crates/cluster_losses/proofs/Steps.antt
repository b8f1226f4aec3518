-- A book updated for an event still follows the manager; losses with one more are losses.
use Rattle.std.proofs.Common.{◌≡◌, ℕ, Bool, true, false, not, ◌||◌, None, List, [], ◌∷◌, ◌++◌, refl, sym, ap, subst, ◌∙◌}
use Rattle.std.specs.List.{fold, list_any}
use Rattle.std.proofs.lemmas.List.Folds.{list_any-append}
use Rattle.bm_base.specs.declared.event.Event.{Event}
use Rattle.bm_base.specs.Words.{Cluster, Holdings, State, change_cluster, change_holdings, ◌before◌, first_of, cluster_checks, refusal_of, after_event, missing_blocks}
use Rattle.bm_base.specs.Promises.Lawful.{IsLawful}
use Rattle.cluster_lost.specs.Losses.{is_loss, are_losses, AreMissing}
use Rattle.cluster_report.specs.declared.book.Book.{Book}
use Rattle.cluster_report.specs.Catalogues.{Lists}
use Rattle.cluster_report.specs.Sessions.{Follows}
use Rattle.cluster_report.proofs.StepLemmas.{first_none}

pub accepted_by_cluster : (M : State) (C : Cluster) (e : Event) → C ≡ M.cluster → refusal_of M e ≡ None → first_of (cluster_checks C e) ≡ None
unfolding refusal_of
accepted_by_cluster M C e same h = ap (λ D. first_of (cluster_checks D e)) same ∙ first_none (first_of (cluster_checks M.cluster e)) _ h

pub follows_event : (M : State) (old new : Book) (e : Event) → Follows old M → new.topology.cluster ≡ change_cluster old.topology.cluster e
    → ((H : Holdings) → old.transfers.copies ≡ H.pending → new.transfers.copies ≡ (change_holdings old.topology.cluster H e).pending)
    → new.transfers.pend ≡ old.transfers.pend
    → ((C : Cluster) (H : Holdings) → Lists old.blocks H.blocks → Lists new.blocks (change_holdings C H e).blocks)
    → Follows new (after_event M e)
unfolding after_event
follows_event M old new e f cluster copies pend blocks = record {
  cluster = cluster ∙ ap (λ C. change_cluster C e) f.cluster;
  copies = copies M.holdings f.copies ∙ ap (λ C. (change_holdings C M.holdings e).pending) f.cluster;
  pend = pend ∙ f.pend;
  blocks = blocks M.cluster M.holdings f.blocks;
}

pub follows_after : (M N : State) (old new : Book) (e : Event) → N ≡ after_event M e → Follows old M → new.topology.cluster ≡ change_cluster old.topology.cluster e
    → ((H : Holdings) → old.transfers.copies ≡ H.pending → new.transfers.copies ≡ (change_holdings old.topology.cluster H e).pending)
    → new.transfers.pend ≡ old.transfers.pend
    → ((C : Cluster) (H : Holdings) → Lists old.blocks H.blocks → Lists new.blocks (change_holdings C H e).blocks)
    → Follows new N
follows_after M N old new e is f cluster copies pend blocks = subst (λ O. Follows new O) (sym is) (follows_event M old new e f cluster copies pend blocks)

one_more : (a b : Bool) → not a ≡ true → b ≡ true → not (a || (not b || false)) ≡ true
one_more true b h l = cc
one_more false true h l = refl
one_more false false h l = cc

-- losses, and one more
pub losses_and : (es : List Event) (e : Event) → are_losses es ≡ true → is_loss e ≡ true → are_losses (es ++ (e ∷ [])) ≡ true
losses_and es e h l = ap not (list_any-append (λ e. not (is_loss e)) es (e ∷ [])) ∙ one_more (list_any (λ e. not (is_loss e)) es) (is_loss e) h l

pub missing_both : (M N : State) (es : List Event) (had has : List ℕ) → IsLawful M → are_losses es ≡ true → had ≡ missing_blocks M.cluster M.holdings
    → N ≡ fold after_event M es → has ≡ missing_blocks N.cluster N.holdings → AreMissing M es had has
missing_both M N es had has lawful losses was is now = record {
  lawful = lawful.holdings;
  losses = losses;
  missing_before = was;
  missing_after = now ∙ ap (λ (O : State). missing_blocks O.cluster O.holdings) is;
}
