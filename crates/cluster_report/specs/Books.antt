-- The part of a manager's state that the book of a report holds.
use Rattle.std.specs.Prelude.{◌≡◌, ⊤, ◌-◌, None, not, nat_le}
use Rattle.std.specs.List.{flat_map}
use Rattle.bm_base.specs.declared.call.Call.{Call}
use Rattle.bm_base.specs.declared.call.Call.TheVariants as call
use Rattle.bm_base.specs.declared.call.Answer.{Answer}
use Rattle.bm_base.specs.declared.call.Answer.TheVariants as answer
use Rattle.bm_base.specs.Words.{keep, insert_all, Cluster, Holdings, change_cluster, change_holdings, first_of, cluster_checks}
use Rattle.cluster_report.specs.Catalogues.{Lists}
use Rattle.cluster_report.specs.Copies.{commanded_to}
use Rattle.cluster_report.specs.declared.catalogue.Catalogue.{Catalogue}
use Rattle.cluster_report.specs.declared.transfers.Transfers.{Transfers}

-- an accepted event passes all checks on the cluster
abbrev pub IsAccepted : Cluster → Call → Answer → Type 0
IsAccepted C (call.Apply e) (answer.Done d) = first_of (cluster_checks C e) ≡ None
IsAccepted C _ _ = ⊤

-- the cluster after an accepted event; no other call changes it
abbrev pub cluster_after : Cluster → Call → Answer → Cluster
cluster_after C (call.Apply e) (answer.Done d) = change_cluster C e
cluster_after C _ _ = C

-- The pending copies after an accepted event or a round, in the cluster C. An event removes copies
-- that arrived or lost their block or node. A round drops expired copies and adds those that it
-- commands. No other call changes them.
abbrev pub AreCopiesAfter : Cluster → Transfers → Call → Answer → Transfers → Type 0
AreCopiesAfter C old (call.Apply e) (answer.Done d) new = (H : Holdings) → old.copies ≡ H.pending → new.copies ≡ (change_holdings C H e).pending
AreCopiesAfter C old call.Round (answer.Commanded commands) new =
    new.copies ≡ insert_all (keep old.copies (λ _ r. not (nat_le old.pend (commands.round - r)))) (flat_map (commanded_to commands.round) commands.nodes)
AreCopiesAfter C old _ _ new = new.copies ≡ old.copies

-- The blocks after an accepted event. No other call changes them.
abbrev pub AreBlocksAfter : Cluster → Catalogue → Call → Answer → Catalogue → Type 0
AreBlocksAfter C old (call.Apply e) (answer.Done d) new = (H : Holdings) → Lists old H.blocks → Lists new (change_holdings C H e).blocks
AreBlocksAfter C old _ _ new = new ≡ old
