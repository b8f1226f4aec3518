-- The report of a storage and the notices after it are the calls for its replicas.
use Rattle.std.proofs.Common.{◌≡◌, List, [], ◌∷◌, Option, map, take, drop, ap, subst, ◌∙◌}
use Rattle.bm_base.specs.declared.call.Call.TheVariants as call
use Rattle.bm_base.specs.declared.event.Entry.{Entry}
use Rattle.bm_base.specs.declared.event.Event.TheVariants.{FullReport}
use Rattle.bm_base.specs.declared.limits.TheConstants.{MAX_ENTRIES}
use Rattle.fsck_text.specs.Cuts.{Text}
use Rattle.fsck_cluster.specs.declared.rows.StoredReplica.{StoredReplica}
use Rattle.fsck_cluster.specs.declared.rows.Row.{Row}
use Rattle.fsck_import.specs.CallsFor.{entry, received, reports}
use Rattle.fsck_import.specs.WrittenCalls.{Written}
use Rattle.fsck_import.proofs.WriteLemmas.{written_more}

pub reports_written : (row : Row) (entries : List Entry) (first rest held : List StoredReplica) (a b c : Option Text)
    → entries ≡ map entry first → first ≡ take MAX_ENTRIES held → rest ≡ drop MAX_ENTRIES held → held ≡ row.held
    → Written (call.Apply (FullReport row.number entries) ∷ []) a b → Written (map (received row.number) rest) b c → Written (reports row) a c
reports_written row entries first rest held a b c e1 e2 e3 e4 w1 w2 =
    let whole : entries ≡ map entry (take MAX_ENTRIES row.held) = e1 ∙ ap (map entry) (e2 ∙ ap (take MAX_ENTRIES) e4) in
    let others : rest ≡ drop MAX_ENTRIES row.held = e3 ∙ ap (drop MAX_ENTRIES) e4 in
    subst (λ es. Written (call.Apply (FullReport row.number es) ∷ map (received row.number) (drop MAX_ENTRIES row.held)) a c) whole
    (subst (λ r. Written (call.Apply (FullReport row.number entries) ∷ map (received row.number) r) a c) others (written_more _ _ a b c w1 w2))
