-- Settling a version appends it to a journal's versions; a journal's prefix has a prefix of them.
use Rattle.std.proofs.Common.{◌≡◌, ℕ, ◌+◌, ◌-◌, ◌<◌, ◌≤◌, Bool, true, false, List, [], ◌∷◌, ◌++◌, length, get_or, refl, sym, ap, ◌∙◌, subst, ⊎_elim, arith, length-append}
use Rattle.std.proofs.Math.Seq.{get_or-append_seam}
use Rattle.std.proofs.lemmas.List.{append-nil, get_or_append_left, get_or_default}
use Rattle.std.proofs.lemmas.List.Sorted.{IsNonDecreasingBy-push, IsNonDecreasingBy-short}
use Rattle.std.proofs.lemmas.Bool.{cases_lt}
use mathlib.Core.List.{IsPrefix}
use Rattle.bm_view.specs.declared.journal.JournalEntry.{JournalEntry}
use Rattle.bm_base.specs.Promises.Versions.{Version}
use Rattle.bm_view.specs.Version.{opening}
use Rattle.bm_view.specs.Journal.{proposed, settled, opening_log}
use Rattle.bm_view.specs.History.{last_of, IsHistory, put_if, versions, shown_in, IsSettled}
use Rattle.bm_view.proofs.Prefixes.{prefix_self, prefix_trans, prefix_push, prefix_is, prefix_shorter, prefix_whole}

pub last_of-push : (list : List Version) (v : Version) → last_of (list ++ v ∷ []) ≡ v
last_of-push list v =
    let long : length (list ++ v ∷ []) - 1 ≡ length list = omega (arith, length-append list (v ∷ [])) in
    ap (λ (k : ℕ). get_or (list ++ v ∷ []) k opening) long ∙ get_or-append_seam list v [] opening

pub opening_is_history : IsHistory (opening ∷ [])
opening_is_history = record { opens = prefix_self (opening ∷ []); ascends = IsNonDecreasingBy-short (λ (v : Version). v.calls) (opening ∷ []) (omega arith) }

pub history_push : (list : List Version) (v : Version) → IsHistory list → (last_of list).calls ≤ v.calls → IsHistory (list ++ v ∷ [])
history_push list v h up = record {
  opens = prefix_push (opening ∷ []) list (v ∷ []) h.opens;
  ascends = IsNonDecreasingBy-push (λ (v : Version). v.calls) list v h.ascends (λ d some. subst (λ (w : Version). w.calls ≤ v.calls) (get_or_default list (length list - 1) opening d (omega arith)) up);
}

-- a prefix of a history has no more calls
pub last_of-prefix : (early late : List Version) → IsPrefix early late → IsHistory late → (last_of early).calls ≤ (last_of late).calls
last_of-prefix [] late p h = omega arith
last_of-prefix (v ∷ vs) late p h =
    let early = v ∷ vs in
    let long : length late ≡ length early + length p.0 = sym (ap length p.1) ∙ length-append early p.0 in
    let same : get_or late (length early - 1) opening ≡ last_of early = ap (λ l. get_or l (length early - 1) opening) (sym p.1) ∙ get_or_append_left early p.0 opening (length early - 1) (omega arith) in
    subst (λ (w : Version). w.calls ≤ (last_of late).calls) same (h.ascends (length early - 1) (length late - 1) opening (omega arith) (omega arith))

put_append : (b : Bool) (v : Version) (xs ys : List Version) → put_if b v (xs ++ ys) ≡ put_if b v xs ++ ys
put_append true v xs ys = refl
put_append false v xs ys = refl

put_prefix : (b : Bool) (v : Version) (xs ys : List Version) → IsPrefix xs ys → IsPrefix (put_if b v xs) (put_if b v ys)
put_prefix b v xs ys p = (p.0, sym (put_append b v xs p.0) ∙ ap (put_if b v) p.1)

put_one : (b : Bool) (v : Version) → IsPrefix (put_if b v []) (v ∷ [])
put_one true v = ([], refl)
put_one false v = (v ∷ [], refl)

pub versions-append : (xs ys : List JournalEntry) → versions (xs ++ ys) ≡ versions xs ++ versions ys
versions-append [] ys = refl
versions-append (e ∷ es) ys = ap (put_if e.done e.table) (versions-append es ys) ∙ put_append e.done e.table (versions es) (versions ys)

pub shown_in-push : (xs : List JournalEntry) (e : JournalEntry) → shown_in (xs ++ e ∷ []) ≡ versions xs ++ e.table ∷ []
shown_in-push [] e = refl
shown_in-push (d ∷ []) e = put_append d.done d.table [] (e.table ∷ [])
shown_in-push (d ∷ f ∷ es) e = ap (put_if d.done d.table) (shown_in-push (f ∷ es) e) ∙ put_append d.done d.table (versions (f ∷ es)) (e.table ∷ [])

pub versions_shown_in : (xs : List JournalEntry) → IsPrefix (versions xs) (shown_in xs)
versions_shown_in [] = ([], refl)
versions_shown_in (e ∷ []) = put_one e.done e.table
versions_shown_in (e ∷ f ∷ es) = put_prefix e.done e.table (versions (f ∷ es)) (shown_in (f ∷ es)) (versions_shown_in (f ∷ es))

pub versions_prefix : (xs ys : List JournalEntry) → IsPrefix xs ys → IsPrefix (versions xs) (versions ys)
versions_prefix xs ys p = (versions p.0, sym (versions-append xs p.0) ∙ ap versions p.1)

pub versions-proposed : (xs : List JournalEntry) (v : Version) → versions (xs ++ proposed v ∷ []) ≡ versions xs
versions-proposed xs v = versions-append xs (proposed v ∷ []) ∙ append-nil (versions xs)

pub versions-settled : (xs : List JournalEntry) (v : Version) → versions (xs ++ settled v ∷ []) ≡ versions xs ++ v ∷ []
versions-settled xs v = versions-append xs (settled v ∷ [])

-- a journal that ends with a settled proposal may be learnt
pub settles : (xs : List JournalEntry) (v : Version) → IsSettled ((xs ++ proposed v ∷ []) ++ settled v ∷ [])
settles xs v shown pre close some =
    let open_log = xs ++ proposed v ∷ [] in
    let all = open_log ++ settled v ∷ [] in
    let long : length all ≡ length open_log + 1 = length-append open_log (settled v ∷ []) in
    let all_versions : versions all ≡ versions xs ++ v ∷ [] = versions-settled open_log v ∙ ap (λ vs. vs ++ v ∷ []) (versions-proposed xs v) in
    ⊎_elim
    (λ (less : length shown < length all).
    let short : length shown ≤ length open_log = omega (arith, long) in
    let there : IsPrefix shown open_log = prefix_shorter shown open_log all pre (settled v ∷ [], refl) short in
    let same : shown ≡ open_log = prefix_whole shown open_log there (omega (arith, long)) in
    prefix_is (versions all) (versions xs ++ v ∷ []) (shown_in shown) all_versions ([], append-nil (versions xs ++ v ∷ []) ∙ sym (ap shown_in same ∙ shown_in-push xs (proposed v))))
    (λ (whole : length all ≤ length shown).
    let same : shown ≡ all = prefix_whole shown all pre whole in
    subst (λ log. IsPrefix (versions all) (shown_in log)) (sym same) (versions_shown_in all))
    (cases_lt (length shown) (length all))

-- the learnt versions are a prefix of the current value, unless that is older
pub log_begins : (log shown both : List JournalEntry) → IsPrefix log both → IsPrefix shown both → IsSettled log → length log ≤ length shown + 1 → 0 < length shown → IsPrefix (versions log) (shown_in shown)
log_begins log shown both p q whole close some =
    ⊎_elim
    (λ (lt : length shown < length log). whole shown (prefix_shorter shown log both q p (omega arith)) close some)
    (λ (le : length log ≤ length shown). prefix_trans (versions log) (versions shown) (shown_in shown) (versions_prefix log shown (prefix_shorter log shown both p q le)) (versions_shown_in shown))
    (cases_lt (length shown) (length log))

pub opening_is_settled : IsSettled opening_log
opening_is_settled = settles [] opening
