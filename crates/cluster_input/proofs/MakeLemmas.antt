-- If accepted calls lead from a to b, and more from b to c, then all of them lead from a to c.
use Rattle.std.proofs.Common.{◌≡◌, ◌<◌, ℕ, ◌+◌, suc, Bool, true, false, cond, List, [], ◌∷◌, ◌++◌, Some, None, map, filter, take, drop, length, get_or, option_to_list, slice_get, arith, refl, sym, ap, ◌∙◌, subst, append-nil}
use Rattle.std.specs.List.{flat_map, list_any}
use Rattle.std.proofs.Math.Seq.{take-suc}
use Rattle.std.proofs.lemmas.List.Folds.{list_any-append}
use Rattle.std.proofs.lemmas.Grind.{flat_map-append}
use Rattle.std.proofs.lemmas.Bool.{or_from}
use Rattle.bm_base.specs.declared.call.Call.{Call}
use Rattle.bm_base.specs.declared.call.Call.TheVariants as call
use Rattle.bm_base.specs.declared.event.Entry.{Entry}
use Rattle.bm_base.specs.declared.event.Event.TheVariants.{FullReport}
use Rattle.bm_base.specs.declared.limits.TheConstants.{MAX_ENTRIES}
use Rattle.bm_base.specs.declared.call.Answer.{Answer}
use Rattle.bm_base.specs.Words.{State, step, answers, state_after, is_refused}
use Rattle.bm_lines.specs.Print.{answer_text}
use Rattle.cluster_report.specs.LineNotes.{refusal_text_of}
use Rattle.fsck_cluster.specs.declared.rows.StoredReplica.{StoredReplica}
use Rattle.fsck_cluster.specs.declared.rows.Row.{Row}
use Rattle.fsck_import.specs.CallsFor.{entry, received, reports}
use Rattle.cluster_input.specs.MadeCalls.{Makes}
use Rattle.fsck_import.proofs.WriteLemmas.{take_more, map-append, filter-push}

state_after-append : (M : State) (calls more : List Call) → state_after M (calls ++ more) ≡ state_after (state_after M calls) more
state_after-append M [] more = refl
state_after-append M (k ∷ calls) more = state_after-append (step M k).1 calls more

answers-append : (M : State) (calls more : List Call) → answers M (calls ++ more) ≡ answers M calls ++ answers (state_after M calls) more
answers-append M [] more = refl
answers-append M (k ∷ calls) more = ap (λ rest. (step M k).0 ∷ rest) (answers-append (step M k).1 calls more)

pub none_made : (M : State) → Makes [] M M
none_made M = record { state = refl; accepted = refl }

-- these calls, and then those
pub made_more : (calls more : List Call) (a b c : State) → Makes calls a b → Makes more b c → Makes (calls ++ more) a c
made_more calls more a b c first second =
    let then : Makes more (state_after a calls) c = subst (λ S. Makes more S c) first.state second in
    record {
      state = then.state ∙ sym (state_after-append a calls more);
      accepted =
          ap (list_any is_refused) (answers-append a calls more)
          ∙ list_any-append is_refused (answers a calls) (answers (state_after a calls) more)
          ∙ or_from _ _ first.accepted then.accepted;
    }

none_only : (b : Bool) (text : List ℕ) → cond b (Some text) None ≡ None → b ≡ false
none_only true text e = cc
none_only false text e = refl

not_refused : (k : Call) (a : Answer) → refusal_text_of k a ≡ None → is_refused a ≡ false
not_refused k a e = none_only (is_refused a) (answer_text k a) e

-- one call, whose answer has no refusal text
pub one_made : (k : Call) (M N : State) → N ≡ (step M k).1 → None ≡ refusal_text_of k (step M k).0 → Makes (k ∷ []) M N
one_made k M N state refusal_text = record { state = state; accepted = rw (not_refused k (step M k).0 (sym refusal_text)) refl }

-- with the element at an index, if there is one
pub adds_more : {A : Type 0} (f : A → Call) (xs : List A) (i : ℕ) (a b c : State) → Makes (map f (take i xs)) a b
    → Makes (map f (option_to_list (slice_get xs i))) b c → Makes (map f (take (i + 1) xs)) a c
adds_more f xs i a b c first second =
    subst (λ calls. Makes calls a c) (sym (ap (map f) (take_more xs i) ∙ map-append f (take i xs) (option_to_list (slice_get xs i)))) (made_more _ _ a b c first second)

-- with the call for the element at an index of a loop
pub called_next : {A : Type 0} (f : A → Call) (xs : List A) (i : ℕ) (d : A) (k : Call) (a b c : State)
    → i < length xs
    → k ≡ f (get_or xs i d)
    → Makes (map f (take i xs)) a b
    → Makes (k ∷ []) b c
    → Makes (map f (take (i + 1) xs)) a c
called_next f xs i d k a b c lt is first second =
    let next : suc i ≡ i + 1 = omega arith in
    let taken : take i xs ++ get_or xs i d ∷ [] ≡ take (i + 1) xs = sym (take-suc xs i d lt) ∙ ap (λ n. take n xs) next in
    subst (λ ys. Makes (map f ys) a c) taken
    (subst (λ calls. Makes calls a c) (sym (map-append f (take i xs) (get_or xs i d ∷ [])))
    (made_more (map f (take i xs)) (f (get_or xs i d) ∷ []) a b c first (subst (λ j. Makes (j ∷ []) b c) is second)))

-- `called_next` where the loop goes through a slice of the list
pub called_at : {A : Type 0} (f : A → Call) (xs items : List A) (i : ℕ) (d : A) (k : Call) (a b c : State)
    → items ≡ xs
    → i < length items
    → k ≡ f (get_or items i d)
    → Makes (map f (take i xs)) a b
    → Makes (k ∷ []) b c
    → Makes (map f (take (i + 1) xs)) a c
called_at f xs items i d k a b c e lt is first second =
    subst (λ ys. Makes (map f (take (i + 1) ys)) a c) e
    (called_next f items i d k a b c lt is (subst (λ ys. Makes (map f (take i ys)) a b) (sym e) first) second)

-- with one more element, if it passes the test
pub kept_more : {A : Type 0} (f : A → Call) (t : A → Bool) (xs : List A) (x : A) (a b c : State) → Makes (map f (filter t xs)) a b
    → Makes (map f (filter t (x ∷ []))) b c → Makes (map f (filter t (xs ++ x ∷ []))) a c
kept_more f t xs x a b c first second =
    subst (λ calls. Makes calls a c) (sym (ap (map f) (filter-push t xs x) ∙ map-append f (filter t xs) (filter t (x ∷ [])))) (made_more _ _ a b c first second)

-- `kept_more` for the element at an index of a loop
pub status_at : {A : Type 0} (f : A → Call) (t : A → Bool) (xs items : List A) (i : ℕ) (d : A) (a b c : State)
    → items ≡ xs
    → i < length items
    → Makes (map f (filter t (take i xs))) a b
    → Makes (map f (filter t (get_or items i d ∷ []))) b c
    → Makes (map f (filter t (take (i + 1) xs))) a c
status_at f t xs items i d a b c e lt first second =
    let next : suc i ≡ i + 1 = omega arith in
    let taken : take i items ++ get_or items i d ∷ [] ≡ take (i + 1) items = sym (take-suc items i d lt) ∙ ap (λ n. take n items) next in
    subst (λ ys. Makes (map f (filter t (take (i + 1) ys))) a c) e
    (subst (λ ys. Makes (map f (filter t ys)) a c) taken
    (kept_more f t (take i items) (get_or items i d) a b c (subst (λ ys. Makes (map f (filter t (take i ys))) a b) (sym e) first) second))

rows_more : {A : Type 0} (f : A → List Call) (xs : List A) (x : A) (a b c : State) → Makes (flat_map f xs) a b → Makes (f x) b c
    → Makes (flat_map f (xs ++ x ∷ [])) a c
rows_more f xs x a b c first second =
    subst (λ calls. Makes calls a c) (sym (flat_map-append f xs (x ∷ []) ∙ ap (λ ys. flat_map f xs ++ ys) (append-nil (f x)))) (made_more _ _ a b c first second)

-- with the calls of the element at an index of a loop
pub rows_at : {A : Type 0} (f : A → List Call) (xs : List A) (i : ℕ) (x : A) (a b c : State) → i < length xs → x ≡ get_or xs i x
    → Makes (flat_map f (take i xs)) a b → Makes (f x) b c → Makes (flat_map f (take (i + 1) xs)) a c
rows_at f xs i x a b c lt is first second =
    let next : suc i ≡ i + 1 = omega arith in
    let taken : take i xs ++ x ∷ [] ≡ take (i + 1) xs = ap (λ y. take i xs ++ y ∷ []) is ∙ sym (take-suc xs i x lt) ∙ ap (λ n. take n xs) next in
    subst (λ ys. Makes (flat_map f ys) a c) taken (rows_more f (take i xs) x a b c first second)

-- the report of a storage, and then the replicas that do not fit into it
pub reports_made : (row : Row) (entries : List Entry) (first others held : List StoredReplica) (a b c : State) → entries ≡ map entry first
    → first ≡ take MAX_ENTRIES held → others ≡ drop MAX_ENTRIES held → held ≡ row.held
    → Makes (call.Apply (FullReport row.number entries) ∷ []) a b → Makes (map (received row.number) others) b c → Makes (reports row) a c
reports_made row entries first others held a b c entries_are first_is others_are held_is one more =
    let refusal_text : entries ≡ map entry (take MAX_ENTRIES row.held) = entries_are ∙ ap (map entry) first_is ∙ ap (λ h. map entry (take MAX_ENTRIES h)) held_is in
    let rest : others ≡ drop MAX_ENTRIES row.held = others_are ∙ ap (drop MAX_ENTRIES) held_is in
    subst (λ es. Makes (call.Apply (FullReport row.number es) ∷ map (received row.number) (drop MAX_ENTRIES row.held)) a c) refusal_text
    (subst (λ hs. Makes (call.Apply (FullReport row.number entries) ∷ map (received row.number) hs) a c) rest
    (made_more (call.Apply (FullReport row.number entries) ∷ []) (map (received row.number) others) a b c one more))
