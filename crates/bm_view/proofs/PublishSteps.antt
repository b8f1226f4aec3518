-- A publish appends its version to those of the journal, or is refused and leaves them as they are.
use Rattle.std.proofs.Common.{◌≡◌, ◌<◌, ◌≤◌, ℕ, ◌+◌, ◌*◌, true, false, true≢false, List, [], ◌∷◌, ◌++◌, length, Result, Ok, Err, is_err, IsErrAnd, IfOk, IfErr, OnErr, MatchResult, refl, sym, ap, ◌∙◌, subst, arith, length-append}
use Rattle.bm_view.specs.declared.journal.JournalEntry.{JournalEntry}
use Rattle.bm_base.specs.Promises.Versions.{Version}
use Rattle.bm_view.specs.Journal.{proposed, settled}
use Rattle.bm_view.specs.History.{last_of, IsHistory, versions, shown_in, IsSettled}
use Rattle.bm_view.specs.Rule.{Evidence, Extends}
use Rattle.bm_view.specs.Holders.{Home, Listed}
use Rattle.bm_view.proofs.Histories.{last_of-push, history_push, shown_in-push, versions-proposed, versions-settled, settles}

pub was_ok : {A E : Type 0} (r : Result A E) (P : A → Type 0) (Q : E → Type 0) → is_err r ≡ false → MatchResult r P Q → (x : A) × (r ≡ Ok x) × P x
was_ok (Ok x) P Q fine h = (x, refl, h)
was_ok (Err e) P Q fine h = absurd (true≢false fine)

pub was_err : {A E : Type 0} (r : Result A E) (P : A → Type 0) (Q : E → Type 0) → is_err r ≡ true → MatchResult r P Q → (e : E) × (r ≡ Err e) × Q e
was_err (Ok x) P Q bad h = absurd (true≢false (sym bad))
was_err (Err e) P Q bad h = (e, refl, h)

pub no_success : {A E : Type 0} (r : Result A E) (P : A → Type 0) → is_err r ≡ true → IfOk r P
no_success (Ok x) P bad = absurd (true≢false (sym bad))
no_success (Err e) P bad = tt

pub on_failure : {A E : Type 0} (r : Result A E) (P : Type 0) → P → OnErr r P
on_failure (Ok x) P h = tt
on_failure (Err e) P h = h

pub failure_is : {A E : Type 0} (r : Result A E) (P : E → Type 0) → IsErrAnd r P → IfErr r P
failure_is (Ok x) P bad = absurd bad
failure_is (Err e) P h = h

pub match_both : {A E : Type 0} (r : Result A E) (P P' R : A → Type 0) (Q Q' S : E → Type 0) → MatchResult r P Q → MatchResult r P' Q' → ((x : A) → P x → P' x → R x) → ((e : E) → Q e → Q' e → S e) → MatchResult r R S
match_both (Ok x) P P' R Q Q' S h k fine bad = fine x h k
match_both (Err e) P P' R Q Q' S h k fine bad = bad e h k

pub listed : (h h' : Home) (l l' : List Version) → h ≡ h' → l ≡ l' → ◌≡◌ {A = Listed} (record { home = h; list = l }) (record { home = h'; list = l' })
listed h h' l l' a b i = record { home = a i; list = b i }

pub shown_next : (log next : List JournalEntry) (t : Version) → next ≡ log ++ proposed t ∷ [] → shown_in next ≡ versions log ++ t ∷ []
shown_next log next t is = ap shown_in is ∙ shown_in-push log (proposed t)

pub last_next : (log next : List JournalEntry) (t : Version) → next ≡ log ++ proposed t ∷ [] → last_of (shown_in next) ≡ t
last_next log next t is = ap last_of (shown_next log next t is) ∙ last_of-push (versions log) t

pub history_next : (log next : List JournalEntry) (t : Version) → next ≡ log ++ proposed t ∷ [] → IsHistory (versions log) → (last_of (versions log)).calls ≤ t.calls → IsHistory (shown_in next)
history_next log next t is h up = subst IsHistory (sym (shown_next log next t is)) (history_push (versions log) t h up)

pub goes_next : (s n r : Evidence) (home : Home) (log : List JournalEntry) (t : Version) → s.home ≡ home → shown_in s.log ≡ versions log → n ≡ r → r.home ≡ home → r.log ≡ log ++ proposed t ∷ [] → Extends s n
goes_next s n r home log t sb sl is rb rl = subst (Extends s) (sym is) (record { home = sb ∙ sym rb; list = (t ∷ [], ap (λ l. l ++ t ∷ []) sl ∙ sym (shown_next log r.log t rl)) })

pub longer : (log l1 late : List JournalEntry) (e f : JournalEntry) (n : ℕ) → length log ≡ 2 * n → l1 ≡ log ++ e ∷ [] → late ≡ l1 ++ f ∷ [] → length late ≡ 2 * (n + 1)
longer log l1 late e f n long one two = omega (arith, long, ap length one, ap length two, length-append log (e ∷ []), length-append l1 (f ∷ []))

pub some_entry : (log next : List JournalEntry) (e : JournalEntry) → next ≡ log ++ e ∷ [] → 0 < length next
some_entry log next e is = omega (arith, ap length is, length-append log (e ∷ []))

pub next_number : (log next : List JournalEntry) (e : JournalEntry) (n m : ℕ) → length log ≡ 2 * n → m ≡ n + 1 → next ≡ log ++ e ∷ [] → (2 * m ≤ length next + 1) × (0 < length next)
next_number log next e n m long more is = (omega (arith, ap length is, length-append log (e ∷ [])), some_entry log next e is)

pub refused : (log l1 late : List JournalEntry) (t u : Version) → l1 ≡ log ++ proposed t ∷ [] → late ≡ l1 ++ proposed u ∷ [] → versions late ≡ versions log
refused log l1 late t u one two = ap versions two ∙ versions-proposed l1 u ∙ ap versions one ∙ versions-proposed log t

pub record Published (log l1 late : List JournalEntry) (t : Version) : Type 0 where
  pub list : versions late ≡ versions log ++ t ∷ []
  pub history : IsHistory (versions late)
  pub last : last_of (versions late) ≡ t
  pub whole : IsSettled late
  pub same : shown_in l1 ≡ versions late

pub published : (log l1 late : List JournalEntry) (t u : Version) → IsHistory (versions log) → (last_of (versions log)).calls ≤ t.calls → l1 ≡ log ++ proposed t ∷ [] → late ≡ l1 ++ settled u ∷ [] → u ≡ t → Published log l1 late t
published log l1 late t u h up one two is =
    let late_is : late ≡ (log ++ proposed t ∷ []) ++ settled t ∷ [] = two ∙ ap (λ v. l1 ++ settled v ∷ []) is ∙ ap (λ l. l ++ settled t ∷ []) one in
    let list : versions late ≡ versions log ++ t ∷ [] = ap versions late_is ∙ versions-settled (log ++ proposed t ∷ []) t ∙ ap (λ vs. vs ++ t ∷ []) (versions-proposed log t) in record {
      list = list;
      history = subst IsHistory (sym list) (history_push (versions log) t h up);
      last = ap last_of list ∙ last_of-push (versions log) t;
      whole = subst IsSettled (sym late_is) (settles log t);
      same = shown_next log l1 t one ∙ sym list;
    }
