-- A report in runs has the same effect as one with an entry for each of its numbers.
use Rattle.std.proofs.Common.{◌≡◌, ◌≢◌, ℕ, ◌+◌, Bool, true, false, not, ◌&&◌, ◌||◌, is_some, List, [], ◌∷◌, ◌++◌, map, refl, sym, ap, subst, ◌∙◌, eqb-true}
use Rattle.std.specs.Prelude.{◌==◌, nat_le, if◌then◌else◌}
use Rattle.std.specs.List.{list_any}
use Rattle.std.proofs.lemmas.Bool.{and_parts, and_from, le-leb, leb-true, eqb-false}
use Rattle.std.proofs.lemmas.List.{length-map, map-append, append_assoc}
use Rattle.std.proofs.lemmas.List.Folds.{list_any-append, Any-from_list_any, list_any-from_Any}
use Rattle.bm_base.specs.declared.replica.ReplicaId.{ReplicaId}
use Rattle.bm_base.specs.declared.event.Entry.{Entry}
use Rattle.bm_base.specs.declared.event.Event.TheVariants.{FullReport}
use Rattle.bm_base.specs.Words.{get, keep, has, Cluster, Holdings, State, replica_at, are_siblings, ReportedBlock, blocks_of_entry, expanded, is_named, leaves_by_report, report, change_cluster, change_holdings, done, done_by, after_event, count_call}
use Rattle.bm_base.proofs.MapLaws.{same_map}
use Rattle.bm_base.proofs.Entries.{length-expanded, has-reported_by, expanded-++, expanded-one_by_one, reported_by-backwards, reported_by-cut}
use Rattle.bm_parts.proofs.ReportedReplicas.{stays_by}
use Rattle.laws_of_events.proofs.ReportedReplicas.{named_since, put_or, reported_here, reported_elsewhere}
use Rattle.laws_of_events.specs.Reports.{numbers_of}
use Rattle.laws_of_events.specs.Runs as law

-- Which numbers, and how many.

abbrev spans : ℕ → Entry → Bool
spans b e = nat_le e.from b && nat_le b e.to

named_by_runs : (es : List Entry) (b : ℕ) → has (numbers_of es) b ≡ list_any (spans b) es
unfolding expanded
named_by_runs [] b = refl
named_by_runs (e ∷ es) b =
    ap (λ xs. has xs b) (map-append (λ (t : ReportedBlock). t.id) (blocks_of_entry e) (expanded es))
    ∙ list_any-append (λ c. c == b) (map (λ (t : ReportedBlock). t.id) (blocks_of_entry e)) (numbers_of es)
    ∙ (λ i. has-reported_by e b i || named_by_runs es b i)

pub named : law.runs_name_their_numbers
named es b = (
  (λ h.
      let a = Any-from_list_any (spans b) es (sym (named_by_runs es b) ∙ h) in
      let parts = and_parts (nat_le a.1.from b) (nat_le b a.1.to) a.4 in
      (a.0, a.1, a.2, a.3, (leb-true a.1.from b parts.0, leb-true b a.1.to parts.1))),
  (λ a. named_by_runs es b ∙ list_any-from_Any (spans b) es (a.0, a.1, a.2, a.3, and_from (nat_le a.1.from b) (nat_le b a.1.to) (le-leb a.1.from b a.4.0) (le-leb b a.1.to a.4.1))),
)

pub numbers_counted : law.numbers_are_counted
numbers_counted es = length-map (expanded es) (λ (t : ReportedBlock). t.id) ∙ length-expanded es

-- Reports with the same last stamp of each number.

module _ (C : Cluster) (H : Holdings) (s : ℕ) (ts us : List ReportedBlock) (same : (b : ℕ) → law.last_stamp ts b ≡ law.last_stamp us b) where
  same_named : (b : ℕ) → is_named ts b ≡ is_named us b
  same_named b = sym (named_since ts b) ∙ ap is_some (same b) ∙ named_since us b

  same_stay : (q : ReplicaId) → stays_by C H s ts q ≡ stays_by C H s us q
  unfolding leaves_by_report
  same_stay q = ap (λ n. not (if q.storage == s then not n else n && are_siblings C s q.storage)) (same_named q.block)

  same_kept : keep H.replicas (λ q _. stays_by C H s ts q) ≡ keep H.replicas (λ q _. stays_by C H s us q)
  same_kept = λ i. keep H.replicas (λ q _. same_stay q i)

  same_here : (b : ℕ) → get (report C H s ts).replicas (replica_at b s) ≡ get (report C H s us).replicas (replica_at b s)
  same_here b = reported_here C H s ts b ∙ (λ i. put_or C H s b (same b i) (get (same_kept i) (replica_at b s))) ∙ sym (reported_here C H s us b)

  same_elsewhere : (q : ReplicaId) → q.storage ≢ s → get (report C H s ts).replicas q ≡ get (report C H s us).replicas q
  same_elsewhere q other = reported_elsewhere C H s ts q other ∙ ap (λ m. get m q) same_kept ∙ sym (reported_elsewhere C H s us q other)

  same_at : (q : ReplicaId) → get (report C H s ts).replicas q ≡ get (report C H s us).replicas q
  same_at q =
      elim (q.storage == s) as (λ t. (q.storage == s) ≡ t → get (report C H s ts).replicas q ≡ get (report C H s us).replicas q) [
        | true ↦ λ t. subst (λ c. get (report C H s ts).replicas (replica_at q.block c) ≡ get (report C H s us).replicas (replica_at q.block c)) (sym (eqb-true q.storage s t)) (same_here q.block)
        | false ↦ λ t. same_elsewhere q (eqb-false q.storage s t)
      ] refl

  same_blocks : (report C H s ts).blocks ≡ (report C H s us).blocks
  unfolding report
  same_blocks = refl

  same_pending : (report C H s ts).pending ≡ (report C H s us).pending
  unfolding report
  same_pending = λ i. keep H.pending (λ q _. not ((q.storage == s) && same_named q.block i))

  same_report : report C H s ts ≡ report C H s us
  same_report =
      let replicas : (report C H s ts).replicas ≡ (report C H s us).replicas = same_map _ _ same_at in
      λ i. record { blocks = same_blocks i; replicas = replicas i; pending = same_pending i }

state_is : (M : State) (s : ℕ) (es : List Entry) → after_event M (FullReport s es) ≡ count_call (record M { holdings = report M.cluster M.holdings s (expanded es) })
unfolding after_event change_cluster change_holdings
state_is M s es = refl

answer_is : (M : State) (s : ℕ) (es : List Entry) → done_by M (FullReport s es) ≡ done M.holdings (report M.cluster M.holdings s (expanded es))
unfolding done_by change_holdings
answer_is M s es = refl

alike : (M : State) (s : ℕ) (ds es : List Entry) → report M.cluster M.holdings s (expanded ds) ≡ report M.cluster M.holdings s (expanded es) → law.AreAlike M s ds es
alike M s ds es e = (
  state_is M s ds ∙ ap (λ G. count_call (record M { holdings = G })) e ∙ sym (state_is M s es),
  answer_is M s ds ∙ ap (done M.holdings) e ∙ sym (answer_is M s es),
)

pub last_counts : law.last_stamp_counts
last_counts M s ds es same = alike M s ds es (same_report M.cluster M.holdings s (expanded ds) (expanded es) same)

pub same_expansion : law.same_blocks_are_alike
same_expansion M s ds es same = alike M s ds es (ap (report M.cluster M.holdings s) same)

pub one_by_one : law.runs_are_alike_one_by_one
one_by_one M s es = same_expansion M s es (map law.one_of (expanded es)) (sym (expanded-one_by_one (expanded es)))

-- Runs in pieces.

pub cut_in_two : law.run_may_be_cut
unfolding expanded
cut_in_two M s front e behind m low high =
    same_expansion M s (front ++ (e ∷ behind)) (front ++ (record e { to = m } ∷ record e { from = m + 1 } ∷ behind))
    (expanded-++ front (e ∷ behind)
    ∙ ap (λ xs. expanded front ++ xs) (ap (λ xs. xs ++ expanded behind) (reported_by-cut e m low high) ∙ append_assoc (blocks_of_entry (record e { to = m })) (blocks_of_entry (record e { from = m + 1 })) (expanded behind))
    ∙ sym (expanded-++ front (record e { to = m } ∷ record e { from = m + 1 } ∷ behind)))

pub backward : law.backward_run_names_none
unfolding expanded
backward M s front e behind h =
    same_expansion M s (front ++ (e ∷ behind)) (front ++ behind)
    (expanded-++ front (e ∷ behind) ∙ ap (λ xs. expanded front ++ (xs ++ expanded behind)) (reported_by-backwards e h) ∙ sym (expanded-++ front behind))
