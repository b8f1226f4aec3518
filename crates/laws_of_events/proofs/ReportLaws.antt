-- A full report leaves its storage exactly the replicas it names, and keeps those of other nodes.
use Rattle.std.proofs.Common.{◌≡◌, ◌≢◌, ℕ, ◌+◌, ◌-◌, ◌≤◌, Bool, true, false, cond, not, ◌&&◌, ◌||◌, Option, Some, None, is_some, List, ◌∷◌, ◌++◌, map, refl, sym, ap, subst, ◌∙◌, ◌⊎◌, inl, inr, eqb-true, eq-eqb, ne_eqb, arith}
use Rattle.std.specs.Prelude.{◌==◌, nat_le, nat_lt, if◌then◌else◌}
use Rattle.std.specs.Option.{option_map_or}
use Rattle.std.specs.Ordering.{eq_by_cmp}
use Rattle.std.proofs.lemmas.Bool.{eqb-false, and_right, not-false}
use Rattle.std.proofs.lemmas.List.{map-append, append_assoc}
use Rattle.std.proofs.lemmas.List.Folds.{list_any-append}
use Rattle.std.proofs.lemmas.Bool.Decides.{nat_tests}
use Rattle.bm_base.specs.declared.replica.ReplicaId.{ReplicaId}
use Rattle.bm_base.specs.declared.replica.Tag.{Tag}
use Rattle.bm_base.specs.declared.replica.Tag.TheVariants.{Good, Stale, Bad}
use Rattle.bm_base.specs.declared.replica.Marks.{Marks}
use Rattle.bm_base.specs.declared.replica.Stamp.{Stamp}
use Rattle.bm_base.specs.declared.replica.BlockInfo.{BlockInfo}
use Rattle.bm_base.specs.declared.event.Entry.{Entry}
use Rattle.bm_base.specs.declared.event.Event.TheVariants.{Received, FullReport}
use Rattle.bm_base.specs.Words.{Map, get, keep, contains_key, has, Cluster, Holdings, State, by_replica, replica_at, replica_cmp, is_good, is_bad, is_stray, are_siblings, ReportedBlock, range_from, expanded, was_bad, was_excess, same_stamp, entered_tag, entered_marks, replaces, enter, is_named, leaves_by_report, report, change_cluster, change_holdings, done, done_by, after_event}
use Rattle.bm_base.specs.Promises.Lawful.{IsLawfulHoldings, IsOrderly}
use Rattle.bm_base.proofs.MapLaws.{same_map, get-keep, get-insert}
use Rattle.bm_base.proofs.Ties.{replica_tie}
use Rattle.bm_base.proofs.Entries.{expanded-++, reported_by-around, ids_reported, has-range_from}
use Rattle.bm_base.proofs.Options.{there, staying, none_stays, all_stays, stays_twice}
use Rattle.bm_base.proofs.MapEntries.{get_here}
use Rattle.bm_base.proofs.Clusters.{no_siblings}
use Rattle.bm_parts.proofs.ReportedReplicas.{IsKept, IsPut, enter_origin, report_origin, stays_by}
use Rattle.bm_parts.proofs.OneShard.{nothing_done}
use Rattle.laws_of_events.proofs.ReportedMarks.{tag_where, reported_marks}
use Rattle.laws_of_events.proofs.ReportedReplicas.{named_since, named_numbers, last_is, put_or, reported_here, reported_elsewhere}
use Rattle.laws_of_events.specs.Reports as law
use Rattle.laws_of_events.specs.Runs.{last_stamp}

pub held_report : (M : State) (s : ℕ) (es : List Entry) → law.held_after M (FullReport s es) ≡ report M.cluster M.holdings s (expanded es)
unfolding after_event change_holdings
held_report M s es = refl

pub held_received : (M : State) (s b : ℕ) (stamp : Stamp) → law.held_after M (Received s b stamp) ≡ enter M.cluster M.holdings (replica_at b s) stamp
unfolding after_event change_holdings
held_received M s b stamp = refl

-- Which replicas exist.

module _ (C : Cluster) (H : Holdings) (s : ℕ) (ts : List ReportedBlock) where
  -- no replica of a block that is not named stays on the storage
  leaves_here : (b : ℕ) → is_named ts b ≡ false → stays_by C H s ts (replica_at b s) ≡ false
  unfolding leaves_by_report
  leaves_here b e = rw (eq-eqb s s refl, e) refl

  unnamed_leaves : (b : ℕ) → last_stamp ts b ≡ None → get (keep H.replicas (λ q _. stays_by C H s ts q)) (replica_at b s) ≡ None
  unnamed_leaves b e =
      get-keep H.replicas (λ q _. stays_by C H s ts q) (replica_at b s)
      ∙ none_stays (stays_by C H s ts (replica_at b s)) (get H.replicas (replica_at b s)) (leaves_here b (sym (named_since ts b) ∙ ap is_some e))

  there_by : (b : ℕ) (o : Option Stamp) → last_stamp ts b ≡ o → is_some (put_or C H s b o (get (keep H.replicas (λ q _. stays_by C H s ts q)) (replica_at b s))) ≡ is_some o
  there_by b None e = ap is_some (unnamed_leaves b e)
  there_by b (Some t) e = refl

  has_named : (b : ℕ) → contains_key (report C H s ts).replicas (replica_at b s) ≡ is_named ts b
  has_named b = ap is_some (reported_here C H s ts b) ∙ there_by b (last_stamp ts b) refl ∙ named_since ts b

pub is_exact : (M : State) (s : ℕ) (es : List Entry) (b : ℕ) → contains_key (law.held_after M (FullReport s es)).replicas (replica_at b s) ≡ has (law.numbers_of es) b
is_exact M s es b = ap (λ G. contains_key G.replicas (replica_at b s)) (held_report M s es) ∙ has_named M.cluster M.holdings s (expanded es) b ∙ named_numbers (expanded es) b

not_past : (b n : ℕ) → (nat_le (b + 1) b && nat_lt b n) ≡ false
not_past b n = grind (arith, nat_tests)

-- the last stamp that is reported for a number of a run
around : (front : List Entry) (e : Entry) (behind : List Entry) (b : ℕ) → e.from ≤ b → b ≤ e.to → has (law.numbers_of behind) b ≡ false → last_stamp (expanded (front ++ (e ∷ behind))) b ≡ Some e.stamp
unfolding expanded
around front e behind b low high h =
    let tell : ℕ → ReportedBlock = λ c. record { id = c; stamp = e.stamp } in
    let before : List ReportedBlock = map tell (range_from e.from (b - e.from)) in
    let after : List ReportedBlock = map tell (range_from (b + 1) (e.to - b)) in
    let list : expanded (front ++ (e ∷ behind)) ≡ (expanded front ++ before) ++ (tell b ∷ (after ++ expanded behind)) =
    expanded-++ front (e ∷ behind) ∙ ap (λ xs. expanded front ++ (xs ++ expanded behind)) (reported_by-around e b low high)
    ∙ ap (λ xs. expanded front ++ xs) (append_assoc before (tell b ∷ after) (expanded behind)) ∙ sym (append_assoc (expanded front) before (tell b ∷ (after ++ expanded behind))) in
    let none : has (map (λ (t : ReportedBlock). t.id) (after ++ expanded behind)) b ≡ false =
    ap (λ xs. has xs b) (map-append (λ (t : ReportedBlock). t.id) after (expanded behind)) ∙ list_any-append (λ c. c == b) (map (λ (t : ReportedBlock). t.id) after) (law.numbers_of behind)
    ∙ (λ i. past i || h i) in
    ap (λ ts. last_stamp ts b) list ∙ last_is (expanded front ++ before) (tell b) (after ++ expanded behind) none
  where
    past : has (map (λ (t : ReportedBlock). t.id) (map {B = ReportedBlock} (λ c. record { id = c; stamp = e.stamp }) (range_from (b + 1) (e.to - b)))) b ≡ false
    past = ap (λ xs. has xs b) (ids_reported e.stamp (range_from (b + 1) (e.to - b))) ∙ has-range_from (b + 1) (e.to - b) b ∙ not_past b (b + 1 + (e.to - b))

pub last_decides : law.last_entry_decides
last_decides M s front e behind b low high h =
    let ts = expanded (front ++ (e ∷ behind)) in
    let z = get (keep M.holdings.replicas (λ q _. stays_by M.cluster M.holdings s ts q)) (replica_at b s) in (
      entered_marks M.holdings (replica_at b s) e.stamp,
      ap (λ G. get G.replicas (replica_at b s)) (held_report M s (front ++ (e ∷ behind))) ∙ reported_here M.cluster M.holdings s ts b ∙ ap (λ o. put_or M.cluster M.holdings s b o z) (around front e behind b low high h),
      reported_marks M.holdings (replica_at b s) e.stamp,
    )

-- The same report again.

tag_by : Bool → Bool → Tag
tag_by bad same = if bad then Bad else if same then Good else Stale

tag_by_again : (bad same : Bool) → tag_by (is_bad (tag_by bad same)) same ≡ tag_by bad same
unfolding tag_by
tag_by_again true same = refl
tag_by_again false true = refl
tag_by_again false false = refl

tag_again : (bad : Bool) (stamp : Stamp) (z : Option BlockInfo) → tag_where (is_bad (tag_where bad stamp z)) stamp z ≡ tag_where bad stamp z
unfolding tag_by
tag_again bad stamp None = refl
tag_again bad stamp (Some i) = tag_by_again bad (same_stamp stamp i.stamp)

excess_again : (good good' x : Bool) → good' ≡ good → (good' && (good && x)) ≡ (good && x)
excess_again true good' x e = ap (λ g. g && x) e
excess_again false good' x e = ap (λ g. g && false) e

module _ (H G : Holdings) (p : ReplicaId) (stamp : Stamp) (blocks : G.blocks ≡ H.blocks) (there_now : get G.replicas p ≡ Some (entered_marks H p stamp)) where
  bad_now : was_bad G p ≡ is_bad (entered_marks H p stamp).tag
  unfolding was_bad
  bad_now = ap (λ o. option_map_or (λ m. is_bad m.tag) o false) there_now

  excess_now : was_excess G p ≡ (entered_marks H p stamp).excess
  unfolding was_excess
  excess_now = ap (λ o. option_map_or (λ m. m.excess) o false) there_now

  same_tag : entered_tag G p stamp ≡ entered_tag H p stamp
  unfolding entered_marks entered_tag
  same_tag = (λ i. tag_where (bad_now i) stamp (get (blocks i) p.block)) ∙ tag_again (was_bad H p) stamp (get H.blocks p.block)

  entered_again : entered_marks G p stamp ≡ entered_marks H p stamp
  unfolding entered_marks
  entered_again =
      let excess : (is_good (entered_tag G p stamp) && was_excess G p) ≡ (is_good (entered_tag H p stamp) && was_excess H p) =
      ap (λ x. is_good (entered_tag G p stamp) && x) excess_now ∙ excess_again (is_good (entered_tag H p stamp)) (is_good (entered_tag G p stamp)) (was_excess H p) (ap is_good same_tag) in
      λ i. record { tag = same_tag i; excess = excess i; ordered = false }

keep_twice : {X : Type 0} (m : Map by_replica X) (p : ReplicaId → Bool) → keep (keep m (λ q _. p q)) (λ q _. p q) ≡ keep m (λ q _. p q)
keep_twice m p =
    same_map _ _ (λ q.
    get-keep (keep m (λ q _. p q)) (λ q _. p q) q ∙ ap (staying (p q)) (get-keep m (λ q _. p q) q) ∙ stays_twice (p q) (get m q) ∙ sym (get-keep m (λ q _. p q) q))

module _ (C : Cluster) (H : Holdings) (s : ℕ) (ts : List ReportedBlock) where
  abbrev afterwards : Holdings
  afterwards = report C H s ts

  afterwards_blocks : afterwards.blocks ≡ H.blocks
  unfolding report
  afterwards_blocks = refl

  again_here : (b : ℕ) (o : Option Stamp) → last_stamp ts b ≡ o → get (report C afterwards s ts).replicas (replica_at b s) ≡ get afterwards.replicas (replica_at b s)
  again_here b None e =
      let gone : get afterwards.replicas (replica_at b s) ≡ None = reported_here C H s ts b ∙ ap (λ o. put_or C H s b o (get (keep H.replicas (λ q _. stays_by C H s ts q)) (replica_at b s))) e ∙ unnamed_leaves C H s ts b e in
      reported_here C afterwards s ts b ∙ ap (λ o. put_or C afterwards s b o (get (keep afterwards.replicas (λ q _. stays_by C afterwards s ts q)) (replica_at b s))) e ∙ unnamed_leaves C afterwards s ts b e ∙ sym gone
  again_here b (Some t) e =
      let now : get afterwards.replicas (replica_at b s) ≡ Some (entered_marks H (replica_at b s) t) = reported_here C H s ts b ∙ ap (λ o. put_or C H s b o (get (keep H.replicas (λ q _. stays_by C H s ts q)) (replica_at b s))) e in
      reported_here C afterwards s ts b ∙ ap (λ o. put_or C afterwards s b o (get (keep afterwards.replicas (λ q _. stays_by C afterwards s ts q)) (replica_at b s))) e
      ∙ ap Some (entered_again H afterwards (replica_at b s) t afterwards_blocks now) ∙ sym now

  again_elsewhere : (q : ReplicaId) → q.storage ≢ s → get (report C afterwards s ts).replicas q ≡ get afterwards.replicas q
  again_elsewhere q other =
      let once : get afterwards.replicas q ≡ staying (stays_by C H s ts q) (get H.replicas q) = reported_elsewhere C H s ts q other ∙ get-keep H.replicas (λ q _. stays_by C H s ts q) q in
      reported_elsewhere C afterwards s ts q other ∙ get-keep afterwards.replicas (λ q _. stays_by C afterwards s ts q) q ∙ ap (staying (stays_by C H s ts q)) once ∙ stays_twice (stays_by C H s ts q) (get H.replicas q) ∙ sym once

  again_at : (q : ReplicaId) → get (report C afterwards s ts).replicas q ≡ get afterwards.replicas q
  again_at q =
      elim (q.storage == s) as (λ t. (q.storage == s) ≡ t → get (report C afterwards s ts).replicas q ≡ get afterwards.replicas q) [
        | true ↦ λ t. subst (λ c. get (report C afterwards s ts).replicas (replica_at q.block c) ≡ get afterwards.replicas (replica_at q.block c)) (sym (eqb-true q.storage s t)) (again_here q.block (last_stamp ts q.block) refl)
        | false ↦ λ t. again_elsewhere q (eqb-false q.storage s t)
      ] refl

  again_pending : (report C afterwards s ts).pending ≡ afterwards.pending
  unfolding report
  again_pending = keep_twice H.pending (λ q. not ((q.storage == s) && is_named ts q.block))

  again_blocks : (report C afterwards s ts).blocks ≡ afterwards.blocks
  unfolding report
  again_blocks = refl

  pub report_again : report C afterwards s ts ≡ afterwards
  report_again =
      let replicas : (report C afterwards s ts).replicas ≡ afterwards.replicas = same_map _ _ again_at in
      λ i. record { blocks = again_blocks i; replicas = replicas i; pending = again_pending i }

same_answer : (M : State) (s : ℕ) (es : List Entry) → done_by (after_event M (FullReport s es)) (FullReport s es) ≡ done (report M.cluster M.holdings s (expanded es)) (report M.cluster (report M.cluster M.holdings s (expanded es)) s (expanded es))
unfolding done_by after_event change_holdings change_cluster
same_answer M s es = refl

held_again : (M : State) (s : ℕ) (es : List Entry) → law.held_after (after_event M (FullReport s es)) (FullReport s es) ≡ report M.cluster (report M.cluster M.holdings s (expanded es)) s (expanded es)
unfolding after_event change_holdings change_cluster
held_again M s es = refl

pub second_changes_nothing : law.second_report_changes_nothing
second_changes_nothing M s es =
    let again = report_again M.cluster M.holdings s (expanded es) in
    (held_again M s es ∙ again ∙ sym (held_report M s es), same_answer M s es ∙ ap (done (report M.cluster M.holdings s (expanded es))) again ∙ nothing_done (report M.cluster M.holdings s (expanded es)))

-- Other nodes.

stays_where : (C : Cluster) (H : Holdings) (s : ℕ) (ts : List ReportedBlock) (p : ReplicaId) → p.storage ≢ s → are_siblings C s p.storage ≡ false → stays_by C H s ts p ≡ true
unfolding leaves_by_report
stays_where C H s ts p other h = rw (ne_eqb p.storage s other, h) (ap not (and_right (is_named ts p.block) false refl))

pub report_leaves_others : law.report_leaves_other_nodes
report_leaves_others M s es p apart =
    let C = M.cluster in
    let H = M.holdings in
    ap (λ G. get G.replicas p) (held_report M s es) ∙ reported_elsewhere C H s (expanded es) p apart.0 ∙ get-keep H.replicas (λ q _. stays_by C H s (expanded es) q) p
    ∙ all_stays (stays_by C H s (expanded es) p) (get H.replicas p) (stays_where C H s (expanded es) p apart.0 (no_siblings C s p.storage apart.1))

not_replaced : (C : Cluster) (p q : ReplicaId) → are_siblings C p.storage q.storage ≡ false → not (replaces C p q) ≡ true
unfolding replaces
not_replaced C p q h = rw h (ap not (and_right (q.block == p.block) false refl))

other_replica : (p q : ReplicaId) → q.storage ≢ p.storage → eq_by_cmp replica_cmp q p ≡ false
other_replica p q other = replica_tie q p ∙ rw (ne_eqb q.storage p.storage other) (and_right (q.block == p.block) false refl)

entered_elsewhere : (C : Cluster) (H : Holdings) (p : ReplicaId) (stamp : Stamp) (q : ReplicaId) → q.storage ≢ p.storage → are_siblings C p.storage q.storage ≡ false → get (enter C H p stamp).replicas q ≡ get H.replicas q
unfolding enter
entered_elsewhere C H p stamp q other h =
    let stay = keep H.replicas (λ q _. not (replaces C p q)) in
    get-insert stay p (entered_marks H p stamp) q ∙ ap (λ c. cond c (Some (entered_marks H p stamp)) (get stay q)) (other_replica p q other)
    ∙ get-keep H.replicas (λ q _. not (replaces C p q)) q ∙ all_stays (not (replaces C p q)) (get H.replicas q) (not_replaced C p q h)

pub received_leaves_others : law.received_leaves_other_nodes
received_leaves_others M s b stamp p apart =
    ap (λ G. get G.replicas p) (held_received M s b stamp) ∙ entered_elsewhere M.cluster M.holdings (replica_at b s) stamp p apart.0 (no_siblings M.cluster s p.storage apart.1)

entered_there : (C : Cluster) (H : Holdings) (p : ReplicaId) (stamp : Stamp) → get (enter C H p stamp).replicas p ≡ Some (entered_marks H p stamp)
unfolding enter
entered_there C H p stamp = get_here (keep H.replicas (λ q _. not (replaces C p q))) p (entered_marks H p stamp)

pub received_there : law.received_is_there
received_there M s b stamp =
    (entered_marks M.holdings (replica_at b s) stamp, ap (λ G. get G.replicas (replica_at b s)) (held_received M s b stamp) ∙ entered_there M.cluster M.holdings (replica_at b s) stamp, reported_marks M.holdings (replica_at b s) stamp)

-- Bad replicas.

known_since_bad : (C : Cluster) (H : Holdings) → IsLawfulHoldings C H → (p : ReplicaId) → law.IsBadIn H p → (i : BlockInfo) × (get H.blocks p.block ≡ Some i)
known_since_bad C H L p bad =
    let known : not (contains_key H.blocks p.block) ≡ false = sym (L.strays p bad.0 bad.1) ∙ ap is_stray bad.2 in
    there (get H.blocks p.block) (not-false (contains_key H.blocks p.block) known)

bad_reported : (C : Cluster) (H : Holdings) (s : ℕ) (named : ℕ → Bool) (stays : ReplicaId → Bool) → IsLawfulHoldings C H → (p : ReplicaId) (m : Marks) → law.IsBadIn H p → IsKept H stays p m ⊎ IsPut H s named p m → m.tag ≡ Bad
bad_reported C H s named stays L p m bad (inl was) = let same : Some m ≡ Some bad.0 = sym was.0 ∙ bad.1 in let is : m ≡ bad.0 = (cc) in ap (λ n. n.tag) is ∙ bad.2
bad_reported C H s named stays L p m bad (inr put) = let i = known_since_bad C H L p bad in ap (λ n. n.tag) put.3 ∙ (reported_marks H p put.2).bad i.0 i.1 bad

pub report_leaves_bad : (M : State) → IsOrderly M → law.report_leaves_bad_bad M
report_leaves_bad M L s es p bad is =
    let G = report M.cluster M.holdings s (expanded es) in
    let m = there (get G.replicas p) (sym (ap (λ G. is_some (get G.replicas p)) (held_report M s es)) ∙ is) in
    (m.0, ap (λ G. get G.replicas p) (held_report M s es) ∙ m.1, bad_reported M.cluster M.holdings s (is_named (expanded es)) (stays_by M.cluster M.holdings s (expanded es)) L.holdings p m.0 bad (report_origin M.cluster M.holdings s (expanded es) p m.0 m.1))

pub received_leaves_bad : (M : State) → IsOrderly M → law.received_leaves_bad_bad M
received_leaves_bad M L s b stamp p bad is =
    let G = enter M.cluster M.holdings (replica_at b s) stamp in
    let m = there (get G.replicas p) (sym (ap (λ G. is_some (get G.replicas p)) (held_received M s b stamp)) ∙ is) in (
      m.0,
      ap (λ G. get G.replicas p) (held_received M s b stamp) ∙ m.1,
      bad_reported M.cluster M.holdings s (λ c. c == b) (λ q. not (replaces M.cluster (replica_at b s) q)) L.holdings p m.0 bad (enter_origin M.cluster M.holdings (replica_at b s) stamp p m.0 m.1),
    )
