-- A report, then notices of new replicas, equal one report of all, but for the number of calls.
use Rattle.std.proofs.Common.{◌≡◌, ◌≢◌, ℕ, ◌+◌, Bool, true, false, cond, not, ◌&&◌, ◌||◌, Option, Some, None, List, [], ◌∷◌, ◌++◌, map, length, refl, sym, ap, subst, ◌∙◌, eqb-true, eq-eqb, ne_eqb, arith}
use Rattle.std.specs.Prelude.{◌==◌, if◌then◌else◌}
use Rattle.std.specs.Option.{option_or, option_map_or}
use Rattle.std.specs.Ordering.{eq_by_cmp}
use Rattle.std.proofs.lemmas.Bool.{eqb-false, and_right, or_left, or_right}
use Rattle.std.proofs.lemmas.List.{append-nil, append_assoc}
use Rattle.std.proofs.Math.Bool.{or-false}
use Rattle.std.proofs.lemmas.List.Folds.{list_any-append}
use Rattle.bm_base.specs.declared.replica.ReplicaId.{ReplicaId}
use Rattle.bm_base.specs.declared.replica.Tag.TheVariants.{Good, Stale}
use Rattle.bm_base.specs.declared.replica.Stamp.{Stamp}
use Rattle.bm_base.specs.declared.replica.BlockInfo.{BlockInfo}
use Rattle.bm_base.specs.declared.event.Entry.{Entry}
use Rattle.bm_base.specs.declared.event.Event.TheVariants.{Received, FullReport}
use Rattle.bm_base.specs.Words.{get, keep, has, Cluster, Holdings, State, replica_at, replica_cmp, is_good, is_bad, are_siblings, ReportedBlock, expanded, was_bad, was_excess, same_stamp, entered_tag, entered_marks, replaces, enter, is_named, leaves_by_report, report, change_cluster, change_holdings, after_event}
use Rattle.bm_base.proofs.MapLaws.{same_map, get-insert, get-keep, get-remove}
use Rattle.bm_base.proofs.Ties.{replica_tie}
use Rattle.bm_base.proofs.Clusters.{eqb_turned}
use Rattle.bm_base.proofs.Entries.{expanded-++}
use Rattle.bm_base.proofs.Options.{staying, all_stays}
use Rattle.bm_base.proofs.ForEach.{Each}
use Rattle.bm_parts.proofs.ReportedReplicas.{stays_by}
use Rattle.laws_of_events.proofs.ReportedMarks.{tag_where}
use Rattle.laws_of_events.proofs.ReportedReplicas.{last_is, put_or, reported_here, reported_elsewhere}
use Rattle.laws_of_events.specs.Reports as law
use Rattle.laws_of_events.specs.Runs.{last_stamp}

-- Lists with one more replica.

last_other : (ts : List ReportedBlock) (t : ReportedBlock) (b : ℕ) → (t.id == b) ≡ false → last_stamp (ts ++ (t ∷ [])) b ≡ last_stamp ts b
last_other [] t b e = ap (λ c. if c then Some t.stamp else None) e
last_other (x ∷ ts) t b e = ap (λ o. option_or o (if x.id == b then Some x.stamp else None)) (last_other ts t b e)

named_more : (ts : List ReportedBlock) (t : ReportedBlock) (b : ℕ) → is_named (ts ++ (t ∷ [])) b ≡ (is_named ts b || (t.id == b))
unfolding is_named
named_more ts t b = list_any-append (λ u. u.id == b) ts (t ∷ []) ∙ ap (λ x. is_named ts b || x) (or-false (t.id == b))

-- A replica that was not there: once it is entered, it is neither bad nor in excess.

tag_not_bad : (same : Bool) → is_bad (if same then Good else Stale) ≡ false
tag_not_bad true = refl
tag_not_bad false = refl

where_not_bad : (stamp : Stamp) (z : Option BlockInfo) → is_bad (tag_where false stamp z) ≡ false
where_not_bad stamp None = refl
where_not_bad stamp (Some i) = tag_not_bad (same_stamp stamp i.stamp)

module _ (H : Holdings) (p : ReplicaId) (none : get H.replicas p ≡ None) where
  first_not_bad : was_bad H p ≡ false
  unfolding was_bad
  first_not_bad = ap (λ o. option_map_or (λ m. is_bad m.tag) o false) none

  first_not_excess : was_excess H p ≡ false
  unfolding was_excess
  first_not_excess = ap (λ o. option_map_or (λ m. m.excess) o false) none

  enters_not_bad : (stamp : Stamp) → is_bad (entered_marks H p stamp).tag ≡ false
  unfolding entered_marks entered_tag
  enters_not_bad stamp = ap (λ b. is_bad (tag_where b stamp (get H.blocks p.block))) first_not_bad ∙ where_not_bad stamp (get H.blocks p.block)

  enters_not_excess : (stamp : Stamp) → (entered_marks H p stamp).excess ≡ false
  unfolding entered_marks
  enters_not_excess stamp = ap (λ x. is_good (entered_tag H p stamp) && x) first_not_excess ∙ and_right (is_good (entered_tag H p stamp)) false refl

entered_alike : (G H : Holdings) (p : ReplicaId) (stamp : Stamp) → G.blocks ≡ H.blocks → was_bad G p ≡ was_bad H p → was_excess G p ≡ was_excess H p → entered_marks G p stamp ≡ entered_marks H p stamp
unfolding entered_marks entered_tag
entered_alike G H p stamp blocks bad excess =
    let tag : entered_tag G p stamp ≡ entered_tag H p stamp = λ i. tag_where (bad i) stamp (get (blocks i) p.block) in
    λ i. record { tag = tag i; excess = is_good (tag i) && excess i; ordered = false }

-- Which replicas on other storages stay, and which transfers: two tests in turn are one.

stay_apart : {X : Type 0} (named this siblings : Bool) (z : Option X) → staying (not ((named || this) && siblings)) z ≡ staying (not (this && siblings)) (staying (not (named && siblings)) z)
stay_apart named this siblings None = refl
stay_apart true true true (Some x) = refl
stay_apart true true false (Some x) = refl
stay_apart true false true (Some x) = refl
stay_apart true false false (Some x) = refl
stay_apart false true true (Some x) = refl
stay_apart false true false (Some x) = refl
stay_apart false false true (Some x) = refl
stay_apart false false false (Some x) = refl

arrive_apart : {X : Type 0} (here named this : Bool) (z : Option X) → staying (not (here && (named || this))) z ≡ cond (this && here) None (staying (not (here && named)) z)
arrive_apart true named true None = refl
arrive_apart true named false None = refl
arrive_apart false named true None = refl
arrive_apart false named false None = refl
arrive_apart true true true (Some x) = refl
arrive_apart true true false (Some x) = refl
arrive_apart true false true (Some x) = refl
arrive_apart true false false (Some x) = refl
arrive_apart false true true (Some x) = refl
arrive_apart false true false (Some x) = refl
arrive_apart false false true (Some x) = refl
arrive_apart false false false (Some x) = refl

found_entered : (C : Cluster) (G : Holdings) (p : ReplicaId) (stamp : Stamp) (q : ReplicaId) (tied : Bool)
    → eq_by_cmp replica_cmp q p ≡ tied → get (enter C G p stamp).replicas q ≡ cond tied (Some (entered_marks G p stamp)) (staying (not (replaces C p q)) (get G.replicas q))
unfolding enter
found_entered C G p stamp q tied e =
    let stay = keep G.replicas (λ q _. not (replaces C p q)) in
    get-insert stay p (entered_marks G p stamp) q ∙ (λ i. cond (e i) (Some (entered_marks G p stamp)) (get-keep G.replicas (λ q _. not (replaces C p q)) q i))

-- A report with one more replica leaves what the report and a notice of that replica leave.

module _ (C : Cluster) (H : Holdings) (s : ℕ) (ts : List ReportedBlock) (t : ReportedBlock) (none : get H.replicas (replica_at t.id s) ≡ None) where
  abbrev afterwards : Holdings
  afterwards = report C H s ts

  abbrev more : List ReportedBlock
  more = ts ++ (t ∷ [])

  abbrev this : ReplicaId
  this = replica_at t.id s

  afterwards_blocks : afterwards.blocks ≡ H.blocks
  unfolding report
  afterwards_blocks = refl

  -- the replica as the report leaves it
  afterwards_this : get afterwards.replicas this ≡ put_or C H s t.id (last_stamp ts t.id) None
  afterwards_this =
      reported_here C H s ts t.id
      ∙ ap (put_or C H s t.id (last_stamp ts t.id)) (get-keep H.replicas (λ q _. stays_by C H s ts q) this ∙ ap (staying (stays_by C H s ts this)) none)

  put_not_bad : (o : Option Stamp) → option_map_or (λ m. is_bad m.tag) (put_or C H s t.id o None) false ≡ false
  put_not_bad None = refl
  put_not_bad (Some x) = enters_not_bad H this none x

  put_not_excess : (o : Option Stamp) → option_map_or (λ m. m.excess) (put_or C H s t.id o None) false ≡ false
  put_not_excess None = refl
  put_not_excess (Some x) = enters_not_excess H this none x

  still_not_bad : was_bad afterwards this ≡ was_bad H this
  unfolding was_bad
  still_not_bad = ap (λ o. option_map_or (λ m. is_bad m.tag) o false) afterwards_this ∙ put_not_bad (last_stamp ts t.id) ∙ sym (first_not_bad H this none)

  still_not_excess : was_excess afterwards this ≡ was_excess H this
  unfolding was_excess
  still_not_excess = ap (λ o. option_map_or (λ m. m.excess) o false) afterwards_this ∙ put_not_excess (last_stamp ts t.id) ∙ sym (first_not_excess H this none)

  same_entered : entered_marks afterwards this t.stamp ≡ entered_marks H this t.stamp
  same_entered = entered_alike afterwards H this t.stamp afterwards_blocks still_not_bad still_not_excess

  -- the replica itself
  more_this : get (report C H s more).replicas this ≡ get (enter C afterwards this t.stamp).replicas this
  more_this =
      reported_here C H s more t.id
      ∙ ap (λ o. put_or C H s t.id o (get (keep H.replicas (λ q _. stays_by C H s more q)) this)) (last_is ts t [] refl)
      ∙ ap Some (sym same_entered)
      ∙ sym (found_entered C afterwards this t.stamp this true (replica_tie this this ∙ (λ i. eq-eqb t.id t.id refl i && eq-eqb s s refl i)))

  -- others on the storage
  same_stays : (b : ℕ) → (t.id == b) ≡ false → stays_by C H s more (replica_at b s) ≡ stays_by C H s ts (replica_at b s)
  unfolding leaves_by_report
  same_stays b e = ap (λ n. not (if s == s then not n else n && are_siblings C s s)) (named_more ts t b ∙ ap (λ x. is_named ts b || x) e ∙ or-false (is_named ts b))

  other_stays : (q : ReplicaId) → (q.block == t.id) ≡ false → not (replaces C this q) ≡ true
  unfolding replaces
  other_stays q e = ap (λ x. not (x && are_siblings C s q.storage)) e

  more_here : (b : ℕ) → (t.id == b) ≡ false → get (report C H s more).replicas (replica_at b s) ≡ get (enter C afterwards this t.stamp).replicas (replica_at b s)
  more_here b e =
      let f : (b == t.id) ≡ false = eqb_turned b t.id ∙ e in
      reported_here C H s more b
      ∙ (λ i. put_or C H s b (last_other ts t b e i) ((get-keep H.replicas (λ q _. stays_by C H s more q) (replica_at b s) ∙ ap (λ x. staying x (get H.replicas (replica_at b s))) (same_stays b e) ∙ sym (get-keep H.replicas (λ q _. stays_by C H s ts q) (replica_at b s))) i))
      ∙ sym (reported_here C H s ts b)
      ∙ sym (all_stays (not (replaces C this (replica_at b s))) (get afterwards.replicas (replica_at b s)) (other_stays (replica_at b s) f))
      ∙ sym (found_entered C afterwards this t.stamp (replica_at b s) false (replica_tie (replica_at b s) this ∙ ap (λ x. x && (s == s)) f))

  -- replicas on other storages
  elsewhere_stays : (us : List ReportedBlock) (q : ReplicaId) → q.storage ≢ s → stays_by C H s us q ≡ not (is_named us q.block && are_siblings C s q.storage)
  unfolding leaves_by_report
  elsewhere_stays us q other = ap (λ c. not (if c then not (is_named us q.block) else is_named us q.block && are_siblings C s q.storage)) (ne_eqb q.storage s other)

  replaces_is : (q : ReplicaId) → replaces C this q ≡ ((t.id == q.block) && are_siblings C s q.storage)
  unfolding replaces
  replaces_is q = ap (λ x. x && are_siblings C s q.storage) (eqb_turned q.block t.id)

  found_elsewhere : (us : List ReportedBlock) (q : ReplicaId) → q.storage ≢ s → get (report C H s us).replicas q ≡ staying (not (is_named us q.block && are_siblings C s q.storage)) (get H.replicas q)
  found_elsewhere us q other =
      reported_elsewhere C H s us q other ∙ get-keep H.replicas (λ q _. stays_by C H s us q) q ∙ ap (λ x. staying x (get H.replicas q)) (elsewhere_stays us q other)

  more_elsewhere : (q : ReplicaId) → q.storage ≢ s → get (report C H s more).replicas q ≡ get (enter C afterwards this t.stamp).replicas q
  more_elsewhere q other =
      found_elsewhere more q other
      ∙ ap (λ n. staying (not (n && are_siblings C s q.storage)) (get H.replicas q)) (named_more ts t q.block)
      ∙ stay_apart (is_named ts q.block) (t.id == q.block) (are_siblings C s q.storage) (get H.replicas q)
      ∙ (λ i. staying (not (sym (replaces_is q) i)) (sym (found_elsewhere ts q other) i))
      ∙ sym (found_entered C afterwards this t.stamp q false (replica_tie q this ∙ ap (λ x. (q.block == t.id) && x) (ne_eqb q.storage s other) ∙ and_right (q.block == t.id) false refl))

  more_on : (b : ℕ) → get (report C H s more).replicas (replica_at b s) ≡ get (enter C afterwards this t.stamp).replicas (replica_at b s)
  more_on b =
      elim (t.id == b) as (λ x. (t.id == b) ≡ x → get (report C H s more).replicas (replica_at b s) ≡ get (enter C afterwards this t.stamp).replicas (replica_at b s)) [
        | true ↦ λ x. subst (λ c. get (report C H s more).replicas (replica_at c s) ≡ get (enter C afterwards this t.stamp).replicas (replica_at c s)) (eqb-true t.id b x) more_this
        | false ↦ λ x. more_here b x
      ] refl

  more_at : (q : ReplicaId) → get (report C H s more).replicas q ≡ get (enter C afterwards this t.stamp).replicas q
  more_at q =
      elim (q.storage == s) as (λ x. (q.storage == s) ≡ x → get (report C H s more).replicas q ≡ get (enter C afterwards this t.stamp).replicas q) [
        | true ↦ λ x. subst (λ c. get (report C H s more).replicas (replica_at q.block c) ≡ get (enter C afterwards this t.stamp).replicas (replica_at q.block c)) (sym (eqb-true q.storage s x)) (more_on q.block)
        | false ↦ λ x. more_elsewhere q (eqb-false q.storage s x)
      ] refl

  -- pending transfers
  on_way : (us : List ReportedBlock) (q : ReplicaId) → get (report C H s us).pending q ≡ staying (not ((q.storage == s) && is_named us q.block)) (get H.pending q)
  unfolding report
  on_way us q = get-keep H.pending (λ q _. not ((q.storage == s) && is_named us q.block)) q

  on_way_entered : (q : ReplicaId) → get (enter C afterwards this t.stamp).pending q ≡ cond ((t.id == q.block) && (q.storage == s)) None (get afterwards.pending q)
  unfolding enter
  on_way_entered q = get-remove afterwards.pending this q ∙ ap (λ x. cond x None (get afterwards.pending q)) (replica_tie q this ∙ ap (λ x. x && (q.storage == s)) (eqb_turned q.block t.id))

  more_on_way : (q : ReplicaId) → get (report C H s more).pending q ≡ get (enter C afterwards this t.stamp).pending q
  more_on_way q =
      on_way more q
      ∙ ap (λ n. staying (not ((q.storage == s) && n)) (get H.pending q)) (named_more ts t q.block)
      ∙ arrive_apart (q.storage == s) (is_named ts q.block) (t.id == q.block) (get H.pending q)
      ∙ ap (cond ((t.id == q.block) && (q.storage == s)) None) (sym (on_way ts q))
      ∙ sym (on_way_entered q)

  more_blocks : (report C H s more).blocks ≡ (enter C afterwards this t.stamp).blocks
  unfolding report enter
  more_blocks = refl

  one_more : report C H s more ≡ enter C afterwards this t.stamp
  one_more =
      let replicas : (report C H s more).replicas ≡ (enter C afterwards this t.stamp).replicas = same_map _ _ more_at in
      let pending : (report C H s more).pending ≡ (enter C afterwards this t.stamp).pending = same_map _ _ more_on_way in
      λ i. record { blocks = more_blocks i; replicas = replicas i; pending = pending i }

-- The states.

abbrev reported : State → ℕ → List ReportedBlock → ℕ → State
reported M s ts k = record M { holdings = report M.cluster M.holdings s ts; calls = k }

report_leaves : (M : State) (s : ℕ) (es : List Entry) → after_event M (FullReport s es) ≡ reported M s (expanded es) (M.calls + 1)
unfolding after_event change_cluster change_holdings
report_leaves M s es = refl

notice_leaves : (M : State) (s : ℕ) (ts : List ReportedBlock) (k : ℕ) (t : ReportedBlock)
    → after_event (reported M s ts k) (Received s t.id t.stamp) ≡ record M { holdings = enter M.cluster (report M.cluster M.holdings s ts) (replica_at t.id s) t.stamp; calls = k + 1 }
unfolding after_event change_cluster change_holdings
notice_leaves M s ts k t = refl

notices_leave : (M : State) (s : ℕ) (ts us : List ReportedBlock) (k : ℕ) → Each (λ (u : ReportedBlock). get M.holdings.replicas (replica_at u.id s) ≡ None) us
    → law.after_each_received (reported M s ts k) s us ≡ reported M s (ts ++ us) (k + length us)
notices_leave M s ts [] k h = let sum : k ≡ k + 0 = omega arith in λ i. reported M s (sym (append-nil ts) i) (sum i)
notices_leave M s ts (t ∷ us) k h =
    let sum : k + 1 + length us ≡ k + length (t ∷ us) = omega arith in
    ap (λ N. law.after_each_received N s us) (notice_leaves M s ts k t ∙ ap (λ G. record M { holdings = G; calls = k + 1 }) (sym (one_more M.cluster M.holdings s ts t h.0)))
    ∙ notices_leave M s (ts ++ (t ∷ [])) us (k + 1) h.1
    ∙ (λ i. reported M s (append_assoc ts (t ∷ []) us i) (sum i))

not_held : (H : Holdings) (s : ℕ) (us : List ReportedBlock) → ((b : ℕ) → has (map (λ (u : ReportedBlock). u.id) us) b ≡ true → get H.replicas (replica_at b s) ≡ None) → Each (λ (u : ReportedBlock). get H.replicas (replica_at u.id s) ≡ None) us
not_held H s [] h = tt
not_held H s (u ∷ us) h =
    (h u.id (or_left (u.id == u.id) (has (map (λ (u : ReportedBlock). u.id) us) u.id) (eq-eqb u.id u.id refl)), not_held H s us (λ b e. h b (or_right (u.id == b) (has (map (λ (u : ReportedBlock). u.id) us) b) e)))

pub in_parts : law.report_in_parts
in_parts M s front behind none =
    let k = M.calls + 1 + length (expanded behind) in
    ap (λ N. law.after_each_received N s (expanded behind)) (report_leaves M s front)
    ∙ notices_leave M s (expanded front) (expanded behind) (M.calls + 1) (not_held M.holdings s (expanded behind) none)
    ∙ ap (λ us. reported M s us k) (sym (expanded-++ front behind))
    ∙ ap {A = State} {B = State} (λ N. record N { calls = k }) (sym (report_leaves M s (front ++ behind)))
