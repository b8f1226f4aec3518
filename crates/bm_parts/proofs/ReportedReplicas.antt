-- A received replica or a full report, on a known storage, keeps lawful holdings lawful.
use Rattle.std.proofs.Common.{◌≡◌, ℕ, zero, suc, ◌+◌, ◌<◌, ◌≤◌, arith, Bool, true, false, not, ◌&&◌, Option, Some, None, List, [], ◌∷◌, map, is_some, IsTrue, refl, sym, ap, ◌∙◌, ◌⊎◌, inl, inr, eq-eqb, eqb-true}
use Rattle.std.specs.Prelude.{◌==◌, if◌then◌else◌}
use Rattle.std.specs.Option.{option_map_or}
use Rattle.std.specs.List.{list_any}
use Rattle.std.proofs.lemmas.Bool.{and_parts, or_left, or_right, not-true}
use Rattle.bm_base.specs.declared.replica.ReplicaId.{ReplicaId}
use Rattle.bm_base.specs.declared.replica.Tag.TheVariants.{Good, Stale, Bad, Stray}
use Rattle.bm_base.specs.declared.replica.Marks.{Marks}
use Rattle.bm_base.specs.declared.replica.Stamp.{Stamp}
use Rattle.bm_base.specs.declared.replica.BlockInfo.{BlockInfo}
use Rattle.bm_base.specs.declared.event.Entry.{Entry}
use Rattle.bm_base.specs.Words.{get, insert_all, keep, contains_key, Cluster, Holdings, replica_at, is_good, is_stray, are_siblings, ReportedBlock, range_from, run_length, blocks_of_entry, expanded, was_bad, was_excess, same_stamp, entered_tag, entered_marks, replaces, enter, is_named, leaves_by_report, report}
use Rattle.bm_base.specs.Promises.Lawful.{IsLawfulHoldings}
use Rattle.bm_base.proofs.Options.{there, is_there}
use Rattle.bm_base.proofs.ForEach.{Each, each_mapped, each_then, each_flat}
use Rattle.bm_base.proofs.MapEntries.{Holds, get_kept, get_removed, holds_insert_all}
use Rattle.bm_base.proofs.Clusters.{siblings_turned, no_sibling_itself}

not_stray : (bad same : Bool) → is_stray (if bad then Bad else if same then Good else Stale) ≡ false
not_stray true same = refl
not_stray false true = refl
not_stray false false = refl

stray_where_unknown : (bad : Bool) (stamp : Stamp) (z : Option BlockInfo) → is_stray (option_map_or (λ i. if bad then Bad else if same_stamp stamp i.stamp then Good else Stale) z Stray) ≡ not (is_some z)
stray_where_unknown bad stamp None = refl
stray_where_unknown bad stamp (Some i) = not_stray bad (same_stamp stamp i.stamp)

pub entered_stray : (H : Holdings) (q : ReplicaId) (stamp : Stamp) → is_stray (entered_marks H q stamp).tag ≡ not (contains_key H.blocks q.block)
unfolding entered_marks entered_tag
entered_stray H q stamp = stray_where_unknown (was_bad H q) stamp (get H.blocks q.block)

pub entered_excess : (H : Holdings) (q : ReplicaId) (stamp : Stamp) → IsTrue (entered_marks H q stamp).excess → IsTrue (is_good (entered_marks H q stamp).tag)
unfolding entered_marks
entered_excess H q stamp e = (and_parts (is_good (entered_tag H q stamp)) (was_excess H q) e).0

-- a replica that existed and stays
abbrev pub IsKept : Holdings → (ReplicaId → Bool) → ReplicaId → Marks → Type 0
IsKept H stays q m = (get H.replicas q ≡ Some m) × (stays q ≡ true)

-- a replica of a named block that is entered on storage s
abbrev pub IsPut : Holdings → ℕ → (ℕ → Bool) → ReplicaId → Marks → Type 0
IsPut H s named q m = (q.storage ≡ s) × (named q.block ≡ true) × (stamp : Stamp) × (m ≡ entered_marks H q stamp)

-- Some replicas of the holdings stay, and some of numbers that pass are entered on storage s.
module _ (C : Cluster) (H : Holdings) (s : ℕ) (named : ℕ → Bool) (stays : ReplicaId → Bool) where
  pub origin : (puts : List (ReplicaId × Marks)) → Each (λ e. IsPut H s named e.0 e.1) puts → Holds (λ q m. IsKept H stays q m ⊎ IsPut H s named q m) (insert_all (keep H.replicas (λ q _. stays q)) puts)
  origin puts each =
      holds_insert_all (λ q m. IsKept H stays q m ⊎ IsPut H s named q m) (keep H.replicas (λ q _. stays q)) puts
      (λ q m e. inl (get_kept H.replicas (λ q _. stays q) q m e)) (each_then (λ e. IsPut H s named e.0 e.1) (λ e. IsKept H stays e.0 e.1 ⊎ IsPut H s named e.0 e.1) puts each (λ e put. inr put))

  module _ (G : Holdings) (L : IsLawfulHoldings C H) (known : contains_key C.storages s ≡ true)
      (apart : (q : ReplicaId) → stays q ≡ true → named q.block ≡ true → are_siblings C s q.storage ≡ false)
      (from : Holds (λ q m. IsKept H stays q m ⊎ IsPut H s named q m) G.replicas)
      (pending : (q : ReplicaId) → is_some (get G.pending q) ≡ true → is_some (get H.pending q) ≡ true)
      (blocks : G.blocks ≡ H.blocks) where
    on_known : (q : ReplicaId) (m : Marks) → IsKept H stays q m ⊎ IsPut H s named q m → contains_key C.storages q.storage ≡ true
    on_known q m (inl was) = L.stored q (is_there (get H.replicas q) m was.0)
    on_known q m (inr put) = ap (contains_key C.storages) put.0 ∙ known

    alone : (p q : ReplicaId) (m n : Marks) → IsKept H stays p m ⊎ IsPut H s named p m → IsKept H stays q n ⊎ IsPut H s named q n → p.block ≡ q.block → are_siblings C p.storage q.storage ≡ false
    alone p q m n (inl was) (inl is) same = L.once p q (is_there (get H.replicas p) m was.0) (is_there (get H.replicas q) n is.0) same
    alone p q m n (inl was) (inr put) same = ap (are_siblings C p.storage) put.0 ∙ siblings_turned C p.storage s ∙ apart p was.1 (ap named same ∙ put.1)
    alone p q m n (inr put) (inl was) same = ap (λ t. are_siblings C t q.storage) put.0 ∙ apart q was.1 (sym (ap named same) ∙ put.1)
    alone p q m n (inr put) (inr too) same = (λ i. are_siblings C (put.0 i) (too.0 i)) ∙ no_sibling_itself C s

    stray_as_known : (q : ReplicaId) (m : Marks) → IsKept H stays q m ⊎ IsPut H s named q m → is_stray m.tag ≡ not (contains_key G.blocks q.block)
    stray_as_known q m (inl was) = L.strays q m was.0 ∙ ap (λ b. not (contains_key b q.block)) (sym blocks)
    stray_as_known q m (inr put) = ap (λ n. is_stray n.tag) put.3 ∙ entered_stray H q put.2 ∙ ap (λ b. not (contains_key b q.block)) (sym blocks)

    good_in_excess : (q : ReplicaId) (m : Marks) → IsKept H stays q m ⊎ IsPut H s named q m → IsTrue m.excess → IsTrue (is_good m.tag)
    good_in_excess q m (inl was) e = L.excess_is_good q m was.0 e
    good_in_excess q m (inr put) e = ap (λ n. is_good n.tag) put.3 ∙ entered_excess H q put.2 (sym (ap (λ n. n.excess) put.3) ∙ e)

    pub entering_lawful : IsLawfulHoldings C G
    entering_lawful = record {
      stored = λ q e. let m = there (get G.replicas q) e in on_known q m.0 (from q m.0 m.1);
      pending_stored = λ q e. L.pending_stored q (pending q e);
      once = λ p q e f same. let m = there (get G.replicas p) e in let n = there (get G.replicas q) f in alone p q m.0 n.0 (from p m.0 m.1) (from q n.0 n.1) same;
      strays = λ q m e. stray_as_known q m (from q m e);
      excess_is_good = λ q m e. good_in_excess q m (from q m e);
      pending_known = λ q e. ap (λ b. contains_key b q.block) blocks ∙ L.pending_known q (pending q e);
      replicated = λ b i e. L.replicated b i (ap (λ m. get m b) (sym blocks) ∙ e);
    }

-- One replica.

pub sibling_fails : (a b : Bool) → not (a && b) ≡ true → a ≡ true → b ≡ false
sibling_fails true b e h = not-true b e
sibling_fails false b e h = cc

module _ (C : Cluster) (H : Holdings) (p : ReplicaId) (stamp : Stamp) where
  pub enter_origin : Holds (λ q m. IsKept H (λ q. not (replaces C p q)) q m ⊎ IsPut H p.storage (λ b. b == p.block) q m) (enter C H p stamp).replicas
  unfolding enter
  enter_origin = origin C H p.storage (λ b. b == p.block) (λ q. not (replaces C p q)) ((p, entered_marks H p stamp) ∷ []) ((refl, eq-eqb p.block p.block refl, stamp, refl), tt)

  pub enter_pending : (q : ReplicaId) (r : ℕ) → get (enter C H p stamp).pending q ≡ Some r → get H.pending q ≡ Some r
  unfolding enter
  enter_pending q r e = (get_removed H.pending p q r e).1

  enter_apart : (q : ReplicaId) → not (replaces C p q) ≡ true → (q.block == p.block) ≡ true → are_siblings C p.storage q.storage ≡ false
  unfolding replaces
  enter_apart q e h = sibling_fails (q.block == p.block) (are_siblings C p.storage q.storage) e h

  enter_blocks : (enter C H p stamp).blocks ≡ H.blocks
  unfolding enter
  enter_blocks = refl

  pub enter_lawful : IsLawfulHoldings C H → contains_key C.storages p.storage ≡ true → IsLawfulHoldings C (enter C H p stamp)
  enter_lawful L known =
      entering_lawful C H p.storage (λ b. b == p.block) (λ q. not (replaces C p q)) (enter C H p stamp) L known enter_apart enter_origin
      (λ q e. let r = there (get (enter C H p stamp).pending q) e in is_there (get H.pending q) r.0 (enter_pending q r.0 r.1)) enter_blocks

-- A full report.

counted_below : (n k m : ℕ) → (0 < k → n + k ≤ m) → Each (λ b. b < m) (range_from n k)
counted_below n zero m h = tt
counted_below n (suc k) m h = let g : n + suc k ≤ m = h (omega arith) in (omega (arith, g), counted_below (suc n) k m (λ _. omega (arith, g)))

-- an entry names no number beyond its last
pub reported_below : (es : List Entry) (m : ℕ) → Each (λ (e : Entry). e.to < m) es → Each (λ (t : ReportedBlock). t.id < m) (expanded es)
unfolding expanded blocks_of_entry
reported_below es m each =
    each_flat (λ (t : ReportedBlock). t.id < m) blocks_of_entry es
    (each_then (λ (e : Entry). e.to < m) (λ e. Each (λ (t : ReportedBlock). t.id < m) (blocks_of_entry e)) es each (λ e h.
    each_mapped (λ (t : ReportedBlock). t.id < m) (λ b. record { id = b; stamp = e.stamp }) (range_from e.from (run_length e)) (counted_below e.from (run_length e) m (λ some. omega (arith, h, some)))))

abbrev leaves_by : Bool → Bool → Bool → Bool
leaves_by here named siblings = if here then not named else named && siblings

pub named_stays : (here named siblings : Bool) → (here ≡ true → siblings ≡ false) → not (leaves_by here named siblings) ≡ true → named ≡ true → siblings ≡ false
named_stays true named siblings own e h = own refl
named_stays false true siblings own e h = not-true siblings e
named_stays false false siblings own e h = cc

-- each listed number is named
each_named : (ts : List ReportedBlock) → Each (λ (x : ReportedBlock). is_named ts x.id ≡ true) ts
unfolding is_named
each_named [] = tt
each_named (x ∷ ts) = (
  or_left (x.id == x.id) (list_any (λ e. e.id == x.id) ts) (eq-eqb x.id x.id refl),
  each_then (λ y. list_any (λ e. e.id == y.id) ts ≡ true) (λ y. list_any (λ e. e.id == y.id) (x ∷ ts) ≡ true) ts (each_named ts) (λ y h. or_right (x.id == y.id) (list_any (λ e. e.id == y.id) ts) h),
)

module _ (C : Cluster) (H : Holdings) (s : ℕ) (ts : List ReportedBlock) where
  abbrev pub put_by : ReportedBlock → ReplicaId × Marks
  put_by e = (replica_at e.id s, entered_marks H (replica_at e.id s) e.stamp)

  abbrev pub stays_by : ReplicaId → Bool
  stays_by q = not (leaves_by_report C s ts q)

  pub report_origin : Holds (λ q m. IsKept H stays_by q m ⊎ IsPut H s (is_named ts) q m) (report C H s ts).replicas
  unfolding report
  report_origin =
      origin C H s (is_named ts) stays_by (map put_by ts)
      (each_mapped (λ e. IsPut H s (is_named ts) e.0 e.1) put_by ts
      (each_then (λ x. is_named ts x.id ≡ true) (λ x. IsPut H s (is_named ts) (put_by x).0 (put_by x).1) ts (each_named ts) (λ x h. (refl, h, x.stamp, refl))))

  pub report_pending : (q : ReplicaId) (r : ℕ) → get (report C H s ts).pending q ≡ Some r → get H.pending q ≡ Some r
  unfolding report
  report_pending q r e = (get_kept H.pending (λ q _. not ((q.storage == s) && is_named ts q.block)) q r e).0

  report_apart : (q : ReplicaId) → stays_by q ≡ true → is_named ts q.block ≡ true → are_siblings C s q.storage ≡ false
  unfolding leaves_by_report
  report_apart q e h =
      named_stays (q.storage == s) (is_named ts q.block) (are_siblings C s q.storage) (λ here. ap (are_siblings C s) (eqb-true q.storage s here) ∙ no_sibling_itself C s) e h

  report_blocks : (report C H s ts).blocks ≡ H.blocks
  unfolding report
  report_blocks = refl

  pub report_lawful : IsLawfulHoldings C H → contains_key C.storages s ≡ true → IsLawfulHoldings C (report C H s ts)
  report_lawful L known =
      entering_lawful C H s (is_named ts) stays_by (report C H s ts) L known report_apart report_origin
      (λ q e. let r = there (get (report C H s ts).pending q) e in is_there (get H.pending q) r.0 (report_pending q r.0 r.1)) report_blocks
