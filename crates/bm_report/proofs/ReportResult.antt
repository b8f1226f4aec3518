-- Entering named blocks, sweeping others and dropping invalid excess gives a report's replicas.
use Rattle.std.proofs.Common.{◌≡◌, ℕ, Bool, true, false, cond, not, ◌&&◌, ◌||◌, List, [], ◌∷◌, map, Option, Some, None, is_some, IsSome, refl, inl, inr, sym, ap, ◌∙◌, eqb-true, eqb}
use Rattle.std.specs.Prelude.{◌==◌, if◌then◌else◌}
use Rattle.std.specs.List.{list_any}
use Rattle.std.specs.Option.{option_map, option_map_or, option_or}
use Rattle.std.proofs.lemmas.Bool.{cases_Bool}
use Rattle.std.proofs.Math.Bool.{and-true, and-false, and_self_left}
use Rattle.bm_base.specs.declared.replica.ReplicaId.{ReplicaId}
use Rattle.bm_base.specs.declared.replica.Tag.TheVariants.{Good, Stale, Bad}
use Rattle.bm_base.specs.declared.replica.Marks.{Marks}
use Rattle.bm_base.specs.declared.replica.Stamp.{Stamp}
use Rattle.bm_base.specs.declared.replica.BlockInfo.{BlockInfo}
use Rattle.bm_base.specs.Words.{ReportedBlock, Map, by_number, get, insert, insert_all, keep, remove, Cluster, Holdings, replica_at, is_good, is_bad, are_siblings, same_stamp, was_bad, was_excess, entered_tag, entered_marks, replaces, is_named, leaves_by_report, report}
use Rattle.bm_base.proofs.MapLaws.{same_map, get-insert, get-keep, get-remove}
use Rattle.bm_base.proofs.Ties.{replica_tie}
use Rattle.bm_report.specs.declared.types.ReportedSlot.{ReportedSlot}
use Rattle.bm_report.specs.DuringReport.{marks_during_report, without_invalid_excess, entered_one, entered_all, out_all, invalid_excess_out_one, invalid_excess_out_all, reported_of}
use Rattle.bm_base.proofs.Clusters.{no_sibling_itself, eqb_turned}
use Rattle.bm_report.proofs.Maps.{Held, tie, tied}
use Rattle.bm_report.proofs.OncePerNode.{get-entered_at, kept_as}
use Rattle.bm_report.proofs.EnteredChain.{entered_one_is}

-- the stamp that counts for a named block: that of its last entry
abbrev pub last_stamp : List ReportedSlot → ℕ → Option Stamp
last_stamp [] b = None
last_stamp (n ∷ ns) b = option_or (last_stamp ns b) (if n.id == b then Some n.stamp else None)

-- The marks of a block that is named twice.

twice : (i : Option BlockInfo) (w : Option Marks) (x y : Stamp) → marks_during_report i (Some (marks_during_report i w x)) y ≡ marks_during_report i w y
twice None w x y = refl
twice (Some i) None x y = λ j. record { tag = tag_of (same_stamp x i.stamp) j; excess = false; ordered = false }
  where
    tag_of : (b : Bool) → cond (is_bad (cond b Good Stale)) Bad (cond (same_stamp y i.stamp) Good Stale) ≡ cond (same_stamp y i.stamp) Good Stale
    tag_of true = refl
    tag_of false = refl
twice (Some i) (Some m) x y = λ j. record { tag = tag_of (is_bad m.tag) (same_stamp x i.stamp) j; excess = m.excess; ordered = false }
  where
    tag_of : (b c : Bool) → cond (is_bad (cond b Bad (cond c Good Stale))) Bad (cond (same_stamp y i.stamp) Good Stale) ≡ cond b Bad (cond (same_stamp y i.stamp) Good Stale)
    tag_of true c = refl
    tag_of false true = refl
    tag_of false false = refl

-- The map after all named blocks were entered.

abbrev enter_marks : Map by_number BlockInfo → Option Marks → ℕ → Option Stamp → Option Marks
enter_marks B w b o = option_map_or (λ st. Some (marks_during_report (get B b) w st)) o w

own_tie : (q : ReplicaId) (b s : ℕ) → (q.storage == s) ≡ true → tie q (replica_at b s) ≡ (q.block == b)
own_tie q b s own = replica_tie q (replica_at b s) ∙ ap (λ t. (q.block == b) && t) own ∙ and-true (q.block == b)

other_tie : (q : ReplicaId) (b s : ℕ) → (q.storage == s) ≡ false → tie q (replica_at b s) ≡ false
other_tie q b s other = replica_tie q (replica_at b s) ∙ ap (λ t. (q.block == b) && t) other ∙ and-false (q.block == b)

own_kept : (C : Cluster) (q : ReplicaId) (b s : ℕ) → (q.storage == s) ≡ true → replaces C (replica_at b s) q ≡ false
unfolding replaces
own_kept C q b s own = ap (λ t. (q.block == b) && t) (ap (are_siblings C s) (eqb-true q.storage s own) ∙ no_sibling_itself C s) ∙ and-false (q.block == b)

module _ (C : Cluster) (B : Map by_number BlockInfo) (s : ℕ) where
  -- one block was entered: replicas on s, and elsewhere
  one_own : (n : ReportedSlot) (K : Held) (q : ReplicaId) → (q.storage == s) ≡ true → get (entered_one C B s n K) q ≡ enter_marks B (get K q) q.block (cond (n.id == q.block) (Some n.stamp) None)
  one_own n K q own =
      ap (λ L. get L q) (entered_one_is C B s n K) ∙ get-entered_at C K (replica_at n.id s) (marks_during_report (get B n.id) (get K (replica_at n.id s)) n.stamp) q
      ∙ ap (λ r. cond (tie q (replica_at n.id s)) (Some (marks_during_report (get B n.id) (get K (replica_at n.id s)) n.stamp)) (cond (not r) (get K q) None)) (own_kept C q n.id s own)
      ∙ elim (cases_Bool (eqb q.block n.id)) [
        | inl same ↦
            let it : tie q (replica_at n.id s) ≡ true = own_tie q n.id s own ∙ same in
            let is : replica_at n.id s ≡ q = sym (tied q (replica_at n.id s) it) in
            ap (λ t. cond t (Some (marks_during_report (get B n.id) (get K (replica_at n.id s)) n.stamp)) (get K q)) it
            ∙ ap (λ (k : ReplicaId). Some (marks_during_report (get B k.block) (get K k) n.stamp)) is
            ∙ sym (ap (λ t. enter_marks B (get K q) q.block (cond t (Some n.stamp) None)) (eqb_turned n.id q.block ∙ same))
        | inr differs ↦
            ap (λ t. cond t (Some (marks_during_report (get B n.id) (get K (replica_at n.id s)) n.stamp)) (get K q)) (own_tie q n.id s own ∙ differs)
            ∙ sym (ap (λ t. enter_marks B (get K q) q.block (cond t (Some n.stamp) None)) (eqb_turned n.id q.block ∙ differs))
      ]

  again : (b : ℕ) (w : Option Marks) (x y : Option Stamp) → enter_marks B (enter_marks B w b y) b x ≡ enter_marks B w b (option_or x y)
  again b w None y = refl
  again b w (Some x) None = refl
  again b w (Some x) (Some y) = ap (λ m. Some m) (twice (get B b) w y x)

  pub entered-own : (ns : List ReportedSlot) (K : Held) (q : ReplicaId) → (q.storage == s) ≡ true → get (entered_all C B s ns K) q ≡ enter_marks B (get K q) q.block (last_stamp ns q.block)
  entered-own [] K q own = refl
  entered-own (n ∷ ns) K q own =
      entered-own ns (entered_one C B s n K) q own ∙ ap (λ w. enter_marks B w q.block (last_stamp ns q.block)) (one_own n K q own)
      ∙ again q.block (get K q) (last_stamp ns q.block) (cond (n.id == q.block) (Some n.stamp) None)

  one_other : (n : ReportedSlot) (K : Held) (q : ReplicaId) → (q.storage == s) ≡ false → get (entered_one C B s n K) q ≡ cond ((n.id == q.block) && are_siblings C s q.storage) None (get K q)
  unfolding replaces
  one_other n K q other =
      ap (λ L. get L q) (entered_one_is C B s n K) ∙ get-entered_at C K (replica_at n.id s) (marks_during_report (get B n.id) (get K (replica_at n.id s)) n.stamp) q
      ∙ ap (λ t. cond t (Some (marks_during_report (get B n.id) (get K (replica_at n.id s)) n.stamp)) (cond (not (replaces C (replica_at n.id s) q)) (get K q) None)) (other_tie q n.id s other)
      ∙ turn ((q.block == n.id) && are_siblings C s q.storage) (get K q)
      ∙ ap (λ t. cond (t && are_siblings C s q.storage) None (get K q)) (eqb_turned q.block n.id)
    where
      turn : (b : Bool) (z : Option Marks) → cond (not b) z None ≡ cond b None z
      turn true z = refl
      turn false z = refl

  pub entered-other : (ns : List ReportedSlot) (K : Held) (q : ReplicaId) → (q.storage == s) ≡ false → get (entered_all C B s ns K) q ≡ cond (is_some (last_stamp ns q.block) && are_siblings C s q.storage) None (get K q)
  entered-other [] K q other = refl
  entered-other (n ∷ ns) K q other =
      entered-other ns (entered_one C B s n K) q other
      ∙ ap (λ w. cond (is_some (last_stamp ns q.block) && are_siblings C s q.storage) None w) (one_other n K q other)
      ∙ joined (last_stamp ns q.block) (n.id == q.block) (are_siblings C s q.storage) (get K q)
    where
      joined : (l : Option Stamp) (t y : Bool) (z : Option Marks) → cond (is_some l && y) None (cond (t && y) None z) ≡ cond (is_some (option_or l (cond t (Some n.stamp) None)) && y) None z
      joined None true true z = refl
      joined None true false z = refl
      joined None false true z = refl
      joined None false false z = refl
      joined (Some l) true true z = refl
      joined (Some l) true false z = refl
      joined (Some l) false true z = refl
      joined (Some l) false false z = refl

-- the replicas after the sweep
pub out-at : (s : ℕ) (bs : List ℕ) (K : Held) (q : ReplicaId) → get (out_all s bs K) q ≡ cond ((q.storage == s) && list_any (λ b. b == q.block) bs) None (get K q)
out-at s [] K q = sym (never (q.storage == s) (get K q))
  where
    never : (x : Bool) (z : Option Marks) → cond (x && false) None z ≡ z
    never true z = refl
    never false z = refl
out-at s (b ∷ bs) K q =
    out-at s bs (remove K (replica_at b s)) q
    ∙ ap (λ w. cond ((q.storage == s) && list_any (λ k. k == q.block) bs) None w) (get-remove K (replica_at b s) q ∙ ap (λ t. cond t None (get K q)) (replica_tie q (replica_at b s)))
    ∙ joined (q.storage == s) (q.block == b) (list_any (λ k. k == q.block) bs) (get K q)
    ∙ ap (λ t. cond ((q.storage == s) && (t || list_any (λ k. k == q.block) bs)) None (get K q)) (eqb_turned q.block b)
  where
    joined : (x y a : Bool) (z : Option Marks) → cond (x && a) None (cond (y && x) None z) ≡ cond (x && (y || a)) None z
    joined true true true z = refl
    joined true true false z = refl
    joined true false true z = refl
    joined true false false z = refl
    joined false true a z = refl
    joined false false a z = refl

-- The replicas after invalid excess was dropped.

dropped_twice : (o : Option Marks) → option_map without_invalid_excess (option_map without_invalid_excess o) ≡ option_map without_invalid_excess o
dropped_twice None = refl
dropped_twice (Some m) = ap (λ e. Some (record m { excess = e })) (and_self_left (is_good m.tag) m.excess)

invalid_excess_out_one-at : (s b : ℕ) (K : Held) (q : ReplicaId) → get (invalid_excess_out_one s b K) q ≡ cond (tie q (replica_at b s)) (option_map without_invalid_excess (get K q)) (get K q)
invalid_excess_out_one-at s b K q = by (get K (replica_at b s)) refl
  where
    by : (o : Option Marks) → get K (replica_at b s) ≡ o → get (option_map_or (λ m. insert K (replica_at b s) (without_invalid_excess m)) o K) q ≡ cond (tie q (replica_at b s)) (option_map without_invalid_excess (get K q)) (get K q)
    by None e =
        elim (cases_Bool (tie q (replica_at b s))) [
          | inl it ↦
              let none : get K q ≡ None = ap (get K) (tied q (replica_at b s) it) ∙ e in
              rw it (none ∙ sym (ap (option_map without_invalid_excess) none))
          | inr other ↦ rw other refl
        ]
    by (Some m) e =
        get-insert K (replica_at b s) (without_invalid_excess m) q
        ∙ elim (cases_Bool (tie q (replica_at b s))) [
          | inl it ↦
              let some : get K q ≡ Some m = ap (get K) (tied q (replica_at b s) it) ∙ e in
              rw it (sym (ap (option_map without_invalid_excess) some))
          | inr other ↦ rw other refl
        ]

pub invalid_excess_out_all-at : (s : ℕ) (ns : List ReportedSlot) (K : Held) (q : ReplicaId)
    → get (invalid_excess_out_all s ns K) q ≡ cond ((q.storage == s) && is_some (last_stamp ns q.block)) (option_map without_invalid_excess (get K q)) (get K q)
invalid_excess_out_all-at s [] K q = sym (never (q.storage == s) (option_map without_invalid_excess (get K q)) (get K q))
  where
    never : (x : Bool) (y z : Option Marks) → cond (x && false) y z ≡ z
    never true y z = refl
    never false y z = refl
invalid_excess_out_all-at s (n ∷ ns) K q =
    invalid_excess_out_all-at s ns (invalid_excess_out_one s n.id K) q
    ∙ ap (λ w. cond ((q.storage == s) && is_some (last_stamp ns q.block)) (option_map without_invalid_excess w) w) (invalid_excess_out_one-at s n.id K q ∙ ap (λ t. cond t (option_map without_invalid_excess (get K q)) (get K q)) (replica_tie q (replica_at n.id s)))
    ∙ joined (q.storage == s) (q.block == n.id) (last_stamp ns q.block) (get K q)
    ∙ ap (λ t. cond ((q.storage == s) && is_some (option_or (last_stamp ns q.block) (cond t (Some n.stamp) None))) (option_map without_invalid_excess (get K q)) (get K q)) (eqb_turned q.block n.id)
  where
    joined : (x y : Bool) (l : Option Stamp) (z : Option Marks)
        → cond (x && is_some l) (option_map without_invalid_excess (cond (y && x) (option_map without_invalid_excess z) z)) (cond (y && x) (option_map without_invalid_excess z) z)
        ≡ cond (x && is_some (option_or l (cond y (Some n.stamp) None))) (option_map without_invalid_excess z) z
    joined true true None z = refl
    joined true true (Some l) z = dropped_twice z
    joined true false None z = refl
    joined true false (Some l) z = refl
    joined false true l z = refl
    joined false false l z = refl

-- The report of the definition.

module _ (C : Cluster) (H : Holdings) (s : ℕ) where
  abbrev put_by : ReportedBlock → ReplicaId × Marks
  put_by e = (replica_at e.id s, entered_marks H (replica_at e.id s) e.stamp)

  abbrev last_of : List (ReplicaId × Marks) → ReplicaId → Option Marks
  last_of [] q = None
  last_of (x ∷ xs) q = option_or (last_of xs q) (cond (tie q x.0) (Some x.1) None)

  get-insert_all : (xs : List (ReplicaId × Marks)) (m : Held) (q : ReplicaId) → get (insert_all m xs) q ≡ option_or (last_of xs q) (get m q)
  get-insert_all [] m q = refl
  get-insert_all (x ∷ xs) m q =
      get-insert_all xs (insert m x.0 x.1) q ∙ ap (option_or (last_of xs q)) (get-insert m x.0 x.1 q) ∙ joined (last_of xs q) (tie q x.0) x.1 (get m q)
    where
      joined : (l : Option Marks) (t : Bool) (v : Marks) (z : Option Marks) → option_or l (cond t (Some v) z) ≡ option_or (option_or l (cond t (Some v) None)) z
      joined None true v z = refl
      joined None false v z = refl
      joined (Some l) t v z = refl

  last_own : (ns : List ReportedSlot) (q : ReplicaId) → (q.storage == s) ≡ true → last_of (map put_by (map reported_of ns)) q ≡ option_map (entered_marks H q) (last_stamp ns q.block)
  last_own [] q own = refl
  last_own (n ∷ ns) q own =
      ap (λ l. option_or l (cond (tie q (replica_at n.id s)) (Some (entered_marks H (replica_at n.id s) n.stamp)) None)) (last_own ns q own)
      ∙ elim (cases_Bool (eqb q.block n.id)) [
        | inl same ↦
            let it : tie q (replica_at n.id s) ≡ true = own_tie q n.id s own ∙ same in
            ap (λ t. option_or (option_map (entered_marks H q) (last_stamp ns q.block)) (cond t (Some (entered_marks H (replica_at n.id s) n.stamp)) None)) it
            ∙ ap (λ k. option_or (option_map (entered_marks H q) (last_stamp ns q.block)) (Some (entered_marks H k n.stamp))) (sym (tied q (replica_at n.id s) it))
            ∙ joined (last_stamp ns q.block) ∙ sym (ap (λ t. option_map (entered_marks H q) (option_or (last_stamp ns q.block) (cond t (Some n.stamp) None))) (eqb_turned n.id q.block ∙ same))
        | inr differs ↦
            ap (λ t. option_or (option_map (entered_marks H q) (last_stamp ns q.block)) (cond t (Some (entered_marks H (replica_at n.id s) n.stamp)) None)) (own_tie q n.id s own ∙ differs)
            ∙ passed (last_stamp ns q.block) ∙ sym (ap (λ t. option_map (entered_marks H q) (option_or (last_stamp ns q.block) (cond t (Some n.stamp) None))) (eqb_turned n.id q.block ∙ differs))
      ]
    where
      joined : (l : Option Stamp) → option_or (option_map (entered_marks H q) l) (Some (entered_marks H q n.stamp)) ≡ option_map (entered_marks H q) (option_or l (Some n.stamp))
      joined None = refl
      joined (Some x) = refl

      passed : (l : Option Stamp) → option_or (option_map (entered_marks H q) l) None ≡ option_map (entered_marks H q) (option_or l None)
      passed None = refl
      passed (Some x) = refl

  last_other : (ns : List ReportedSlot) (q : ReplicaId) → (q.storage == s) ≡ false → last_of (map put_by (map reported_of ns)) q ≡ None
  last_other [] q other = refl
  last_other (n ∷ ns) q other =
      (λ i. option_or (last_other ns q other i) (cond (other_tie q n.id s other i) (Some (entered_marks H (replica_at n.id s) n.stamp)) None))

  named_last : (ns : List ReportedSlot) (b : ℕ) → is_named (map reported_of ns) b ≡ is_some (last_stamp ns b)
  unfolding is_named
  named_last [] b = refl
  named_last (n ∷ ns) b = ap (λ t. (n.id == b) || t) (named_last ns b) ∙ joined (last_stamp ns b) (n.id == b)
    where
      joined : (l : Option Stamp) (t : Bool) → (t || is_some l) ≡ is_some (option_or l (cond t (Some n.stamp) None))
      joined None true = refl
      joined None false = refl
      joined (Some x) true = refl
      joined (Some x) false = refl

  get-report : (ns : List ReportedSlot) (q : ReplicaId) → get (report C H s (map reported_of ns)).replicas q
      ≡ option_or (last_of (map put_by (map reported_of ns)) q) (cond (not (leaves_by_report C s (map reported_of ns) q)) (get H.replicas q) None)
  unfolding report
  get-report ns q =
      get-insert_all (map put_by (map reported_of ns)) (keep H.replicas (λ k _. not (leaves_by_report C s (map reported_of ns) k))) q
      ∙ ap (option_or (last_of (map put_by (map reported_of ns)) q)) (get-keep H.replicas (λ k _. not (leaves_by_report C s (map reported_of ns) k)) q ∙ kept_as (not (leaves_by_report C s (map reported_of ns) q)) (get H.replicas q))

  leaves_own : (ns : List ReportedSlot) (q : ReplicaId) → (q.storage == s) ≡ true → leaves_by_report C s (map reported_of ns) q ≡ not (is_some (last_stamp ns q.block))
  unfolding leaves_by_report
  leaves_own ns q own = rw own (ap not (named_last ns q.block))

  leaves_other : (ns : List ReportedSlot) (q : ReplicaId) → (q.storage == s) ≡ false → leaves_by_report C s (map reported_of ns) q ≡ (is_some (last_stamp ns q.block) && are_siblings C s q.storage)
  unfolding leaves_by_report
  leaves_other ns q other = rw other (ap (λ t. t && are_siblings C s q.storage) (named_last ns q.block))

  pub report_own : (ns : List ReportedSlot) (q : ReplicaId) → (q.storage == s) ≡ true → get (report C H s (map reported_of ns)).replicas q ≡ option_map (entered_marks H q) (last_stamp ns q.block)
  report_own ns q own =
      get-report ns q ∙ (λ i. option_or (last_own ns q own i) (cond (not (leaves_own ns q own i)) (get H.replicas q) None)) ∙ only (last_stamp ns q.block) (get H.replicas q)
    where
      only : (l : Option Stamp) (z : Option Marks) → option_or (option_map (entered_marks H q) l) (cond (not (not (is_some l))) z None) ≡ option_map (entered_marks H q) l
      only None z = refl
      only (Some x) z = refl

  pub report_other : (ns : List ReportedSlot) (q : ReplicaId) → (q.storage == s) ≡ false → get (report C H s (map reported_of ns)).replicas q ≡ cond (is_some (last_stamp ns q.block) && are_siblings C s q.storage) None (get H.replicas q)
  report_other ns q other =
      get-report ns q ∙ (λ i. option_or (last_other ns q other i) (cond (not (leaves_other ns q other i)) (get H.replicas q) None)) ∙ turn (is_some (last_stamp ns q.block) && are_siblings C s q.storage) (get H.replicas q)
    where
      turn : (b : Bool) (z : Option Marks) → cond (not b) z None ≡ cond b None z
      turn true z = refl
      turn false z = refl

  pub entered_without_invalid_excess : (q : ReplicaId) (st : Stamp) → without_invalid_excess (marks_during_report (get H.blocks q.block) (get H.replicas q) st) ≡ entered_marks H q st
  unfolding entered_marks entered_tag was_bad was_excess
  entered_without_invalid_excess q st = refl

  -- the phases give the replicas of the report of the definition
  pub reported : (ns : List ReportedSlot) (bs : List ℕ)
      → ((b : ℕ) → is_some (last_stamp ns b) ≡ true → list_any (λ k. k == b) bs ≡ false)
      → ((b : ℕ) → is_some (last_stamp ns b) ≡ false → IsSome (get H.replicas (replica_at b s)) → list_any (λ k. k == b) bs ≡ true)
      → invalid_excess_out_all s ns (out_all s bs (entered_all C H.blocks s ns H.replicas)) ≡ (report C H s (map reported_of ns)).replicas
  reported ns bs named_stay others_leave =
      same_map (invalid_excess_out_all s ns (out_all s bs (entered_all C H.blocks s ns H.replicas))) (report C H s (map reported_of ns)).replicas (λ q.
      invalid_excess_out_all-at s ns (out_all s bs (entered_all C H.blocks s ns H.replicas)) q
      ∙ ap (λ w. cond ((q.storage == s) && is_some (last_stamp ns q.block)) (option_map without_invalid_excess w) w) (out-at s bs (entered_all C H.blocks s ns H.replicas) q)
      ∙ elim (cases_Bool (eqb q.storage s)) [
        | inl own ↦
            ap (λ w. cond ((q.storage == s) && is_some (last_stamp ns q.block)) (option_map without_invalid_excess (cond ((q.storage == s) && list_any (λ b. b == q.block) bs) None w)) (cond ((q.storage == s) && list_any (λ b. b == q.block) bs) None w))
            (entered-own C H.blocks s ns H.replicas q own)
            ∙ ap (λ t. cond (t && is_some (last_stamp ns q.block)) (option_map without_invalid_excess (cond (t && list_any (λ b. b == q.block) bs) None (enter_marks H.blocks (get H.replicas q) q.block (last_stamp ns q.block))))
            (cond (t && list_any (λ b. b == q.block) bs) None (enter_marks H.blocks (get H.replicas q) q.block (last_stamp ns q.block)))) own
            ∙ here q own (last_stamp ns q.block) refl ∙ sym (report_own ns q own)
        | inr other ↦
            ap (λ w. cond ((q.storage == s) && is_some (last_stamp ns q.block)) (option_map without_invalid_excess (cond ((q.storage == s) && list_any (λ b. b == q.block) bs) None w)) (cond ((q.storage == s) && list_any (λ b. b == q.block) bs) None w))
            (entered-other C H.blocks s ns H.replicas q other)
            ∙ ap (λ t. cond (t && is_some (last_stamp ns q.block)) (option_map without_invalid_excess (cond (t && list_any (λ b. b == q.block) bs) None (cond (is_some (last_stamp ns q.block) && are_siblings C s q.storage) None (get H.replicas q))))
            (cond (t && list_any (λ b. b == q.block) bs) None (cond (is_some (last_stamp ns q.block) && are_siblings C s q.storage) None (get H.replicas q)))) other
            ∙ sym (report_other ns q other)
      ])
    where
      here : (q : ReplicaId) → (q.storage == s) ≡ true → (l : Option Stamp) → last_stamp ns q.block ≡ l
          → cond (is_some l) (option_map without_invalid_excess (cond (list_any (λ b. b == q.block) bs) None (enter_marks H.blocks (get H.replicas q) q.block l))) (cond (list_any (λ b. b == q.block) bs) None (enter_marks H.blocks (get H.replicas q) q.block l))
          ≡ option_map (entered_marks H q) l
      here q own (Some st) e =
          ap (λ t. option_map without_invalid_excess (cond t None (Some (marks_during_report (get H.blocks q.block) (get H.replicas q) st)))) (named_stay q.block (ap is_some e)) ∙ ap (λ m. Some m) (entered_without_invalid_excess q st)
      here q own None e = gone (get H.replicas q) refl
        where
          at_s : get H.replicas q ≡ get H.replicas (replica_at q.block s)
          at_s = ap (λ t. get H.replicas (replica_at q.block t)) (eqb-true q.storage s own)

          gone : (z : Option Marks) → get H.replicas q ≡ z → cond (list_any (λ b. b == q.block) bs) None z ≡ None
          gone None f = same (list_any (λ b. b == q.block) bs)
            where
              same : (t : Bool) → cond {A = Option Marks} t None None ≡ None
              same true = refl
              same false = refl
          gone (Some m) f = ap (λ t. cond t None (Some m)) (others_leave q.block (ap is_some e) (ap is_some (sym at_s ∙ f)))
