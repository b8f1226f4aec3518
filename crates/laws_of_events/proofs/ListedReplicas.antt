-- Queries list exactly those replicas and blocks of the state that they ask for.
use Rattle.std.proofs.Common.{◌≡◌, ℕ, ◌*◌, ◌≤◌, Bool, true, false, not, ◌&&◌, ◌||◌, Some, None, List, [], ◌∷◌, map, length, ◌⊎◌, inl, inr, refl, sym, ap, ◌∙◌, eqb-true, eq-eqb, arith}
use Rattle.std.specs.Prelude.{◌==◌, nat_le, nat_lt, if◌then◌else◌, option_and_then}
use Rattle.std.specs.List.{list_any}
use Rattle.std.proofs.lemmas.Bool.{and_parts, and_from, not-true, lt-leb}
use Rattle.bm_base.specs.declared.replica.ReplicaId.{ReplicaId}
use Rattle.bm_base.specs.declared.replica.Replica.{Replica}
use Rattle.bm_base.specs.declared.replica.Tag.{Tag}
use Rattle.bm_base.specs.declared.replica.Tag.TheVariants.{Good, Stale, Bad, Stray}
use Rattle.bm_base.specs.declared.replica.Marks.{Marks}
use Rattle.bm_base.specs.declared.replica.BlockInfo.{BlockInfo}
use Rattle.bm_base.specs.declared.replica.Level.TheVariants.{Highest, VeryUnderReplicated, UnderReplicated, BadlyDistributed, NoUsableReplica}
use Rattle.bm_base.specs.Words.{get, entries, keys, has, Cluster, Holdings, replica_at, is_good, is_corrupt, is_usable, is_live_on, is_drained_on, is_draining, live, drained, storages_where, racks, is_multi_rack, level_of, level, is_at, all_replicas, replicas_where, missing_blocks, blocks_on}
use Rattle.bm_base.specs.Promises.Lawful.{IsLawfulHoldings}
use Rattle.bm_base.proofs.Options.{there, is_there}
use Rattle.bm_base.proofs.MapEntries.{entry_passes, passes_entry}
use Rattle.bm_base.proofs.ListTests.{any_map, any_filter}
use Rattle.bm_parts.proofs.Filters.{any_shown}
use Rattle.laws_of_events.proofs.ReportedMarks.{found_good}
use Rattle.laws_of_events.specs.Queries as law

-- All replicas.

pub listed : law.replicas_are_held
unfolding all_replicas
listed H test =
    let show : ReplicaId × Marks → Replica = λ e. record { block = e.0.block; storage = e.0.storage; tag = e.1.tag } in (
      (λ h. let e = entry_passes H.replicas (λ e. test (show e)) (sym (any_map test show (entries H.replicas)) ∙ h) in (e.0, (e.1, e.2, e.3))),
      (λ h. any_map test show (entries H.replicas) ∙ passes_entry H.replicas (λ e. test (show e)) h.0 h.1.0 h.1.1 h.1.2),
    )

-- Replicas whose marks pass a test.

same_replica : (p q : ReplicaId) → ((q.block == p.block) && (q.storage == p.storage)) ≡ true → q ≡ p
same_replica p q e = let h = and_parts (q.block == p.block) (q.storage == p.storage) e in λ i. record { block = eqb-true q.block p.block h.0 i; storage = eqb-true q.storage p.storage h.1 i }

itself : (p : ReplicaId) → ((p.block == p.block) && (p.storage == p.storage)) ≡ true
itself p = and_from (p.block == p.block) (p.storage == p.storage) (eq-eqb p.block p.block refl) (eq-eqb p.storage p.storage refl)

module _ (test : Marks → Bool) (H : Holdings) (p : ReplicaId) where
  abbrev is_it : ReplicaId → Bool
  is_it q = (q.block == p.block) && (q.storage == p.storage)

  listed_where : law.lists (replicas_where test H) p ≡ true → (m : Marks) × (get H.replicas p ≡ Some m) × (test m ≡ true)
  unfolding replicas_where
  listed_where h =
      let e = entry_passes H.replicas (λ e. test e.1 && is_it e.0) (sym (any_shown is_it (λ e. e.0) (λ e. test e.1) (entries H.replicas)) ∙ h) in
      let parts = and_parts (test e.1) (is_it e.0) e.3 in
      (e.1, ap (get H.replicas) (sym (same_replica p e.0 parts.1)) ∙ e.2, parts.0)

  where_listed : (m : Marks) → get H.replicas p ≡ Some m → test m ≡ true → law.lists (replicas_where test H) p ≡ true
  unfolding replicas_where
  where_listed m e h =
      any_shown is_it (λ e. e.0) (λ e. test e.1) (entries H.replicas) ∙ passes_entry H.replicas (λ e. test e.1 && is_it e.0) p m e (and_from (test m) (is_it p) h (itself p))

corrupt_tag : (t : Tag) → is_corrupt t ≡ true → (t ≡ Stale) ⊎ (t ≡ Bad)
corrupt_tag Good e = cc
corrupt_tag Stale e = inl refl
corrupt_tag Bad e = inr refl
corrupt_tag Stray e = cc

tag_corrupt : (t : Tag) → (t ≡ Stale) ⊎ (t ≡ Bad) → is_corrupt t ≡ true
tag_corrupt t (inl e) = ap is_corrupt e
tag_corrupt t (inr e) = ap is_corrupt e

pub corrupt_listed : law.corrupt_are_stale_or_bad
corrupt_listed H p = (
  (λ h. let m = listed_where (λ m. is_corrupt m.tag) H p h in (m.0, m.1, corrupt_tag m.0.tag m.2)),
  (λ h. where_listed (λ m. is_corrupt m.tag) H p h.0 h.1 (tag_corrupt h.0.tag h.2)),
)

pub excess_listed : law.excess_are_marked
excess_listed H p = (listed_where (λ m. m.excess) H p, λ h. where_listed (λ m. m.excess) H p h.0 h.1 h.2)

-- Storages and blocks.

pub blocks_listed : law.blocks_on_are_held
unfolding blocks_on
blocks_listed H s b =
    let passes : ReplicaId × Marks → Bool = λ e. (e.0.storage == s) && (e.0.block == b) in
    let same = any_shown (λ y. y == b) (λ e. e.0.block) (λ e. e.0.storage == s) (entries H.replicas) in (
      (λ h.
          let e = entry_passes H.replicas passes (sym same ∙ h) in
          let parts = and_parts (e.0.storage == s) (e.0.block == b) e.3 in
          is_there (get H.replicas (replica_at b s)) e.1 ((λ i. get H.replicas (replica_at (sym (eqb-true e.0.block b parts.1) i) (sym (eqb-true e.0.storage s parts.0) i))) ∙ e.2)),
      (λ h. let m = there (get H.replicas (replica_at b s)) h in same ∙ passes_entry H.replicas passes (replica_at b s) m.0 m.1 (and_from (s == s) (b == b) (eq-eqb s s refl) (eq-eqb b b refl))),
    )

-- the storages of a block's replicas that pass a test
module _ (test : ℕ → Marks → Bool) (H : Holdings) (b s : ℕ) where
  abbrev passing : ReplicaId × Marks → Bool
  passing e = ((e.0.block == b) && test e.0.storage e.1) && (e.0.storage == s)

  shown : has (storages_where test H b) s ≡ list_any passing (entries H.replicas)
  unfolding storages_where
  shown = any_shown (λ y. y == s) (λ e. e.0.storage) (λ e. (e.0.block == b) && test e.0.storage e.1) (entries H.replicas)

  pub stored_where : has (storages_where test H b) s ≡ true → (m : Marks) × (get H.replicas (replica_at b s) ≡ Some m) × (test s m ≡ true)
  stored_where h =
      let e = entry_passes H.replicas passing (sym shown ∙ h) in
      let parts = and_parts ((e.0.block == b) && test e.0.storage e.1) (e.0.storage == s) e.3 in
      let more = and_parts (e.0.block == b) (test e.0.storage e.1) parts.0 in
      (e.1, (λ i. get H.replicas (replica_at (sym (eqb-true e.0.block b more.0) i) (sym (eqb-true e.0.storage s parts.1) i))) ∙ e.2, ap (λ t. test t e.1) (sym (eqb-true e.0.storage s parts.1)) ∙ more.1)

  pub where_stored : (m : Marks) → get H.replicas (replica_at b s) ≡ Some m → test s m ≡ true → has (storages_where test H b) s ≡ true
  where_stored m e h =
      shown ∙ passes_entry H.replicas passing (replica_at b s) m e (and_from ((b == b) && test s m) (s == s) (and_from (b == b) (test s m) (eq-eqb b b refl) h) (eq-eqb s s refl))

pub places_listed : law.places_are_good
places_listed H b s = (
  (λ h. let m = stored_where (λ _ m. is_good m.tag) H b s h in (m.0, m.1, found_good m.0.tag m.2)),
  (λ h. where_stored (λ _ m. is_good m.tag) H b s h.0 h.1 (ap is_good h.2)),
)

-- Missing blocks.

-- a block of which at least one replica is wanted has the level of a missing block exactly if no
-- replica is usable
no_usable_level : (n d repl racks : ℕ) (multi : Bool) → is_at NoUsableReplica (level_of (record { live = n; drained = d; wanted = repl; racks = racks; multi_rack = multi })) ≡ true → (n ≡ 0) × (d ≡ 0)
unfolding level_of
no_usable_level n d repl racks multi h = by_enough (nat_le repl n) (nat_lt 1 repl && (racks == 1) && multi) h
  where
    by_number : (zero_live one_live few none_drained : Bool) → (n == 0) ≡ zero_live → (d == 0) ≡ none_drained
        → is_at NoUsableReplica (Some (if zero_live then (if none_drained then NoUsableReplica else Highest) else if one_live then Highest else if few then VeryUnderReplicated else UnderReplicated)) ≡ true → (n ≡ 0) × (d ≡ 0)
    by_number true one_live few true e f h = (eqb-true n 0 e, eqb-true d 0 f)
    by_number true one_live few false e f h = cc
    by_number false true few none_drained e f h = cc
    by_number false false true none_drained e f h = cc
    by_number false false false none_drained e f h = cc

    by_enough : (enough bad : Bool) → is_at NoUsableReplica (if enough then (if bad then Some BadlyDistributed else None)
        else Some (if n == 0 then (if d == 0 then NoUsableReplica else Highest) else if n == 1 then Highest else if nat_lt (n * 3) repl then VeryUnderReplicated else UnderReplicated)) ≡ true → (n ≡ 0) × (d ≡ 0)
    by_enough true true h = cc
    by_enough true false h = cc
    by_enough false bad h = by_number (n == 0) (n == 1) (nat_lt (n * 3) repl) (d == 0) refl refl h

level_none_usable : (repl racks : ℕ) (multi : Bool) → 1 ≤ repl → is_at NoUsableReplica (level_of (record { live = 0; drained = 0; wanted = repl; racks = racks; multi_rack = multi })) ≡ true
unfolding level_of
level_none_usable repl racks multi h = rw (lt-leb repl 0 h) refl

pub usable_marks : (m : Marks) → is_usable m ≡ true → (m.tag ≡ Good) × (m.excess ≡ false)
usable_marks m h = let parts = and_parts (is_good m.tag) (not m.excess) h in (found_good m.tag parts.0, not-true m.excess parts.1)

pub marks_usable : (m : Marks) → m.tag ≡ Good → m.excess ≡ false → is_usable m ≡ true
marks_usable m e h = and_from (is_good m.tag) (not m.excess) (ap is_good e) (ap not h)

pub has_none : (xs : List ℕ) (s : ℕ) → length xs ≡ 0 → has xs s ≡ true → ⊥
has_none [] s e h = cc
has_none (x ∷ xs) s e h = absurd (omega (arith, e))

none_listed : (xs : List ℕ) → ((s : ℕ) → has xs s ≡ true → ⊥) → length xs ≡ 0
none_listed [] never = refl
none_listed (x ∷ xs) never = absurd (never x (ap (λ b. b || has xs x) (eq-eqb x x refl)))

-- a usable replica is live or drained
live_or_drained : (C : Cluster) (s : ℕ) (m : Marks) → is_usable m ≡ true → (is_live_on C s m ≡ true) ⊎ (is_drained_on C s m ≡ true)
live_or_drained C s m h = by_node (is_draining C s) refl
  where
    by_node : (t : Bool) → is_draining C s ≡ t → (is_live_on C s m ≡ true) ⊎ (is_drained_on C s m ≡ true)
    by_node true e = inr (and_from (is_usable m) (is_draining C s) h e)
    by_node false e = inl (and_from (is_usable m) (not (is_draining C s)) h (ap not e))

module _ (C : Cluster) (H : Holdings) (b : ℕ) where
  abbrev missing_level : ℕ → Bool
  missing_level c = is_at NoUsableReplica (level C H c)

  level_is : (i : BlockInfo) → get H.blocks b ≡ Some i → level C H b ≡ level_of (record { live = length (live C H b); drained = length (drained C H b); wanted = i.repl; racks = length (racks C (live C H b)); multi_rack = is_multi_rack C })
  unfolding level
  level_is i e = ap (option_and_then (λ i. level_of (record { live = length (live C H b); drained = length (drained C H b); wanted = i.repl; racks = length (racks C (live C H b)); multi_rack = is_multi_rack C }))) e

  shown_missing : has (missing_blocks C H) b ≡ list_any (λ e. missing_level e.0 && (e.0 == b)) (entries H.blocks)
  unfolding missing_blocks keys
  shown_missing = any_filter (λ y. y == b) missing_level (map (λ e. e.0) (entries H.blocks)) ∙ any_map (λ y. missing_level y && (y == b)) (λ e. e.0) (entries H.blocks)

  pub missing_is : has (missing_blocks C H) b ≡ true → law.IsMissing H b
  missing_is h =
      let e = entry_passes H.blocks (λ e. missing_level e.0 && (e.0 == b)) (sym shown_missing ∙ h) in
      let parts = and_parts (missing_level e.0) (e.0 == b) e.3 in
      let key : e.0 ≡ b = eqb-true e.0 b parts.1 in
      let info : get H.blocks b ≡ Some e.1 = ap (get H.blocks) (sym key) ∙ e.2 in
      let none = no_usable_level (length (live C H b)) (length (drained C H b)) e.1.repl (length (racks C (live C H b))) (is_multi_rack C) (ap (is_at NoUsableReplica) (sym (level_is e.1 info)) ∙ ap missing_level (sym key) ∙ parts.0) in
      (e.1, info, λ s held. no_replica s held.0 held.1 none.0 none.1 (live_or_drained C s held.0 (marks_usable held.0 held.2.0 held.2.1)))
    where
      no_replica : (s : ℕ) (m : Marks) → get H.replicas (replica_at b s) ≡ Some m → length (live C H b) ≡ 0 → length (drained C H b) ≡ 0 → (is_live_on C s m ≡ true) ⊎ (is_drained_on C s m ≡ true) → ⊥
      no_replica s m e none_live none_drained (inl h) = has_none (live C H b) s none_live (where_stored (is_live_on C) H b s m e h)
      no_replica s m e none_live none_drained (inr h) = has_none (drained C H b) s none_drained (where_stored (is_drained_on C) H b s m e h)

  pub is_missing : IsLawfulHoldings C H → law.IsMissing H b → has (missing_blocks C H) b ≡ true
  is_missing L missing =
      let none_live : length (live C H b) ≡ 0 =
      none_listed (live C H b) (λ s h. let m = stored_where (is_live_on C) H b s h in missing.2 s (m.0, m.1, usable_marks m.0 (and_parts (is_usable m.0) (not (is_draining C s)) m.2).0)) in
      let none_drained : length (drained C H b) ≡ 0 =
      none_listed (drained C H b) (λ s h. let m = stored_where (is_drained_on C) H b s h in missing.2 s (m.0, m.1, usable_marks m.0 (and_parts (is_usable m.0) (is_draining C s) m.2).0)) in
      let at : missing_level b ≡ true =
      ap (is_at NoUsableReplica) (level_is missing.0 missing.1) ∙ (λ k. is_at NoUsableReplica (level_of (record { live = none_live k; drained = none_drained k; wanted = missing.0.repl; racks = length (racks C (live C H b)); multi_rack = is_multi_rack C })))
      ∙ level_none_usable missing.0.repl (length (racks C (live C H b))) (is_multi_rack C) (L.replicated b missing.0 missing.1).0 in
      shown_missing ∙ passes_entry H.blocks (λ e. missing_level e.0 && (e.0 == b)) b missing.0 missing.1 (and_from (missing_level b) (b == b) at (eq-eqb b b refl))

pub missing_listed : law.missing_have_no_usable_replica
missing_listed C H L b = (missing_is C H b, is_missing C H b L)
