-- An event changes each part of the holdings by itself, and the parts give back the whole.
use Rattle.std.proofs.Common.{◌≡◌, ℕ, ◌<◌, ◌≤◌, Bool, true, false, cond, not, ◌&&◌, ◌||◌, List, [], ◌∷◌, map, filter, Some, refl, sym, ap, ◌∙◌, eqb-true, eq-eqb, ne_eqb, true≢false, mod-lt}
use Rattle.std.specs.Prelude.{◌==◌, if◌then◌else◌}
use Rattle.std.specs.Ordering.{eq_by_cmp, nat_cmp}
use Rattle.std.proofs.lemmas.Option.{same_Some}
use Rattle.bm_base.specs.declared.replica.ReplicaId.{ReplicaId}
use Rattle.bm_base.specs.declared.replica.Marks.{Marks}
use Rattle.bm_base.specs.declared.replica.Stamp.{Stamp}
use Rattle.bm_base.specs.declared.replica.BlockInfo.{BlockInfo}
use Rattle.bm_base.specs.declared.event.Event.{Event}
use Rattle.bm_base.specs.declared.event.Event.TheVariants.{Register, Dead, StorageFailed, Heartbeat, Drain, Undrain, AddBlock, DeleteBlock, SetReplication, Restamp, Received, Deleted, Corrupt, FullReport}
use Rattle.bm_base.specs.Words.{Map, by_number, get, insert, insert_all, keep, revise, revise_at, Cluster, Holdings, by_replica, replica_at, replica_cmp, has_storage, drains, are_siblings, ReportedBlock, expanded, was_bad, was_excess, entered_tag, entered_marks, replaces, enter, is_named, leaves_by_report, report, without_pending, change_marks_of_block, add_block, delete_block, set_replication, restamp, make_bad, remove_replica, without_storages, begin_drain, change_holdings, as_stray, as_restamped, as_bad}
use Rattle.bm_base.specs.Shards.{shard_of, cut}
use Rattle.bm_parts.proofs.KeepLaws.{keep-insert, keep-keep, keep-remove}
use Rattle.bm_base.proofs.MapLaws.{same_map}
use Rattle.bm_base.proofs.Ties.{number_tie, replica_tie}
use Rattle.bm_parts.proofs.PartMaps.{part, get_in, get_out, part_revised, part_revised_others, part_kept, part_kept_others, part_inserted_other, part_removed_other, part_inserted_all}
use Rattle.bm_parts.specs.Parts as law

pub shard_below : law.every_number_has_its_shard
shard_below b shards h = mod-lt b h

if_same : {X : Type 0} (t : Bool) (x y : X) → t ≡ false → (if t then x else y) ≡ y
if_same true x y e = cc
if_same false x y e = refl

module _ (index shards : ℕ) where
  -- whether a number is of the shard
  abbrev pub own : ℕ → Bool
  own b = shard_of b shards == index

  abbrev pub own_replica : ReplicaId → Bool
  own_replica q = own q.block

  pub cut_is_part : (H : Holdings) → law.IsPartOf H (cut H index shards) index shards
  unfolding cut
  cut_is_part H = record {
    blocks = λ b e. get_in own H.blocks b (eq-eqb _ _ e);
    replicas = λ p e. get_in own_replica H.replicas p (eq-eqb _ _ e);
    pending = λ p e. get_in own_replica H.pending p (eq-eqb _ _ e);
    no_other_blocks = λ b e. get_out own H.blocks b (ne_eqb _ _ e);
    no_other_replicas = λ p e. get_out own_replica H.replicas p (ne_eqb _ _ e);
    no_other_pending = λ p e. get_out own_replica H.pending p (ne_eqb _ _ e);
  }

  -- holdings whose parts agree map by map have the same part
  cut_by : (H G : Holdings) → part own H.blocks ≡ part own G.blocks → part own_replica H.replicas ≡ part own_replica G.replicas → part own_replica H.pending ≡ part own_replica G.pending
      → cut H index shards ≡ cut G index shards
  unfolding cut
  cut_by H G b r t = λ i. record { blocks = b i; replicas = r i; pending = t i }

  pub cut_to : (H P : Holdings) → part own H.blocks ≡ P.blocks → part own_replica H.replicas ≡ P.replicas → part own_replica H.pending ≡ P.pending → cut H index shards ≡ P
  unfolding cut
  cut_to H P b r t = λ i. record { blocks = b i; replicas = r i; pending = t i }

  other_block : (b c : ℕ) → own b ≡ false → own c ≡ true → (c == b) ≡ false
  other_block b c e h = by_case (c == b) refl
    where
      by_case : (t : Bool) → (c == b) ≡ t → t ≡ false
      by_case true t = absurd (true≢false (sym h ∙ ap own (eqb-true c b t) ∙ e))
      by_case false t = refl

  -- Storages leave.

  storages_leave : (H : Holdings) (gone : ℕ → Bool) → cut (without_storages H gone) index shards ≡ without_storages (cut H index shards) gone
  unfolding cut without_storages
  storages_leave H gone =
      cut_to (without_storages H gone) (without_storages (cut H index shards) gone) refl
      (keep-keep H.replicas (λ q _. own_replica q) (λ q _. not (gone q.storage))) (keep-keep H.pending (λ q _. own_replica q) (λ q _. not (gone q.storage)))

  -- Blocks.

  added_own : (H : Holdings) (b : ℕ) (stamp : Stamp) (repl : ℕ) → own b ≡ true → cut (add_block H b stamp repl) index shards ≡ add_block (cut H index shards) b stamp repl
  unfolding cut add_block
  added_own H b stamp repl h =
      cut_to (add_block H b stamp repl) (add_block (cut H index shards) b stamp repl) (keep-insert H.blocks (λ k _. own k) b (record { stamp = stamp; repl = repl }) h) refl refl

  added_other : (H : Holdings) (b : ℕ) (stamp : Stamp) (repl : ℕ) → own b ≡ false → cut (add_block H b stamp repl) index shards ≡ cut H index shards
  unfolding add_block
  added_other H b stamp repl h = cut_by (add_block H b stamp repl) H (part_inserted_other own H.blocks b (record { stamp = stamp; repl = repl }) h) refl refl

  -- another block's replicas, with changed marks, and its transfers
  remarked_other : (H : Holdings) (b : ℕ) (f : Marks → Marks) → own b ≡ false → part own_replica (revise H.replicas (λ q m. if q.block == b then f m else m)) ≡ part own_replica H.replicas
  remarked_other H b f h = part_revised_others own_replica H.replicas (λ q m. if q.block == b then f m else m) (λ q t m. if_same (q.block == b) (f m) m (other_block b q.block h t))

  unsent_other : (H : Holdings) (b : ℕ) → own b ≡ false → part own_replica (keep H.pending (λ q _. not (q.block == b))) ≡ part own_replica H.pending
  unsent_other H b h = part_kept_others own_replica H.pending (λ q. not (q.block == b)) (λ q t. ap not (other_block b q.block h t))

  deleted_own : (H : Holdings) (b : ℕ) → cut (delete_block H b) index shards ≡ delete_block (cut H index shards) b
  unfolding cut delete_block without_pending change_marks_of_block
  deleted_own H b =
      cut_to (delete_block H b) (delete_block (cut H index shards) b) (keep-remove H.blocks (λ k _. own k) b)
      (part_revised own_replica H.replicas (λ q m. if q.block == b then as_stray m else m)) (keep-keep H.pending (λ q _. own_replica q) (λ q _. not (q.block == b)))

  deleted_other : (H : Holdings) (b : ℕ) → own b ≡ false → cut (delete_block H b) index shards ≡ cut H index shards
  unfolding delete_block without_pending change_marks_of_block
  deleted_other H b h = cut_by (delete_block H b) H (part_removed_other own H.blocks b h) (remarked_other H b as_stray h) (unsent_other H b h)

  -- the information of a block
  info_own : (m : Map by_number BlockInfo) (b : ℕ) (f : BlockInfo → BlockInfo) → part own (revise_at m b f) ≡ revise_at (part own m) b f
  unfolding revise_at
  info_own m b f = part_revised own m (λ q x. if eq_by_cmp nat_cmp q b then f x else x)

  info_other : (m : Map by_number BlockInfo) (b : ℕ) (f : BlockInfo → BlockInfo) → own b ≡ false → part own (revise_at m b f) ≡ part own m
  unfolding revise_at
  info_other m b f h = part_revised_others own m (λ q x. if eq_by_cmp nat_cmp q b then f x else x) (λ q t x. if_same (eq_by_cmp nat_cmp q b) (f x) x (number_tie q b ∙ other_block b q h t))

  set_own : (H : Holdings) (b repl : ℕ) → cut (set_replication H b repl) index shards ≡ set_replication (cut H index shards) b repl
  unfolding cut set_replication
  set_own H b repl = cut_to (set_replication H b repl) (set_replication (cut H index shards) b repl) (info_own H.blocks b (λ i. record i { repl = repl })) refl refl

  set_other : (H : Holdings) (b repl : ℕ) → own b ≡ false → cut (set_replication H b repl) index shards ≡ cut H index shards
  unfolding set_replication
  set_other H b repl h = cut_by (set_replication H b repl) H (info_other H.blocks b (λ i. record i { repl = repl }) h) refl refl

  restamped_own : (H : Holdings) (b : ℕ) (stamp : Stamp) → cut (restamp H b stamp) index shards ≡ restamp (cut H index shards) b stamp
  unfolding cut restamp without_pending change_marks_of_block
  restamped_own H b stamp =
      cut_to (restamp H b stamp) (restamp (cut H index shards) b stamp) (info_own H.blocks b (λ i. record i { stamp = stamp }))
      (part_revised own_replica H.replicas (λ q m. if q.block == b then as_restamped m else m)) (keep-keep H.pending (λ q _. own_replica q) (λ q _. not (q.block == b)))

  restamped_other : (H : Holdings) (b : ℕ) (stamp : Stamp) → own b ≡ false → cut (restamp H b stamp) index shards ≡ cut H index shards
  unfolding restamp without_pending change_marks_of_block
  restamped_other H b stamp h = cut_by (restamp H b stamp) H (info_other H.blocks b (λ i. record i { stamp = stamp }) h) (remarked_other H b as_restamped h) (unsent_other H b h)

  -- Replicas.

  removed_own : (H : Holdings) (p : ReplicaId) → cut (remove_replica H p) index shards ≡ remove_replica (cut H index shards) p
  unfolding cut remove_replica
  removed_own H p = cut_to (remove_replica H p) (remove_replica (cut H index shards) p) refl (keep-remove H.replicas (λ q _. own_replica q) p) refl

  removed_other : (H : Holdings) (p : ReplicaId) → own p.block ≡ false → cut (remove_replica H p) index shards ≡ cut H index shards
  unfolding remove_replica
  removed_other H p h = cut_by (remove_replica H p) H refl (part_removed_other own_replica H.replicas p h) refl

  other_tie : (p q : ReplicaId) → own p.block ≡ false → own q.block ≡ true → eq_by_cmp replica_cmp q p ≡ false
  other_tie p q h t = replica_tie q p ∙ ap (λ b. b && (q.storage == p.storage)) (other_block p.block q.block h t)

  found_own : (H : Holdings) (p : ReplicaId) → cut (make_bad H p) index shards ≡ make_bad (cut H index shards) p
  unfolding cut make_bad revise_at
  found_own H p = cut_to (make_bad H p) (make_bad (cut H index shards) p) refl (part_revised own_replica H.replicas (λ q m. if eq_by_cmp replica_cmp q p then as_bad m else m)) refl

  found_other : (H : Holdings) (p : ReplicaId) → own p.block ≡ false → cut (make_bad H p) index shards ≡ cut H index shards
  unfolding make_bad revise_at
  found_other H p h =
      cut_by (make_bad H p) H refl (part_revised_others own_replica H.replicas (λ q m. if eq_by_cmp replica_cmp q p then as_bad m else m) (λ q t m. if_same (eq_by_cmp replica_cmp q p) (as_bad m) m (other_tie p q h t))) refl

  -- the marks of an entered replica depend only on the block's part
  entered_own : (H : Holdings) (p : ReplicaId) (stamp : Stamp) → own p.block ≡ true → entered_marks (cut H index shards) p stamp ≡ entered_marks H p stamp
  unfolding cut entered_marks entered_tag was_bad was_excess
  entered_own H p stamp h = entered_by (get_in own_replica H.replicas p h) (get_in own H.blocks p.block h)
    where
      entered_by : get (part own_replica H.replicas) p ≡ get H.replicas p → get (part own H.blocks) p.block ≡ get H.blocks p.block → entered_marks (cut H index shards) p stamp ≡ entered_marks H p stamp
      entered_by e f = rw (e, f) refl

  entered_cut : (C : Cluster) (H : Holdings) (p : ReplicaId) (stamp : Stamp) → own p.block ≡ true → cut (enter C H p stamp) index shards ≡ enter C (cut H index shards) p stamp
  unfolding cut enter
  entered_cut C H p stamp h =
      let stay : Map by_replica Marks = keep H.replicas (λ q _. not (replaces C p q)) in
      cut_to (enter C H p stamp) (enter C (cut H index shards) p stamp) refl
      (keep-insert stay (λ q _. own_replica q) p (entered_marks H p stamp) h
      ∙ (λ i. insert (keep-keep H.replicas (λ q _. own_replica q) (λ q _. not (replaces C p q)) i) p (sym (entered_own H p stamp h) i)))
      (keep-remove H.pending (λ q _. own_replica q) p)

  not_replaced : (C : Cluster) (p q : ReplicaId) → own p.block ≡ false → own q.block ≡ true → not (replaces C p q) ≡ true
  unfolding replaces
  not_replaced C p q h t = ap (λ b. not (b && are_siblings C p.storage q.storage)) (other_block p.block q.block h t)

  entered_other : (C : Cluster) (H : Holdings) (p : ReplicaId) (stamp : Stamp) → own p.block ≡ false → cut (enter C H p stamp) index shards ≡ cut H index shards
  unfolding enter
  entered_other C H p stamp h =
      let stay : Map by_replica Marks = keep H.replicas (λ q _. not (replaces C p q)) in
      cut_by (enter C H p stamp) H refl
      (part_inserted_other own_replica stay p (entered_marks H p stamp) h ∙ part_kept_others own_replica H.replicas (λ q. not (replaces C p q)) (λ q t. not_replaced C p q h t))
      (part_removed_other own_replica H.pending p h)

  cut_either : (t : Bool) (H G Q : Holdings) → cut G index shards ≡ Q → cut (if t then H else G) index shards ≡ (if t then cut H index shards else Q)
  cut_either true H G Q e = refl
  cut_either false H G Q e = e

  transfers_leave : (C : Cluster) (H : Holdings) (n : ℕ) → cut (begin_drain C H n) index shards ≡ begin_drain C (cut H index shards) n
  unfolding cut begin_drain
  transfers_leave C H n =
      let G : Holdings = record H { pending = keep H.pending (λ q _. not (has_storage C n q.storage)) } in
      let P : Holdings = cut H index shards in
      let Q : Holdings = record P { pending = keep P.pending (λ q _. not (has_storage C n q.storage)) } in
      cut_either (drains C n) H G Q (cut_to G Q refl refl (keep-keep H.pending (λ q _. own_replica q) (λ q _. not (has_storage C n q.storage))))

  -- Full reports.

  named_head : (x : ReportedBlock) (ts : List ReportedBlock) (b : ℕ) (t : Bool) → own x.id ≡ t → own b ≡ true → is_named (cond t (x ∷ ts) ts) b ≡ ((x.id == b) || is_named ts b)
  unfolding is_named
  named_head x ts b true e h = refl
  named_head x ts b false e h = ap (λ c. c || is_named ts b) (sym (turned (x.id == b) refl))
    where
      turned : (t : Bool) → (x.id == b) ≡ t → t ≡ false
      turned true t = absurd (true≢false (sym h ∙ ap own (sym (eqb-true x.id b t)) ∙ e))
      turned false t = refl

  named_own : (ts : List ReportedBlock) (b : ℕ) → own b ≡ true → is_named (law.reported_of index shards ts) b ≡ is_named ts b
  unfolding is_named
  named_own [] b h = refl
  named_own (x ∷ ts) b h = named_head x (law.reported_of index shards ts) b (own x.id) refl h ∙ ap (λ c. (x.id == b) || c) (named_own ts b h)

  module _ (C : Cluster) (H : Holdings) (s : ℕ) where
    abbrev put_in : Holdings → ReportedBlock → ReplicaId × Marks
    put_in G e = (replica_at e.id s, entered_marks G (replica_at e.id s) e.stamp)

    put_head : (x : ReportedBlock) (ts : List ReportedBlock) (t : Bool) → own x.id ≡ t → cond t (put_in H x ∷ map (put_in (cut H index shards)) ts) (map (put_in (cut H index shards)) ts) ≡ map (put_in (cut H index shards)) (cond t (x ∷ ts) ts)
    put_head x ts true h = ap (λ m. (replica_at x.id s, m) ∷ map (put_in (cut H index shards)) ts) (sym (entered_own H (replica_at x.id s) x.stamp h))
    put_head x ts false h = refl

    puts_own : (ts : List ReportedBlock) → filter (λ e. own_replica e.0) (map (put_in H) ts) ≡ map (put_in (cut H index shards)) (law.reported_of index shards ts)
    puts_own [] = refl
    puts_own (x ∷ ts) = ap (λ rest. cond (own x.id) (put_in H x ∷ rest) rest) (puts_own ts) ∙ put_head x (law.reported_of index shards ts) (own x.id) refl

    leaves_alike : (ts : List ReportedBlock) (q : ReplicaId) → own q.block ≡ true → not (leaves_by_report C s ts q) ≡ not (leaves_by_report C s (law.reported_of index shards ts) q)
    unfolding leaves_by_report
    leaves_alike ts q h = ap (λ n. not (if q.storage == s then not n else n && are_siblings C s q.storage)) (sym (named_own ts q.block h))

    reported_cut : (ts : List ReportedBlock) → cut (report C H s ts) index shards ≡ report C (cut H index shards) s (law.reported_of index shards ts)
    unfolding cut report
    reported_cut ts =
        let own_ts : List ReportedBlock = law.reported_of index shards ts in
        cut_to (report C H s ts) (report C (cut H index shards) s own_ts) refl
        (part_inserted_all own_replica (keep H.replicas (λ q _. not (leaves_by_report C s ts q))) (map (put_in H) ts)
        ∙ (λ i. insert_all (part_kept own_replica H.replicas (λ q. not (leaves_by_report C s ts q)) (λ q. not (leaves_by_report C s own_ts q)) (λ q t. leaves_alike ts q t) i) (puts_own ts i)))
        (part_kept own_replica H.pending (λ q. not ((q.storage == s) && is_named ts q.block)) (λ q. not ((q.storage == s) && is_named own_ts q.block))
        (λ q t. ap (λ n. not ((q.storage == s) && n)) (sym (named_own ts q.block t))))

  -- All events.

  by_own : (P Q W : Holdings) (t : Bool) → (t ≡ true → P ≡ Q) → (t ≡ false → P ≡ W) → P ≡ (if t then Q else W)
  by_own P Q W true h g = h refl
  by_own P Q W false h g = g refl

  part_changed : (C : Cluster) (H : Holdings) (e : Event) → cut (change_holdings C H e) index shards ≡ law.change_part C (cut H index shards) index shards e
  unfolding change_holdings
  part_changed C H (Dead n) = storages_leave H (has_storage C n)
  part_changed C H (StorageFailed s) = storages_leave H (λ t. t == s)
  part_changed C H (AddBlock b stamp repl) = by_own _ _ _ (own b) (added_own H b stamp repl) (added_other H b stamp repl)
  part_changed C H (DeleteBlock b) = by_own _ _ _ (own b) (λ _. deleted_own H b) (deleted_other H b)
  part_changed C H (SetReplication b repl) = by_own _ _ _ (own b) (λ _. set_own H b repl) (set_other H b repl)
  part_changed C H (Restamp b stamp) = by_own _ _ _ (own b) (λ _. restamped_own H b stamp) (restamped_other H b stamp)
  part_changed C H (Received s b stamp) = by_own _ _ _ (own b) (entered_cut C H (replica_at b s) stamp) (entered_other C H (replica_at b s) stamp)
  part_changed C H (Deleted s b) = by_own _ _ _ (own b) (λ _. removed_own H (replica_at b s)) (removed_other H (replica_at b s))
  part_changed C H (Corrupt s b) = by_own _ _ _ (own b) (λ _. found_own H (replica_at b s)) (found_other H (replica_at b s))
  part_changed C H (FullReport s es) = reported_cut C H s (expanded es)
  part_changed C H (Register n rack ss) = refl
  part_changed C H (Heartbeat n rs) = refl
  part_changed C H (Drain n) = transfers_leave C H n
  part_changed C H (Undrain n) = refl

pub parts_changed : law.parts_change_by_themselves
parts_changed C H e index shards = part_changed index shards C H e

-- an event on a block of another shard
not_concerned : (C : Cluster) (P : Holdings) (e : Event) (b index shards : ℕ) → law.block_of e ≡ Some b → (shard_of b shards == index) ≡ false → law.change_part C P index shards e ≡ P
not_concerned C P (FullReport s es) b index shards is other = cc
not_concerned C P (Register n rack ss) b index shards is other = cc
not_concerned C P (Dead n) b index shards is other = cc
not_concerned C P (StorageFailed s) b index shards is other = cc
not_concerned C P (Heartbeat n rs) b index shards is other = cc
not_concerned C P (Drain n) b index shards is other = cc
not_concerned C P (Undrain n) b index shards is other = cc
not_concerned C P (AddBlock c stamp repl) b index shards is other = if_same (shard_of c shards == index) _ P (ap (λ x. shard_of x shards == index) (same_Some c b is) ∙ other)
not_concerned C P (DeleteBlock c) b index shards is other = if_same (shard_of c shards == index) _ P (ap (λ x. shard_of x shards == index) (same_Some c b is) ∙ other)
not_concerned C P (SetReplication c repl) b index shards is other = if_same (shard_of c shards == index) _ P (ap (λ x. shard_of x shards == index) (same_Some c b is) ∙ other)
not_concerned C P (Restamp c stamp) b index shards is other = if_same (shard_of c shards == index) _ P (ap (λ x. shard_of x shards == index) (same_Some c b is) ∙ other)
not_concerned C P (Received s c stamp) b index shards is other = if_same (shard_of c shards == index) _ P (ap (λ x. shard_of x shards == index) (same_Some c b is) ∙ other)
not_concerned C P (Deleted s c) b index shards is other = if_same (shard_of c shards == index) _ P (ap (λ x. shard_of x shards == index) (same_Some c b is) ∙ other)
not_concerned C P (Corrupt s c) b index shards is other = if_same (shard_of c shards == index) _ P (ap (λ x. shard_of x shards == index) (same_Some c b is) ∙ other)

pub one_part_changed : law.event_changes_one_part
one_part_changed C H e b index shards is other = part_changed index shards C H e ∙ not_concerned C (cut H index shards) e b index shards is (ne_eqb (shard_of b shards) index other)

-- The whole from its parts.

parts_answer : {X : Type 0} (shards : ℕ) (m n : Map by_number X) → 1 ≤ shards → ((index : ℕ) → index < shards → part (λ b. shard_of b shards == index) m ≡ part (λ b. shard_of b shards == index) n) → m ≡ n
parts_answer shards m n h same =
    same_map m n (λ b.
    let mine : ℕ → Bool = λ c. shard_of c shards == shard_of b shards in
    let is : mine b ≡ true = eq-eqb _ _ refl in
    sym (get_in mine m b is) ∙ ap (λ x. get x b) (same (shard_of b shards) (mod-lt b h)) ∙ get_in mine n b is)

replica_parts_answer : {X : Type 0} (shards : ℕ) (m n : Map by_replica X) → 1 ≤ shards → ((index : ℕ) → index < shards → part (λ q. shard_of q.block shards == index) m ≡ part (λ q. shard_of q.block shards == index) n) → m ≡ n
replica_parts_answer shards m n h same =
    same_map m n (λ q.
    let mine : ReplicaId → Bool = λ c. shard_of c.block shards == shard_of q.block shards in
    let is : mine q ≡ true = eq-eqb _ _ refl in
    sym (get_in mine m q is) ∙ ap (λ x. get x q) (same (shard_of q.block shards) (mod-lt q.block h)) ∙ get_in mine n q is)

pub whole_from_parts : law.parts_give_back_whole
unfolding cut
whole_from_parts H G shards h same =
    let blocks : H.blocks ≡ G.blocks = parts_answer shards H.blocks G.blocks h (λ i lt. ap (λ P. P.blocks) (same i lt)) in
    let replicas : H.replicas ≡ G.replicas = replica_parts_answer shards H.replicas G.replicas h (λ i lt. ap (λ P. P.replicas) (same i lt)) in
    let pending : H.pending ≡ G.pending = replica_parts_answer shards H.pending G.pending h (λ i lt. ap (λ P. P.pending) (same i lt)) in
    λ i. record { blocks = blocks i; replicas = replicas i; pending = pending i }
