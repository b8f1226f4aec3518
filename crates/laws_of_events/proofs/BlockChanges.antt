-- An event on a block or a replica changes that block as its law states, and no other.
use Rattle.std.proofs.Common.{◌≡◌, ◌≢◌, ℕ, Bool, true, false, cond, not, ◌&&◌, Some, None, List, refl, sym, ap, subst, ◌∙◌, eq-eqb, ne_eqb}
use Rattle.std.specs.Prelude.{◌==◌, if◌then◌else◌, option_and_then, option_map}
use Rattle.std.specs.Ordering.{eq_by_cmp, nat_cmp}
use Rattle.std.proofs.lemmas.Bool.{and_left}
use Rattle.std.proofs.lemmas.Iterator.Adapters.{option_map_id}
use Rattle.bm_base.specs.declared.replica.ReplicaId.{ReplicaId}
use Rattle.bm_base.specs.declared.replica.Tag.{Tag}
use Rattle.bm_base.specs.declared.replica.Tag.TheVariants.{Good, Stale, Bad, Stray}
use Rattle.bm_base.specs.declared.replica.Marks.{Marks}
use Rattle.bm_base.specs.declared.replica.BlockInfo.{BlockInfo}
use Rattle.bm_base.specs.declared.event.Entry.{Entry}
use Rattle.bm_base.specs.declared.event.Event.{Event}
use Rattle.bm_base.specs.declared.event.Event.TheVariants.{DeleteBlock, Restamp, FullReport}
use Rattle.bm_base.specs.Words.{Map, by_number, get, keep, revise, revise_at, has, Cluster, Holdings, State, by_replica, replica_at, replica_cmp, is_good, ReportedBlock, expanded, add_block, delete_block, set_replication, restamp, make_bad, remove_replica, without_pending, change_marks_of_block, enter, is_named, leaves_by_report, report, change_holdings, as_stray, as_bad, as_restamped, after_event}
use Rattle.bm_base.proofs.MapLaws.{get-keep, get-revise}
use Rattle.bm_base.proofs.Options.{none_stays, all_stays}
use Rattle.bm_base.proofs.MapEntries.{key_itself, not_tied, get_here, get_taken, get_left}
use Rattle.bm_parts.proofs.ReportedReplicas.{stays_by}
use Rattle.laws_of_events.proofs.ReportedReplicas.{named_numbers, reported_elsewhere}
use Rattle.bm_parts.specs.Parts.{IsSameOf}
use Rattle.bm_parts.proofs.OneBlock.{others_stay}
use Rattle.laws_of_events.specs.Changes as law
use Rattle.laws_of_events.specs.Reports.{held_after, numbers_of}

-- An event on one block keeps everything of any other.

held_is : (M : State) (e : Event) → held_after M e ≡ change_holdings M.cluster M.holdings e
unfolding after_event
held_is M e = refl

pub leaves_other_blocks : law.event_leaves_other_blocks
leaves_other_blocks M e b c is other = subst (λ G. IsSameOf c M.holdings G) (sym (held_is M e)) (others_stay M.cluster M.holdings e b c is other)

-- Blocks.

pub block_added : law.added_block_is_known
unfolding after_event change_holdings add_block
block_added M b stamp repl = (get_here M.holdings.blocks b (record { stamp = stamp; repl = repl }), refl, refl)

abbrev marked : ℕ → (Marks → Marks) → ReplicaId → Marks → Marks
marked b f q m = if q.block == b then f m else m

marked_here : (m : Map by_replica Marks) (b : ℕ) (f : Marks → Marks) (s : ℕ) → get (revise m (marked b f)) (replica_at b s) ≡ option_map f (get m (replica_at b s))
marked_here m b f s = get-revise m (marked b f) (replica_at b s) ∙ (λ i. option_map (λ k. if eq-eqb b b refl i then f k else k) (get m (replica_at b s)))

-- a block keeps its replicas when their marks are revised
all_marked : (H G : Holdings) (b : ℕ) (f : Marks → Marks) (R : Marks → Marks → Type 0) → ((m : Marks) → R m (f m)) → G.replicas ≡ revise H.replicas (marked b f) → law.AreMarked b H G R
all_marked H G b f R how is s =
    let now : get G.replicas (replica_at b s) ≡ option_map f (get H.replicas (replica_at b s)) = ap (λ m. get m (replica_at b s)) is ∙ marked_here H.replicas b f s in
    ((λ none. now ∙ ap (option_map f) none), λ m e. (f m, now ∙ ap (option_map f) e, how m))

none_sent : (H : Holdings) (b s : ℕ) → get (keep H.pending (λ q _. not (q.block == b))) (replica_at b s) ≡ None
none_sent H b s = get-keep H.pending (λ q _. not (q.block == b)) (replica_at b s) ∙ none_stays (not (b == b)) (get H.pending (replica_at b s)) (ap not (eq-eqb b b refl))

pub block_deleted : law.deleted_block_is_stray
unfolding after_event change_holdings delete_block without_pending change_marks_of_block
block_deleted M b = record {
  unknown = get_taken M.holdings.blocks b;
  stray = all_marked M.holdings (held_after M (DeleteBlock b)) b as_stray (λ m k. (k.tag ≡ Stray) × (k.excess ≡ false) × (k.ordered ≡ m.ordered)) (λ m. (refl, refl, refl)) refl;
  none_pending = none_sent M.holdings b;
}

-- the revised information of a known block
info_here : (m : Map by_number BlockInfo) (b : ℕ) (f : BlockInfo → BlockInfo) (i : BlockInfo) → get m b ≡ Some i → get (revise_at m b f) b ≡ Some (f i)
unfolding revise_at
info_here m b f i e =
    get-revise m (λ q x. if eq_by_cmp nat_cmp q b then f x else x) b ∙ ap (option_map (λ x. if eq_by_cmp nat_cmp b b then f x else x)) e
    ∙ ap (λ t. Some (if t then f i else i)) (key_itself by_number b)

restamped_tag : (t : Tag) → ((t ≡ Good → (if is_good t then Stale else t) ≡ Stale) × (t ≢ Good → (if is_good t then Stale else t) ≡ t))
restamped_tag Good = ((λ _. refl), λ never. absurd (never refl))
restamped_tag Stale = ((λ e. cc), λ _. refl)
restamped_tag Bad = ((λ e. cc), λ _. refl)
restamped_tag Stray = ((λ e. cc), λ _. refl)

pub block_restamped : law.restamped_block_has_no_good_replica
unfolding after_event change_holdings restamp without_pending change_marks_of_block
block_restamped M b stamp = record {
  known = λ i e. info_here M.holdings.blocks b (λ i. record i { stamp = stamp }) i e;
  none_good = all_marked M.holdings (held_after M (Restamp b stamp)) b as_restamped
      (λ m k. (m.tag ≡ Good → k.tag ≡ Stale) × (m.tag ≢ Good → k.tag ≡ m.tag) × (k.excess ≡ false) × (k.ordered ≡ m.ordered))
      (λ m. let t = restamped_tag m.tag in (t.0, t.1, refl, refl)) refl;
  none_pending = none_sent M.holdings b;
}

pub replication_set : law.replication_is_set
unfolding after_event change_holdings set_replication
replication_set M b repl i e = (info_here M.holdings.blocks b (λ i. record i { repl = repl }) i e, refl, refl)

-- Replicas.

pub replica_deleted : law.deleted_replica_is_gone
unfolding after_event change_holdings remove_replica
replica_deleted M s b = (get_taken M.holdings.replicas (replica_at b s), (λ p other. get_left M.holdings.replicas (replica_at b s) p other), refl)

found_at : (m : Map by_replica Marks) (p q : ReplicaId) (t : Bool) → eq_by_cmp replica_cmp q p ≡ t → get (revise_at m p as_bad) q ≡ option_map (λ k. if t then as_bad k else k) (get m q)
unfolding revise_at
found_at m p q t e = get-revise m (λ r k. if eq_by_cmp replica_cmp r p then as_bad k else k) q ∙ ap (λ c. option_map (λ k. if c then as_bad k else k) (get m q)) e

pub replica_found_bad : law.corrupt_replica_is_bad
unfolding after_event change_holdings make_bad
replica_found_bad M s b =
    let m = M.holdings.replicas in
    let p = replica_at b s in
    let here = found_at m p p true (key_itself by_replica p) in
    ((λ k e. here ∙ ap (option_map as_bad) e), (λ none. here ∙ ap (option_map as_bad) none), (λ q other. found_at m p q false (not_tied by_replica q p other) ∙ option_map_id (get m q)), refl)

-- Pending transfers.

reported_pending : (M : State) (s : ℕ) (es : List Entry) (p : ReplicaId) (t : Bool) → ((p.storage == s) && is_named (expanded es) p.block) ≡ t
    → get (held_after M (FullReport s es)).pending p ≡ option_and_then (λ x. cond (not t) (Some x) None) (get M.holdings.pending p)
unfolding after_event change_holdings report
reported_pending M s es p t e = get-keep M.holdings.pending (λ q _. not ((q.storage == s) && is_named (expanded es) q.block)) p ∙ ap (λ c. option_and_then (λ x. cond (not c) (Some x) None) (get M.holdings.pending p)) e

named_here : (s : ℕ) (es : List Entry) (b : ℕ) (t : Bool) → has (numbers_of es) b ≡ t → ((s == s) && is_named (expanded es) b) ≡ t
named_here s es b t h = ap (λ c. c && is_named (expanded es) b) (eq-eqb s s refl) ∙ named_numbers (expanded es) b ∙ h

pub transfers_reported : law.report_ends_transfers
transfers_reported M s es = (
  (λ b h. reported_pending M s es (replica_at b s) true (named_here s es b true h) ∙ none_stays false (get M.holdings.pending (replica_at b s)) refl),
  (λ b h. reported_pending M s es (replica_at b s) false (named_here s es b false h) ∙ all_stays true (get M.holdings.pending (replica_at b s)) refl),
  (λ p other. reported_pending M s es p false (and_left (p.storage == s) (is_named (expanded es) p.block) (ne_eqb p.storage s other)) ∙ all_stays true (get M.holdings.pending p) refl),
)

pub transfer_received : law.received_ends_transfer
unfolding after_event change_holdings enter
transfer_received M s b stamp = (get_taken M.holdings.pending (replica_at b s), (λ p other. get_left M.holdings.pending (replica_at b s) p other))

-- Blocks that a report does not name.

unnamed_stays : (C : Cluster) (H : Holdings) (s : ℕ) (ts : List ReportedBlock) (p : ReplicaId) → p.storage ≢ s → is_named ts p.block ≡ false → stays_by C H s ts p ≡ true
unfolding leaves_by_report
unnamed_stays C H s ts p other h = rw (ne_eqb p.storage s other, h) refl

reported_other : (M : State) (s : ℕ) (es : List Entry) (p : ReplicaId) → p.storage ≢ s → get (held_after M (FullReport s es)).replicas p ≡ get (keep M.holdings.replicas (λ q _. stays_by M.cluster M.holdings s (expanded es) q)) p
unfolding after_event change_holdings
reported_other M s es p other = reported_elsewhere M.cluster M.holdings s (expanded es) p other

pub unnamed_left : law.report_leaves_unnamed_blocks
unnamed_left M s es p other h =
    reported_other M s es p other ∙ get-keep M.holdings.replicas (λ q _. stays_by M.cluster M.holdings s (expanded es) q) p
    ∙ all_stays (stays_by M.cluster M.holdings s (expanded es) p) (get M.holdings.replicas p) (unnamed_stays M.cluster M.holdings s (expanded es) p other (named_numbers (expanded es) p.block ∙ h))
