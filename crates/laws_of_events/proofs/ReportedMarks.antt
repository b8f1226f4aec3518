-- The marks of a reported or received replica follow from its stamp, its block and its old marks.
use Rattle.std.proofs.Common.{◌≡◌, Bool, true, false, ◌&&◌, Option, Some, None, refl, sym, ap, ◌∙◌, eqb-true, eq-eqb}
use Rattle.std.specs.Prelude.{◌==◌, if◌then◌else◌}
use Rattle.std.specs.Option.{option_map_or}
use Rattle.std.proofs.lemmas.Bool.{and_parts, and_from, false_from_ne_true}
use Rattle.bm_base.specs.declared.replica.ReplicaId.{ReplicaId}
use Rattle.bm_base.specs.declared.replica.Tag.{Tag}
use Rattle.bm_base.specs.declared.replica.Tag.TheVariants.{Good, Stale, Bad, Stray}
use Rattle.bm_base.specs.declared.replica.Marks.{Marks}
use Rattle.bm_base.specs.declared.replica.Stamp.{Stamp}
use Rattle.bm_base.specs.declared.replica.BlockInfo.{BlockInfo}
use Rattle.bm_base.specs.Words.{get, Holdings, is_good, is_bad, was_bad, was_excess, same_stamp, entered_tag, entered_marks}
use Rattle.laws_of_events.specs.Reports.{IsBadIn, IsExcessIn, HasReportedMarks}

found_bad : (t : Tag) → is_bad t ≡ true → t ≡ Bad
found_bad Good e = cc
found_bad Stale e = cc
found_bad Bad e = refl
found_bad Stray e = cc

pub found_good : (t : Tag) → is_good t ≡ true → t ≡ Good
found_good Good e = refl
found_good Stale e = cc
found_good Bad e = cc
found_good Stray e = cc

marked_by : (f : Marks → Bool) (z : Option Marks) → option_map_or f z false ≡ true → (m : Marks) × (z ≡ Some m) × (f m ≡ true)
marked_by f None e = cc
marked_by f (Some m) e = (m, refl, e)

pub bad_since : (H : Holdings) (p : ReplicaId) → was_bad H p ≡ true → IsBadIn H p
unfolding was_bad
bad_since H p e = let h = marked_by (λ m. is_bad m.tag) (get H.replicas p) e in (h.0, h.1, found_bad h.0.tag h.2)

pub bad_so : (H : Holdings) (p : ReplicaId) → IsBadIn H p → was_bad H p ≡ true
unfolding was_bad
bad_so H p h = ap (λ o. option_map_or (λ m. is_bad m.tag) o false) h.1 ∙ ap is_bad h.2

excess_since : (H : Holdings) (p : ReplicaId) → was_excess H p ≡ true → IsExcessIn H p
unfolding was_excess
excess_since H p e = marked_by (λ m. m.excess) (get H.replicas p) e

excess_so : (H : Holdings) (p : ReplicaId) → IsExcessIn H p → was_excess H p ≡ true
unfolding was_excess
excess_so H p h = ap (λ o. option_map_or (λ m. m.excess) o false) h.1 ∙ h.2

not_bad : (H : Holdings) (p : ReplicaId) → (IsBadIn H p → ⊥) → was_bad H p ≡ false
not_bad H p never = false_from_ne_true (was_bad H p) (λ e. never (bad_since H p e))

same_stamps : (a b : Stamp) → same_stamp a b ≡ true → a ≡ b
same_stamps a b e =
    let h = and_parts (a.generation == b.generation) (a.len == b.len) e in
    λ i. record { generation = eqb-true a.generation b.generation h.0 i; len = eqb-true a.len b.len h.1 i }

stamps_same : (a b : Stamp) → a ≡ b → same_stamp a b ≡ true
stamps_same a b e = and_from (a.generation == b.generation) (a.len == b.len) (eq-eqb a.generation b.generation (ap (λ s. s.generation) e)) (eq-eqb a.len b.len (ap (λ s. s.len) e))

-- the tag by whether the replica was bad, by its stamp and by what is known of the block
abbrev pub tag_where : Bool → Stamp → Option BlockInfo → Tag
tag_where bad stamp z = option_map_or (λ i. if bad then Bad else if same_stamp stamp i.stamp then Good else Stale) z Stray

tag_is : (H : Holdings) (p : ReplicaId) (stamp : Stamp) → (entered_marks H p stamp).tag ≡ tag_where (was_bad H p) stamp (get H.blocks p.block)
unfolding entered_marks entered_tag
tag_is H p stamp = refl

-- the tag of a replica is `tag_where` of what is known
tag_with : (H : Holdings) (p : ReplicaId) (stamp : Stamp) (bad : Bool) (z : Option BlockInfo) → was_bad H p ≡ bad → get H.blocks p.block ≡ z → (entered_marks H p stamp).tag ≡ tag_where bad stamp z
tag_with H p stamp bad z e f = tag_is H p stamp ∙ (λ i. tag_where (e i) stamp (f i))

chosen_tag : (b : Bool) → b ≡ true → (if b then Good else Stale) ≡ Good
chosen_tag true e = refl
chosen_tag false e = cc

other_tag : (b : Bool) → b ≡ false → (if b then Good else Stale) ≡ Stale
other_tag true e = cc
other_tag false e = refl

excess_is : (H : Holdings) (p : ReplicaId) (stamp : Stamp) → (entered_marks H p stamp).excess ≡ (is_good (entered_marks H p stamp).tag && was_excess H p)
unfolding entered_marks
excess_is H p stamp = refl

not_ordered : (H : Holdings) (p : ReplicaId) (stamp : Stamp) → (entered_marks H p stamp).ordered ≡ false
unfolding entered_marks
not_ordered H p stamp = refl

pub reported_marks : (H : Holdings) (p : ReplicaId) (stamp : Stamp) → HasReportedMarks H p stamp (entered_marks H p stamp)
reported_marks H p stamp = record {
  stray = λ none. tag_with H p stamp (was_bad H p) None refl none;
  bad = λ i e h. tag_with H p stamp true (Some i) (bad_so H p h) e;
  good = λ i e never is. tag_with H p stamp false (Some i) (not_bad H p never) e ∙ chosen_tag (same_stamp stamp i.stamp) (stamps_same stamp i.stamp is);
  stale = λ i e never other. tag_with H p stamp false (Some i) (not_bad H p never) e ∙ other_tag (same_stamp stamp i.stamp) (false_from_ne_true (same_stamp stamp i.stamp) (λ h. other (same_stamps stamp i.stamp h)));
  excess = λ good was. excess_is H p stamp ∙ and_from (is_good (entered_marks H p stamp).tag) (was_excess H p) (ap is_good good) (excess_so H p was);
  no_new_excess = λ e. let h = and_parts (is_good (entered_marks H p stamp).tag) (was_excess H p) (sym (excess_is H p stamp) ∙ e) in (found_good (entered_marks H p stamp).tag h.0, excess_since H p h.1);
  not_ordered = not_ordered H p stamp;
}
