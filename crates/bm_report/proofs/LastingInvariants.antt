-- A full report keeps nodes at one replica of a block at most, and only good ones in excess.
use Rattle.std.proofs.Common.{◌≡◌, ℕ, Bool, true, false, cond, ◌&&◌, List, [], ◌∷◌, map, Option, Some, None, is_some, IsSome, IsTrue, refl, subst, inl, inr, sym, ap, ◌∙◌, eqb, eqb-true}
use Rattle.std.specs.Prelude.{◌==◌}
use Rattle.std.specs.Option.{option_map}
use Rattle.std.proofs.lemmas.Bool.{cases_Bool, false≢true, and_parts}
use Rattle.std.proofs.lemmas.Option.{same_Some}
use Rattle.bm_base.specs.declared.replica.ReplicaId.{ReplicaId}
use Rattle.bm_base.specs.declared.replica.Marks.{Marks}
use Rattle.bm_base.specs.declared.replica.Stamp.{Stamp}
use Rattle.bm_base.specs.Words.{ReportedBlock, get, Cluster, Holdings, is_good, are_siblings, entered_marks, report}
use Rattle.bm_report.specs.declared.types.ReportedSlot.{ReportedSlot}
use Rattle.bm_report.specs.DuringReport.{marks_during_report, without_invalid_excess, reported_of, IsOncePerNode}
use Rattle.bm_report.specs.Ready.{HasGoodExcess}
use Rattle.bm_base.proofs.Clusters.{siblings_turned, no_sibling_itself}
use Rattle.bm_report.proofs.Maps.{Held}
use Rattle.bm_report.proofs.ReportResult.{last_stamp, report_own, report_other, entered_without_invalid_excess}

module _ (C : Cluster) (H : Holdings) (s : ℕ) (ns : List ReportedSlot) where
  abbrev after_it : Held
  after_it = (report C H s (map reported_of ns)).replicas

  -- each replica on s was named
  own_named : (q : ReplicaId) → (q.storage == s) ≡ true → IsSome (get after_it q) → is_some (last_stamp ns q.block) ≡ true
  own_named q own some = by (last_stamp ns q.block) (sym (ap is_some (report_own C H s ns q own)) ∙ some)
    where
      by : (l : Option Stamp) → is_some (option_map (entered_marks H q) l) ≡ true → is_some l ≡ true
      by None e = absurd (false≢true e)
      by (Some st) e = refl

  -- each replica on another storage was there before; if the storage shares its node with s, the
  -- block is not named
  other_kept : (q : ReplicaId) → (q.storage == s) ≡ false → IsSome (get after_it q) → IsSome (get H.replicas q) × ((is_some (last_stamp ns q.block) && are_siblings C s q.storage) ≡ false)
  other_kept q other some = by (is_some (last_stamp ns q.block) && are_siblings C s q.storage) (sym (ap is_some (report_other C H s ns q other)) ∙ some)
    where
      by : (t : Bool) → is_some (cond t None (get H.replicas q)) ≡ true → IsSome (get H.replicas q) × (t ≡ false)
      by true e = absurd (false≢true e)
      by false e = (e, refl)

  apart : (p q : ReplicaId) → (p.storage == s) ≡ true → (q.storage == s) ≡ false → IsSome (get after_it p) → IsSome (get after_it q) → p.block ≡ q.block → are_siblings C p.storage q.storage ≡ false
  apart p q own other some some_too same =
      let named = sym (ap (λ b. is_some (last_stamp ns b)) same) ∙ own_named p own some in
      ap (λ k. are_siblings C k q.storage) (eqb-true p.storage s own)
      ∙ sym (ap (λ t. t && are_siblings C s q.storage) named) ∙ (other_kept q other some_too).1

  once_after : IsOncePerNode C H.replicas → IsOncePerNode C after_it
  once_after once p q some some_too same =
      elim (cases_Bool (eqb p.storage s)) [
        | inl p_own ↦
            elim (cases_Bool (eqb q.storage s)) [
              | inl q_own ↦ (λ i. are_siblings C (eqb-true p.storage s p_own i) (eqb-true q.storage s q_own i)) ∙ no_sibling_itself C s
              | inr q_other ↦ apart p q p_own q_other some some_too same
            ]
        | inr p_other ↦
            elim (cases_Bool (eqb q.storage s)) [
              | inl q_own ↦ siblings_turned C p.storage q.storage ∙ apart q p q_own p_other some_too some (sym same)
              | inr q_other ↦ once p q (other_kept p p_other some).0 (other_kept q q_other some_too).0 same
            ]
      ]

  good_after : HasGoodExcess H.replicas → HasGoodExcess after_it
  good_after good p m is excess =
      elim (cases_Bool (eqb p.storage s)) [
        | inl own ↦ entered_good (last_stamp ns p.block) (sym (report_own C H s ns p own) ∙ is)
        | inr other ↦ good p m (was (is_some (last_stamp ns p.block) && are_siblings C s p.storage) (sym (report_other C H s ns p other) ∙ is)) excess
      ]
    where
      was : (t : Bool) → cond t None (get H.replicas p) ≡ Some m → get H.replicas p ≡ Some m
      was true e = cc
      was false e = e

      entered_good : (l : Option Stamp) → option_map (entered_marks H p) l ≡ Some m → IsTrue (is_good m.tag)
      entered_good None e = cc
      entered_good (Some st) e =
          let x = marks_during_report (get H.blocks p.block) (get H.replicas p) st in
          let same : without_invalid_excess x ≡ m = entered_without_invalid_excess C H s p st ∙ same_Some (entered_marks H p st) m e in
          let P : Marks → Type 0 = λ k. IsTrue k.excess → IsTrue (is_good k.tag) in
          subst P same (λ h. (and_parts (is_good x.tag) x.excess h).0) excess

-- a reported block without a slot, since slots do not matter for a report
abbrev unslotted : ReportedBlock → ReportedSlot
unslotted t = record { id = t.id; slot = 0; stamp = t.stamp }

unslotted_back : (ts : List ReportedBlock) → map reported_of (map unslotted ts) ≡ ts
unslotted_back [] = refl
unslotted_back (t ∷ ts) = ap (λ l. t ∷ l) (unslotted_back ts)

pub once-reported : (C : Cluster) (H : Holdings) (s : ℕ) (ts : List ReportedBlock) → IsOncePerNode C H.replicas → IsOncePerNode C (report C H s ts).replicas
once-reported C H s ts once =
    let P : List ReportedBlock → Type 0 = λ l. IsOncePerNode C (report C H s l).replicas in
    subst P (unslotted_back ts) (once_after C H s (map unslotted ts) once)

pub good-reported : (C : Cluster) (H : Holdings) (s : ℕ) (ts : List ReportedBlock) → HasGoodExcess H.replicas → HasGoodExcess (report C H s ts).replicas
good-reported C H s ts good =
    let P : List ReportedBlock → Type 0 = λ l. HasGoodExcess (report C H s l).replicas in
    subst P (unslotted_back ts) (good_after C H s (map unslotted ts) good)
