-- If reported replicas are there already, unchanged, they are so at slots whose blocks stay.
use Rattle.std.proofs.Common.{false, ◌≡◌, ◌≢◌, ℕ, List, [], ◌∷◌, ◌++◌, map, Option, Some, subst, sym, ap, ◌∙◌, slice_get, zero, suc}
use Rattle.std.specs.Option.{option_and_then, option_map_or}
use Rattle.bm_base.specs.declared.replica.BlockInfo.{BlockInfo}
use Rattle.bm_base.specs.Machine.State.{Cluster}
use Rattle.bm_arena.specs.HeldMaps.{holdings_of, info_at}
use Rattle.bm_report.specs.Ready.{AreAlreadyThere}
use Rattle.bm_report.proofs.Maps.{get-here}
use Rattle.bm_report.proofs.ReceivedReplicas.{marks_are}
use Rattle.std.proofs.lemmas.Option.{none-some}
use Rattle.bm_base.specs.declared.replica.Marks.{Marks}
use Rattle.bm_base.specs.declared.replica.Stamp.{Stamp}
use Rattle.bm_arena.specs.Triplets.{Block}
use Rattle.bm_arena.specs.Contents.{Contents, block_at, marks_at, find_marks, IsLawful}
use Rattle.bm_report.specs.declared.types.ReportedSlot.{ReportedSlot}
use Rattle.bm_report.specs.DuringReport.{marks_during_report, without_invalid_excess, reported_of, IsAlreadyThere, AllAlreadyThere, AreAtSlots}

-- `IsAlreadyThere`, by the block in a slot
abbrev HasReplica : ℕ → Stamp → Option Block → Type 0
HasReplica s t o =
    option_and_then (λ (b : Block). find_marks b.replicas s) o
    ≡ Some (marks_during_report (option_and_then (λ (b : Block). b.info) o) (option_and_then (λ (b : Block). find_marks b.replicas s) o) t)

pub already_at : (a b : Contents) (s : ℕ) (n : ReportedSlot) → block_at b n.slot ≡ block_at a n.slot → IsAlreadyThere a s n → IsAlreadyThere b s n
already_at a b s n same h = let P : Option Block → Type 0 = λ o. HasReplica s n.stamp o in subst P (sym same) h

pub already_same : (a b : Contents) (s : ℕ) (n : ReportedSlot) → b.blocks ≡ a.blocks → IsAlreadyThere a s n → IsAlreadyThere b s n
already_same a b s n same h = already_at a b s n (ap (λ (x : Contents). block_at x n.slot) (λ i. record b { blocks = same i })) h

pub all_same : (a b : Contents) (s : ℕ) (ns : List ReportedSlot) → b.blocks ≡ a.blocks → AllAlreadyThere a s ns → AllAlreadyThere b s ns
all_same a b s [] same h = tt
all_same a b s (n ∷ ns) same h = (already_same a b s n same h.0, all_same a b s ns same h.1)

pub already_all : (a b : Contents) (s : ℕ) (ns : List ReportedSlot) → IsLawful a → AreAtSlots a ns → ((x : ℕ) → x ≢ a.delimiter → block_at b x ≡ block_at a x) → AllAlreadyThere a s ns → AllAlreadyThere b s ns
already_all a b s [] lawful here others h = tt
already_all a b s (n ∷ ns) lawful here others h =
    (already_at a b s n (others n.slot (lawful.found n.id n.slot here.0).0) h.0, already_all a b s ns lawful here.1 others h.1)

pub one_of : (a : Contents) (s : ℕ) (ns : List ReportedSlot) (i : ℕ) (n : ReportedSlot) → slice_get ns i ≡ Some n → AllAlreadyThere a s ns → IsAlreadyThere a s n
one_of a s [] i n e h = absurd (none-some n e)
one_of a s (x ∷ ns) zero n e h = let same : x ≡ n = cc in let P : ReportedSlot → Type 0 = λ k. IsAlreadyThere a s k in subst P same h.0
one_of a s (x ∷ ns) (suc i) n e h = one_of a s ns i n e h.1

pub front_of : (a : Contents) (s : ℕ) (ns ms : List ReportedSlot) → AllAlreadyThere a s (ns ++ ms) → AllAlreadyThere a s ns
front_of a s [] ms h = tt
front_of a s (n ∷ ns) ms h = (h.0, front_of a s ns ms h.1)

pub back_of : (a : Contents) (s : ℕ) (ns ms : List ReportedSlot) → AllAlreadyThere a s (ns ++ ms) → AllAlreadyThere a s ms
back_of a s [] ms h = h
back_of a s (n ∷ ns) ms h = back_of a s ns ms h.1

-- In terms of holdings.

-- marks that stay without invalid excess are in excess only if they are good
excess_kept : (info : Option BlockInfo) (was : Option Marks) (t : Stamp) → was ≡ Some (without_invalid_excess (marks_during_report info was t)) → was ≡ Some (marks_during_report info was t)
excess_kept info was t is =
    let kept : (marks_during_report info was t).excess ≡ (without_invalid_excess (marks_during_report info was t)).excess = ap (λ o. option_map_or (λ (m : Marks). m.excess) o false) is in
    is ∙ (λ i. Some (record (marks_during_report info was t) { excess = sym kept i }))

pub all_already_there : (C : Cluster) (a : Contents) (s : ℕ) (ns : List ReportedSlot) → AreAtSlots a ns → AreAlreadyThere (holdings_of a) s (map reported_of ns) → AllAlreadyThere a s ns
unfolding holdings_of
all_already_there C a s [] here h = tt
all_already_there C a s (n ∷ ns) here h =
    (excess_kept (info_at a n.slot) (marks_at a n.slot s) n.stamp (sym (get-here a n.id n.slot s here.0) ∙ h.0 ∙ ap Some (sym (marks_are C a s n here.0))), all_already_there C a s ns here.1 h.1)
