-- A round neither marks nor deletes a replica of a settled block, which stays so if replicas leave.
use Rattle.std.proofs.Common.{◌≡◌, ℕ, ◌-◌, ◌≤◌, Bool, true, false, not, ◌&&◌, List, [], ◌∷◌, length, Option, Some, None, refl, sym, ap, ◌∙◌, arith}
use Rattle.std.specs.Prelude.{◌==◌, ◌||◌, if◌then◌else◌, option_map, option_and_then}
use Rattle.std.specs.Option.{option_map_or}
use Rattle.bm_base.specs.declared.replica.ReplicaId.{ReplicaId}
use Rattle.bm_base.specs.declared.replica.Marks.{Marks}
use Rattle.bm_base.specs.declared.replica.BlockInfo.{BlockInfo}
use Rattle.bm_base.specs.Words.{get, keep, revise, Cluster, Holdings, replica_at, has, is_usable, is_live_on, is_drained_on, is_draining, has_storage, drains, live, drained, storages_where, racks, is_multi_rack, usable, level, level_of, without_expired, without_unordered_excess, excess_among, excess_of, excess_in, with_surplus_marked, is_deletable, without_storages, begin_drain, is_commanded, end_round}
use Rattle.bm_base.proofs.MapLaws.{get-revise}
use Rattle.bm_base.specs.RoundParts.{holdings_at_choice}
use Rattle.bm_parts.specs.SettledBlocks as law
use Rattle.bm_parts.specs.SettledBlocks.{IsSettled, plain}
use Rattle.std.proofs.lemmas.Bool.{and_parts, and_right, or_parts}
use Rattle.bm_parts.proofs.OneBlock.{settled_is_of_its_block}
use Rattle.bm_parts.proofs.Storages.{storages_left, storages_revised, fewer_where}
use Rattle.bm_base.specs.declared.commands.Transfer.{Transfer}
use Rattle.bm_base.specs.declared.commands.Delete.{Delete}
use Rattle.std.specs.List.{list_any}
use Rattle.bm_base.proofs.MapEntries.{get_kept, get_revised}

-- a block has no more live replicas than usable ones
fewer_live : (C : Cluster) (H : Holdings) (b : ℕ) → length (live C H b) ≤ length (usable H b)
fewer_live C H b = fewer_where (is_live_on C) (λ _ m. is_usable m) H b (λ s m h. (and_parts (is_usable m) (not (is_draining C s)) h).0)

module _ (C : Cluster) (pend r : ℕ) (H : Holdings) (b : ℕ) (settled : IsSettled H b) where
  abbrev U : Holdings
  U = without_unordered_excess (without_expired pend r H)

  abbrev dropping : Marks → Marks
  dropping m = if m.ordered then m else record m { excess = false }

  storages_dropped : (p : ℕ → Marks → Bool) → storages_where p U b ≡ storages_where p H b
  unfolding without_unordered_excess without_expired storages_where
  storages_dropped p = storages_revised H (λ _ m. dropping m) p b (λ q m at there. ap (p q.storage) (ap dropping (settled.all_plain q m at there) ∙ sym (settled.all_plain q m at there)))

  known_same : get U.blocks b ≡ get H.blocks b
  unfolding without_unordered_excess without_expired
  known_same = refl

  none_too_many : (ss : List ℕ) (repl : ℕ) → length ss ≤ repl → excess_of C ss repl ≡ []
  unfolding excess_of
  none_too_many ss repl few = let none : length ss - repl ≡ 0 = omega (arith, few) in ap (λ k. excess_among C k ss) none

  none_marked_at : (o : Option BlockInfo) → get H.blocks b ≡ o → option_map_or (λ i. excess_of C (live C H b) i.repl) o [] ≡ []
  none_marked_at None is = refl
  none_marked_at (Some i) is = none_too_many (live C H b) i.repl (let less = fewer_live C H b in let few = settled.few i is in omega (arith, less, few))

  none_marked : excess_in C U b ≡ []
  unfolding excess_in
  none_marked = (λ j. option_map_or (λ i. excess_of C (storages_dropped (is_live_on C) j) i.repl) (known_same j) []) ∙ none_marked_at (get H.blocks b) refl

  abbrev marking : ReplicaId → Marks → Marks
  marking q m = if has (excess_in C U q.block) q.storage then record m { excess = true } else m

  not_marked : (q : ReplicaId) (m : Marks) → q.block ≡ b → marking q m ≡ m
  not_marked q m at = ap (λ xs. if has xs q.storage then record m { excess = true } else m) (ap (excess_in C U) at ∙ none_marked)

  storages_same : (p : ℕ → Marks → Bool) → storages_where p (holdings_at_choice C pend r H) b ≡ storages_where p H b
  unfolding holdings_at_choice with_surplus_marked
  storages_same p = storages_revised U marking p b (λ q m at there. ap (p q.storage) (not_marked q m at)) ∙ storages_dropped p

  live_same : live C (holdings_at_choice C pend r H) b ≡ live C H b
  live_same = storages_same (is_live_on C)

  drained_same : drained C (holdings_at_choice C pend r H) b ≡ drained C H b
  drained_same = storages_same (is_drained_on C)

  level_same : level C (holdings_at_choice C pend r H) b ≡ level C H b
  unfolding level holdings_at_choice with_surplus_marked without_unordered_excess without_expired
  level_same = λ j. option_and_then (λ i. level_of (record { live = length (live_same j); drained = length (drained_same j); wanted = i.repl; racks = length (racks C (live_same j)); multi_rack = is_multi_rack C })) (get H.blocks b)

  marks_at_start : (q : ReplicaId) (m : Marks) → q.block ≡ b → get (holdings_at_choice C pend r H).replicas q ≡ Some m → m ≡ plain
  unfolding holdings_at_choice with_surplus_marked without_unordered_excess without_expired
  marks_at_start q m at there =
      let was = get_revised (revise H.replicas (λ _ m. dropping m)) marking q m there in
      let before = get_revised H.replicas (λ _ m. dropping m) q was.0 was.1 in
      let is : before.0 ≡ plain = settled.all_plain q before.0 at before.1 in
      sym was.2 ∙ not_marked q was.0 at ∙ sym before.2 ∙ ap dropping is

pub settled_is_left : law.settled_is_left
settled_is_left C pend r H b settled = (none_marked C pend r H b settled, live_same C pend r H b settled, drained_same C pend r H b settled, level_same C pend r H b settled)

plain_is_kept : (C : Cluster) (G : Holdings) (q : ReplicaId) → is_deletable C G q plain ≡ false
unfolding is_deletable
plain_is_kept C G q = refl

pub settled_is_kept : law.settled_is_kept
settled_is_kept C pend r H q m settled there = ap (is_deletable C (holdings_at_choice C pend r H) q) (marks_at_start C pend r H q.block settled q m refl there) ∙ plain_is_kept C (holdings_at_choice C pend r H) q

-- Which changes leave a block settled.

pub leaving_keeps_settled : law.leaving_keeps_settled
unfolding without_storages
leaving_keeps_settled H gone b settled = record {
  all_plain = λ q m at there. settled.all_plain q m at (get_kept H.replicas (λ q _. not (gone q.storage)) q m there).0;
  few = λ i is.
      let few = settled.few i is in
      let left = ap length (storages_left H gone (λ _ m. is_usable m) (λ s m. not (gone s) && is_usable m) b (λ s m there. refl)) in
      let less = fewer_where (λ s m. not (gone s) && is_usable m) (λ _ m. is_usable m) H b (λ s m h. (and_parts (not (gone s)) (is_usable m) h).1) in
      omega (arith, few, left, less);
}

pub drain_keeps_settled : law.drain_keeps_settled
unfolding begin_drain
drain_keeps_settled C H n b settled = by_test (drains C n)
  where
    by_test : (t : Bool) → IsSettled (if t then H else record H { pending = keep H.pending (λ q _. not (has_storage C n q.storage)) }) b
    by_test true = settled
    by_test false = settled_is_of_its_block H (record H { pending = keep H.pending (λ q _. not (has_storage C n q.storage)) }) b refl (λ s. refl) settled

-- deletes of other blocks do not command a replica
none_commanded : (ds : List Delete) (q : ReplicaId) → list_any (λ d. d.block == q.block) ds ≡ false → is_commanded ds q ≡ false
unfolding is_commanded
none_commanded [] q none = refl
none_commanded (d ∷ ds) q none =
    let two = or_parts (d.block == q.block) (list_any (λ d. d.block == q.block) ds) none in
    ap (λ t. ((d.storage == q.storage) && t) || list_any (λ (d : Delete). (d.storage == q.storage) && (d.block == q.block)) ds) two.0
    ∙ ap (λ t. t || list_any (λ (d : Delete). (d.storage == q.storage) && (d.block == q.block)) ds) (and_right (d.storage == q.storage) false refl) ∙ none_commanded ds q two.1

module _ (C : Cluster) (pend r : ℕ) (H : Holdings) (ts : List Transfer) (ds : List Delete) (b : ℕ) (none : list_any (λ d. d.block == b) ds ≡ false) (settled : IsSettled H b) where
  abbrev begun_round : Holdings
  begun_round = holdings_at_choice C pend r H

  -- the end of the round changes none of its replicas
  not_ordered : (s : ℕ) → get (end_round r begun_round ts ds).replicas (replica_at b s) ≡ get begun_round.replicas (replica_at b s)
  unfolding end_round
  not_ordered s =
      get-revise begun_round.replicas (λ q m. if is_commanded ds q then record m { ordered = true } else m) (replica_at b s)
      ∙ same (get begun_round.replicas (replica_at b s)) (none_commanded ds (replica_at b s) none)
    where
      same : (o : Option Marks) → is_commanded ds (replica_at b s) ≡ false → option_map (λ (m : Marks). if is_commanded ds (replica_at b s) then record m { ordered = true } else m) o ≡ o
      same None e = refl
      same (Some m) e = ap (λ t. Some (if t then record m { ordered = true } else m)) e

  known_at_end : get (end_round r begun_round ts ds).blocks b ≡ get begun_round.blocks b
  unfolding end_round
  known_at_end = refl

  known_at_start : get begun_round.blocks b ≡ get H.blocks b
  unfolding holdings_at_choice with_surplus_marked without_unordered_excess without_expired
  known_at_start = refl

  settled_at_start : IsSettled begun_round b
  settled_at_start = record {
    all_plain = marks_at_start C pend r H b settled;
    few = λ i is. let few = settled.few i (sym known_at_start ∙ is) in let as_many = ap length (storages_same C pend r H b settled (λ _ m. is_usable m)) in omega (arith, few, as_many);
  }

  settled_at_end : IsSettled (end_round r begun_round ts ds) b
  settled_at_end = settled_is_of_its_block begun_round (end_round r begun_round ts ds) b known_at_end not_ordered settled_at_start

pub round_keeps_settled : law.round_keeps_settled
round_keeps_settled C pend r H ts ds b none settled = settled_at_end C pend r H ts ds b none settled
