-- A settled block with enough pending transfers has no wish.
use Rattle.std.specs.Prelude.{◌≡◌, ℕ, ◌-◌, ◌≤◌, Bool, true, false, ◌&&◌, nat_lt, nat_le, if◌then◌else◌, [], length, Option, Some, None, option_and_then, is_some}
use Rattle.std.specs.Option.{option_map_or}
use Rattle.std.proofs.Common.{refl, sym, ap, ◌∙◌, arith}
use Rattle.std.proofs.lemmas.Bool.{and_parts, false≢true, ne_eqb}
use Rattle.std.proofs.lemmas.Bool.Decides.{nat_tests}
use Rattle.bm_base.specs.declared.replica.Level.{Level}
use Rattle.bm_base.specs.declared.replica.Level.TheVariants.{Highest, VeryUnderReplicated, UnderReplicated, BadlyDistributed, NoUsableReplica}
use Rattle.bm_base.specs.declared.replica.BlockInfo.{BlockInfo}
use Rattle.bm_base.specs.declared.round.Wish.{Wish}
use Rattle.bm_base.specs.Words.{get, Cluster, Holdings, live, is_live_on, level, is_at, pending_targets, requested_count, without_expired, without_unordered_excess, with_surplus_marked}
use Rattle.bm_base.specs.RoundParts.{holdings_at_choice, wish_of, wish_at}
use Rattle.bm_arena.specs.Triplets.{Block}
use Rattle.bm_arena.specs.Contents.{Contents, slot_of, IsLawful}
use Rattle.bm_arena.specs.HeldMaps.{id_at, info_at, replicas_at}
use Rattle.bm_arena.proofs.HeldReplicas.{get-blocks_of}
use Rattle.bm_parts.specs.SettledBlocks.{IsSettled}
use Rattle.bm_parts.proofs.SettledBlocks.{settled_is_left}
use Rattle.bm_pending.specs.PendingMap.{PendingMap}
use Rattle.bm_pending.specs.RemainingTargets.{remaining_targets}
use Rattle.bm_levels.specs.Status.{storages_at}
use Rattle.bm_levels.specs.SlotHoldings.{holdings_with}
use Rattle.bm_levels.proofs.Levels.{as_many}
use Rattle.bm_round_scan.specs.ScannedSlots.{has_enough_pending}

module _ (C : Cluster) (pend r : ℕ) (a : Contents) (way : PendingMap) (lawful : IsLawful a) (b slot : ℕ) (here : slot_of a b ≡ Some slot) (settled : IsSettled (holdings_with a way.map) b) (enough : has_enough_pending C pend r a way slot ≡ true) where
  abbrev H : Holdings
  H = holdings_with a way.map

  abbrev G : Holdings
  G = holdings_at_choice C pend r H

  abbrev lives : ℕ
  lives = length (live C G b)

  abbrev pendings : ℕ
  pendings = length (pending_targets G b)

  left_at_start : remaining_targets pend r way b ≡ pending_targets G b
  unfolding holdings_at_choice with_surplus_marked without_unordered_excess without_expired holdings_with pending_targets
  left_at_start = refl

  pendings_are : pendings ≡ length (remaining_targets pend r way (id_at a slot))
  pendings_are =
      let found = lawful.found b slot here in
      let own : id_at a slot ≡ b = ap (λ o. option_map_or (λ (k : Block). k.id) o 0) found.2 ∙ found.3 in
      sym (ap length (ap (remaining_targets pend r way) own ∙ left_at_start))

  lives_are : lives ≡ length (storages_at (is_live_on C) (replicas_at a slot))
  lives_are =
      let found = lawful.found b slot here in
      ap length (settled_is_left C pend r H b settled).1
      ∙ as_many a way.map lawful b slot found.1 here found.2 (is_live_on C)
      ∙ sym (ap (λ o. length (storages_at (is_live_on C) (option_map_or (λ (k : Block). k.replicas) o []))) found.2)

  known : get G.blocks b ≡ info_at a slot
  unfolding holdings_at_choice with_surplus_marked without_unordered_excess without_expired holdings_with
  known = get-blocks_of a b ∙ ap (λ o. option_and_then (λ x. info_at a x) o) here

  is_enough : (nat_lt 0 pendings && option_map_or (λ (i : BlockInfo). nat_le (i.repl - lives) pendings) (get G.blocks b) false) ≡ true
  is_enough = (λ j. nat_lt 0 (pendings_are j) && option_map_or (λ (i : BlockInfo). nat_le (i.repl - lives_are j) (pendings_are j)) (known j) false) ∙ enough

  none_at_level : (l : Level) (repl : ℕ) → nat_lt 0 pendings ≡ true → nat_le (repl - lives) pendings ≡ true → requested_count C G l repl b ≡ 0
  none_at_level BadlyDistributed repl some all =
      ap (λ t. if t then 1 else 0) (ne_eqb pendings 0 (λ none. false≢true (sym (ap (nat_lt 0) none) ∙ some)))
  none_at_level NoUsableReplica repl some all = refl
  none_at_level Highest repl some all = let le : repl - lives ≤ pendings = grind (arith, nat_tests, all) in omega (arith, le)
  none_at_level VeryUnderReplicated repl some all = let le : repl - lives ≤ pendings = grind (arith, nat_tests, all) in omega (arith, le)
  none_at_level UnderReplicated repl some all = let le : repl - lives ≤ pendings = grind (arith, nat_tests, all) in omega (arith, le)

  pub none_wished : (l : Level) (w : Wish) → wish_at C G l b ≡ Some w → ⊥
  unfolding wish_at
  none_wished l w e = never (is_at l (level C G b)) (get G.blocks b) two.1 e
    where
      two : (nat_lt 0 pendings ≡ true) × (option_map_or (λ (i : BlockInfo). nat_le (i.repl - lives) pendings) (get G.blocks b) false ≡ true)
      two = and_parts (nat_lt 0 pendings) (option_map_or (λ (i : BlockInfo). nat_le (i.repl - lives) pendings) (get G.blocks b) false) is_enough

      wish_if : BlockInfo → ℕ → Option Wish
      wish_if i n = if nat_lt 0 n then Some (wish_of C G l b i) else None

      never : (t : Bool) (o : Option BlockInfo) → option_map_or (λ (i : BlockInfo). nat_le (i.repl - lives) pendings) o false ≡ true → (if t then option_and_then (λ i. wish_if i (requested_count C G l i.repl b)) o else None) ≡ Some w → ⊥
      never true None all f = false≢true (ap is_some f)
      never true (Some i) all f = false≢true (ap is_some (sym (ap (wish_if i) (none_at_level l i.repl two.0 all)) ∙ f))
      never false o all f = false≢true (ap is_some f)
