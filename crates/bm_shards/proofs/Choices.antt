-- The transfers and deletes chosen from the parts of all shards are those chosen from the whole.
use Rattle.std.specs.Prelude.{◌≡◌, ℕ, ◌+◌, Bool, true, false, ◌==◌, ◌||◌, List, [], ◌∷◌, ◌++◌, map, filter, length, Option, None}
use Rattle.std.specs.List.{flat_map}
use Rattle.std.proofs.Common.{cond, refl, sym, ap, subst, ◌∙◌}
use Rattle.std.proofs.lemmas.Bool.{or_parts}
use Rattle.bm_base.specs.declared.commands.Delete.{Delete}
use Rattle.bm_base.specs.declared.round.RoundPart.{RoundPart}
use Rattle.bm_base.specs.declared.round.Wish.{Wish}
use Rattle.bm_base.specs.Words.{has, has_repeats, RoundLimits, Cluster, Holdings, transfers, deletes}
use Rattle.bm_base.specs.Ordered.{by_pair, ordered_by}
use Rattle.bm_base.specs.RoundParts.{holdings_at_choice, round_part, wish_key, delete_key}
use Rattle.bm_base.specs.Choices.{merged_wishes, merged_deletes, first_of_each_node, chosen_transfers, chosen_deletes}
use Rattle.bm_base.proofs.OneWish.{one_wish}
use Rattle.bm_parts.proofs.RoundParts.{round_wishes_ascend, round_deletes_ascend}
use Rattle.bm_parts.specs.RoundLaws.{round_parts}
use Rattle.bm_parts.specs.SortedLists.{AreSorted}
use Rattle.bm_parts.specs.BoundedWishes.{is_before, part_before}
use Rattle.bm_parts.proofs.WishesBefore.{ascends_still, merged_before}
use Rattle.bm_parts.proofs.Filters.{filter_all}
use Rattle.bm_parts.proofs.MergedChoices.{wishes_join, parts_choose_transfers, parts_choose_deletes}
use Rattle.bm_parts.proofs.WholeParts.{whole_has_its_parts}
use Rattle.bm_round.specs.KeyedParts.{keyed_wishes, keyed_delete, keyed_deletes}
use Rattle.bm_shard.specs.ShardView.{Seen}
use Rattle.bm_shard.specs.UpToDate.{next_part}
use Rattle.bm_shards.specs.RoundChoice.{next_parts, next_excess, HasExcess}
use Rattle.bm_shards.specs.Whole.{parts_of, held_by, AreShards, HaveTaken}
use Rattle.bm_shards.proofs.SameShards.{count_of}

-- a number that is not in a list is not in a filtered part of it
none_left : {X : Type 0} (number : X → ℕ) (p : X → Bool) (b : ℕ) (xs : List X) → has (map number xs) b ≡ false → has (map number (filter p xs)) b ≡ false
none_left number p b [] none = none
none_left number p b (x ∷ xs) none = let two = or_parts (number x == b) (has (map number xs) b) none in by (p x) two.0 (none_left number p b xs two.1)
  where
    by : (t : Bool) → (number x == b) ≡ false → has (map number (filter p xs)) b ≡ false → has (map number (cond t (x ∷ filter p xs) (filter p xs))) b ≡ false
    by true other rest = ap (λ u. u || has (map number (filter p xs)) b) other ∙ rest
    by false other rest = rest

once_left : {X : Type 0} (number : X → ℕ) (p : X → Bool) (xs : List X) → has_repeats (map number xs) ≡ false → has_repeats (map number (filter p xs)) ≡ false
once_left number p [] once = once
once_left number p (x ∷ xs) once =
    let two = or_parts (has (map number xs) (number x)) (has_repeats (map number xs)) once in
    by (p x) (none_left number p (number x) xs two.0) (once_left number p xs two.1)
  where
    by : (t : Bool) → has (map number (filter p xs)) (number x) ≡ false → has_repeats (map number (filter p xs)) ≡ false → has_repeats (map number (cond t (x ∷ filter p xs) (filter p xs))) ≡ false
    by true other rest = ap (λ u. u || has_repeats (map number (filter p xs))) other ∙ rest
    by false other rest = rest

-- parts that are cut by no bound are whole
pub uncut : (ps : List RoundPart) → map (part_before None) ps ≡ ps
uncut [] = refl
uncut (p ∷ ps) = λ j. record p { wishes = filter_all p.wishes j } ∷ uncut ps j

module _ (C : Cluster) where
  -- Each part is in order.

  wishes_sorted : (ss : List (ℕ × Seen)) → AreSorted (map keyed_wishes (next_parts C ss))
  wishes_sorted [] = tt
  wishes_sorted (s ∷ ss) = (round_wishes_ascend C s.1.pend (s.1.round + 1) s.1.holdings, wishes_sorted ss)

  deletes_sorted : (ss : List (ℕ × Seen)) → AreSorted (map keyed_deletes (next_parts C ss))
  deletes_sorted [] = tt
  deletes_sorted (s ∷ ss) = (round_deletes_ascend C s.1.pend (s.1.round + 1) s.1.holdings, deletes_sorted ss)

  -- They are the parts of the holdings of all shards.

  each_part : (last pend : ℕ) (ss : List (ℕ × Seen)) → HaveTaken last pend ss → next_parts C ss ≡ map (round_part C pend (last + 1)) (parts_of ss)
  each_part last pend [] took = refl
  each_part last pend (s ∷ ss) took = λ j. round_part C (took.1 j) (took.0 j + 1) s.1.holdings ∷ each_part last pend ss took.2 j

  whole_parts : (last pend : ℕ) (ss : List (ℕ × Seen)) (ps : List RoundPart) → ps ≡ next_parts C ss → AreShards (length ss) ss → HaveTaken last pend ss
      → ps ≡ round_parts C pend (last + 1) (held_by ss) (length ss)
  whole_parts last pend ss ps is h took =
      is ∙ each_part last pend ss took ∙ ap (map (round_part C pend (last + 1))) (sym (whole_has_its_parts (parts_of ss) (length ss) h.own (sym (count_of ss))))

  module _ (limits : RoundLimits) (last : ℕ) (ss : List (ℕ × Seen)) (ps : List RoundPart) (is : ps ≡ next_parts C ss) (h : AreShards (length ss) ss) (took : HaveTaken last limits.pend ss) where
    abbrev G : Holdings
    G = holdings_at_choice C limits.pend (last + 1) (held_by ss)

    pub wished_once : has_repeats (map (λ (w : Wish). w.block) (merged_wishes ps)) ≡ false
    wished_once =
        ap (λ (qs : List RoundPart). has_repeats (map (λ (w : Wish). w.block) (merged_wishes qs))) (whole_parts last limits.pend ss ps is h took)
        ∙ ap (λ (ws : List Wish). has_repeats (map (λ (w : Wish). w.block) ws)) (wishes_join C limits.pend (last + 1) (held_by ss) (length ss) h.some)
        ∙ one_wish C G

    pub transfers_of_all : chosen_transfers limits C ps ≡ transfers limits C G
    transfers_of_all = ap (chosen_transfers limits C) (whole_parts last limits.pend ss ps is h took) ∙ parts_choose_transfers limits C (last + 1) (held_by ss) (length ss) h.some

    pub deletes_of_all : chosen_deletes limits C ps ≡ deletes limits C G
    deletes_of_all = ap (chosen_deletes limits C) (whole_parts last limits.pend ss ps is h took) ∙ parts_choose_deletes limits C (last + 1) (held_by ss) (length ss) h.some

  -- The parts, reduced to the wishes before a bound.

  cut_parts : (bound : Option (ℕ × ℕ)) (ss : List (ℕ × Seen)) → map (λ (s : ℕ × Seen). part_before bound (next_part C s.1)) ss ≡ map (part_before bound) (next_parts C ss)
  cut_parts bound [] = refl
  cut_parts bound (s ∷ ss) = ap (λ ps. part_before bound (next_part C s.1) ∷ ps) (cut_parts bound ss)

  wishes_cut_sorted : (bound : Option (ℕ × ℕ)) (ps : List RoundPart) → AreSorted (map keyed_wishes ps) → AreSorted (map keyed_wishes (map (part_before bound) ps))
  wishes_cut_sorted bound [] h = tt
  wishes_cut_sorted bound (p ∷ ps) h = (ascends_still by_pair wish_key (is_before bound) p.wishes h.0, wishes_cut_sorted bound ps h.1)

  same_deletes : {Y : Type 0} (f : List Delete → Y) (bound : Option (ℕ × ℕ)) (ps : List RoundPart) → map (λ (p : RoundPart). f p.deletes) (map (part_before bound) ps) ≡ map (λ (p : RoundPart). f p.deletes) ps
  same_deletes f bound [] = refl
  same_deletes f bound (p ∷ ps) = ap (λ ys. f p.deletes ∷ ys) (same_deletes f bound ps)

  same_excess : (bound : Option (ℕ × ℕ)) (ss : List (ℕ × Seen)) → map (λ (p : RoundPart). p.excess) (map (part_before bound) (next_parts C ss)) ≡ next_excess C ss
  same_excess bound [] = refl
  same_excess bound (s ∷ ss) = ap (λ ys. (next_part C s.1).excess ∷ ys) (same_excess bound ss)

  all_deletes : (bound : Option (ℕ × ℕ)) (ps : List RoundPart) → flat_map (λ (p : RoundPart). p.deletes) (map (part_before bound) ps) ≡ flat_map (λ (p : RoundPart). p.deletes) ps
  all_deletes bound [] = refl
  all_deletes bound (p ∷ ps) = ap (λ ds. p.deletes ++ ds) (all_deletes bound ps)

  module _ (bound : Option (ℕ × ℕ)) (ss : List (ℕ × Seen)) (ps : List RoundPart) (is : ps ≡ map (λ (s : ℕ × Seen). part_before bound (next_part C s.1)) ss) where
    pub cut : ps ≡ map (part_before bound) (next_parts C ss)
    cut = is ∙ cut_parts bound ss

    pub cut_wishes_sorted : AreSorted (map keyed_wishes ps)
    cut_wishes_sorted = subst (λ (qs : List RoundPart). AreSorted (map keyed_wishes qs)) (sym cut) (wishes_cut_sorted bound (next_parts C ss) (wishes_sorted ss))

    pub cut_deletes_sorted : AreSorted (map keyed_deletes ps)
    cut_deletes_sorted =
        subst (λ (qs : List RoundPart). AreSorted (map keyed_deletes qs)) (sym cut)
        (subst AreSorted (sym (same_deletes (map keyed_delete) bound (next_parts C ss))) (deletes_sorted ss))

    pub cut_once : has_repeats (map (λ (w : Wish). w.block) (merged_wishes (next_parts C ss))) ≡ false → has_repeats (map (λ (w : Wish). w.block) (merged_wishes ps)) ≡ false
    cut_once once =
        ap (λ (qs : List RoundPart). has_repeats (map (λ (w : Wish). w.block) (merged_wishes qs))) cut
        ∙ ap (λ (ws : List Wish). has_repeats (map (λ (w : Wish). w.block) ws)) (merged_before bound (next_parts C ss))
        ∙ once_left (λ (w : Wish). w.block) (λ (w : Wish). is_before bound (wish_key w)) (merged_wishes (next_parts C ss)) once

    pub cut_excess : HasExcess C ss ps
    cut_excess = ap (map (λ (p : RoundPart). p.excess)) cut ∙ same_excess bound ss

    pub cut_deletes : (limits : RoundLimits) → chosen_deletes limits C ps ≡ chosen_deletes limits C (next_parts C ss)
    unfolding chosen_deletes merged_deletes
    cut_deletes limits = ap (λ (qs : List RoundPart). first_of_each_node limits C (ordered_by by_pair delete_key (flat_map (λ (p : RoundPart). p.deletes) qs))) cut ∙ ap (λ ds. first_of_each_node limits C (ordered_by by_pair delete_key ds)) (all_deletes bound (next_parts C ss))
