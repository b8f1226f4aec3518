-- A round chooses the same transfers and deletes from all parts as from the whole.
use Rattle.std.proofs.Common.{◌≡◌, ℕ, ◌+◌, ◌≤◌, [], sym, ap, ◌∙◌, mod-lt}
use Rattle.std.proofs.lemmas.List.Folds.{flat_map-map}
use Rattle.bm_base.specs.declared.commands.Delete.{Delete}
use Rattle.bm_base.specs.declared.round.Wish.{Wish}
use Rattle.bm_base.specs.declared.round.RoundPart.{RoundPart}
use Rattle.bm_base.specs.Words.{Cluster, Holdings, range_from, commands_of, end_round}
use Rattle.bm_base.specs.Shards.{shard_of, cut}
use Rattle.bm_base.specs.Ordered.{by_pair, ordered_by}
use Rattle.bm_base.specs.RoundParts.{holdings_at_choice, wishes_by_block, deletable, round_part, wish_key, delete_key}
use Rattle.bm_base.specs.Choices.{merged_wishes, merged_deletes, one_by_one, transfers_over, chosen_transfers, first_of_each_node, chosen_deletes}
use Rattle.bm_base.proofs.SortedParts.{wishes_ascend, deletes_ascend}
use Rattle.bm_parts.proofs.WholeChoices.{flat_map_same, transfers_of_wishes, deletes_of_nodes}
use Rattle.bm_parts.proofs.RoundParts as round_parts
use Rattle.bm_parts.specs.Whole.{parts}
use Rattle.bm_parts.specs.RoundLaws as law
use Rattle.bm_parts.proofs.JoinedShares.{share, shares_in_order}
use Rattle.bm_parts.proofs.CutParts.{started_cut}
use Rattle.bm_parts.proofs.PartLists.{wishes_cut, deletes_cut}

module _ (C : Cluster) (pend r : ℕ) (H : Holdings) (shards : ℕ) where
  abbrev G : Holdings
  G = holdings_at_choice C pend r H

  part_wishes : (i : ℕ) → (round_part C pend r (cut H i shards)).wishes ≡ share (λ (w : Wish). shard_of w.block shards) (wishes_by_block C G) i
  unfolding round_part
  part_wishes i = ap (wishes_by_block C) (sym (started_cut i shards C pend r H)) ∙ wishes_cut i shards C G

  part_deletes : (i : ℕ) → (round_part C pend r (cut H i shards)).deletes ≡ share (λ (d : Delete). shard_of d.block shards) (deletable C G) i
  unfolding round_part
  part_deletes i = ap (deletable C) (sym (started_cut i shards C pend r H)) ∙ deletes_cut i shards C G

  merged_wishes_are : 1 ≤ shards → merged_wishes (law.round_parts C pend r H shards) ≡ wishes_by_block C G
  unfolding merged_wishes
  merged_wishes_are some =
      ap (ordered_by by_pair wish_key)
      (flat_map-map (λ (p : RoundPart). p.wishes) (round_part C pend r) (parts H shards) ∙ flat_map-map (λ P. (round_part C pend r P).wishes) (λ i. cut H i shards) (range_from 0 shards)
      ∙ flat_map_same _ _ part_wishes (range_from 0 shards))
      ∙ shares_in_order by_pair wish_key (wishes_by_block C G) (wishes_ascend C G) (λ w. shard_of w.block shards) shards (λ w. mod-lt w.block some)

  merged_deletes_are : 1 ≤ shards → merged_deletes (law.round_parts C pend r H shards) ≡ deletable C G
  unfolding merged_deletes
  merged_deletes_are some =
      ap (ordered_by by_pair delete_key)
      (flat_map-map (λ (p : RoundPart). p.deletes) (round_part C pend r) (parts H shards) ∙ flat_map-map (λ P. (round_part C pend r P).deletes) (λ i. cut H i shards) (range_from 0 shards)
      ∙ flat_map_same _ _ part_deletes (range_from 0 shards))
      ∙ shares_in_order by_pair delete_key (deletable C G) (deletes_ascend C G) (λ d. shard_of d.block shards) shards (λ d. mod-lt d.block some)

pub wishes_join : law.wishes_join
wishes_join C pend r H shards some = merged_wishes_are C pend r H shards some

pub deletes_join : law.deletes_join
deletes_join C pend r H shards some = merged_deletes_are C pend r H shards some

pub parts_choose_transfers : law.parts_choose_transfers
unfolding chosen_transfers
parts_choose_transfers limits C r H shards some =
    ap (λ ws. transfers_over limits C [] (one_by_one ws)) (merged_wishes_are C limits.pend r H shards some) ∙ transfers_of_wishes limits C (holdings_at_choice C limits.pend r H)

pub parts_choose_deletes : law.parts_choose_deletes
unfolding chosen_deletes
parts_choose_deletes limits C r H shards some =
    ap (first_of_each_node limits C) (merged_deletes_are C limits.pend r H shards some) ∙ deletes_of_nodes limits C (holdings_at_choice C limits.pend r H)

pub whole_round_is : law.whole_round_is
whole_round_is M shards some =
    let r : ℕ = M.round + 1 in
    let G : Holdings = holdings_at_choice M.cluster M.limits.pend r M.holdings in
    let ts = sym (parts_choose_transfers M.limits M.cluster r M.holdings shards some) in
    let ds = sym (parts_choose_deletes M.limits M.cluster r M.holdings shards some) in
    round_parts.whole_round_is M ∙ (λ i. (commands_of M.cluster r (ts i) (ds i), record M { round = r; holdings = end_round r G (ts i) (ds i) }))
