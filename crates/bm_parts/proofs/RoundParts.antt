-- A round's wishes and deletes are sorted, and it commands what is chosen from the holdings.
use Rattle.std.proofs.Common.{◌≡◌, ℕ, ◌+◌, [], map, refl, T}
use Rattle.std.specs.FinMap.{is_sorted}
use Rattle.bm_base.specs.declared.round.RoundPart.{RoundPart}
use Rattle.bm_base.specs.Words.{RoundLimits, Cluster, Holdings, State, transfers, deletes, state_after_expiry, state_at_choice, commands_of, end_round, whole_round}
use Rattle.bm_base.specs.Ordered.{pair_cmp}
use Rattle.bm_base.specs.RoundParts.{wish_key, delete_key, round_part, holdings_at_choice}
use Rattle.bm_base.proofs.SortedParts.{wishes_ascend, deletes_ascend}

-- What a shard finds as round r begins.

module _ (C : Cluster) (pend r : ℕ) (H : Holdings) where
  pub round_wishes_ascend : T (is_sorted pair_cmp (map (λ w. (wish_key w, w)) (round_part C pend r H).wishes))
  unfolding round_part
  round_wishes_ascend = wishes_ascend C (holdings_at_choice C pend r H)

  pub round_deletes_ascend : T (is_sorted pair_cmp (map (λ d. (delete_key d, d)) (round_part C pend r H).deletes))
  unfolding round_part
  round_deletes_ascend = deletes_ascend C (holdings_at_choice C pend r H)

-- The whole round, by the choices over the holdings.
pub whole_round_is : (M : State)
    → let r = M.round + 1 in
    let G = holdings_at_choice M.cluster M.limits.pend r M.holdings in
    let ts = transfers M.limits M.cluster G in
    let ds = deletes M.limits M.cluster G in
    whole_round M ≡ (commands_of M.cluster r ts ds, record M { round = r; holdings = end_round r G ts ds })
unfolding whole_round state_at_choice state_after_expiry holdings_at_choice
whole_round_is M = refl
