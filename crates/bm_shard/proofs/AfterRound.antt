-- After a round a shard holds what the definition of a round gives for its own blocks.
use Rattle.std.proofs.Common.{◌≡◌, ℕ, not, List, map, refl, ap, subst, ◌∙◌}
use Rattle.std.specs.Prelude.{true, if◌then◌else◌}
use Rattle.bm_base.specs.declared.commands.Transfer.{Transfer}
use Rattle.bm_base.specs.declared.commands.Delete.{Delete}
use Rattle.bm_base.specs.declared.replica.ReplicaId.{ReplicaId}
use Rattle.bm_base.specs.declared.replica.Marks.{Marks}
use Rattle.bm_base.specs.Words.{Map, revise, keep, insert_all, Cluster, by_replica, replica_at, storages_where, is_expired, without_expired, without_unordered_excess, with_surplus_marked, excess_in, is_commanded, end_round}
use Rattle.bm_base.specs.RoundParts.{surplus, holdings_at_choice, round_on_part, own_transfers, own_deletes}
use Rattle.bm_arena.specs.Contents.{Contents}
use Rattle.bm_arena.specs.HeldMaps.{replicas_of, blocks_of, holdings_of}
use Rattle.bm_levels.specs.SlotHoldings.{holdings_with}
use Rattle.bm_base.specs.declared.ids.Part.{Part}
use Rattle.bm_levels.specs.LeveledBlocks.{Leveled}
use Rattle.bm_shard.specs.ShardView.{Seen, Reserved}
use Rattle.bm_shard.specs.Inside.{levels_of}
use Rattle.bm_shard.specs.UpToDate.{IsSameButCapacity}
use Rattle.bm_shard.proofs.SameHoldings.{seen_of}

-- a replica whose delete is commanded becomes ordered
abbrev pub as_commanded : List Delete → ReplicaId → Marks → Marks
as_commanded ds q m = if is_commanded ds q then record m { ordered = true } else m

-- the surplus replicas do not depend on transfers
pub same_surplus : (C : Cluster) (pend r : ℕ) (a : Contents) (P : Map by_replica ℕ)
    → surplus C (without_unordered_excess (without_expired pend r (holdings_with a P))) ≡ surplus C (without_unordered_excess (holdings_of a))
unfolding surplus without_unordered_excess without_expired holdings_with holdings_of excess_in storages_where
same_surplus C pend r a P = refl

module _ (C : Cluster) (pend r index shards : ℕ) (ts : List Transfer) (ds : List Delete) (a b c : Contents) (P Q R : Map by_replica ℕ) where
  -- the marks of a round, its deletes and its transfers make up the round
  pub on_part : blocks_of b ≡ blocks_of a → replicas_of b ≡ (with_surplus_marked C (without_unordered_excess (holdings_of a))).replicas
      → blocks_of c ≡ blocks_of b → replicas_of c ≡ revise (replicas_of b) (as_commanded (own_deletes index shards ds))
      → Q ≡ keep P (λ _ t. not (is_expired pend r t)) → R ≡ insert_all Q (map (λ t. (replica_at t.block t.target, r)) (own_transfers index shards ts))
      → holdings_with c R ≡ round_on_part C pend r (holdings_with a P) index shards ts ds
  unfolding holdings_at_choice end_round with_surplus_marked without_unordered_excess without_expired holdings_with holdings_of excess_in storages_where
  on_part blocks_b replicas_b blocks_c replicas_c left put =
      let replicas = replicas_c ∙ ap (λ m. revise m (as_commanded (own_deletes index shards ds))) replicas_b in
      let pending = put ∙ ap (λ m. insert_all m (map (λ t. (replica_at t.block t.target, r)) (own_transfers index shards ts))) left in
      λ i. record { blocks = (blocks_c ∙ blocks_b) i; replicas = replicas i; pending = pending i }

-- with other capacity for transfers, all else that is seen stays
pub same_without_capacity : (v : Leveled) (P Q : Map by_replica ℕ) → Q ≡ P → (part : Part) (round pend : ℕ) (reserved reserved' : Reserved) (before : Seen) → seen_of v P part round pend reserved ≡ before
    → IsSameButCapacity before (seen_of v Q part round pend reserved')
same_without_capacity v P Q same part round pend reserved reserved' before is = subst (λ s. IsSameButCapacity s (seen_of v Q part round pend reserved')) is (record {
  rest = λ i. record { holdings = holdings_with v.arena (same i); part = part; round = round; pend = pend; levels = levels_of v; reserved = reserved' };
  levels = λ C up_to_date. refl;
})
