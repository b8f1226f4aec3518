-- If blocks, replicas and right levels stay, the view of a shard changes only in capacity.
use Rattle.std.proofs.Common.{◌≡◌, ℕ, sym, ap, subst, ◌∙◌}
use Rattle.bm_base.specs.declared.ids.Part.{Part}
use Rattle.bm_base.specs.Words.{Map, get, Cluster, by_replica, level}
use Rattle.bm_base.proofs.MapLaws.{same_map}
use Rattle.bm_arena.specs.Contents.{IsLawful}
use Rattle.bm_arena.specs.HeldMaps.{replicas_of, blocks_of}
use Rattle.bm_levels.specs.LeveledBlocks.{Leveled, AreLevels, IsLeveled}
use Rattle.bm_levels.specs.SlotHoldings.{holdings_with}
use Rattle.bm_shard.specs.ShardView.{Seen, Reserved}
use Rattle.bm_shard.specs.UpToDate.{IsSameButCapacity}
use Rattle.bm_shard.specs.Inside.{levels_of}
use Rattle.bm_shard.proofs.Levels.{right_by_number, right_by_slot}

-- blocks and replicas stay, and levels that were right stay right
pub record KeepsHeld (v w : Leveled) : Type 0 where
  pub blocks : blocks_of w.arena ≡ blocks_of v.arena
  pub replicas : replicas_of w.arena ≡ replicas_of v.arena
  pub levels : (C : Cluster) → AreLevels C v → AreLevels C w

-- the view of contracts on these fields
abbrev pub seen_of : Leveled → Map by_replica ℕ → Part → ℕ → ℕ → Reserved → Seen
seen_of v P part round pend reserved = record { holdings = holdings_with v.arena P; part = part; round = round; pend = pend; levels = levels_of v; reserved = reserved }

module _ (v w : Leveled) (P : Map by_replica ℕ) (lawful_v : IsLawful v.arena) (leveled_v : IsLeveled v) (lawful_w : IsLawful w.arena) (same : KeepsHeld v w) where
  holdings_same : holdings_with w.arena P ≡ holdings_with v.arena P
  unfolding holdings_with
  holdings_same = λ i. record { blocks = same.blocks i; replicas = same.replicas i; pending = P }

  levels_same : (C : Cluster) → ((b : ℕ) → get (levels_of v) b ≡ level C (holdings_with v.arena P) b) → levels_of w ≡ levels_of v
  levels_same C right =
      same_map (levels_of w) (levels_of v) (λ b.
      right_by_number C w P lawful_w (same.levels C (right_by_slot C v P lawful_v leveled_v right)) b ∙ ap (λ H. level C H b) holdings_same ∙ sym (right b))

  pub same_but_capacity : (part : Part) (round pend : ℕ) (reserved reserved' : Reserved) → IsSameButCapacity (seen_of v P part round pend reserved) (seen_of w P part round pend reserved')
  same_but_capacity part round pend reserved reserved' = record {
    rest = λ i. record { holdings = holdings_same i; part = part; round = round; pend = pend; levels = levels_of w; reserved = reserved' };
    levels = λ C up_to_date. levels_same C up_to_date.levels;
  }

  -- for a shard that was seen as `before`
  pub same_seen : (part : Part) (round pend : ℕ) (reserved reserved' : Reserved) (before : Seen) → seen_of v P part round pend reserved ≡ before → IsSameButCapacity before (seen_of w P part round pend reserved')
  same_seen part round pend reserved reserved' before is = subst (λ s. IsSameButCapacity s (seen_of w P part round pend reserved')) is (same_but_capacity part round pend reserved reserved')
