-- After an event a shard has the defined holdings, and levels that were right before still are.
use Rattle.std.proofs.Common.{◌≡◌, ℕ, refl, sym, ap, subst, ◌∙◌}
use Rattle.bm_base.specs.declared.ids.Part.{Part}
use Rattle.bm_base.specs.declared.event.Done.{Done}
use Rattle.bm_base.specs.Words.{Map, get, Cluster, Holdings, by_replica, level, done}
use Rattle.bm_parts.specs.PlacedLaws.{IsPlaced}
use Rattle.bm_arena.specs.Contents.{IsLawful}
use Rattle.bm_levels.specs.LeveledBlocks.{Leveled, AreLevels, IsLeveled}
use Rattle.bm_levels.specs.SlotHoldings.{holdings_with}
use Rattle.bm_shard.specs.ShardView.{Seen, Reserved}
use Rattle.bm_shard.specs.EventEffects.{HasChanged}
use Rattle.bm_shard.specs.UpToDate.{IsUpToDate, IsSameButCapacity}
use Rattle.bm_shard.proofs.Levels.{right_by_number, right_by_slot}
use Rattle.bm_shard.proofs.SameHoldings.{seen_of}

module _ (C D : Cluster) (v w : Leveled) (P Q : Map by_replica ℕ) (lawful_v : IsLawful v.arena) (leveled_v : IsLeveled v) (lawful_w : IsLawful w.arena) (levels : AreLevels C v → AreLevels D w) (part : Part) (round pend : ℕ) (reserved reserved' : Reserved) where
  has_changed : (to : Holdings) (answer : Done) → holdings_with w.arena Q ≡ to → answer ≡ done (holdings_with v.arena P) to
      → HasChanged C D (seen_of v P part round pend reserved) (seen_of w Q part round pend reserved') to answer
  has_changed to answer is answers = record {
    holdings = is;
    done = answers;
    levels = λ right. right_by_number D w Q lawful_w (levels (right_by_slot C v P lawful_v leveled_v right));
    part = refl;
    round = refl;
    pend = refl;
  }

  -- for a shard that was seen as `before`
  pub changed_seen : (to : Holdings → Holdings) (answer : Done) (before : Seen) → seen_of v P part round pend reserved ≡ before
      → holdings_with w.arena Q ≡ to (holdings_with v.arena P) → answer ≡ done (holdings_with v.arena P) (to (holdings_with v.arena P))
      → HasChanged C D before (seen_of w Q part round pend reserved') (to before.holdings) answer
  changed_seen to answer before seen is answers =
      subst (λ s. HasChanged C D s (seen_of w Q part round pend reserved') (to s.holdings) answer) seen (has_changed (to (holdings_with v.arena P)) answer is answers)

-- A shard that changes only its capacity is up to date in the same clusters. So an event has the
-- same effect on it as before.

pub stays_up_to_date : (C : Cluster) (old mid : Seen) → IsUpToDate C old → IsSameButCapacity old mid → IsUpToDate C mid
stays_up_to_date C old mid up_to_date same =
    let held : mid.holdings ≡ old.holdings = ap (λ (s : Seen). s.holdings) same.rest in
    record {
      levels = λ n. ap (λ m. get m n) (same.levels C up_to_date) ∙ up_to_date.levels n ∙ ap (λ H. level C H n) (sym held);
      placed = subst (λ H. IsPlaced C H) (sym held) up_to_date.placed;
    }

pub changed_after : (C D : Cluster) (old mid new : Seen) (to : Holdings → Part → Holdings) (answer : Done) → IsUpToDate C old → IsSameButCapacity old mid
    → HasChanged C D mid new (to mid.holdings mid.part) answer → HasChanged C D old new (to old.holdings old.part) answer
changed_after C D old mid new to answer up_to_date same changed =
    let P : Seen → Type 0 = λ S. HasChanged C D S new (to S.holdings S.part) answer in
    let h = subst P same.rest changed in
    record {
      holdings = h.holdings;
      done = h.done;
      levels = λ right. h.levels (λ b. ap (λ m. get m b) (same.levels C up_to_date) ∙ right b);
      part = h.part;
      round = h.round;
      pend = h.pend;
    }
