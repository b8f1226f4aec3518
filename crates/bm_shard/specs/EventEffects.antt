-- The effect of an event on the view of a shard.
use Rattle.std.specs.Prelude.{◌≡◌, ℕ, Bool, true, ◌==◌}
use Rattle.std.specs.Option.{option_map_or}
use Rattle.bm_base.specs.declared.ids.Part.{Part}
use Rattle.bm_base.specs.declared.event.Event.{Event}
use Rattle.bm_base.specs.Shards.{shard_of}
use Rattle.bm_parts.specs.Parts.{block_of}
use Rattle.bm_base.specs.declared.event.Done.{Done}
use Rattle.bm_base.specs.Words.{get, Cluster, Holdings, level, done}
use Rattle.bm_shard.specs.ShardView.{Seen}

-- the stored levels are those of this cluster
abbrev pub HasLevels : Cluster → Seen → Type 0
HasLevels C S = (b : ℕ) → get S.levels b ≡ level C S.holdings b

-- whether an event is on a block of the shard's own numbers, or on no block
unfoldable pub owns : Part → Event → Bool
owns part e = option_map_or (λ b. shard_of b part.shards == part.index) (block_of e) true

-- The holdings are now these, and the given numbers of replicas came and went. Levels that were
-- right in one cluster are right in the other. All else but capacity stays.
pub record HasChanged (C D : Cluster) (old new : Seen) (to : Holdings) (answer : Done) : Type 0 where
  pub holdings : new.holdings ≡ to
  pub done : answer ≡ done old.holdings to
  pub levels : HasLevels C old → HasLevels D new
  pub part : new.part ≡ old.part
  pub round : new.round ≡ old.round
  pub pend : new.pend ≡ old.pend
