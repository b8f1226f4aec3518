-- How the fields of a shard represent the view of it.
use Rattle.std.specs.Prelude.{◌≡◌, ◌==◌, ℕ, ◌<◌, Bool, false, IsTrue, List, [], ◌∷◌, map, Option, Some, None}
use Rattle.std.specs.Option.{option_map_or}
use Rattle.bm_base.specs.declared.replica.Level.{Level}
use Rattle.bm_base.specs.declared.ids.Part.{Part}
use Rattle.bm_base.specs.Words.{Map, by_number, empty, insert, remove, is_named}
use Rattle.bm_arena.specs.Contents.{Contents}
use Rattle.bm_report.specs.Ready.{LookedUpReport, IsLookedUp, IsReady, reported_blocks}
use Rattle.bm_levels.specs.UnusedEntries.{IsUnused}
use Rattle.bm_levels.specs.IndexedLevels.{IndexedLevels, level_of_slot}
use Rattle.bm_levels.specs.LeveledBlocks.{Leveled}
use Rattle.bm_shard.specs.ShardView.{LookUp, NoticeOf, ReportOf}
use Rattle.bm_shard.specs.declared.shard.PreparedEvent.{PreparedEvent}
use Rattle.bm_shard.specs.declared.shard.PreparedEvent.TheVariants as prepared

-- a map with the level of a block, if it has one
abbrev pub with_level : Map by_number Level → ℕ → Option Level → Map by_number Level
with_level m b l = option_map_or (λ x. insert m b x) l (remove m b)

-- the levels of the blocks of these numbers and slots; the first slot of a number counts
abbrev pub levels_among : IndexedLevels → List (ℕ × ℕ) → Map by_number Level
levels_among K [] = empty
levels_among K (p ∷ ps) = with_level (levels_among K ps) p.0 (level_of_slot K p.1)

-- the levels of all blocks, by number
unfoldable pub levels_of : Leveled → Map by_number Level
levels_of v = levels_among v.level_index v.arena.ids

-- the numbers that have an entry
abbrev pub numbers_of : Contents → List ℕ
numbers_of a = map (λ (p : ℕ × ℕ). p.0) a.ids

-- the storages that have a list
abbrev pub heads_of : Contents → List ℕ
heads_of a = map (λ (p : ℕ × List ℕ). p.0) a.lists

-- the notice or report that was looked up
abbrev pub report_of : LookedUpReport → PreparedEvent → Option LookUp
report_of r (prepared.Notice s) = Some (NoticeOf s (reported_blocks r))
report_of r (prepared.Report s) = Some (ReportOf s (reported_blocks r))
report_of r _ = None

-- whether a number got its entry by what was prepared
abbrev pub is_prepared : PreparedEvent → LookedUpReport → ℕ → Bool
is_prepared prepared.Nothing r b = false
is_prepared (prepared.Entry n) r b = n == b
is_prepared (prepared.Notice s) r b = is_named (reported_blocks r) b
is_prepared (prepared.Report s) r b = is_named (reported_blocks r) b

-- all that the end of a reservation needs
abbrev pub HasPrepared : PreparedEvent → LookedUpReport → Contents → Type 0
HasPrepared (prepared.Notice s) r a = IsLookedUp r a s
HasPrepared (prepared.Report s) r a = IsReady r a s × (r.changed ≡ [])
HasPrepared _ r a = Unit {0}

-- The invariant between calls: only what was prepared has an unused entry.
pub record IsShard (part : Part) (v : Leveled) (r : LookedUpReport) (p : PreparedEvent) : Type 0 where
  pub index : part.index < part.shards
  pub ready : HasPrepared p r v.arena
  pub unused : (b : ℕ) → IsUnused v.arena b → IsTrue (is_prepared p r b)
