-- The holdings of the blocks and replicas at the slots of an arena.
use Rattle.std.specs.Prelude.{ℕ}
use Rattle.bm_base.specs.Words.{Map, Holdings, by_replica}
use Rattle.bm_arena.specs.Contents.{Contents}
use Rattle.bm_arena.specs.HeldMaps.{replicas_of, blocks_of}

-- the holdings with these pending transfers
unfoldable pub holdings_with : Contents → Map by_replica ℕ → Holdings
holdings_with a pending = record { blocks = blocks_of a; replicas = replicas_of a; pending = pending }
