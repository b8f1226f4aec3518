-- The rows of a shard.
use Rattle.std.specs.Prelude.{List}
use Rattle.bm_base.specs.Promises.Versions.{Row, table}
use Rattle.bm_shard.specs.ShardView.{Seen}

abbrev pub rows_of : Seen → List Row
rows_of S = table S.holdings
