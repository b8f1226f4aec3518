use Rattle.std.proofs.Common.{arith}
use Rattle.bm_maps.proofs.PutLaws.{key_index-le}
use Rattle.bm_maps.proofs.sorted_entries.key_index.Goals as goal

pub index_between-requires : goal.index_between-requires
index_between-requires g c = record {
  sorted = c.requires;
  from = omega arith;
  upto = key_index-le g.K.Ord.cmp c.args.key.now c.args.entries.now;
  inside = omega arith;
}
