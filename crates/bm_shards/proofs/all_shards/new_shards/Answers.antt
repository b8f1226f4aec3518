use Rattle.std.proofs.Common.{arith, ◌∙◌, ◌∷◌, [], ap, subst, sym, length, length-append, refl}
use Rattle.std.specs.Prelude.{ℕ}
use Rattle.bm_shard.specs.ShardView.{Seen}
use Rattle.bm_shards.specs.ShardWork.{AreNew}
use Rattle.bm_shards.proofs.NewShards.{new_push}
use Rattle.bm_shards.proofs.all_shards.new_shards.Goals as goal

pub loop-index-preserved : goal.loop-index-preserved
loop-index-preserved c =
    let inv = c.loop-index.invariant in
    let one : ℕ × Seen = (c.loop-index.index, c.in_ok-shard.shard) in
    record {
      each = subst (AreNew c.args.config.now 0) (sym c.in_ok-push.ensures.items)
          (new_push c.args.config.now 0 c.loop-index.index c.loop-index.shards.items one (omega (arith, inv.len)) inv.each (record {
            index = refl;
            empty = c.in_ok-shard.ensures.empty;
            part = c.in_ok-shard.ensures.part;
            round = c.in_ok-shard.ensures.round;
            pend = c.in_ok-shard.ensures.pend;
            up_to_date = c.in_ok-shard.ensures.up_to_date;
          }));
      len = ap length c.in_ok-push.ensures.items ∙ length-append c.loop-index.shards.items (one ∷ []) ∙ omega (arith, inv.len);
    }

pub returns-clause-each : goal.returns-clause-each
returns-clause-each c = c.loop-index.invariant.each

pub returns-clause-len : goal.returns-clause-len
returns-clause-len c = omega (arith, c.loop-index.invariant.len, c.loop-index-test.false, c.loop-index.auto.index-end)
