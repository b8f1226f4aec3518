use Rattle.std.specs.List.{All, AllWithin, AllZip}
use Rattle.std.specs.Prelude.{ℕ}
use Rattle.std.proofs.Common.{◌≡◌, ◌≤◌, ◌++◌, List, length, take, refl, sym, subst, ap, ◌∙◌, arith}
use Rattle.std.proofs.Math.Seq.{take-append_seam}
use Rattle.std.proofs.lemmas.List.Elements.{AllWithin-more_set}
use Rattle.bm_shard.specs.ShardView.{Seen}
use Rattle.bm_shards.specs.ShardWork.{IsSame, HasGivenUp}
use Rattle.bm_shards.proofs.SameShards.{all_same, same_set}
use Rattle.bm_shards.proofs.abort.abort_all.Goals as goal

pub loop-one-init : goal.loop-one-init
loop-one-init c = record {
  each = subst (AllZip IsSame c.args.shards.now.items) (sym c.deref_mut-one-items.ensures.value) (all_same c.args.shards.now.items);
  given_up = λ k d low high. absurd (omega (arith, high));
}

pub loop-one-preserved : goal.loop-one-preserved
loop-one-preserved c = record {
  each = same_set _ c.loop-one.one-items c.loop-one.one-index c.one-item.result _ c.loop-one.invariant.each (refl, c.abort_shard.ensures.same);
  given_up = AllWithin-more_set c.loop-one.one-items c.loop-one.one-index _ (omega arith) (λ (s : ℕ × Seen). HasGivenUp s.1) c.loop-one.invariant.given_up c.abort_shard.ensures.given_up;
}

all_of : {X : Type 0} (P : X → Type 0) (xs ys : List X) (n i : ℕ) → n ≡ length xs → length xs ≤ i → AllWithin P xs 0 i → All P (take n (xs ++ ys))
all_of {X} P xs ys n i count past each =
    subst (λ (zs : List X). All P zs) (sym (ap (λ m. take m (xs ++ ys)) count ∙ take-append_seam xs ys)) (λ k d below. each k d (omega arith) (omega (arith, below, past)))

pub returns-clause-given_up : goal.returns-clause-given_up
returns-clause-given_up c =
    all_of (λ (s : ℕ × Seen). HasGivenUp s.1) c.loop-one.one-items _ c.args.shards.now.len c.loop-one.one-index
    (omega (arith, c.loop-one.auto.one-items, ap length c.deref_mut-one-items.ensures.value, c.deref_mut-one-items.ensures.len, c.args.shards.now.ok.0)) (omega (arith, c.loop-one.auto.one-items, c.loop-one-test.false)) c.loop-one.invariant.given_up
