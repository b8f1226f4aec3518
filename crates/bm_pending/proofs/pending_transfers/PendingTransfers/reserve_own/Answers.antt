use Rattle.std.proofs.Common.{◌≡◌, ℕ, List, ◌≤◌, ◌+◌, ◌%◌, [], ◌∷◌, ◌++◌, length, take, arith, refl, sym, ap, subst, ◌∙◌}
use Rattle.std.proofs.lemmas.Grind.{common_steps}
use Rattle.std.proofs.lemmas.Bool.{eq-eqb, ne_eqb}
use Rattle.bm_pending.specs.PendingMap.{PendingMap, capacity}
use Rattle.bm_pending.specs.TargetCounts.{count_at}
use Rattle.bm_pending.proofs.OwnCounts.{HasCounted, own, count_of, counted_own, counted_other, few_counted, length-take}
use Rattle.bm_pending.proofs.pending_transfers.PendingTransfers.reserve_own.Goals.{then-shard_of-part+in_ok-count+in_ok-reserve, else-shard_of-part}
use Rattle.bm_pending.proofs.pending_transfers.PendingTransfers.reserve_own.Goals as goal

pub loop-transfer-init : goal.loop-transfer-init
loop-transfer-init c = record { map = refl; capacities = λ b. omega arith; counts = λ q. ap (λ es. count_at es q) c.with_hasher-counts.ensures.empty; places = λ q. omega arith }

pub count_one-requires : goal.count_one-requires
count_one-requires c =
    let t = c.transfer-item.result in
    let xs = take c.loop-transfer.transfer-index c.args.transfers.now in
    let counted = c.loop-transfer.invariant.counts t.block in
    let few = few_counted c.args.part t.block xs in
    let short = length-take c.loop-transfer.transfer-index c.args.transfers.now in
    omega (arith, counted, few, short, c.loop-transfer.auto.transfer-index-end)

pub returns-in_err-count-clause-map : goal.returns-in_err-count-clause-map
returns-in_err-count-clause-map c = c.loop-transfer.invariant.map

pub returns-in_err-count-clause-capacities : goal.returns-in_err-count-clause-capacities
returns-in_err-count-clause-capacities c = c.loop-transfer.invariant.capacities

pub returns-in_err-reserve-clause-map : goal.returns-in_err-reserve-clause-map
returns-in_err-reserve-clause-map c = c.reserve.ensures.map ∙ c.loop-transfer.invariant.map

pub returns-in_err-reserve-clause-capacities : goal.returns-in_err-reserve-clause-capacities
returns-in_err-reserve-clause-capacities c b = let a = c.loop-transfer.invariant.capacities b in let d = c.reserve.ensures.capacities b in omega (arith, a, d)

pub loop-transfer-preserved : goal.loop-transfer-preserved
loop-transfer-preserved c =
    let t = c.transfer-item.result in
    let ts = c.args.transfers.now in
    let i = c.loop-transfer.transfer-index in
    let part = c.args.part in
    let start = c.args.self.now in
    let next : take (i + 1) ts ≡ take i ts ++ t ∷ [] = grind (arith, common_steps, c.transfer-item.is, c.loop-transfer-test.true) in
    let h = c.loop-transfer.invariant in
    let P : PendingMap → List (ℕ × ℕ) → Type 0 = λ p es. HasCounted part start p es (take (i + 1) ts) in
    elim c.if-shard_of-part.branch [
      | then-shard_of-part+in_ok-count+in_ok-reserve w ↦
          let is_own = eq-eqb (t.block % part.shards) part.index (sym c.shard_of.ensures ∙ w.if-shard_of-part.true) in
          rw (w.self-is, w.counts-is, next)
          (counted_own part (take i ts) t start c.loop-transfer.self c.loop-transfer.counts.entries h w.reserve.new.self w.count_one.new.counts.entries _ is_own w.reserve.ensures.map w.reserve.ensures.capacities
          w.in_ok-count.ensures.counts w.in_ok-count.ensures.counted w.in_ok-reserve.ensures.capacity)
      | else-shard_of-part w ↦
          let other = ne_eqb (t.block % part.shards) part.index (λ e. w.if-shard_of-part.false (c.shard_of.ensures ∙ e)) in
          rw (w.self-is, w.counts-is, next) (counted_other part (take i ts) t start c.loop-transfer.self c.loop-transfer.counts.entries h other)
    ]

pub returns-clause-map : goal.returns-clause-map
returns-clause-map c = c.loop-transfer.invariant.map

pub returns-clause-capacity : goal.returns-clause-capacity
returns-clause-capacity c b =
    let past : length c.args.transfers.now ≤ c.loop-transfer.transfer-index = omega (arith, c.loop-transfer-test.false) in
    let all : take c.loop-transfer.transfer-index c.args.transfers.now ≡ c.args.transfers.now = grind (arith, common_steps, past) in
    subst (λ xs. count_of b (own c.args.part xs) ≤ capacity c.loop-transfer.self b) all (c.loop-transfer.invariant.places b)

pub returns-clause-capacities : goal.returns-clause-capacities
returns-clause-capacities c = c.loop-transfer.invariant.capacities
