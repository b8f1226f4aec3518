use Rattle.std.proofs.Common.{◌≡◌, ◌≤◌, ◌+◌, ◌%◌, [], ◌∷◌, length, drop, drop_of_length-le, arith, refl, sym, ap, subst, ◌∙◌}
use Rattle.std.proofs.lemmas.Grind.{common_steps}
use Rattle.std.proofs.lemmas.Bool.{eq-eqb, ne_eqb}
use Rattle.bm_base.specs.Maps.Map.{insert_all}
use Rattle.bm_pending.specs.PendingMap.{PendingMap}
use Rattle.bm_shard.proofs.OwnTransfers.{AreAhead, to_put, own, has_capacity, put_one, skip_one}
use Rattle.bm_shard.proofs.own_transfers.insert_own.Goals.{then-shard_of-part, else-shard_of-part}
use Rattle.bm_shard.proofs.own_transfers.insert_own.Goals as goal

pub loop-transfer-init : goal.loop-transfer-init
loop-transfer-init c = record { transfers = refl; places = c.requires.capacity }

pub insert_reserved-requires : goal.insert_reserved-requires
insert_reserved-requires c =
    let t = c.transfer-item.result in
    let ts = c.args.transfers.now in
    let i = c.loop-transfer.transfer-index in
    let next : drop i ts ≡ t ∷ drop (i + 1) ts = grind (arith, common_steps, c.transfer-item.is) in
    let all = insert_all c.args.pending.now.map (to_put c.args.round (own c.args.part ts)) in
    let P : PendingMap → Type 0 = λ p. AreAhead c.args.part c.args.round p (t ∷ drop (i + 1) ts) all in
    has_capacity c.args.part c.args.round c.loop-transfer.pending t (drop (i + 1) ts) all
    (eq-eqb (t.block % c.args.part.shards) c.args.part.index (sym c.shard_of.ensures ∙ c.if-shard_of-part.true))
    (subst (λ xs. AreAhead c.args.part c.args.round c.loop-transfer.pending xs all) next c.loop-transfer.invariant)

pub loop-transfer-preserved : goal.loop-transfer-preserved
loop-transfer-preserved c =
    let t = c.transfer-item.result in
    let ts = c.args.transfers.now in
    let i = c.loop-transfer.transfer-index in
    let next : drop i ts ≡ t ∷ drop (i + 1) ts = grind (arith, common_steps, c.transfer-item.is) in
    let all = insert_all c.args.pending.now.map (to_put c.args.round (own c.args.part ts)) in
    let h = subst (λ xs. AreAhead c.args.part c.args.round c.loop-transfer.pending xs all) next c.loop-transfer.invariant in
    let P : PendingMap → Type 0 = λ p. AreAhead c.args.part c.args.round p (drop (i + 1) ts) all in
    elim c.if-shard_of-part.branch [
      | then-shard_of-part w ↦
          subst P (sym w.pending-is)
          (put_one c.args.part c.args.round c.loop-transfer.pending t (drop (i + 1) ts) all
          (eq-eqb (t.block % c.args.part.shards) c.args.part.index (sym c.shard_of.ensures ∙ w.if-shard_of-part.true)) h _ w.insert_reserved.ensures.map w.insert_reserved.ensures.capacities)
      | else-shard_of-part w ↦
          subst P (sym w.pending-is)
          (skip_one c.args.part c.args.round c.loop-transfer.pending t (drop (i + 1) ts) all
          (ne_eqb (t.block % c.args.part.shards) c.args.part.index (λ e. w.if-shard_of-part.false (c.shard_of.ensures ∙ e))) h)
    ]

pub returns : goal.returns
returns c =
    let past : length c.args.transfers.now ≤ c.loop-transfer.transfer-index = omega (arith, c.loop-transfer-test.false) in
    let none : drop c.loop-transfer.transfer-index c.args.transfers.now ≡ [] = drop_of_length-le _ past in
    sym (ap (λ xs. insert_all c.loop-transfer.pending.map (to_put c.args.round (own c.args.part xs))) none) ∙ c.loop-transfer.invariant.transfers
