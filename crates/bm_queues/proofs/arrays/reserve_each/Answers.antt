use Rattle.std.proofs.Common.{◌≡◌, ◌<◌, ◌≤◌, [], length, get_or, sym, subst, ap, ◌∙◌, arith}
use Rattle.std.proofs.lemmas.List.{take_all, length-map, length-set}
use Rattle.bm_queues.specs.DenseLevels.{arrays_in, HaveCapacity}
use Rattle.bm_queues.proofs.OneArray.{array-at, arrays-same, capacity-set, capacity-more}
use Rattle.bm_queues.proofs.arrays.reserve_each.Goals as goal

pub overflow_sub-capacity : goal.overflow_sub-capacity
overflow_sub-capacity c =
    let arrays = c.loop-index.arrays.items in
    let index = c.loop-index.index in
    let v = c.index_mut-array.result.now in
    let same = c.loop-index.invariant.same in
    let low : index < length arrays = omega (arith, c.loop-index-test.true, c.loop-index.invariant.count) in
    let low_old : index < length (arrays_in c.args.arrays.now.items) = (let e = ap length same in omega (arith, low, e, length-map arrays (λ a. a.items))) in
    let here : get_or (arrays_in c.args.arrays.now.items) index [] ≡ v.items = ap (λ xs. get_or xs index []) (sym same) ∙ array-at arrays index v low c.index_mut-array.ensures.value in
    let few = c.requires index [] low_old in
    let len = ap length here in
    omega (arith, few, len, c.len.ensures, v.ok.0)

pub returns-in_err-reserve-clause-same : goal.returns-in_err-reserve-clause-same
returns-in_err-reserve-clause-same c =
    let low : c.loop-index.index < length c.loop-index.arrays.items = omega (arith, c.loop-index-test.true, c.loop-index.invariant.count) in
    arrays-same c.loop-index.arrays.items c.loop-index.index c.index_mut-array.result.now low c.index_mut-array.ensures.value c.reserve.new.self c.in_err-reserve.ensures.items ∙ c.loop-index.invariant.same

pub loop-index-preserved : goal.loop-index-preserved
loop-index-preserved c =
    let arrays = c.loop-index.arrays.items in
    let index = c.loop-index.index in
    let v = c.index_mut-array.result.now in
    let w = c.reserve.new.self in
    let low : index < length arrays = omega (arith, c.loop-index-test.true, c.loop-index.invariant.count) in
    let at = c.index_mut-array.ensures.value in
    record {
      same = arrays-same arrays index v low at w c.in_ok-reserve.ensures.items ∙ c.loop-index.invariant.same;
      kept = λ bound before. capacity-set arrays index v low at w bound c.in_ok-reserve.ensures.capacity (c.loop-index.invariant.kept bound before);
      made = capacity-more arrays index v low at w c.args.capacity (let got = c.in_ok-reserve.ensures.ok in omega (arith, got, c.len.ensures)) c.loop-index.invariant.made;
      count = length-set arrays index w ∙ c.loop-index.invariant.count;
    }

pub returns-clause-capacity : goal.returns-clause-capacity
returns-clause-capacity c =
    let end : length c.loop-index.arrays.items ≤ c.loop-index.index = omega (arith, c.loop-index-test.false, c.loop-index.invariant.count) in
    subst (λ us. HaveCapacity us c.args.capacity) (take_all c.loop-index.index c.loop-index.arrays.items end) c.loop-index.invariant.made
