use Rattle.std.proofs.Common.{◌≡◌, ◌-◌, ◌<◌, length, get_or, inl, inr, ◌∙◌, arith}
use Rattle.std.specs.Prelude.{◌⊎◌}
use Rattle.std.proofs.lemmas.Bool.Decides.{nat_tests}
use Rattle.std.proofs.lemmas.List.{get_or_default}
use Rattle.bm_round_scan.proofs.AbsentNumbers.{missing_between}
use Rattle.bm_round_scan.proofs.replicas.is_insertion_point.Goals as goal
use Rattle.bm_round_scan.proofs.replicas.is_insertion_point.Goals.{then-at-eq0, else-at-eq0}

pub returns-then-at-storages-2 : goal.returns-then-at-storages-2
returns-then-at-storages-2 c e =
    let xs = c.args.storages.now in
    let all : c.args.at ≡ length xs = grind (arith, nat_tests, e) in
    let before : (c.args.at ≡ 0) ⊎ (get_or xs (c.args.at - 1) 0 < c.args.storage) = elim c.if-at-eq0.branch [
      | then-at-eq0 w ↦ inl (grind (arith, nat_tests, w.if-at-eq0.true))
      | else-at-eq0 w ↦
          let left = w.index-storages-at.result in
          let some : c.args.at - 1 < length xs = grind (arith, nat_tests, all, w.if-at-eq0.false) in
          let is : left ≡ get_or xs (c.args.at - 1) 0 = w.index-storages-at.is ∙ get_or_default xs (c.args.at - 1) left 0 some in
          let less : left < c.args.storage = grind (arith, nat_tests, w.lt.ensures, w.value-is, c.if-lt.true) in
          inr (omega (arith, is, less))
    ] in
    missing_between xs c.args.storage c.args.at c.requires before (inl (omega (arith, all))) (omega (arith, all))

pub returns-else-at-storages-2 : goal.returns-else-at-storages-2
returns-else-at-storages-2 c e =
    let xs = c.args.storages.now in
    let within : c.args.at < length xs = grind (arith, nat_tests, c.if-at-storages.false, c.if-at-storages-2.false) in
    let before : (c.args.at ≡ 0) ⊎ (get_or xs (c.args.at - 1) 0 < c.args.storage) = elim c.if-at-eq0.branch [
      | then-at-eq0 w ↦ inl (grind (arith, nat_tests, w.if-at-eq0.true))
      | else-at-eq0 w ↦
          let left = w.index-storages-at.result in
          let is : left ≡ get_or xs (c.args.at - 1) 0 = w.index-storages-at.is ∙ get_or_default xs (c.args.at - 1) left 0 (omega (arith, within)) in
          let less : left < c.args.storage = grind (arith, nat_tests, w.lt.ensures, w.value-is, c.if-lt.true) in
          inr (omega (arith, is, less))
    ] in
    let right = c.index-storages-at-else-at-storages-2.result in
    let is : right ≡ get_or xs c.args.at 0 = c.index-storages-at-else-at-storages-2.is ∙ get_or_default xs c.args.at right 0 within in
    let more : c.args.storage < right = grind (arith, nat_tests, c.lt-else-at-storages-2.ensures, e) in
    missing_between xs c.args.storage c.args.at c.requires before (inr (omega (arith, is, more))) (omega (arith, within))
