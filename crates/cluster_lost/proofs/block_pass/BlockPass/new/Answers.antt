use Rattle.std.proofs.Common.{refl}
use Rattle.cluster_lost.specs.Passes.{IsStart}
use Rattle.cluster_lost.specs.declared.block_pass.BlockPass.{BlockPass}
use Rattle.cluster_lost.proofs.PassLemmas.{excess_are, only_known, start_passed, start_within}
use Rattle.cluster_lost.proofs.block_pass.BlockPass.new.Goals as goal

pub returns : goal.returns
returns c =
    let p : BlockPass = record { all = c.new.result; rows = c.in_ok-new_rows.field-0; block = 0; sources = c.new-2.result; passed = 0 } in
    let start : IsStart c.args.rows p = record { all = c.new.ensures; rows = c.in_ok-new_rows.ensures; block = refl; sources = c.new-2.ensures.items; passed = refl } in
    record {
      started = λ M row_of excess lawful is. start_passed M row_of c.args.rows excess p (only_known M row_of lawful) (excess_are M excess is) start;
      within = start_within c.args.rows p start;
    }
