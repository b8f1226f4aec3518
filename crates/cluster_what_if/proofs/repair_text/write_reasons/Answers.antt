use Rattle.std.proofs.Common.{append_assoc}
use Rattle.cluster_what_if.specs.RepairText.{reasons_text}
use Rattle.cluster_what_if.proofs.repair_text.write_reasons.Goals as goal

pub returns : goal.returns
unfolding reasons_text
returns c =
    rw (
      ← c.count_with-no_source.ensures,
      ← c.count_with-no_target.ensures,
      ← c.count_with-no_space.ensures,
      ← append_assoc,
      ← c.in_ok-write_count.ensures,
      ← append_assoc,
      ← c.in_ok-write_count-2.ensures,
      ← append_assoc,
      ← c.in_ok-write_count-3.ensures,
    )
    c.write_count-4.ensures
