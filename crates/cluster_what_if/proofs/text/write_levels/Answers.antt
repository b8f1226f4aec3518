use Rattle.std.proofs.Common.{append_assoc}
use Rattle.cluster_what_if.specs.Text.{levels_text}
use Rattle.cluster_what_if.proofs.text.write_levels.Goals as goal

pub returns : goal.returns
unfolding levels_text
returns c =
    rw (
      ← append_assoc,
      ← c.in_ok-write_change.ensures,
      ← append_assoc,
      ← c.in_ok-write_change-2.ensures,
      ← append_assoc,
      ← c.in_ok-write_change-3.ensures,
      ← append_assoc,
      ← c.in_ok-write_change-4.ensures,
      ← append_assoc,
      ← c.in_ok-write_change-5.ensures,
    )
    c.write_change-6.ensures
