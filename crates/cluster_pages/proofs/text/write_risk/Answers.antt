use Rattle.std.proofs.Common.{append_assoc}
use Rattle.cluster_pages.specs.Text.{risk_text}
use Rattle.cluster_pages.proofs.text.write_risk.Goals as goal

pub returns : goal.returns
unfolding risk_text
returns c =
    rw (
      ← c.as_slice-lost.ensures,
      ← c.as_slice-endangered.ensures,
      ← c.first_of.ensures,
      ← c.first_of-2.ensures,
      ← append_assoc,
      ← c.in_ok-write_count.ensures,
      ← append_assoc,
      ← c.in_ok-write_files.ensures,
      ← append_assoc,
      ← c.in_ok-write_count-2.ensures,
    )
    c.write_files-2.ensures
