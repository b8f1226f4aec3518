use Rattle.std.proofs.Common.{append_assoc}
use Rattle.cluster_pages.specs.Text.{other_text}
use Rattle.cluster_pages.proofs.text.write_other.Goals as goal

pub returns : goal.returns
unfolding other_text
returns c =
    rw (
      ← c.all_blocks-all.ensures,
      ← append_assoc,
      ← c.in_ok-write_amount.ensures,
      ← append_assoc,
      ← c.in_ok-write_amount-2.ensures,
    )
    c.write_amount-3.ensures
