use Rattle.std.proofs.Common.{append_assoc}
use Rattle.cluster_pages.specs.Text.{lacking_text}
use Rattle.cluster_pages.proofs.text.write_lacking.Goals as goal

pub returns : goal.returns
unfolding lacking_text
returns c =
    rw (
      ← c.all_blocks-all.ensures,
      ← c.all_block_bytes.ensures,
      ← append_assoc,
      ← c.in_ok-write_total.ensures,
      ← append_assoc,
      ← c.in_ok-write_amount.ensures,
      ← append_assoc,
      ← c.in_ok-write_amount-2.ensures,
    )
    c.write_amount-3.ensures
