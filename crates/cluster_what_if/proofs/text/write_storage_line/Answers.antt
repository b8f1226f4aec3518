use Rattle.std.proofs.Common.{append_assoc, codes, string_bytes}
use Rattle.cluster_what_if.specs.Text.{storage_line}
use Rattle.cluster_what_if.proofs.AppendedTexts.{pushed}
use Rattle.cluster_what_if.proofs.text.write_storage_line.Goals as goal

pub returns : goal.returns
unfolding storage_line
returns c =
    rw (
      ← append_assoc,
      ← c.in_ok-push_str.ensures.bytes,
      ← append_assoc,
      ← c.in_ok-write_storage.ensures,
    )
    (pushed c.push_str-2.result (string_bytes c.push_str-2.new.self) (string_bytes c.write_storage.new.text) (codes "\n") c.push_str-2.ensures.bytes)
