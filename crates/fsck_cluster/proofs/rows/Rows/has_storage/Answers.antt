use Rattle.std.proofs.Common.{◌∙◌, sym, ap, not, length, nat_eq}
use Rattle.fsck_cluster.proofs.RowLemmas.{none_stored}
use Rattle.fsck_cluster.proofs.rows.Rows.has_storage.Goals as goal

pub returns : goal.returns
returns c =
    ap not (c.is_empty.ensures ∙ ap (λ ss. nat_eq (length ss) 0) c.storages_of.ensures) ∙ sym (none_stored c.args.self.now c.args.node)
