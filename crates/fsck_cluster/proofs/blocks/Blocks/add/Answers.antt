use Rattle.std.proofs.Common.{◌∙◌, ap, not, nat_eq}
use Rattle.indexmap.proofs.CallerLemmas.{insert_entry-new}
use Rattle.fsck_cluster.proofs.BlockLemmas.{is_some-lookup, none-lookup}
use Rattle.fsck_cluster.proofs.blocks.Blocks.add.Goals as goal

pub returns-then-contains_key-clause-new : goal.returns-then-contains_key-clause-new
returns-then-contains_key-clause-new c =
    rw (← c.self.view_is, ← c.id.view_is) (ap not (c.if-contains_key.ensures ∙ is_some-lookup (nat_eq c.id.inside.0) c.self.inside.map.entries))

pub returns-clause-new : goal.returns-clause-new
returns-clause-new c =
    rw (← c.self.view_is, ← c.id.view_is) (ap not (c.if-contains_key.ensures ∙ is_some-lookup (nat_eq c.id.inside.0) c.self.inside.map.entries))

pub returns-clause-blocks : goal.returns-clause-blocks
returns-clause-blocks c =
    let none = none-lookup (nat_eq c.id.inside.0) c.self.inside.map.entries c.if-contains_key.ensures in
    rw (← c.self.view_is, ← c.id.view_is) (c.in_ok-insert.ensures.entries ∙ insert_entry-new nat_eq c.self.inside.map c.id.inside.0 c.args.info none)
