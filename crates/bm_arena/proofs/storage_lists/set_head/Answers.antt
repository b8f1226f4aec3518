use Rattle.std.proofs.Common.{ℕ, List, sym, subst}
use Rattle.std.specs.Prelude.{nat_eq}
use Rattle.std.specs.List.{IsDistinct}
use Rattle.std.proofs.lemmas.Bool.{false≢true}
use Rattle.std.proofs.lemmas.Option.{slice_get_within}
use Rattle.indexmap.proofs.CallerLemmas.{keys-with_value_at}
use Rattle.bm_arena.proofs.HeadWrites.{set-at}
use Rattle.bm_arena.proofs.storage_lists.set_head.Goals as goal

pub returns-in-Some-clause-entries : goal.returns-in-Some-clause-entries
returns-in-Some-clause-entries c storage old at = set-at storage old c.args.first c.args.heads.now.entries c.args.index c.get_index_mut.ensures.unique at

pub returns-in-Some-clause-unique : goal.returns-in-Some-clause-unique
returns-in-Some-clause-unique c =
    let P : List ℕ → Type 0 = λ ks. IsDistinct nat_eq ks in
    subst P (sym (keys-with_value_at c.args.heads.now c.args.index c.args.first)) c.get_index_mut.ensures.unique

pub returns-in_default-clause-entries : goal.returns-in_default-clause-entries
returns-in_default-clause-entries c storage old at = absurd (false≢true (c.in_default.ensures.found.1 (slice_get_within c.args.heads.now.entries c.args.index (storage, old) at)))
