use Rattle.bm_arena.proofs.Lawfulness.{IsLawful-arena}
use Rattle.std.proofs.Common.{sym, refl, ◌∙◌, ◌+◌, None}
use Rattle.std.specs.Prelude.{nat_eq}
use Rattle.std.proofs.lemmas.Bool.{false≢true}
use Rattle.indexmap.proofs.CallerLemmas.{insert_entry-new}
use Rattle.bm_arena.proofs.Heads.{head-seen, enlarged-arena, enlarged-kept, headed-arena, headed-here, headed-kept, headed-named, enlarged-named}
use Rattle.bm_arena.proofs.Bounds.{below-changed}
use Rattle.bm_base.proofs.Options.{not_there}
use Rattle.bm_arena.proofs.arena.Arena.reserve_head.Goals as goal

pub returns-then-contains_key-clause-head : goal.returns-then-contains_key-clause-head
returns-then-contains_key-clause-head c =
    let same = head-seen c.self.inside.slots c.self.inside.heads.entries c.storage.inside.0 c.contains_key.result c.contains_key.ensures in
    rw (← c.self.view_is, ← c.storage.view_is) (sym same ∙ c.if-contains_key.true)

pub invariant_of-self : goal.invariant_of-self
invariant_of-self c =
    record {
      arena =
          enlarged-arena c.self.inside.slots c.reserve_triplets.new.slots c.self.inside.ids c.self.inside.heads.entries c.self.inside.delimiter c.reserve_triplets.ensures.rest c.reserve_triplets.ensures.grows c.self.invariant.arena c.self.inside.steps c.self.inside.bound;
      bounded = below-changed _ c.self.inside.slots c.reserve_triplets.new.slots c.self.inside.delimiter c.self.inside.bound c.reserve_triplets.ensures.rest c.self.invariant.bounded;
    }

pub returns-in_err-reserve_triplets-clause-kept : goal.returns-in_err-reserve_triplets-clause-kept
returns-in_err-reserve_triplets-clause-kept c = rw (← c.self.view_is) (enlarged-kept c.self.inside.slots c.reserve_triplets.new.slots c.self.inside.ids c.self.inside.heads.entries c.self.inside.delimiter c.reserve_triplets.ensures.rest c.reserve_triplets.ensures.grows c.self.invariant.arena c.self.inside.steps c.self.inside.bound _ refl)

pub invariant_of-self-in_err-insert : goal.invariant_of-self-in_err-insert
invariant_of-self-in_err-insert c =
    rw c.in_err-insert.ensures.err
    (record {
      arena =
          enlarged-arena c.self.inside.slots c.reserve_triplets.new.slots c.self.inside.ids c.self.inside.heads.entries c.self.inside.delimiter c.reserve_triplets.ensures.rest c.reserve_triplets.ensures.grows c.self.invariant.arena c.self.inside.steps c.self.inside.bound;
      bounded = below-changed _ c.self.inside.slots c.reserve_triplets.new.slots c.self.inside.delimiter c.self.inside.bound c.reserve_triplets.ensures.rest c.self.invariant.bounded;
    })

pub returns-in_err-insert-clause-kept : goal.returns-in_err-insert-clause-kept
returns-in_err-insert-clause-kept c = rw (← c.self.view_is) (enlarged-kept c.self.inside.slots c.reserve_triplets.new.slots c.self.inside.ids c.self.inside.heads.entries c.self.inside.delimiter c.reserve_triplets.ensures.rest c.reserve_triplets.ensures.grows c.self.invariant.arena c.self.inside.steps c.self.inside.bound _ c.in_err-insert.ensures.err)

pub invariant_of-self-2 : goal.invariant_of-self-2
invariant_of-self-2 c =
    record {
      arena =
          headed-arena c.self.inside.slots c.reserve_triplets.new.slots c.self.inside.ids c.self.inside.heads.entries c.self.inside.delimiter c.reserve_triplets.ensures.rest c.reserve_triplets.ensures.grows c.self.invariant.arena c.self.inside.steps c.self.inside.bound c.storage.inside.0 (not_there _ (sym c.contains_key.ensures ∙ c.if-contains_key.false)) c.insert.new.self.entries (c.in_ok-insert.ensures.entries ∙ insert_entry-new nat_eq c.self.inside.heads c.storage.inside.0 None (not_there _ (sym c.contains_key.ensures ∙ c.if-contains_key.false)))
          c.insert.ensures.unique c.len-capacity.result (c.len-capacity.result + 1) c.len-capacity.ensures.len refl c.in_ok-reserve_triplets.ensures.capacity;
      bounded = below-changed _ c.self.inside.slots c.reserve_triplets.new.slots c.self.inside.delimiter c.self.inside.bound c.reserve_triplets.ensures.rest c.self.invariant.bounded;
    }

pub returns-clause-head : goal.returns-clause-head
returns-clause-head c =
    rw (← c.storage.view_is)
    (headed-here c.self.inside.slots c.reserve_triplets.new.slots c.self.inside.ids c.self.inside.heads.entries c.self.inside.delimiter c.reserve_triplets.ensures.rest c.reserve_triplets.ensures.grows c.self.invariant.arena c.self.inside.steps c.self.inside.bound c.storage.inside.0 (not_there _ (sym c.contains_key.ensures ∙ c.if-contains_key.false)) c.insert.new.self.entries (c.in_ok-insert.ensures.entries ∙ insert_entry-new nat_eq c.self.inside.heads c.storage.inside.0 None (not_there _ (sym c.contains_key.ensures ∙ c.if-contains_key.false))))

pub returns-clause-kept : goal.returns-clause-kept
returns-clause-kept c =
    rw (← c.self.view_is)
    (headed-kept c.self.inside.slots c.reserve_triplets.new.slots c.self.inside.ids c.self.inside.heads.entries c.self.inside.delimiter c.reserve_triplets.ensures.rest c.reserve_triplets.ensures.grows c.self.invariant.arena c.self.inside.steps c.self.inside.bound c.storage.inside.0 (not_there _ (sym c.contains_key.ensures ∙ c.if-contains_key.false)) c.insert.new.self.entries (c.in_ok-insert.ensures.entries ∙ insert_entry-new nat_eq c.self.inside.heads c.storage.inside.0 None (not_there _ (sym c.contains_key.ensures ∙ c.if-contains_key.false))))

pub returns-then-contains_key-clause-lawful : goal.returns-then-contains_key-clause-lawful
returns-then-contains_key-clause-lawful c = rw (← c.self.view_is) (IsLawful-arena c.self.inside.slots _ _ _ _ c.self.invariant _)

pub returns-in_err-reserve_triplets-clause-lawful : goal.returns-in_err-reserve_triplets-clause-lawful
returns-in_err-reserve_triplets-clause-lawful c = IsLawful-arena _ _ _ _ _ (invariant_of-self c) _

pub returns-in_err-insert-clause-lawful : goal.returns-in_err-insert-clause-lawful
returns-in_err-insert-clause-lawful c = IsLawful-arena _ _ _ _ _ (invariant_of-self-in_err-insert c) _

pub returns-clause-lawful : goal.returns-clause-lawful
returns-clause-lawful c = IsLawful-arena _ _ _ _ _ (invariant_of-self-2 c) _

pub returns-in_err-reserve_triplets-clause-named : goal.returns-in_err-reserve_triplets-clause-named
returns-in_err-reserve_triplets-clause-named c q differs some =
    rw (← c.self.view_is) (enlarged-named c.self.inside.slots c.reserve_triplets.new.slots c.self.inside.ids c.self.inside.heads.entries c.self.inside.delimiter c.reserve_triplets.ensures.rest c.reserve_triplets.ensures.grows c.self.invariant.arena c.self.inside.steps c.self.inside.bound _ refl q some)

pub returns-in_err-insert-clause-named : goal.returns-in_err-insert-clause-named
returns-in_err-insert-clause-named c q differs some =
    rw (← c.self.view_is) (enlarged-named c.self.inside.slots c.reserve_triplets.new.slots c.self.inside.ids c.self.inside.heads.entries c.self.inside.delimiter c.reserve_triplets.ensures.rest c.reserve_triplets.ensures.grows c.self.invariant.arena c.self.inside.steps c.self.inside.bound _ c.in_err-insert.ensures.err q some)

pub returns-clause-named : goal.returns-clause-named
returns-clause-named c q differs some =
    let absent = not_there _ (sym c.contains_key.ensures ∙ c.if-contains_key.false) in
    let other = rw (← c.storage.view_is) at differs in
    rw (← c.self.view_is)
    (headed-named c.self.inside.slots c.reserve_triplets.new.slots c.self.inside.ids c.self.inside.heads.entries c.self.inside.delimiter c.reserve_triplets.ensures.rest c.reserve_triplets.ensures.grows c.self.invariant.arena c.self.inside.steps c.self.inside.bound c.storage.inside.0 absent c.insert.new.self.entries (c.in_ok-insert.ensures.entries ∙ insert_entry-new nat_eq c.self.inside.heads c.storage.inside.0 None absent) q other some)

pub returns-in_err-reserve_triplets-clause-had : goal.returns-in_err-reserve_triplets-clause-had
returns-in_err-reserve_triplets-clause-had c some =
    let same = head-seen c.self.inside.slots c.self.inside.heads.entries c.storage.inside.0 c.contains_key.result c.contains_key.ensures in
    let there = rw (← c.self.view_is, ← c.storage.view_is) at some in
    absurd (false≢true (sym c.if-contains_key.false ∙ same ∙ there))

pub returns-in_err-insert-clause-had : goal.returns-in_err-insert-clause-had
returns-in_err-insert-clause-had c some =
    let same = head-seen c.self.inside.slots c.self.inside.heads.entries c.storage.inside.0 c.contains_key.result c.contains_key.ensures in
    let there = rw (← c.self.view_is, ← c.storage.view_is) at some in
    absurd (false≢true (sym c.if-contains_key.false ∙ same ∙ there))

pub returns-clause-had : goal.returns-clause-had
returns-clause-had c some =
    let same = head-seen c.self.inside.slots c.self.inside.heads.entries c.storage.inside.0 c.contains_key.result c.contains_key.ensures in
    let there = rw (← c.self.view_is, ← c.storage.view_is) at some in
    absurd (false≢true (sym c.if-contains_key.false ∙ same ∙ there))
