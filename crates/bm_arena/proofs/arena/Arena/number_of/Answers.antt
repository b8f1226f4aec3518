use Rattle.std.proofs.Common.{◌≡◌, ◌+◌, ◌%◌, slice_get, Some, subst, sym, ◌∙◌}
use Rattle.bm_arena.specs.Contents.{Contents}
use Rattle.bm_arena.proofs.HeldReplicas.{number_listed}
use Rattle.bm_arena.proofs.arena.Arena.number_of.Goals as goal

pub returns-in-Some : goal.returns-in-Some
returns-in-Some c =
    let i = (c.args.slot + 18446744073709551615) % 18446744073709551616 in
    let listed = subst (λ s. slice_get c.self.inside.ids i ≡ Some (c.in-Some.id, s)) c.if-held-slot.true (sym c.entry_at.ensures ∙ c.in-Some.is) in
    let P : Contents → Type 0 = λ a. slice_get a.ids i ≡ Some (c.in-Some.id, c.args.slot) in
    number_listed c.args.self.now c.show_invariant.ensures i c.in-Some.id c.args.slot (subst P c.self.view_is listed)
