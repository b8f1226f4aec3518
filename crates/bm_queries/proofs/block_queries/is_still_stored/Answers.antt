use Rattle.std.proofs.Common.{◌≡◌, ℕ, false, Option, ap, ◌∙◌, subst}
use Rattle.std.specs.Option.{option_map_or}
use Rattle.std.specs.List.{list_any}
use Rattle.bm_base.specs.Words.{is_still_stored, is_stray}
use Rattle.bm_arena.specs.Contents.{Contents}
use Rattle.bm_arena.specs.HeldMaps.{replicas_at}
use Rattle.bm_levels.specs.SlotHoldings.{holdings_with}
use Rattle.bm_queries.proofs.AtSlot.{still_stored}
use Rattle.bm_queries.proofs.block_queries.is_still_stored.Goals as goal

pub returns-in-Some : goal.returns-in-Some
returns-in-Some c pending =
    let a = c.arena-arena.result.now in
    let P : Contents → Type 0 = λ x. c.has_stray.result ≡ is_still_stored (holdings_with x pending) c.args.id in
    subst P c.arena-arena.ensures
    (still_stored a c.show_invariant.ensures pending c.args.id c.has_stray.result
    (c.has_stray.ensures ∙ ap (λ (o : Option ℕ). option_map_or (λ slot. list_any (λ r. is_stray r.1.tag) (replicas_at a slot)) o false) c.in-Some.ensures))

pub returns-in-None : goal.returns-in-None
returns-in-None c pending =
    let a = c.arena-arena.result.now in
    let P : Contents → Type 0 = λ x. false ≡ is_still_stored (holdings_with x pending) c.args.id in
    subst P c.arena-arena.ensures
    (still_stored a c.show_invariant.ensures pending c.args.id false (ap (λ (o : Option ℕ). option_map_or (λ slot. list_any (λ r. is_stray r.1.tag) (replicas_at a slot)) o false) c.in-None.ensures))
