use Rattle.std.proofs.Common.{◌≡◌, ℕ, false, Option, is_some, ap, ◌∙◌, subst}
use Rattle.std.specs.Option.{option_map_or}
use Rattle.bm_base.specs.Machine.Refusals.{knows_block}
use Rattle.bm_arena.specs.Contents.{Contents}
use Rattle.bm_arena.specs.HeldMaps.{info_at}
use Rattle.bm_levels.specs.SlotHoldings.{holdings_with}
use Rattle.bm_queries.proofs.AtSlot.{known}
use Rattle.bm_queries.proofs.block_queries.knows_block.Goals as goal

pub returns-in-Some : goal.returns-in-Some
returns-in-Some c pending =
    let a = c.arena-arena.result.now in
    let P : Contents → Type 0 = λ x. c.is_some.result ≡ knows_block (holdings_with x pending) c.args.id in
    subst P c.arena-arena.ensures
    (known a pending c.args.id c.is_some.result (c.is_some.ensures ∙ ap is_some c.info.ensures ∙ ap (λ (o : Option ℕ). option_map_or (λ slot. is_some (info_at a slot)) o false) c.in-Some.ensures))

pub returns-in-None : goal.returns-in-None
returns-in-None c pending =
    let a = c.arena-arena.result.now in
    let P : Contents → Type 0 = λ x. false ≡ knows_block (holdings_with x pending) c.args.id in
    subst P c.arena-arena.ensures (known a pending c.args.id false (ap (λ (o : Option ℕ). option_map_or (λ slot. is_some (info_at a slot)) o false) c.in-None.ensures))
