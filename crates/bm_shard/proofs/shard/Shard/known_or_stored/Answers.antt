use Rattle.std.proofs.Common.{◌≡◌, ℕ, false, Option, is_some, ap, subst}
use Rattle.std.specs.Option.{option_map_or}
use Rattle.std.specs.List.{list_any}
use Rattle.bm_base.specs.Words.{knows_block, is_still_stored, is_stray}
use Rattle.bm_arena.specs.Contents.{Contents}
use Rattle.bm_arena.specs.HeldMaps.{info_at, replicas_at}
use Rattle.bm_levels.specs.SlotHoldings.{holdings_with}
use Rattle.bm_queries.proofs.AtSlot.{known, still_stored}
use Rattle.bm_shard.specs.ShardView.{Seen}
use Rattle.bm_shard.proofs.shard.Shard.known_or_stored.Goals as goal

pub returns-in-None-clause-known : goal.returns-in-None-clause-known
returns-in-None-clause-known c =
    let a = c.arena-arena.result.now in
    let pending = c.self.inside.pending.map in
    let P : Seen → Type 0 = λ S. false ≡ knows_block S.holdings c.args.id in
    let Q : Contents → Type 0 = λ x. false ≡ knows_block (holdings_with x pending) c.args.id in
    subst P c.self.view_is
    (subst Q c.arena-arena.ensures (known a pending c.args.id false (ap (λ (o : Option ℕ). option_map_or (λ slot. is_some (info_at a slot)) o false) c.in-None.ensures)))

pub returns-in-None-clause-stored : goal.returns-in-None-clause-stored
returns-in-None-clause-stored c =
    let a = c.arena-arena.result.now in
    let pending = c.self.inside.pending.map in
    let P : Seen → Type 0 = λ S. false ≡ is_still_stored S.holdings c.args.id in
    let Q : Contents → Type 0 = λ x. false ≡ is_still_stored (holdings_with x pending) c.args.id in
    subst P c.self.view_is
    (subst Q c.arena-arena.ensures
    (still_stored a c.show_invariant.ensures pending c.args.id false (ap (λ (o : Option ℕ). option_map_or (λ slot. list_any (λ r. is_stray r.1.tag) (replicas_at a slot)) o false) c.in-None.ensures)))
