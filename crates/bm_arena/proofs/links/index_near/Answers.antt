use Rattle.std.proofs.Common.{◌≡◌, true, get_or, arith, sym}
use Rattle.std.proofs.lemmas.Bool.{eq-eqb}
use Rattle.bm_arena.specs.Triplets.{is_of}
use Rattle.bm_arena.proofs.Triplets.{place_where_once}
use Rattle.bm_arena.proofs.links.index_near.Goals as goal

pub returns-then-triplets-guess : goal.returns-then-triplets-guess
returns-then-triplets-guess c =
    let d = c.index-triplets-guess.result in
    let here : is_of c.args.storage (get_or c.args.triplets.now c.args.guess d) ≡ true = eq-eqb _ _ c.if-triplets-guess.true in
    sym (place_where_once c.args.triplets.now c.args.storage c.args.guess d c.requires (omega (arith, c.if-guess-triplets.true)) here)
