use Rattle.std.proofs.Common.{◌≡◌, ◌+◌, Bool, false, sym, ◌∙◌}
use Rattle.std.specs.Prelude.{◌||◌}
use Rattle.std.proofs.lemmas.Bool.{or_parts}
use Rattle.bm_levels.specs.ClusterAfter.{is_on_node}
use Rattle.bm_levels.proofs.LeavingReplicas.{leaving_more}
use Rattle.bm_levels.proofs.leveled_blocks.LeveledBlocks.remove_first_of_four.Goals as goal

none_of : (a b c : Bool) → ((a || b) || c) ≡ false → (a ≡ false) × (b ≡ false) × (c ≡ false)
none_of a b c e =
    let last = or_parts (a || b) c e in
    let first = or_parts a b last.0 in
    (first.0, first.1, last.1)

pub remove_first_once-second-requires : goal.remove_first_once-second-requires
remove_first_once-second-requires c e =
    let apart = none_of _ _ _ (sym c.is_one_of-is_second_done.ensures ∙ e) in
    (c.requires.second.0, c.remove_first_once-first.ensures.storage.lists _ apart.0 ∙ c.requires.second.1)

pub remove_first_once-third-requires : goal.remove_first_once-third-requires
remove_first_once-third-requires c e =
    let apart = none_of _ _ _ (sym c.is_one_of-is_third_done.ensures ∙ e) in
    (c.requires.third.0, c.remove_first_once-second.ensures.storage.lists _ apart.1 ∙ c.remove_first_once-first.ensures.storage.lists _ apart.0 ∙ c.requires.third.1)

pub remove_first_once-fourth-requires : goal.remove_first_once-fourth-requires
remove_first_once-fourth-requires c e =
    let apart = none_of _ _ _ (sym c.is_one_of-is_fourth_done.ensures ∙ e) in
    (c.requires.fourth.0, c.remove_first_once-third.ensures.storage.lists _ apart.2 ∙ c.remove_first_once-second.ensures.storage.lists _ apart.1 ∙ c.remove_first_once-first.ensures.storage.lists _ apart.0 ∙ c.requires.fourth.1)

pub returns-clause-left : goal.returns-clause-left
returns-clause-left c =
    let p = is_on_node c.args.cluster_after.now c.args.node in
    let a = c.args.self.now.arena in
    let a1 = c.remove_first_once-first.new.self.arena in
    let a2 = c.remove_first_once-second.new.self.arena in
    let a3 = c.remove_first_once-third.new.self.arena in
    let a4 = c.remove_first_once-fourth.new.self.arena in
    let n1 = c.remove_first_once-first.result in
    let n2 = c.remove_first_once-second.result in
    let n3 = c.remove_first_once-third.result in
    let two = leaving_more p a a1 a2 n1 n2 c.remove_first_once-first.ensures.left c.remove_first_once-second.ensures.left in
    let three = leaving_more p a a2 a3 (n1 + n2) n3 two c.remove_first_once-third.ensures.left in
    leaving_more p a a3 a4 (n1 + n2 + n3) c.remove_first_once-fourth.result three c.remove_first_once-fourth.ensures.left

pub returns-clause-unused : goal.returns-clause-unused
returns-clause-unused c b h = c.remove_first_once-first.ensures.unused b (c.remove_first_once-second.ensures.unused b (c.remove_first_once-third.ensures.unused b (c.remove_first_once-fourth.ensures.unused b h)))

pub returns-clause-fewer : goal.returns-clause-fewer
returns-clause-fewer c s h = c.remove_first_once-first.ensures.fewer s (c.remove_first_once-second.ensures.fewer s (c.remove_first_once-third.ensures.fewer s (c.remove_first_once-fourth.ensures.fewer s h)))

pub returns-clause-levels : goal.returns-clause-levels
returns-clause-levels c h = c.remove_first_once-fourth.ensures.levels (c.remove_first_once-third.ensures.levels (c.remove_first_once-second.ensures.levels (c.remove_first_once-first.ensures.levels h)))
