use Rattle.bm_arena.proofs.Lawfulness.{IsLawful-arena}
use Rattle.std.proofs.Common.{refl, sym, subst, ap, ◌∙◌}
use Rattle.std.specs.Option.{option_map}
use Rattle.bm_arena.proofs.KeptLinks.{set_info-arena, set_info-lists, set_info-blocks}
use Rattle.bm_arena.proofs.Bounds.{below-changed}
use Rattle.bm_arena.specs.Contents.{Contents, block_at, marks_at, with_info, IsLawful, KeepsAllBut}
use Rattle.bm_arena.specs.HeldMaps.{replicas_of, blocks_of}
use Rattle.bm_arena.proofs.ChangedBlock.{changed-here, keeps-changed}
use Rattle.bm_arena.proofs.SetInfo.{info-marks, info-replicas, info-blocks}
use Rattle.bm_arena.proofs.arena.Arena.set_info.Goals as goal

pub invariant_of-self : goal.invariant_of-self
invariant_of-self c =
    record {
      arena =
          set_info-arena c.self.inside.slots c.set_info.new.slots c.args.slot c.args.info c.set_info.ensures c.self.inside.ids c.self.inside.heads.entries c.self.inside.delimiter c.self.invariant.arena;
      bounded = below-changed _ c.self.inside.slots c.set_info.new.slots c.args.slot c.self.inside.bound c.set_info.ensures c.self.invariant.bounded;
    }

pub returns-clause-after : goal.returns-clause-after
returns-clause-after c =
    let lists = set_info-lists c.self.inside.slots c.set_info.new.slots c.args.slot c.args.info c.set_info.ensures c.self.inside.ids c.self.inside.heads.entries c.self.inside.delimiter c.self.invariant.arena in
    let blocks = set_info-blocks c.self.inside.slots c.set_info.new.slots c.args.slot c.args.info c.set_info.ensures c.self.inside.ids c.self.inside.heads.entries c.self.inside.delimiter c.self.invariant.arena in
    rw (← c.self.view_is, lists, blocks) refl

pub returns-clause-lawful : goal.returns-clause-lawful
returns-clause-lawful c = IsLawful-arena _ _ _ _ _ (invariant_of-self c) _

pub returns-clause-entry : goal.returns-clause-entry
returns-clause-entry c b there =
    ap (λ a. block_at a c.args.slot) (returns-clause-after c) ∙ changed-here c.args.self.now c.args.slot (with_info c.args.info) ∙ ap (option_map (with_info c.args.info)) there

pub returns-clause-marks : goal.returns-clause-marks
returns-clause-marks c other storage = ap (λ a. marks_at a other storage) (returns-clause-after c) ∙ info-marks c.args.self.now c.args.slot c.args.info other storage

pub returns-clause-rest : goal.returns-clause-rest
returns-clause-rest c =
    let P : Contents → Type 0 = λ a. KeepsAllBut c.args.slot c.args.self.now a in
    subst P (sym (returns-clause-after c)) (keeps-changed c.args.self.now c.args.slot (with_info c.args.info) (λ b. refl))

pub returns-clause-replicas : goal.returns-clause-replicas
returns-clause-replicas c = ap replicas_of (returns-clause-after c) ∙ info-replicas c.args.self.now c.args.slot c.args.info

pub returns-clause-blocks : goal.returns-clause-blocks
returns-clause-blocks c id here =
    let lawful : IsLawful c.args.self.now = rw (← c.self.view_is) (IsLawful-arena c.self.inside.slots _ _ _ _ c.self.invariant _) in
    ap blocks_of (returns-clause-after c) ∙ info-blocks c.args.self.now c.args.slot c.args.info lawful id here
