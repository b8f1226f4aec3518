use Rattle.std.proofs.Common.{◌≡◌, ℕ, [], true, subst, ap, ◌∙◌}
use Rattle.std.specs.Prelude.{◌==◌}
use Rattle.std.proofs.lemmas.Bool.{eqb-true}
use Rattle.bm_base.specs.Machine.Replicas.{is_multi_rack}
use Rattle.bm_topo.specs.TopologyView.{Seen}
use Rattle.bm_arena.specs.Contents.{Contents, list_of, IsLawful}
use Rattle.bm_levels.proofs.LeavingReplicas.{kept_others, count_is}
use Rattle.bm_levels.proofs.UpToDate.{still_levels, still_by, levels_failed}
use Rattle.bm_levels.proofs.leveled_blocks.LeveledBlocks.forget_storage.Goals as goal

empty : (a : Contents) (storage : ℕ) → list_of a storage ≡ [] → (s : ℕ) → (s == storage) ≡ true → list_of a s ≡ []
empty a storage none s e = ap (list_of a) (eqb-true s storage e) ∙ none

pub returns-clause-replicas : goal.returns-clause-replicas
returns-clause-replicas c = kept_others (λ s. s == c.args.storage) c.args.self.now.arena c.clear-removed.new.self.arena c.clear-removed.result c.clear-removed.ensures.left (subst IsLawful c.arena.ensures c.show_invariant.ensures) (empty c.clear-removed.new.self.arena c.args.storage c.clear-removed.ensures.none)

pub returns-clause-removed : goal.returns-clause-removed
returns-clause-removed c = count_is (λ s. s == c.args.storage) c.args.self.now.arena c.clear-removed.new.self.arena c.clear-removed.result c.clear-removed.ensures.left (subst IsLawful c.arena.ensures c.show_invariant.ensures) (empty c.clear-removed.new.self.arena c.args.storage c.clear-removed.ensures.none)

pub returns-clause-levels : goal.returns-clause-levels
returns-clause-levels c h =
    let C = c.args.topology.now.cluster in
    let D = c.unchanged.result.topology.now.cluster in
    let t = c.unchanged.result.drain_change in
    let same : D ≡ C = ap (λ (x : Seen). x.cluster) c.unchanged.ensures.topology in
    levels_failed C c.args.storage c.clear-removed.new.self (subst IsLawful c.arena.ensures c.show_invariant.ensures) (empty c.clear-removed.new.self.arena c.args.storage c.clear-removed.ensures.none)
    (still_by C D t (is_multi_rack C) c.unchanged.result.multi c.clear-removed.new.self same c.unchanged.ensures.drain_change c.unchanged.ensures.multi
    (c.clear-removed.ensures.levels (still_levels C D t c.unchanged.result.multi c.args.self.now same c.unchanged.ensures.drain_change c.unchanged.ensures.multi h)))
