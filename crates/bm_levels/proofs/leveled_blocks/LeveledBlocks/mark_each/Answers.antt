use Rattle.std.proofs.Common.{◌≡◌, ◌≤◌, ◌+◌, [], ◌∷◌, length, drop, drop_of_length-le, refl, sym, ap, ◌∙◌, arith}
use Rattle.std.specs.Prelude.{nat_eq}
use Rattle.std.specs.Map.{lookup}
use Rattle.std.proofs.lemmas.Grind.{common_steps}
use Rattle.std.proofs.lemmas.Bool.{true≢false}
use Rattle.bm_base.specs.Maps.Map.{revise}
use Rattle.bm_arena.specs.HeldMaps.{replicas_of}
use Rattle.bm_arena.proofs.StableEntries.{entries-none, entries-chain}
use Rattle.bm_levels.proofs.ListedMarks.{excess_by, excess_next, excess_end}
use Rattle.bm_levels.proofs.DroppedMarks.{block_listed}
use Rattle.bm_levels.proofs.leveled_blocks.LeveledBlocks.mark_each.Goals as goal

pub loop-replica-init : goal.loop-replica-init
loop-replica-init c = record { replicas = refl; others = λ slot h. refl; entries = entries-none c.args.self.now.arena; levels = λ h. h }

pub loop-replica-preserved : goal.loop-replica-preserved
loop-replica-preserved c =
    let p = c.replica-item.result in
    let ps = c.args.listed.now in
    let i = c.loop-replica.replica-index in
    let h = c.loop-replica.invariant in
    let g = c.mark_excess.ensures in
    let next : drop i ps ≡ p ∷ drop (i + 1) ps = grind (arith, common_steps, c.replica-item.is) in
    record {
      replicas = ap (λ m. revise m (excess_by (drop (i + 1) ps))) g.replicas ∙ excess_next (replicas_of c.loop-replica.self.arena) p (drop (i + 1) ps)
          ∙ ap (λ xs. revise (replicas_of c.loop-replica.self.arena) (excess_by xs)) (sym next) ∙ h.replicas;
      others = λ slot none.
          g.others slot (λ here. true≢false (sym (block_listed ps (drop (i + 1) ps) i p next) ∙ none p.block (sym (ap (λ l. lookup (nat_eq p.block) l) h.entries.ids) ∙ here)))
          ∙ h.others slot none;
      entries = entries-chain c.args.self.now.arena c.loop-replica.self.arena c.mark_excess.new.self.arena h.entries g.entries;
      levels = λ were. g.levels (h.levels were);
    }

pub returns-clause-replicas : goal.returns-clause-replicas
returns-clause-replicas c =
    let past : length c.args.listed.now ≤ c.loop-replica.replica-index = omega (arith, c.loop-replica-test.false) in
    let none : drop c.loop-replica.replica-index c.args.listed.now ≡ [] = drop_of_length-le _ past in
    let now = replicas_of c.loop-replica.self.arena in
    sym (excess_end now) ∙ ap (λ xs. revise now (excess_by xs)) (sym none) ∙ c.loop-replica.invariant.replicas

pub returns-clause-others : goal.returns-clause-others
returns-clause-others c = c.loop-replica.invariant.others

pub returns-clause-entries : goal.returns-clause-entries
returns-clause-entries c = c.loop-replica.invariant.entries

pub returns-clause-levels : goal.returns-clause-levels
returns-clause-levels c = c.loop-replica.invariant.levels
