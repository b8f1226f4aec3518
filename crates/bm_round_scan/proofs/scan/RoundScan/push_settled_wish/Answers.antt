use Rattle.std.proofs.Common.{◌≡◌, ◌++◌, ℕ, List, [], true, not, filter, map, ap, sym, subst, ◌∙◌}
use Rattle.std.specs.Prelude.{OnOk, Option, Some, None, option_map, option_and_then, option_to_list}
use Rattle.std.specs.Option.{option_map_or}
use Rattle.std.proofs.lemmas.Option.{none-some}
use Rattle.std.specs.List.Sorted.{IsPermutation}
use Rattle.bm_base.specs.declared.round.Wish.{Wish}
use Rattle.bm_base.specs.declared.replica.BlockInfo.{BlockInfo}
use Rattle.bm_base.specs.declared.replica.Marks.{Marks}
use Rattle.bm_base.specs.Machine.Replicas.{is_draining}
use Rattle.bm_arena.specs.Triplets.{Block, triplet_view}
use Rattle.bm_arena.specs.Contents.{block_at}
use Rattle.bm_levels.specs.Status.{storages_at}
use Rattle.bm_parts.specs.BoundedWishes.{wishes_before}
use Rattle.bm_pending.specs.RemainingTargets.{remaining_targets}
use Rattle.bm_round_scan.specs.Requests.{wish_by}
use Rattle.bm_round_scan.proofs.SettledBlocks.{wish_is}
use Rattle.bm_round_scan.proofs.scan.RoundScan.push_settled_wish.Goals as goal

-- the replicas at an occupied slot
replicas_there : (o : Option Block) (rs : List (ℕ × Marks)) → Some rs ≡ option_map (λ (b : Block). b.replicas) o → rs ≡ option_map_or (λ (b : Block). b.replicas) o []
replicas_there None rs e = absurd (none-some rs (sym e))
replicas_there (Some b) rs e = cc

info_there : (o : Option Block) (i : Option BlockInfo) → Some i ≡ option_map (λ (b : Block). b.info) o → i ≡ option_and_then (λ (b : Block). b.info) o
info_there None i e = absurd (none-some i (sym e))
info_there (Some b) i e = cc

not_held : (o : Option Block) (k : Block) → o ≡ Some k → None ≡ option_map (λ (b : Block). b.info) o → ⊥
not_held o k is none = none-some k.info (none ∙ ap (option_map (λ (b : Block). b.info)) is)

pub returns-in_default-clause-wish : goal.returns-in_default-clause-wish
returns-in_default-clause-wish c =
    let found = c.show_invariant.ensures.found c.args.id c.args.slot c.requires.slot in
    absurd (not_held (block_at c.args.self.now.arena.now c.args.slot) found.1 found.2 c.in_default.ensures.info)

pub returns-clause-wish : goal.returns-clause-wish
returns-clause-wish c =
    let s = c.args.self.now in
    let C = s.topology.now.cluster in
    let way = s.pending.now in
    let ys = c.sort_unstable.new.self.items in
    let u = c.in_ok-usable.usable in
    let o = block_at s.arena.now c.args.slot in
    let filled = c.in_ok-fill_storages.ensures ∙ ap (storages_at (λ _ _. true)) (replicas_there o (map triplet_view c.in-Some.triplets.now) c.in-Some.ensures.replicas) in
    let moved = subst (λ xs. IsPermutation xs ys) filled c.sort_unstable.ensures.permutation in
    let wish =
    ap (λ xs. option_to_list (option_and_then (λ i. wish_by C c.args.id i u.live u.drained xs (remaining_targets s.pend s.round way c.args.id)) c.in-Some.info)) c.deref-2.ensures.value
    ∙ wish_is C s.pend s.round s.arena.now way c.show_invariant.ensures c.args.id c.args.slot c.requires.slot c.requires.settled ys moved c.sort_unstable.ensures.sorted c.in-Some.info u.live u.drained (info_there o c.in-Some.info c.in-Some.ensures.info)
    (c.in_ok-usable.ensures.live ∙ ap (filter (λ s. not (is_draining C s))) c.deref.ensures.value) (c.in_ok-usable.ensures.drained ∙ ap (filter (is_draining C)) c.deref.ensures.value) in
    subst (λ (ws : List Wish). OnOk c.push_wish.result (c.push_wish.new.into.items ≡ c.args.into.now.items ++ wishes_before s.bound ws)) wish c.push_wish.ensures.wish
