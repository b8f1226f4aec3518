use Rattle.std.proofs.Common.{◌==◌, [], sym, ap, subst, ◌∙◌}
use Rattle.std.specs.Option.{option_map_or}
use Rattle.std.specs.List.Sorted.{IsNonDecreasing}
use Rattle.std.proofs.lemmas.List.Sorted.{list_any-IsPermutation}
use Rattle.bm_base.specs.Words.{has, has_repeats, is_live_on, excess_of}
use Rattle.bm_levels.specs.SlotHoldings.{holdings_with}
use Rattle.bm_levels.specs.Status.{storages_at}
use Rattle.bm_round_scan.specs.declared.block_scan.BlockScan.{BlockScan}
use Rattle.bm_round_scan.specs.BlockScans.{IsBlockScan}
use Rattle.bm_round_scan.proofs.OwnReplicas.{look_is, storages_once}
use Rattle.bm_round_scan.proofs.block_scan.BlockScan.scan_block.Goals as goal

pub returns-clause-scan : goal.returns-clause-scan
returns-clause-scan c pend r pending =
    let C = c.args.topology.now.cluster in
    let rs = c.fill_at_round_start.new.into.items in
    let chosen = c.fill_surplus.new.into in
    let many = c.sort_storages.new.storages in
    let handed = c.as_slice-2.ensures ∙ c.in_ok-usable.ensures.live ∙ ap (storages_at (is_live_on C)) c.as_slice.ensures.value in
    let once = ap has_repeats handed ∙ storages_once c.args.arena.now C c.args.id c.args.slot rs c.show_invariant.ensures c.requires c.in_ok-fill_at_round_start.ensures (is_live_on C) in
    let l : BlockScan = record { id = c.args.id; info = c.info-self.result; excess = many; replicas = c.mark.new.self.replicas; storages = c.args.self.now.storages; scratch = c.fill_surplus.new.scratch } in
    subst (λ k. IsBlockScan C pend r (holdings_with c.args.arena.now pending) k) (sym c.mark.ensures.others)
    (look_is c.args.arena.now C l c.args.slot rs c.show_invariant.ensures c.requires c.in_ok-fill_at_round_start.ensures c.info-self.ensures
    (λ s. sym (list_any-IsPermutation (λ t. t == s) chosen.items many.items c.sort_storages.ensures.moved)
    ∙ ap (λ ss. has ss s) (c.in_ok-fill_surplus.ensures.surplus once ∙ (λ j. option_map_or (λ i. excess_of C (handed j) i.repl) c.info-self.result [])))
    c.in_ok-mark.ensures.marked pend r pending)

pub returns-clause-in_order : goal.returns-clause-in_order
returns-clause-in_order c = subst (λ (l : BlockScan). IsNonDecreasing l.excess.items) (sym c.mark.ensures.others) c.sort_storages.ensures.in_order
