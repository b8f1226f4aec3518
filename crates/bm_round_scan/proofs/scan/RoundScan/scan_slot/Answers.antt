use Rattle.std.proofs.Common.{◌≡◌, ◌++◌, ◌∷◌, [], ℕ, List, false, not, nat_le, length, refl, Bool, true, ap, sym, subst, ◌∙◌}
use Rattle.std.specs.Prelude.{OnOk, option_and_then, option_to_list}
use Rattle.std.specs.Option.{option_map_or}
use Rattle.std.proofs.lemmas.Bool.{false≢true}
use Rattle.std.proofs.lemmas.Result.{on_ok_weaker}
use Rattle.bm_base.specs.declared.replica.BlockInfo.{BlockInfo}
use Rattle.bm_base.specs.Maps.Lists.{has}
use Rattle.bm_maps.specs.SlotLists.{IsMember}
use Rattle.bm_arena.specs.Triplets.{Block}
use Rattle.bm_arena.specs.Contents.{block_at, slot_of}
use Rattle.bm_arena.specs.HeldMaps.{id_at}
use Rattle.bm_levels.specs.SlotHoldings.{holdings_with}
use Rattle.bm_round_scan.specs.declared.scan.Findings.{Findings}
use Rattle.bm_round_scan.specs.BlockFindings.{HasFound}
use Rattle.bm_parts.specs.BoundedWishes.{wishes_before}
use Rattle.bm_pending.specs.RemainingTargets.{remaining_targets}
use Rattle.bm_round_scan.specs.Requests.{wish_by}
use Rattle.bm_levels.specs.Status.{is_settled_at, storages_at}
use Rattle.bm_levels.proofs.EqualLists.{among_has}
use Rattle.bm_round_scan.proofs.NextBlock.{found_more}
use Rattle.bm_round_scan.proofs.SettledBlocks.{settled_more}
use Rattle.bm_round_scan.proofs.scan.RoundScan.scan_slot.Goals as goal

pub returns-clause-more : goal.returns-clause-more
returns-clause-more c bs has =
    let C = c.args.self.now.topology.now.cluster in
    let a = c.args.self.now.arena.now in
    let found = c.show_invariant.ensures.found c.requires.known.0 c.args.slot c.requires.known.1 in
    let l = c.scan_block.new.self in
    let g : Findings = record { excess = c.push_excess.new.into; wishes = c.push_wish.new.into; deletes = c.push_deletes.new.into } in
    let id : l.id ≡ option_map_or (λ (b : Block). b.id) (block_at a c.args.slot) 0 = c.in_ok-usable.ensures.id ∙ c.id_of-id.ensures found.1 found.2 ∙ sym (ap (λ o. option_map_or (λ (b : Block). b.id) o 0) found.2) in
    on_ok_weaker c.push_wish.result
    (λ wish.
    subst (λ b. HasFound c.args.self.now.topology.now.cluster c.args.self.now.pend c.args.self.now.round (holdings_with a c.args.self.now.pending.now.map) c.args.self.now.bound (bs ++ b ∷ []) g) id
    (found_more c.args.self.now.topology.now.cluster c.args.self.now.pend c.args.self.now.round a c.args.self.now.pending.now l c.in_ok-usable.usable c.has_enough-enough.result
    (c.in_ok-usable.ensures.scan c.args.self.now.pend c.args.self.now.round c.args.self.now.pending.now.map)
    (record {
      usable = c.in_ok-usable.ensures.usable;
      enough = c.has_enough-enough.ensures ∙ ap (λ (xs : List ℕ). option_map_or (λ (i : BlockInfo). nat_le i.repl (length xs)) l.info false) c.as_slice.ensures;
    }) c.args.self.now.bound c.args.found.now g
    (record {
      excess = c.in_ok-push_excess.ensures;
      wishes =
          wish
          ∙ ap (λ ss. c.args.found.now.wishes.items ++ wishes_before c.args.self.now.bound (option_to_list (option_and_then (λ i. wish_by c.args.self.now.topology.now.cluster l.id i c.in_ok-usable.usable.live c.in_ok-usable.usable.drained ss (remaining_targets c.args.self.now.pend c.args.self.now.round c.args.self.now.pending.now l.id)) l.info)))
          (c.as_slice-storages.ensures ∙ c.in_ok-storages.ensures ∙ ap (storages_at (λ _ _. true)) c.as_slice-2.ensures.value);
      deletes = c.in_ok-push_deletes.ensures;
    }) bs has))
    c.push_wish.ensures.wish

is_not : (b : Bool) → not b ≡ true → false ≡ b
is_not true e = e
is_not false e = refl

-- a slot that is not among the unsettled ones is settled
settled_slot : (us : List ℕ) (slot : ℕ) (settled : Bool) → false ≡ has us slot → (settled ≡ false → IsMember slot us) → settled ≡ true
settled_slot us slot true none there = refl
settled_slot us slot false none there = absurd (false≢true (none ∙ among_has us slot (there refl)))

pub push_settled_wish-requires-clause-settled : goal.push_settled_wish-requires-clause-settled
push_settled_wish-requires-clause-settled c =
    let s = c.args.self.now in
    settled_slot s.level_index.now.unsettled.slots c.args.slot (is_settled_at (block_at s.arena.now c.args.slot)) (is_not (has s.level_index.now.unsettled.slots c.args.slot) (sym c.is_settled.ensures ∙ c.if-is_settled.true)) (c.requires.settled c.args.slot).1

pub returns-then-is_settled-clause-more : goal.returns-then-is_settled-clause-more
returns-then-is_settled-clause-more c bs found_so_far =
    let s = c.args.self.now in
    let C = s.topology.now.cluster in
    let a = s.arena.now in
    let found = c.show_invariant.ensures.found c.requires.known.0 c.args.slot c.requires.known.1 in
    let own = c.id_of-id.ensures found.1 found.2 in
    let here = ap (slot_of a) (own ∙ found.3) ∙ c.requires.known.1 in
    let id : c.id_of-id.result ≡ id_at a c.args.slot = own ∙ sym (ap (λ o. option_map_or (λ (b : Block). b.id) o 0) found.2) in
    let settled = settled_slot s.level_index.now.unsettled.slots c.args.slot (is_settled_at (block_at a c.args.slot)) (is_not (has s.level_index.now.unsettled.slots c.args.slot) (sym c.is_settled.ensures ∙ c.if-is_settled.true)) (c.requires.settled c.args.slot).1 in
    let f = c.args.found.now in
    let g : Findings = record { excess = f.excess; wishes = c.push_settled_wish.new.into; deletes = f.deletes } in
    subst (λ b. OnOk c.push_settled_wish.result (HasFound C s.pend s.round (holdings_with a s.pending.now.map) s.bound (bs ++ b ∷ []) g)) id
    (on_ok_weaker c.push_settled_wish.result
    (λ wishes. settled_more C s.pend s.round a s.pending.now c.show_invariant.ensures c.id_of-id.result c.args.slot here settled s.bound f g refl refl wishes bs found_so_far)
    c.push_settled_wish.ensures.wish)
