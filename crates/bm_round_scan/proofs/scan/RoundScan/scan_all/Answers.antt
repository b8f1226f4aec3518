use Rattle.std.proofs.Common.{◌≡◌, ◌<◌, ◌+◌, ℕ, zero, suc, List, [], ◌∷◌, ◌++◌, map, take, length, get_or, inl, inr, refl, subst, sym, ap, ◌∙◌, arith}
use Rattle.std.proofs.lemmas.List.{take_more, map-append}
use Rattle.bm_maps.specs.SlotLists.{IsMember}
use Rattle.bm_arena.specs.HeldMaps.{id_at}
use Rattle.bm_levels.specs.SlotHoldings.{holdings_with}
use Rattle.bm_round_scan.specs.BlockFindings.{HasFound}
use Rattle.bm_round_scan.proofs.scan.RoundScan.scan_all.Goals as goal

-- the slot at an index is one of the slots
slot_at : (xs : List ((ℕ × ℕ) × ℕ)) (i : ℕ) (d : (ℕ × ℕ) × ℕ) → i < length xs → IsMember (get_or xs i d).1 (map (λ (e : (ℕ × ℕ) × ℕ). e.1) xs)
slot_at [] i d below = absurd (omega (arith, below))
slot_at (x ∷ xs) zero d below = inl refl
slot_at (x ∷ xs) (suc i) d below = inr (slot_at xs i d (omega (arith, below)))

pub scan_slot-requires-clause-known : goal.scan_slot-requires-clause-known
scan_slot-requires-clause-known c = c.requires.known _ (slot_at c.args.slots.now c.loop-keyed.keyed-index ((0, 0), 0) c.loop-keyed-test.true)

pub loop-keyed-preserved : goal.loop-keyed-preserved
loop-keyed-preserved c =
    let me = c.args.self.now in
    let slots = c.args.slots.now in
    let i = c.loop-keyed.keyed-index in
    let x = get_or slots i ((0, 0), 0) in
    let id : (ℕ × ℕ) × ℕ → ℕ = λ e. id_at me.arena.now e.1 in
    let Found : List ℕ → Type 0 = λ bs. HasFound me.topology.now.cluster me.pend me.round (holdings_with me.arena.now me.pending.now.map) me.bound bs c.scan_slot.new.found in
    let next : map id (take (i + 1) slots) ≡ map id (take i slots) ++ id x ∷ [] =
    ap (map id) (take_more slots i ((0, 0), 0) c.loop-keyed-test.true) ∙ map-append id (take i slots) (x ∷ []) in
    subst Found (sym next) (c.in_ok-scan_slot.ensures.more (map id (take i slots)) c.loop-keyed.invariant)
