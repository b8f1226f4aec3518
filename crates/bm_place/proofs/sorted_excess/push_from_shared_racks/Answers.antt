use Rattle.std.proofs.Common.{◌≡◌, ◌∙◌, ◌+◌, ◌++◌, ◌-◌, ◌≤◌, ◌&&◌, ℕ, cond, [], ◌∷◌, drop, length, sym, ap, subst, refl, arith}
use Rattle.std.specs.Prelude.{slice_get}
use Rattle.std.proofs.Common.{Some}
use Rattle.bm_place.specs.declared.holders.Holder.{Holder}
use Rattle.std.proofs.lemmas.List.{drop_all, length-map}
use Rattle.std.proofs.lemmas.Option.{slice_get_read}
use Rattle.bm_base.specs.Words.{excess_among, rack_of}
use Rattle.bm_place.specs.RackCounts.{is_on}
use Rattle.bm_place.specs.ReplicaSpread.{is_rack}
use Rattle.bm_place.specs.Tables.{count_at}
use Rattle.bm_place.specs.Holders.{holder_at}
use Rattle.bm_place.proofs.SinglePass.{Passes, none_passed, one_chosen, one_kept, all_passed, same_passes, next_looked_up, counts_more}
use Rattle.bm_place.proofs.sorted_excess.push_from_shared_racks.Goals as goal
use Rattle.bm_place.proofs.sorted_excess.push_from_shared_racks.Goals.{then-take_one_if_shared+in_ok-push, else-take_one_if_shared+in_ok-push-2}

pub loop-holder-init : goal.loop-holder-init
loop-holder-init c C ss ready =
    let whole = c.args.into.now.items ++ excess_among C c.args.surplus ss in
    subst (λ kept. Passes C c.args.racks.now.map c.args.surplus c.args.into.now.items kept ss whole) (sym c.clear.ensures.items)
    (none_passed C ss c.args.holders.now c.args.racks.now.map c.args.surplus c.args.into.now.items ready)

pub loop-holder-preserved : goal.loop-holder-preserved
loop-holder-preserved c C ss ready =
    let hs = c.args.holders.now in
    let i = c.loop-holder.holder-index in
    let h = c.holder-item.result in
    let next = next_looked_up C ss i h (subst (λ xs. slice_get xs i ≡ Some h) ready.looked_up (slice_get_read hs _ i h refl c.loop-holder-test.true c.holder-item.is)) in
    let rack : h.rack ≡ rack_of C h.storage = ap (λ (g : Holder). g.rack) next.0 in
    let whole = c.args.into.now.items ++ excess_among C c.args.surplus ss in
    let now = subst (λ rest. Passes C c.loop-holder.racks.map c.loop-holder.more c.loop-holder.into.items c.loop-holder.kept.items rest whole) next.1 (c.loop-holder.invariant C ss ready) in
    let passed = drop (i + 1) ss in
    let counts = c.loop-holder.racks.map in
    let after = c.take_one_if_shared.new.racks.map in
    let tested : c.take_one_if_shared.result ≡ counts_more counts (rack_of C h.storage) = c.take_one_if_shared.ensures.more ∙ ap (counts_more counts) rack in
    elim c.if-take_one_if_shared.branch [
      | then-take_one_if_shared+in_ok-push w ↦
          let lowered : (r : ℕ) → count_at after r + cond (is_on C r h.storage) 1 0 ≡ count_at counts r =
          λ r. (λ j. count_at after r + cond (sym w.if-take_one_if_shared.true j && is_rack r (sym rack j)) 1 0) ∙ c.take_one_if_shared.ensures.lowered r in
          let fewer : c.loop-holder.more ≡ (c.loop-holder.more - 1) + 1 = omega (arith, c.if-more-eq0.false) in
          same_passes C after (c.loop-holder.more - 1) _ (c.loop-holder.into.items ++ h.storage ∷ []) _ c.loop-holder.kept.items _ passed whole
          w.more-is (ap (λ v. v.items) w.into-is ∙ w.in_ok-push.ensures.items) (ap (λ v. v.items) w.kept-is)
          (one_chosen C counts after c.loop-holder.more (c.loop-holder.more - 1) h.storage c.loop-holder.into.items c.loop-holder.kept.items passed whole now
          (sym tested ∙ w.if-take_one_if_shared.true) lowered fewer)
      | else-take_one_if_shared+in_ok-push-2 w ↦
          let as_before : (r : ℕ) → count_at after r ≡ count_at counts r =
          λ r.
          let is = ap (λ b. count_at after r + cond (b && is_rack r h.rack) 1 0) (sym w.if-take_one_if_shared.false) ∙ c.take_one_if_shared.ensures.lowered r in
          omega (arith, is) in
          same_passes C after c.loop-holder.more _ c.loop-holder.into.items _ (c.loop-holder.kept.items ++ h.storage ∷ []) _ passed whole
          w.more-is (ap (λ v. v.items) w.into-is) (ap (λ v. v.items) w.kept-is ∙ w.in_ok-push-2.ensures.items)
          (one_kept C counts after c.loop-holder.more h.storage c.loop-holder.into.items c.loop-holder.kept.items passed whole now (sym tested ∙ w.if-take_one_if_shared.false) as_before)
    ]

pub returns : goal.returns
returns c C ss ready =
    let as_many = ap length ready.looked_up ∙ length-map ss (holder_at C) in
    let past : length ss ≤ c.loop-holder.holder-index = omega (arith, as_many, c.loop-holder-test.false) in
    all_passed C _ c.loop-holder.more _ c.loop-holder.kept.items _ _ (c.loop-holder.invariant C ss ready) (drop_all c.loop-holder.holder-index ss past)
