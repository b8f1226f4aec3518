use Rattle.std.proofs.Common.{◌≡◌, ◌+◌, ℕ, List, ◌∷◌, inl, inr, refl, subst, sym, ◌∙◌, arith}
use Rattle.bm_base.specs.Machine.Replicas.{rack_of}
use Rattle.bm_maps.specs.SlotLists.{IsMember}
use Rattle.bm_maps.proofs.SlotLists.{dec_among}
use Rattle.bm_arena.specs.Contents.{list_of}
use Rattle.bm_levels.specs.Status.{drains_after_change}
use Rattle.bm_levels.proofs.StatusUpdates.{IsUnderway, underway_none, underway_more, underway_classified, underway_others}
use Rattle.bm_levels.proofs.level_index.LevelIndex.reclassify_list.Goals as goal

-- the first of these slots is one of them
head_among : (xs rest : List ℕ) (x : ℕ) → xs ≡ x ∷ rest → IsMember x xs
head_among xs rest x e = let P : List ℕ → Type 0 = λ l. IsMember x l in subst P (sym e) (inl refl)

pub loop-slot-init : goal.loop-slot-init
loop-slot-init c =
    let C = c.args.cluster_after.now.topology.now.cluster in
    let D = drains_after_change C c.args.cluster_after.now.drain_change in
    let all = list_of c.args.arena.now c.args.storage in
    let K = c.args.self.now in
    let e : c.into_iter-slot-iterator.result ≡ all = c.into_iter-slot-iterator.ensures.into_iter_gives ∙ c.walk-slot-items.ensures in
    let P : List ℕ → Type 0 = λ l. IsUnderway (rack_of C) D c.args.cluster_after.now.multi c.args.arena.now all l K K in
    record {
      underway = subst P (sym e) (underway_none (rack_of C) D c.args.cluster_after.now.multi c.args.arena.now all K);
      listed = λ slot h. let Q : List ℕ → Type 0 = λ l. IsMember slot l in subst Q e h;
      capacity = λ bound h. h;
    }

pub classify-requires : goal.classify-requires
classify-requires c =
    let x = c.in-Some.slot in
    let there = c.loop-slot.invariant.listed x (head_among c.loop-slot.slot-iterator c.next.new.self x c.in-Some.ensures.steps) in
    record { capacity = (x + 1, omega arith, c.loop-slot.invariant.capacity (x + 1) (c.requires x there)) }

pub loop-slot-preserved : goal.loop-slot-preserved
loop-slot-preserved c =
    let C = c.args.cluster_after.now.topology.now.cluster in
    let D = drains_after_change C c.args.cluster_after.now.drain_change in
    let multi = c.args.cluster_after.now.multi in
    let a = c.args.arena.now in
    let all = list_of a c.args.storage in
    let x = c.in-Some.slot in
    let next : c.loop-slot.slot-iterator ≡ x ∷ c.next.new.self = c.in-Some.ensures.steps in
    let there = c.loop-slot.invariant.listed x (head_among c.loop-slot.slot-iterator c.next.new.self x next) in
    let P : List ℕ → Type 0 = λ l. IsUnderway (rack_of C) D multi a all l c.args.self.now c.loop-slot.self in
    record {
      underway = underway_more (rack_of C) D multi a all c.next.new.self x c.args.self.now c.loop-slot.self c.classify.new.self there (subst P next c.loop-slot.invariant.underway) c.classify.ensures.status c.classify.ensures.others;
      listed = λ slot h. let Q : List ℕ → Type 0 = λ l. IsMember slot l in c.loop-slot.invariant.listed slot (subst Q (sym next) (inr h));
      capacity = λ bound h. c.classify.ensures.capacity bound (c.loop-slot.invariant.capacity bound h);
    }

pub returns-clause-each : goal.returns-clause-each
returns-clause-each c slot =
    let C = c.args.cluster_after.now.topology.now.cluster in
    let D = drains_after_change C c.args.cluster_after.now.drain_change in
    let multi = c.args.cluster_after.now.multi in
    let a = c.args.arena.now in
    let all = list_of a c.args.storage in
    let P : List ℕ → Type 0 = λ l. IsUnderway (rack_of C) D multi a all l c.args.self.now c.loop-slot.self in
    elim (dec_among slot all) [
      | inl there ↦ inl (underway_classified (rack_of C) D multi a all c.args.self.now c.loop-slot.self (subst P c.in-None.ensures.steps.0 c.loop-slot.invariant.underway) slot there)
      | inr absent ↦ inr (underway_others (rack_of C) D multi a all c.loop-slot.slot-iterator c.args.self.now c.loop-slot.self c.loop-slot.invariant.underway slot absent, absent)
    ]
