use Rattle.std.proofs.Common.{◌≡◌, ◌++◌, ℕ, List, [], subst, sym, ◌∙◌, ◌+◌, rules}
use Rattle.std.specs.Slice.Iter.{chunks_rest}
use Rattle.std.proofs.lemmas.List.{nil_from_length}
use Rattle.bm_base.specs.Machine.Replicas.{rack_of}
use Rattle.bm_maps.specs.SlotLists.{IsMember}
use Rattle.bm_arena.proofs.Replicas.{IsMember-left}
use Rattle.bm_levels.specs.Status.{drains_after_change}
use Rattle.bm_levels.proofs.StatusUpdates.{IsUnderway, underway_none, underway_chunk, underway_classified, underway_others, among_back}
use Rattle.bm_levels.proofs.level_index.LevelIndex.classify_all.Goals as goal

pub loop-chunk-init : goal.loop-chunk-init
loop-chunk-init c =
    let C = c.args.cluster_after.now.topology.now.cluster in
    let D = drains_after_change C c.args.cluster_after.now.drain_change in
    let all = c.args.slots.now in
    let P : List ℕ → Type 0 = λ l. IsUnderway (rack_of C) D c.args.cluster_after.now.multi c.args.arena.now all l c.args.self.now c.args.self.now in
    let whole : chunks_rest c.into_iter-chunk-iterator.result ≡ all = search rules in
    record {
      finite = tt;
      size = search rules;
      underway = subst P (sym whole) (underway_none (rack_of C) D c.args.cluster_after.now.multi c.args.arena.now all c.args.self.now);
      listed = λ slot h. let Q : List ℕ → Type 0 = λ l. IsMember slot l in subst Q whole h;
      capacity = λ bound h. h;
    }

pub reclassify_chunk-requires-clause-capacity : goal.reclassify_chunk-requires-clause-capacity
reclassify_chunk-requires-clause-capacity c slot there =
    let P : List ℕ → Type 0 = λ l. IsMember slot l in
    c.loop-chunk.invariant.capacity (slot + 1) (c.requires.capacity slot (c.loop-chunk.invariant.listed slot (subst P (sym c.in-Some.ensures.steps.1.0) (IsMember-left slot c.in-Some.chunk.now (chunks_rest c.next.new.self) there))))

pub loop-chunk-preserved : goal.loop-chunk-preserved
loop-chunk-preserved c =
    let C = c.args.cluster_after.now.topology.now.cluster in
    let D = drains_after_change C c.args.cluster_after.now.drain_change in
    let multi = c.args.cluster_after.now.multi in
    let a = c.args.arena.now in
    let all = c.args.slots.now in
    let xs = c.in-Some.chunk.now in
    let ys = chunks_rest c.next.new.self in
    let whole = c.in-Some.ensures.steps.1.0 in
    let P : List ℕ → Type 0 = λ l. IsUnderway (rack_of C) D multi a all l c.args.self.now c.loop-chunk.self in
    let listed : (slot : ℕ) → IsMember slot (xs ++ ys) → IsMember slot all = λ slot h. c.loop-chunk.invariant.listed slot (let Q : List ℕ → Type 0 = λ l. IsMember slot l in subst Q (sym whole) h) in
    record {
      finite = tt;
      size = c.in-Some.ensures.steps.0 ∙ c.loop-chunk.invariant.size;
      underway = underway_chunk (rack_of C) D multi a all xs ys c.args.self.now c.loop-chunk.self c.reclassify_chunk.new.self (λ slot h. listed slot (IsMember-left slot xs ys h)) (subst P whole c.loop-chunk.invariant.underway) c.reclassify_chunk.ensures.status c.reclassify_chunk.ensures.others;
      listed = λ slot h. listed slot (among_back slot xs ys h);
      capacity = λ bound h. c.reclassify_chunk.ensures.capacity bound (c.loop-chunk.invariant.capacity bound h);
    }

pub returns-clause-status : goal.returns-clause-status
returns-clause-status c =
    let C = c.args.cluster_after.now.topology.now.cluster in
    let none : chunks_rest c.loop-chunk.chunk-iterator ≡ [] = nil_from_length _ c.in-None.ensures.steps.1.0 in
    let P : List ℕ → Type 0 = λ l. IsUnderway (rack_of C) (drains_after_change C c.args.cluster_after.now.drain_change) c.args.cluster_after.now.multi c.args.arena.now c.args.slots.now l c.args.self.now c.loop-chunk.self in
    underway_classified (rack_of C) (drains_after_change C c.args.cluster_after.now.drain_change) c.args.cluster_after.now.multi c.args.arena.now c.args.slots.now c.args.self.now c.loop-chunk.self (subst P none c.loop-chunk.invariant.underway)

pub returns-clause-others : goal.returns-clause-others
returns-clause-others c =
    let C = c.args.cluster_after.now.topology.now.cluster in
    underway_others (rack_of C) (drains_after_change C c.args.cluster_after.now.drain_change) c.args.cluster_after.now.multi c.args.arena.now c.args.slots.now _ c.args.self.now c.loop-chunk.self c.loop-chunk.invariant.underway
