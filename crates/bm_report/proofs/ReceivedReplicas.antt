-- A notice of a received or deleted replica changes replicas as defined, and counts the changes.
use Rattle.std.proofs.Common.{◌≡◌, ◌≢◌, ℕ, ◌+◌, Bool, true, false, cond, not, ◌&&◌, ◌||◌, Option, Some, None, is_some, IsSome, refl, subst, sym, ap, ◌∙◌, arith}
use Rattle.std.specs.Option.{option_and_then}
use Rattle.std.proofs.Math.Bool.{and-false}
use Rattle.bm_base.specs.declared.replica.ReplicaId.{ReplicaId}
use Rattle.bm_base.specs.declared.replica.Marks.{Marks}
use Rattle.bm_base.specs.Words.{get, insert, remove, len, Cluster, replica_at, replaces, enter, entered_marks, new_replicas}
use Rattle.bm_base.proofs.MapLaws.{same_map, get-insert, get-remove}
use Rattle.bm_base.proofs.Differences.{none_new}
use Rattle.bm_arena.specs.Triplets.{Block}
use Rattle.bm_arena.specs.Contents.{Contents, block_at, slot_of, marks_at, find_marks, IsLawful, KeepsOthers}
use Rattle.bm_report.specs.declared.types.ReportedSlot.{ReportedSlot}
use Rattle.bm_report.specs.declared.types.Applied.{Applied}
use Rattle.bm_arena.specs.HeldMaps.{replicas_of, blocks_of, holdings_of, info_at}
use Rattle.bm_report.specs.DuringReport.{entered_at, marks_during_report, without_invalid_excess, saturating_sum, KeepsRest, IsOncePerNode}
use Rattle.bm_report.specs.ReceivedReplica.{HasReceived}
use Rattle.bm_arena.proofs.HeldReplicas.{get-blocks_of, replicas-put, replicas-out, blocks-kept}
use Rattle.bm_arena.proofs.SetMarks.{set_at, set-elsewhere, set-known, set-marks, set-others}
use Rattle.bm_arena.proofs.StableEntries.{set-entries}
use Rattle.bm_report.proofs.Maps.{Held, tie, tied, get-here, some_is, put-known, len-out}
use Rattle.bm_report.proofs.ReportResult.{entered_without_invalid_excess}
use Rattle.bm_report.proofs.ReplicaCounts.{has, new-same, new-more, came_and_went, len-same, has-entered}

new_none : (K : Held) → new_replicas K K ≡ 0
unfolding new_replicas
new_none K = none_new K K (λ q x e. ap is_some e)

-- the marks that a received replica gets, by its slot
module _ (C : Cluster) (a : Contents) (s : ℕ) (n : ReportedSlot) (here : slot_of a n.id ≡ Some n.slot) where
  abbrev pub marks_then : Marks
  marks_then = without_invalid_excess (marks_during_report (info_at a n.slot) (marks_at a n.slot s) n.stamp)

  pub marks_are : marks_then ≡ entered_marks (holdings_of a) (replica_at n.id s) n.stamp
  unfolding holdings_of
  marks_are =
      let i = sym (get-blocks_of a n.id ∙ ap (λ o. option_and_then (λ k. info_at a k) o) here) in
      let w = sym (get-here a n.id n.slot s here) in
      (λ j. without_invalid_excess (marks_during_report (i j) (w j) n.stamp)) ∙ entered_without_invalid_excess C (holdings_of a) s (replica_at n.id s) n.stamp

  pub entering_is : (m : Marks) → m ≡ marks_then → entered_at C (replicas_of a) (replica_at n.id s) m ≡ (enter C (holdings_of a) (replica_at n.id s) n.stamp).replicas
  unfolding enter holdings_of
  entering_is m is = ap (entered_at C (replicas_of a) (replica_at n.id s)) (is ∙ marks_are)

-- the replica is there already: its marks are set
module _ (C : Cluster) (a : Contents) (s : ℕ) (n : ReportedSlot) (lawful : IsLawful a) (here : slot_of a n.id ≡ Some n.slot) (once : IsOncePerNode C (replicas_of a))
    (was : Marks) (at : marks_at a n.slot s ≡ Some was) (m : Marks) (m_is : m ≡ marks_then C a s n here) where
  there : IsSome (get (replicas_of a) (replica_at n.id s))
  there = some_is (get (replicas_of a) (replica_at n.id s)) was (get-here a n.id n.slot s here ∙ at)

  put : replicas_of (set_at a n.slot s m) ≡ insert (replicas_of a) (replica_at n.id s) m
  put =
      replicas-put a (set_at a n.slot s m) lawful n.slot s n.id here refl (set-elsewhere a n.slot s m) (set-others a n.slot s m) m
      (set-marks a n.slot s m (some_is (marks_at a n.slot s) was at))

  put_as : replicas_of (set_at a n.slot s m) ≡ entered_at C (replicas_of a) (replica_at n.id s) m
  put_as = put ∙ put-known C (replicas_of a) n.id s m once there

  same_keys : (q : ReplicaId) → has (insert (replicas_of a) (replica_at n.id s) m) q ≡ has (replicas_of a) q
  same_keys q = ap is_some (get-insert (replicas_of a) (replica_at n.id s) m q) ∙ by (tie q (replica_at n.id s)) refl
    where
      by : (t : Bool) → tie q (replica_at n.id s) ≡ t → is_some (cond t (Some m) (get (replicas_of a) q)) ≡ has (replicas_of a) q
      by true e = sym (ap (has (replicas_of a)) (tied q (replica_at n.id s) e) ∙ there)
      by false e = refl

  none_came : new_replicas (replicas_of a) (replicas_of (set_at a n.slot s m)) ≡ 0
  none_came = ap (new_replicas (replicas_of a)) put ∙ new-same (replicas_of a) (insert (replicas_of a) (replica_at n.id s) m) (replicas_of a) (λ q out. same_keys q) ∙ new_none (replicas_of a)

  none_went : new_replicas (replicas_of (set_at a n.slot s m)) (replicas_of a) ≡ 0
  none_went =
      let both = came_and_went (replicas_of a) (replicas_of (set_at a n.slot s m)) in
      let length_is : len (replicas_of (set_at a n.slot s m)) ≡ len (replicas_of a) = ap len put ∙ len-same (insert (replicas_of a) (replica_at n.id s) m) (replicas_of a) same_keys in
      let none = none_came in
      omega (arith, both, length_is, none)

  pub received-known : (r : Applied) → r.added ≡ 0 → r.removed ≡ 0 → r.steps ≡ 0 → HasReceived C s n.id n.stamp a (set_at a n.slot s m) r
  received-known r no_add no_remove no_steps = record {
    replicas = put_as ∙ entering_is C a s n here m m_is;
    blocks = blocks-kept a (set_at a n.slot s m) n.slot refl (set-elsewhere a n.slot s m) (set-known a n.slot s m);
    others = λ x other. set-elsewhere a n.slot s m x (λ e. other (here ∙ ap (λ k. Some k) (sym e)));
    free = λ t. ap (λ o. option_and_then (λ (b : Block). find_marks b.replicas t) o) (set-elsewhere a n.slot s m a.delimiter (λ e. (lawful.found n.id n.slot here).0 (sym e)));
    added = no_add ∙ sym none_came;
    removed = no_remove ∙ sym none_went;
    steps = omega arith;
    counted = sym (ap (λ k. saturating_sum k a.steps) no_steps);
    entries = set-entries a n.slot s m;
  }

-- the replica is new: it is linked
pub received-new : (C : Cluster) (a c : Contents) (s : ℕ) (n : ReportedSlot) (here : slot_of a n.id ≡ Some n.slot) → marks_at a n.slot s ≡ None → (m : Marks) → m ≡ marks_then C a s n here
    → replicas_of c ≡ entered_at C (replicas_of a) (replica_at n.id s) m → KeepsRest s a c → ((slot : ℕ) → slot ≢ n.slot → block_at c slot ≡ block_at a slot)
    → (left_sibling : Bool) → cond left_sibling 1 0 + len (replicas_of c) ≡ len (replicas_of a) + 1 → c.steps ≡ saturating_sum (cond left_sibling 2 1) a.steps
    → (r : Applied) → r.added ≡ 1 → r.removed ≡ cond left_sibling 1 0 → r.steps ≡ cond left_sibling 2 1 → HasReceived C s n.id n.stamp a c r
received-new C a c s n here absent m m_is replicas frame others left_sibling lengths adds_steps r one left steps = record {
  replicas = replicas ∙ entering_is C a s n here m m_is;
  blocks = frame.blocks;
  others = λ x other. others x (λ e. other (here ∙ ap (λ k. Some k) (sym e)));
  free = λ t. ap (λ o. option_and_then (λ (b : Block). find_marks b.replicas t) o) (ap (block_at c) frame.delimiter ∙ frame.marker);
  added = one ∙ sym came_one;
  removed = let both = came_and_went (replicas_of a) (replicas_of c) in let e = came_one in omega (arith, both, e, lengths, left);
  steps = sums left_sibling steps left;
  counted = adds_steps ∙ sym (ap (λ k. saturating_sum k a.steps) steps);
  entries = frame.entries;
}
  where
    out : has (replicas_of a) (replica_at n.id s) ≡ false
    out = ap is_some (get-here a n.id n.slot s here ∙ absent)

    not_in : (q : ReplicaId) → has (replicas_of a) q ≡ false → (not (replaces C (replica_at n.id s) q) && has (replicas_of a) q) ≡ has (replicas_of a) q
    not_in q e = ap (λ x. not (replaces C (replica_at n.id s) q) && x) e ∙ and-false (not (replaces C (replica_at n.id s) q)) ∙ sym e

    came_one : new_replicas (replicas_of a) (replicas_of c) ≡ 1
    came_one =
        let more = new-more (replicas_of a) (replicas_of a) (entered_at C (replicas_of a) (replica_at n.id s) m) (replica_at n.id s) m out out
        (λ q e. has-entered C (replicas_of a) (replica_at n.id s) m q ∙ ap (λ x. tie q (replica_at n.id s) || x) (not_in q e)) in
        let none = new_none (replicas_of a) in
        let here_it = ap (new_replicas (replicas_of a)) replicas in
        omega (arith, more, none, here_it)

    sums : (b : Bool) → r.steps ≡ cond b 2 1 → r.removed ≡ cond b 1 0 → r.steps ≡ r.added + r.removed
    sums true e f = omega (arith, e, f, one)
    sums false e f = omega (arith, e, f, one)

-- removing a replica that does not exist changes nothing
pub remove-absent : (K : Held) (p : ReplicaId) → get K p ≡ None → K ≡ remove K p
remove-absent K p none =
    same_map K (remove K p) (λ q. by q (tie q p) refl ∙ sym (get-remove K p q))
  where
    by : (q : ReplicaId) (t : Bool) → tie q p ≡ t → get K q ≡ cond t None (get K q)
    by q true e = ap (get K) (tied q p e) ∙ none
    by q false e = refl

-- a replica is deleted
module _ (a c : Contents) (s b slot : ℕ) (lawful : IsLawful a) (here : slot_of a b ≡ Some slot) (there : IsSome (marks_at a slot s)) (others : KeepsOthers a c slot s) (gone : marks_at c slot s ≡ None) where
  pub deleted-replicas : replicas_of c ≡ remove (replicas_of a) (replica_at b s)
  deleted-replicas = replicas-out a c lawful slot s b here others.ids others.blocks others.marks gone

  pub deleted-blocks : blocks_of c ≡ blocks_of a
  deleted-blocks = blocks-kept a c slot others.ids others.blocks others.known

  none_came_then : new_replicas (replicas_of a) (replicas_of c) ≡ 0
  unfolding new_replicas
  none_came_then = none_new (replicas_of a) (replicas_of c) (λ q x e. was q x (tie q (replica_at b s)) (sym (get-remove (replicas_of a) (replica_at b s) q) ∙ ap (λ K. get K q) (sym deleted-replicas) ∙ e))
    where
      was : (q : ReplicaId) (x : Marks) (t : Bool) → cond t None (get (replicas_of a) q) ≡ Some x → is_some (get (replicas_of a) q) ≡ true
      was q x true e = cc
      was q x false e = ap is_some e

  pub deleted-added : 0 ≡ new_replicas (replicas_of a) (replicas_of c)
  deleted-added = sym none_came_then

  pub deleted-removed : 1 ≡ new_replicas (replicas_of c) (replicas_of a)
  deleted-removed =
      let both = came_and_went (replicas_of a) (replicas_of c) in
      let Q : Option Marks → Type 0 = λ o. IsSome o in
      let fewer = len-out (replicas_of a) (replica_at b s) (subst Q (sym (get-here a b slot s here)) there) in
      let is = ap len deleted-replicas in
      let none = none_came_then in
      omega (arith, both, fewer, is, none)

pub nothing-new : (a : Contents) → 0 ≡ new_replicas (replicas_of a) (replicas_of a)
nothing-new a = sym (new_none (replicas_of a))
