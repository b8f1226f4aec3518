-- If replicas leave in two steps, the numbers that leave add up.
use Rattle.std.specs.Prelude.{◌≡◌, ◌≢◌, ℕ, ◌+◌, ◌-◌, ◌<◌, ◌≤◌, length, Bool, true, false, not, ◌==◌, List, [], Option, Some, None, IsSome, is_some, option_and_then}
use Rattle.std.proofs.Common.{cond, refl, sym, ap, subst, ◌∙◌, arith}
use Rattle.std.proofs.lemmas.Bool.{eqb-false, eqb-true, false≢true}
use Rattle.bm_base.specs.declared.replica.ReplicaId.{ReplicaId}
use Rattle.bm_base.specs.declared.replica.Marks.{Marks}
use Rattle.bm_base.specs.Words.{get, keep, remove, len, replica_at, new_replicas}
use Rattle.bm_maps.specs.SlotLists.{IsMember}
use Rattle.bm_maps.proofs.SlotLists.{length-distinct_below}
use Rattle.bm_base.proofs.MapLaws.{same_map, get-keep}
use Rattle.bm_base.proofs.Differences.{some_left}
use Rattle.bm_base.proofs.MapEntries.{get_left}
use Rattle.bm_arena.specs.Triplets.{Block}
use Rattle.bm_arena.specs.Contents.{Contents, block_at, list_of, slot_of, marks_at, find_marks, IsLawful, KeepsOthers}
use Rattle.bm_arena.specs.HeldMaps.{replicas_of, blocks_of}
use Rattle.bm_arena.proofs.HeldReplicas.{get-replicas_of}
use Rattle.bm_report.proofs.Maps.{get-here, len-out}
use Rattle.bm_levels.specs.LeavingReplicas.{IsLeaving}

-- each slot of a list holds a block
pub held_on : (a : Contents) → IsLawful a → (s slot : ℕ) → IsMember slot (list_of a s) → IsSome (block_at a slot)
held_on a lawful s slot there = by (block_at a slot) ((lawful.exact slot s).0 there)
  where
    by : (o : Option Block) → IsSome (option_and_then (λ (b : Block). find_marks b.replicas s) o) → IsSome o
    by None h = h
    by (Some b) h = refl

-- if the delimiter is not in a storage's list, each slot in it is that of a number
module _ (a : Contents) (lawful : IsLawful a) (s : ℕ) (free : marks_at a a.delimiter s ≡ None) (slot : ℕ) (there : IsSome (marks_at a slot s)) where
  pub apart_from : slot ≢ a.delimiter
  apart_from at = false≢true (sym (ap is_some free) ∙ ap (λ x. is_some (marks_at a x s)) (sym at) ∙ there)

  pub led_by : (id : ℕ) × (slot_of a id ≡ Some slot)
  led_by = by (block_at a slot) refl there
    where
      by : (o : Option Block) → block_at a slot ≡ o → IsSome (option_and_then (λ (b : Block). find_marks b.replicas s) o) → (id : ℕ) × (slot_of a id ≡ Some slot)
      by None e some = absurd (false≢true some)
      by (Some k) e some = (k.id, lawful.known slot k e apart_from)

-- no list is longer than the number of slots
pub few_on : (a : Contents) → IsLawful a → (s bound : ℕ) → ((slot : ℕ) → IsSome (block_at a slot) → slot < bound) → length (list_of a s) ≤ bound
few_on a lawful s bound above = length-distinct_below bound (list_of a s) (lawful.distinct s) (λ slot there. above slot (held_on a lawful s slot there))

pub leaving_none : (p : ℕ → Bool) (a : Contents) → IsLeaving p a a 0
leaving_none p a = record { blocks = refl; lists = λ s _. refl; others = λ q _. refl; count = omega arith }

pub leaving_more : (p : ℕ → Bool) (a b c : Contents) (m n : ℕ) → IsLeaving p a b m → IsLeaving p b c n → IsLeaving p a c (m + n)
leaving_more p a b c m n f g = record {
  blocks = g.blocks ∙ f.blocks;
  lists = λ s e. g.lists s e ∙ f.lists s e;
  others = λ q e. g.others q e ∙ f.others q e;
  count = omega (arith, f.count, g.count);
}

-- if a storage passes, the replicas that left it left storages that pass
pub leaving_of : (p : ℕ → Bool) (a b : Contents) (s n : ℕ) → p s ≡ true → IsLeaving (λ t. t == s) a b n → IsLeaving p a b n
leaving_of p a b s n own h = record {
  blocks = h.blocks;
  lists = λ t off. h.lists t (other t (t == s) refl off);
  others = λ q off. h.others q (other q.storage (q.storage == s) refl off);
  count = h.count;
}
  where
    other : (t : ℕ) (x : Bool) → (t == s) ≡ x → p t ≡ false → (t == s) ≡ false
    other t false e off = e
    other t true e off = absurd (false≢true (sym off ∙ ap p (eqb-true t s e) ∙ own))

-- a list that is empty stays so
pub stays_empty : (a b : Contents) (s t n : ℕ) → IsLeaving (λ u. u == s) a b n → list_of b s ≡ [] → list_of a t ≡ [] → list_of b t ≡ []
stays_empty a b s t n h gone empty = by (t == s) refl
  where
    by : (x : Bool) → (t == s) ≡ x → list_of b t ≡ []
    by true e = ap (list_of b) (eqb-true t s e) ∙ gone
    by false e = h.lists t e ∙ empty

-- one replica left
pub leaving_one : (a b : Contents) (id slot s : ℕ) → slot_of a id ≡ Some slot → IsSome (marks_at a slot s) → KeepsOthers a b slot s → blocks_of b ≡ blocks_of a
    → replicas_of b ≡ remove (replicas_of a) (replica_at id s) → IsLeaving (λ t. t == s) a b 1
leaving_one a b id slot s here there kept blocks out = record {
  blocks = blocks;
  lists = λ t e. kept.lists t (eqb-false t s e);
  others = λ q e. ap (λ m. get m q) out ∙ get_left (replicas_of a) (replica_at id s) q (λ same. eqb-false q.storage s e (ap (λ (p : ReplicaId). p.storage) same));
  count = let P : Option Marks → Type 0 = λ o. IsSome o in let one = len-out (replicas_of a) (replica_at id s) (subst P (sym (get-here a id slot s here)) there) in let after = ap len out in omega (arith, one, after);
}

-- no replica left
pub leaving_same : (p : ℕ → Bool) (a b : Contents) → blocks_of b ≡ blocks_of a → replicas_of b ≡ replicas_of a → ((s : ℕ) → p s ≡ false → list_of b s ≡ list_of a s) → IsLeaving p a b 0
leaving_same p a b blocks replicas lists = record { blocks = blocks; lists = lists; others = λ q e. ap (λ m. get m q) replicas; count = let e = ap len replicas in omega (arith, e) }

-- changing only lists changes neither replicas nor blocks
pub other_lists : (a b : Contents) {lists : List (ℕ × List ℕ)} → b ≡ record a { lists = lists } → (replicas_of b ≡ replicas_of a) × (blocks_of b ≡ blocks_of a)
unfolding replicas_of blocks_of
other_lists a b e = (ap replicas_of e, ap blocks_of e)

-- no replica is on a storage with an empty list
pub none_on : (a : Contents) → IsLawful a → (s : ℕ) → list_of a s ≡ [] → (slot : ℕ) → marks_at a slot s ≡ None
none_on a lawful s empty slot = by (marks_at a slot s) refl
  where
    by : (o : Option Marks) → marks_at a slot s ≡ o → o ≡ None
    by None e = refl
    by (Some m) e = absurd (let P : List ℕ → Type 0 = λ l. IsMember slot l in subst P empty ((lawful.exact slot s).1 (ap is_some e)))

pub none_held_on : (a : Contents) → IsLawful a → (q : ReplicaId) → list_of a q.storage ≡ [] → get (replicas_of a) q ≡ None
none_held_on a lawful q empty = get-replicas_of a q ∙ by (slot_of a q.block)
  where
    by : (o : Option ℕ) → option_and_then (λ slot. marks_at a slot q.storage) o ≡ None
    by None = refl
    by (Some slot) = none_on a lawful q.storage empty slot

passing : (b : Bool) (o : Option Marks) → b ≡ true → option_and_then (λ x. cond b (Some x) None) o ≡ o
passing true None e = refl
passing true (Some x) e = refl
passing false o e = cc

failing : (b : Bool) (o : Option Marks) → b ≡ false → option_and_then (λ x. cond b (Some x) None) o ≡ None
failing false None e = refl
failing false (Some x) e = refl
failing true o e = cc

-- all replicas of the storages have left
module _ (p : ℕ → Bool) (a b : Contents) (n : ℕ) (left : IsLeaving p a b n) (lawful : IsLawful b) (empty : (s : ℕ) → p s ≡ true → list_of b s ≡ []) where
  pub kept_others : replicas_of b ≡ keep (replicas_of a) (λ q _. not (p q.storage))
  kept_others = same_map (replicas_of b) (keep (replicas_of a) (λ q _. not (p q.storage))) (λ q. by q (p q.storage) refl ∙ sym (get-keep (replicas_of a) (λ k _. not (p k.storage)) q))
    where
      by : (q : ReplicaId) (c : Bool) → p q.storage ≡ c → get (replicas_of b) q ≡ option_and_then (λ x. cond (not (p q.storage)) (Some x) None) (get (replicas_of a) q)
      by q true e = none_held_on b lawful q (empty q.storage e) ∙ sym (failing (not (p q.storage)) (get (replicas_of a) q) (ap not e))
      by q false e = left.others q e ∙ sym (passing (not (p q.storage)) (get (replicas_of a) q) (ap not e))

  pub count_is : n ≡ new_replicas (replicas_of b) (replicas_of a)
  unfolding new_replicas
  count_is =
      let gone = some_left (replicas_of a) (λ q. not (p q.storage)) in
      let e = ap len kept_others in
      let c = left.count in
      let all : n ≡ len (replicas_of a) - len (keep (replicas_of a) (λ q _. not (p q.storage))) = omega (arith, e, c) in
      all ∙ sym gone ∙ ap (λ m. new_replicas m (replicas_of a)) (sym kept_others)
