-- Removing a replica from a map counts as one removed replica if it was there, else as none.
use Rattle.std.proofs.Common.{◌≡◌, ◌+◌, ◌-◌, Bool, true, false, cond, Option, Some, None, is_some, refl, sym, ap, ◌∙◌, arith}
use Rattle.std.specs.Ordering.{eq_by_cmp}
use Rattle.bm_base.specs.declared.replica.Marks.{Marks}
use Rattle.bm_base.specs.declared.replica.ReplicaId.{ReplicaId}
use Rattle.bm_base.specs.Words.{Map, get, insert, remove, len, contains_key, by_replica, new_replicas}
use Rattle.bm_base.proofs.MapLaws.{equal, same_map, get-insert, get-remove}
use Rattle.bm_base.proofs.Differences.{len-insert}
use Rattle.bm_base.proofs.MapEntries.{get_taken}
use Rattle.bm_shard.proofs.Counts.{gone_by_remove}

module _ (m : Map by_replica Marks) (k : ReplicaId) where
  -- without an entry nothing is removed
  nothing_left : get m k ≡ None → remove m k ≡ m
  nothing_left none = same_map (remove m k) m (λ q. get-remove m k q ∙ by q (eq_by_cmp by_replica.cmp q k) refl)
    where
      by : (q : ReplicaId) (b : Bool) → eq_by_cmp by_replica.cmp q k ≡ b → cond b None (get m q) ≡ get m q
      by q true t = sym (ap (get m) (by_replica.same q k (equal _ t)) ∙ none)
      by q false t = refl

  -- a removed entry that is inserted again
  put_back : (x : Marks) → get m k ≡ Some x → insert (remove m k) k x ≡ m
  put_back x found = same_map (insert (remove m k) k x) m (λ q. get-insert (remove m k) k x q ∙ ap (cond (eq_by_cmp by_replica.cmp q k) (Some x)) (get-remove m k q) ∙ by q (eq_by_cmp by_replica.cmp q k) refl)
    where
      by : (q : ReplicaId) (b : Bool) → eq_by_cmp by_replica.cmp q k ≡ b → cond b (Some x) (cond b None (get m q)) ≡ get m q
      by q true t = sym (ap (get m) (by_replica.same q k (equal _ t)) ∙ found)
      by q false t = refl

  shorter : (v : Option Marks) → get m k ≡ v → len m - len (remove m k) ≡ cond (is_some v) 1 0
  shorter None e = let same = ap len (nothing_left e) in omega (arith, same)
  shorter (Some x) e =
      let same = ap len (put_back x e) in
      let more : len (insert (remove m k) k x) ≡ len (remove m k) + 1 = len-insert (remove m k) k x ∙ ap (λ b. cond b (len (remove m k)) (len (remove m k) + 1)) (ap is_some (get_taken m k)) in
      omega (arith, same, more)

  pub one_gone : new_replicas (remove m k) m ≡ cond (contains_key m k) 1 0
  one_gone = (gone_by_remove m k).1 ∙ shorter (get m k) refl
