-- Changing the marks of the replicas of a list one after another changes the marks of all of them:
--     flag_none, flag_next      no replica, and one before others
--     order_own, order_other, order_end      the deletes of a part
--     excess_next, excess_end                the surplus replicas
use Rattle.std.specs.Prelude.{◌≡◌, ℕ, Bool, true, false, ◌&&◌, ◌||◌, ◌==◌, if◌then◌else◌, List, [], ◌∷◌, Option, Some, None, option_map}
use Rattle.std.specs.Ordering.{eq_by_cmp}
use Rattle.std.proofs.Common.{cond, refl, sym, ap, ◌∙◌}
use Rattle.std.proofs.Math.Bool.{and_comm}
use Rattle.bm_base.specs.declared.replica.ReplicaId.{ReplicaId}
use Rattle.bm_base.specs.declared.replica.Marks.{Marks}
use Rattle.bm_base.specs.declared.commands.Delete.{Delete}
use Rattle.bm_base.specs.Words.{Map, get, revise, revise_at, by_replica, replica_cmp, replica_at, is_commanded}
use Rattle.bm_base.specs.RoundParts.{own_deletes}
use Rattle.bm_base.specs.Shards.{shard_of}
use Rattle.bm_base.proofs.MapLaws.{same_map, get-revise}
use Rattle.bm_base.proofs.Ties.{replica_tie}
use Rattle.bm_base.proofs.Clusters.{eqb_turned}
use Rattle.bm_levels.specs.Changes.{as_ordered, as_excess, has_replica}

mapped_twice : {X : Type 0} (f g h : X → X) (v : Option X) → ((x : X) → f (g x) ≡ h x) → option_map f (option_map g v) ≡ option_map h v
mapped_twice f g h None is = refl
mapped_twice f g h (Some x) is = ap Some (is x)

unmapped : {X : Type 0} (v : Option X) → v ≡ option_map (λ x. x) v
unmapped None = refl
unmapped (Some x) = refl

its_key : (q p : ReplicaId) → eq_by_cmp replica_cmp q p ≡ ((p.storage == q.storage) && (p.block == q.block))
its_key q p = replica_tie q p ∙ and_comm (q.block == p.block) (q.storage == p.storage) ∙ (λ i. eqb_turned q.storage p.storage i && eqb_turned q.block p.block i)

module _ (f : Marks → Marks) (again : (x : Marks) → f (f x) ≡ f x) (m : Map by_replica Marks) where
  abbrev flagged : (ReplicaId → Bool) → Map by_replica Marks
  flagged p = revise m (λ q x. if p q then f x else x)

  pub flag_none : (p : ReplicaId → Bool) → ((q : ReplicaId) → p q ≡ false) → flagged p ≡ m
  flag_none p none = same_map (flagged p) m (λ q. get-revise m (λ q x. if p q then f x else x) q ∙ ap (λ t. option_map (λ (x : Marks). cond t (f x) x) (get m q)) (none q) ∙ sym (unmapped (get m q)))

  either : (a b : Bool) (x : Marks) → cond b (f (cond a (f x) x)) (cond a (f x) x) ≡ cond (a || b) (f x) x
  either true true x = again x
  either true false x = refl
  either false b x = refl

  pub flag_next : (p : ReplicaId → Bool) (k : ReplicaId)
      → revise (revise_at m k f) (λ q x. if p q then f x else x) ≡ flagged (λ q. ((k.storage == q.storage) && (k.block == q.block)) || p q)
  unfolding revise_at
  flag_next p k =
      same_map (revise (revise_at m k f) (λ q x. if p q then f x else x)) (flagged (λ q. ((k.storage == q.storage) && (k.block == q.block)) || p q)) (λ q.
      get-revise (revise_at m k f) (λ q x. if p q then f x else x) q
      ∙ ap (option_map (λ (x : Marks). if p q then f x else x)) (get-revise m (λ q x. cond (eq_by_cmp replica_cmp q k) (f x) x) q)
      ∙ mapped_twice (λ x. if p q then f x else x) (λ x. cond (eq_by_cmp replica_cmp q k) (f x) x) (λ x. if ((k.storage == q.storage) && (k.block == q.block)) || p q then f x else x) (get m q)
      (λ x. either (eq_by_cmp replica_cmp q k) (p q) x ∙ ap (λ b. cond (b || p q) (f x) x) (its_key q k))
      ∙ sym (get-revise m (λ q x. if ((k.storage == q.storage) && (k.block == q.block)) || p q then f x else x) q))

-- the deletes of a part
abbrev pub with_deletes_ordered : ℕ → ℕ → List Delete → ReplicaId → Marks → Marks
with_deletes_ordered index shards ds q m = if is_commanded (own_deletes index shards ds) q then record m { ordered = true } else m

module _ (m : Map by_replica Marks) (index shards : ℕ) where
  pub order_end : revise m (with_deletes_ordered index shards []) ≡ m
  unfolding is_commanded
  order_end = flag_none as_ordered (λ x. refl) m (λ q. false) (λ q. refl)

  pub order_own : (d : Delete) (ds : List Delete) → (shard_of d.block shards == index) ≡ true
      → revise (revise_at m (replica_at d.block d.storage) as_ordered) (with_deletes_ordered index shards ds) ≡ revise m (with_deletes_ordered index shards (d ∷ ds))
  unfolding is_commanded
  order_own d ds own =
      flag_next as_ordered (λ x. refl) m (λ q. is_commanded (own_deletes index shards ds) q) (replica_at d.block d.storage)
      ∙ sym (ap (λ t. revise m (λ q x. if is_commanded (if t then d ∷ own_deletes index shards ds else own_deletes index shards ds) q then record x { ordered = true } else x)) own)

  pub order_other : (d : Delete) (ds : List Delete) → (shard_of d.block shards == index) ≡ false → revise m (with_deletes_ordered index shards ds) ≡ revise m (with_deletes_ordered index shards (d ∷ ds))
  order_other d ds other =
      sym (ap (λ t. revise m (λ q x. if is_commanded (if t then d ∷ own_deletes index shards ds else own_deletes index shards ds) q then record x { ordered = true } else x)) other)

-- the marks of a replica, in excess if it is in the list
abbrev pub excess_by : List ReplicaId → ReplicaId → Marks → Marks
excess_by ps q m = if has_replica ps q then as_excess m else m

module _ (m : Map by_replica Marks) where
  pub excess_end : revise m (excess_by []) ≡ m
  unfolding has_replica
  excess_end = flag_none as_excess (λ x. refl) m (λ q. false) (λ q. refl)

  pub excess_next : (p : ReplicaId) (ps : List ReplicaId) → revise (revise_at m p as_excess) (excess_by ps) ≡ revise m (excess_by (p ∷ ps))
  unfolding has_replica
  excess_next p ps = flag_next as_excess (λ x. refl) m (λ q. has_replica ps q) p
