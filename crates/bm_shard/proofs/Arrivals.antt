-- Dropping arrived transfers block by block drops all, if all blocks with transfers are listed.
use Rattle.std.proofs.Common.{◌≡◌, ℕ, zero, suc, ◌+◌, ◌<◌, arith, Bool, true, false, cond, not, ◌&&◌, ◌||◌, List, [], ◌∷◌, map, length, drop, Option, Some, None, is_some, refl, sym, ap, ◌∙◌, eqb-true}
use Rattle.std.specs.Prelude.{◌==◌, IsSome, slice_get, option_and_then, option_map}
use Rattle.std.specs.Option.{option_or}
use Rattle.std.specs.Ordering.{eq_by_cmp}
use Rattle.bm_base.specs.declared.replica.ReplicaId.{ReplicaId}
use Rattle.bm_base.specs.declared.replica.Stamp.{Stamp}
use Rattle.bm_base.specs.Words.{has, Map, get, keep, remove, contains_key, Cluster, Holdings, by_replica, replica_at, entered_marks, report, is_named}
use Rattle.bm_base.proofs.MapLaws.{equal, same_map, get-keep, get-remove}
use Rattle.bm_base.proofs.Ties.{replica_tie}
use Rattle.bm_base.proofs.Clusters.{eqb_turned}
use Rattle.bm_arena.specs.Contents.{Contents}
use Rattle.bm_arena.specs.HeldMaps.{replicas_of}
use Rattle.bm_report.specs.declared.types.ReportedSlot.{ReportedSlot}
use Rattle.bm_report.specs.DuringReport.{reported_of}
use Rattle.bm_report.proofs.ReportResult.{last_stamp, report_own}
use Rattle.bm_shard.specs.ArrivedTransfers.{has_arrived}

-- a value that stays if a test fails
abbrev pass : Bool → ℕ → Option ℕ
pass t v = cond (not t) (Some v) None

module _ (a : Contents) (s : ℕ) where
  -- without the transfers of the listed blocks that have arrived
  abbrev pub dropped : List ℕ → Map by_replica ℕ → Map by_replica ℕ
  dropped xs m = keep m (λ q _. not (has xs q.block && has_arrived a s q))

  -- without those of one block
  abbrev pub dropped_at : ℕ → Map by_replica ℕ → Map by_replica ℕ
  dropped_at b m = keep m (λ q _. not ((b == q.block) && has_arrived a s q))

  pub dropped-next : (b : ℕ) (xs : List ℕ) (m : Map by_replica ℕ) → dropped xs (dropped_at b m) ≡ dropped (b ∷ xs) m
  dropped-next b xs m =
      same_map (dropped xs (dropped_at b m)) (dropped (b ∷ xs) m) (λ q.
      get-keep (dropped_at b m) (λ q _. not (has xs q.block && has_arrived a s q)) q
      ∙ ap (option_and_then (pass (has xs q.block && has_arrived a s q))) (get-keep m (λ q _. not ((b == q.block) && has_arrived a s q)) q)
      ∙ both (b == q.block) (has xs q.block) (has_arrived a s q) (get m q)
      ∙ sym (get-keep m (λ q _. not (has (b ∷ xs) q.block && has_arrived a s q)) q))
    where
      both : (x y z : Bool) (o : Option ℕ) → option_and_then (pass (y && z)) (option_and_then (pass (x && z)) o) ≡ option_and_then (pass ((x || y) && z)) o
      both x y z None = refl
      both true true true (Some v) = refl
      both true true false (Some v) = refl
      both true false true (Some v) = refl
      both true false false (Some v) = refl
      both false y z (Some v) = refl

  pub dropped-end : (m : Map by_replica ℕ) → dropped [] m ≡ m
  dropped-end m = same_map (dropped [] m) m (λ q. get-keep m (λ _ _. true) q ∙ all (get m q))
    where
      all : (o : Option ℕ) → option_and_then (pass false) o ≡ o
      all None = refl
      all (Some v) = refl

  -- if all blocks with transfers are listed, all transfers that have arrived leave
  pub dropped-all : (xs : List ℕ) (m : Map by_replica ℕ) → ((q : ReplicaId) → IsSome (get m q) → has xs q.block ≡ true) → dropped xs m ≡ keep m (λ q _. not (has_arrived a s q))
  dropped-all xs m listed =
      same_map (dropped xs m) (keep m (λ q _. not (has_arrived a s q))) (λ q.
      get-keep m (λ q _. not (has xs q.block && has_arrived a s q)) q ∙ where_some (has xs q.block) (has_arrived a s q) (get m q) (listed q)
      ∙ sym (get-keep m (λ q _. not (has_arrived a s q)) q))
    where
      where_some : (x z : Bool) (o : Option ℕ) → (IsSome o → x ≡ true) → option_and_then (pass (x && z)) o ≡ option_and_then (pass z) o
      where_some x z None h = refl
      where_some x z (Some v) h = ap (λ t. pass (t && z) v) (h refl)

  -- of a block's transfers, the test passes only the one to s
  same_arrived : (b : ℕ) (q : ReplicaId) → ((b == q.block) && has_arrived a s q) ≡ (eq_by_cmp by_replica.cmp q (replica_at b s) && contains_key (replicas_of a) (replica_at b s))
  same_arrived b q =
      ap (λ t. t && has_arrived a s q) (eqb_turned b q.block) ∙ by (q.block == b) (q.storage == s) refl refl
      ∙ ap (λ t. t && contains_key (replicas_of a) (replica_at b s)) (sym (replica_tie q (replica_at b s)))
    where
      by : (x y : Bool) → (q.block == b) ≡ x → (q.storage == s) ≡ y
          → (x && (y && contains_key (replicas_of a) q)) ≡ ((x && y) && contains_key (replicas_of a) (replica_at b s))
      by true true e f = ap (λ p. contains_key (replicas_of a) p) (λ i. replica_at (eqb-true q.block b e i) (eqb-true q.storage s f i))
      by true false e f = refl
      by false y e f = refl

  get-dropped_at : (b : ℕ) (m : Map by_replica ℕ) (q : ReplicaId)
      → get (dropped_at b m) q ≡ option_and_then (pass (eq_by_cmp by_replica.cmp q (replica_at b s) && contains_key (replicas_of a) (replica_at b s))) (get m q)
  get-dropped_at b m q = get-keep m (λ q _. not ((b == q.block) && has_arrived a s q)) q ∙ ap (λ t. option_and_then (pass t) (get m q)) (same_arrived b q)

  pub dropped-one : (b : ℕ) (m : Map by_replica ℕ) → contains_key (replicas_of a) (replica_at b s) ≡ true → remove m (replica_at b s) ≡ dropped_at b m
  dropped-one b m there =
      same_map (remove m (replica_at b s)) (dropped_at b m) (λ q.
      get-remove m (replica_at b s) q ∙ out (eq_by_cmp by_replica.cmp q (replica_at b s)) (get m q)
      ∙ ap (λ t. option_and_then (pass (eq_by_cmp by_replica.cmp q (replica_at b s) && t)) (get m q)) (sym there)
      ∙ sym (get-dropped_at b m q))
    where
      out : (t : Bool) (o : Option ℕ) → cond t None o ≡ option_and_then (pass (t && true)) o
      out true None = refl
      out true (Some v) = refl
      out false None = refl
      out false (Some v) = refl

  -- nothing leaves without such a transfer and such a replica
  pub dropped-none : (b : ℕ) (m : Map by_replica ℕ) → (contains_key m (replica_at b s) && contains_key (replicas_of a) (replica_at b s)) ≡ false → m ≡ dropped_at b m
  dropped-none b m none =
      same_map m (dropped_at b m) (λ q. by q (eq_by_cmp by_replica.cmp q (replica_at b s)) refl ∙ sym (get-dropped_at b m q))
    where
      gone : (o : Option ℕ) (c : Bool) → (is_some o && c) ≡ false → o ≡ option_and_then (pass c) o
      gone None c e = refl
      gone (Some v) c e = ap (λ t. pass t v) (sym e)

      stays : (o : Option ℕ) → o ≡ option_and_then (pass false) o
      stays None = refl
      stays (Some v) = refl

      by : (q : ReplicaId) (t : Bool) → eq_by_cmp by_replica.cmp q (replica_at b s) ≡ t
          → get m q ≡ option_and_then (pass (t && contains_key (replicas_of a) (replica_at b s))) (get m q)
      by q true e = gone (get m q) (contains_key (replicas_of a) (replica_at b s)) (ap (λ p. contains_key m p && contains_key (replicas_of a) (replica_at b s)) (by_replica.same q (replica_at b s) (equal (by_replica.cmp q (replica_at b s)) e)) ∙ none)
      by q false e = stays (get m q)

-- the block at an index, and the blocks after it
pub drop_here : (xs : List ℕ) (i : ℕ) → i < length xs → (b : ℕ) × (slice_get xs i ≡ Some b) × (drop i xs ≡ b ∷ drop (i + 1) xs)
drop_here [] i less = absurd (omega (arith, less))
drop_here (x ∷ xs) zero less = (x, refl, refl)
drop_here (x ∷ xs) (suc i) less =
    let rest = drop_here xs i (omega (arith, less)) in
    let next : suc i + 1 ≡ suc (i + 1) = omega arith in
    (rest.0, rest.1, rest.2 ∙ ap (λ k. rest.0 ∷ drop k (x ∷ xs)) (sym next))

-- After a report exactly the named blocks have a replica on the storage.

named_last : (ns : List ReportedSlot) (b : ℕ) → is_named (map reported_of ns) b ≡ is_some (last_stamp ns b)
unfolding is_named
named_last [] b = refl
named_last (n ∷ ns) b = ap (λ t. (n.id == b) || t) (named_last ns b) ∙ joined (last_stamp ns b) (n.id == b)
  where
    joined : (l : Option Stamp) (t : Bool) → (t || is_some l) ≡ is_some (option_or l (cond t (Some n.stamp) None))
    joined None true = refl
    joined None false = refl
    joined (Some x) true = refl
    joined (Some x) false = refl

-- exactly the named blocks have a replica there
pub named_there : (C : Cluster) (H : Holdings) (s : ℕ) (ns : List ReportedSlot) (a : Contents) → replicas_of a ≡ (report C H s (map reported_of ns)).replicas
    → (q : ReplicaId) → (q.storage == s) ≡ true → contains_key (replicas_of a) q ≡ is_named (map reported_of ns) q.block
named_there C H s ns a is q own = ap (λ k. contains_key k q) is ∙ ap is_some (report_own C H s ns q own) ∙ there (last_stamp ns q.block) ∙ sym (named_last ns q.block)
  where
    there : (l : Option Stamp) → is_some (option_map (entered_marks H q) l) ≡ is_some l
    there None = refl
    there (Some x) = refl

pub arrived_named : (C : Cluster) (H : Holdings) (s : ℕ) (ns : List ReportedSlot) (a : Contents) → replicas_of a ≡ (report C H s (map reported_of ns)).replicas
    → (m : Map by_replica ℕ) → keep m (λ q _. not (has_arrived a s q)) ≡ keep m (λ q _. not ((q.storage == s) && is_named (map reported_of ns) q.block))
arrived_named C H s ns a is m = λ i. keep m (λ q _. not (each q (q.storage == s) refl i))
  where
    each : (q : ReplicaId) (t : Bool) → (q.storage == s) ≡ t → (t && contains_key (replicas_of a) q) ≡ (t && is_named (map reported_of ns) q.block)
    each q true own = named_there C H s ns a is q own
    each q false other = refl
