-- A look-up in the map of transfers finds what a look-up among the block's targets finds.
use Rattle.std.specs.Prelude.{◌≡◌, ℕ, Bool, true, false, cond, not, ◌==◌, ◌&&◌, List, [], ◌∷◌, nat_eq, Option, Some}
use Rattle.std.specs.Option.{option_map_or}
use Rattle.std.specs.Ordering.{nat_cmp}
use Rattle.std.specs.FinMap.{find}
use Rattle.std.specs.Map.{lookup}
use Rattle.std.proofs.Common.{refl, sym, ap, ◌∙◌}
use Rattle.bm_base.specs.declared.replica.ReplicaId.{ReplicaId}
use Rattle.bm_base.specs.Words.{Map, get, by_replica, replica_at}
use Rattle.bm_base.proofs.MapLaws.{get-insert, get-keep, get-empty}
use Rattle.bm_base.proofs.MapEntries.{one_out}
use Rattle.bm_base.proofs.Ties.{number_tie, replica_tie}
use Rattle.bm_pending.specs.Inside.{PendingTargets, with_block, map_of, targets_at}

pub laid : (b s : Bool) (v : ℕ) (found rest : Option ℕ) → cond (b && s) (Some v) (cond b found rest) ≡ cond b (cond s (Some v) found) rest
laid true s v found rest = refl
laid false s v found rest = refl

get-with_block : (b : ℕ) (ts : List (ℕ × ℕ)) (m : Map by_replica ℕ) (q : ReplicaId) → get (with_block b ts m) q ≡ cond (q.block == b) (find nat_cmp q.storage ts) (get m q)
unfolding with_block
get-with_block b [] m q = get-keep m (λ q _. not (q.block == b)) q ∙ sym (one_out (q.block == b) (get m q))
get-with_block b (t ∷ ts) m q =
    get-insert (with_block b ts m) (replica_at b t.0) t.1 q
    ∙ (λ j. cond (replica_tie q (replica_at b t.0) j) (Some t.1) (get-with_block b ts m q j))
    ∙ laid (q.block == b) (q.storage == t.0) t.1 (find nat_cmp q.storage ts) (get m q)
    ∙ ap (λ s. cond (q.block == b) (cond s (Some t.1) (find nat_cmp q.storage ts)) (get m q)) (sym (number_tie q.storage t.0))

into : (s : ℕ) (b : Bool) (v : PendingTargets) (w : Option PendingTargets) → cond b (find nat_cmp s v.items) (find nat_cmp s (option_map_or (λ (v : PendingTargets). v.items) w [])) ≡ find nat_cmp s (option_map_or (λ (v : PendingTargets). v.items) (cond b (Some v) w) [])
into s true v w = refl
into s false v w = refl

pub get-map_of : (es : List (ℕ × PendingTargets)) (q : ReplicaId) → get (map_of es) q ≡ find nat_cmp q.storage (targets_at es q.block)
unfolding map_of
get-map_of [] q = get-empty {X = ℕ} by_replica q
get-map_of (e ∷ es) q =
    get-with_block e.0 e.1.items (map_of es) q
    ∙ ap (cond (q.block == e.0) (find nat_cmp q.storage e.1.items)) (get-map_of es q)
    ∙ into q.storage (q.block == e.0) e.1 (lookup (nat_eq q.block) es)
