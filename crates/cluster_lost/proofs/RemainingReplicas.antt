-- A usable replica remains after losses exactly if they do not take its storage.
use Rattle.std.proofs.Common.{◌≡◌, ℕ, ◌≤◌, Bool, true, false, cond, not, ◌&&◌, ◌||◌, Some, None, List, [], ◌∷◌, map, filter, length, refl, sym, ap, ◌∙◌}
use Rattle.std.specs.Prelude.{◌==◌, if◌then◌else◌, option_and_then, option_map}
use Rattle.std.specs.Option.{option_map_or}
use Rattle.std.specs.List.{list_any}
use Rattle.std.proofs.Math.Bool.{and-true}
use Rattle.bm_base.specs.declared.replica.ReplicaId.{ReplicaId}
use Rattle.bm_base.specs.declared.replica.Marks.{Marks}
use Rattle.bm_base.specs.declared.replica.BlockInfo.{BlockInfo}
use Rattle.bm_base.specs.declared.storage.StorageInfo.{StorageInfo}
use Rattle.bm_base.specs.declared.event.Event.{Event}
use Rattle.bm_base.specs.declared.event.Event.TheVariants.{Register, Dead, StorageFailed, Heartbeat, Drain, Undrain, AddBlock, DeleteBlock, SetReplication, Restamp, Received, Deleted, Corrupt, FullReport}
use Rattle.bm_base.specs.Words.{entries, get, keep, remove, Cluster, Holdings, State, by_replica, is_usable, is_live_on, is_drained_on, is_draining, node_of, has_storage, storages_where, usable, live, drained, racks, is_multi_rack, level, level_of, is_at, change_cluster, change_holdings, without_node, without_storage, without_storages, drain, begin_drain, after_event}
use Rattle.bm_base.specs.declared.replica.Level.TheVariants.{NoUsableReplica}
use Rattle.bm_base.proofs.MapLaws.{get-keep, get-remove, entries-keep}
use Rattle.bm_base.proofs.Options.{there, all_stays}
use Rattle.bm_base.proofs.Ties.{number_tie}
use Rattle.bm_base.proofs.ListTests.{any_map, any_filter, any_agree}
use Rattle.cluster_lost.specs.Losses as losses
use Rattle.cluster_lost.specs.Losses.{is_loss, are_losses, after_losses, takes, is_taken, is_missing}
use Rattle.cluster_lost.proofs.Tests.{none_if_empty, any_either, neither, level_is_missing}

-- a test of the storages of a block's replicas, as a test of one of the entries
pub any_stored : (t : ℕ → Bool) (p : ℕ → Marks → Bool) (H : Holdings) (b : ℕ)
    → list_any t (storages_where p H b) ≡ list_any (λ e. ((e.0.block == b) && p e.0.storage e.1) && t e.0.storage) (entries H.replicas)
unfolding storages_where
any_stored t p H b =
    any_map t (λ e. e.0.storage) (filter (λ e. (e.0.block == b) && p e.0.storage e.1) (entries H.replicas))
    ∙ any_filter (λ e. t e.0.storage) (λ e. (e.0.block == b) && p e.0.storage e.1) (entries H.replicas)

-- Missing blocks.

split : (a u d : Bool) → ((((a && (u && not d)) && true)) || ((a && (u && d)) && true)) ≡ ((a && u) && true)
split true true true = refl
split true true false = refl
split true false true = refl
split true false false = refl
split false u d = refl

some_usable : (C : Cluster) (H : Holdings) (b : ℕ) → (list_any (λ _. true) (live C H b) || list_any (λ _. true) (drained C H b)) ≡ list_any (λ _. true) (usable H b)
some_usable C H b =
    (λ i. any_stored (λ _. true) (is_live_on C) H b i || any_stored (λ _. true) (is_drained_on C) H b i)
    ∙ any_either (λ e. ((e.0.block == b) && is_live_on C e.0.storage e.1) && true) (λ e. ((e.0.block == b) && is_drained_on C e.0.storage e.1) && true) (entries H.replicas)
    ∙ any_agree (λ e. (((e.0.block == b) && is_live_on C e.0.storage e.1) && true) || (((e.0.block == b) && is_drained_on C e.0.storage e.1) && true)) (λ e. ((e.0.block == b) && is_usable e.1) && true)
    (λ e. split (e.0.block == b) (is_usable e.1) (is_draining C e.0.storage)) (entries H.replicas)
    ∙ sym (any_stored (λ _. true) (λ _ m. is_usable m) H b)

-- A known block of which at least one replica is wanted is missing exactly if it has no usable
-- replica.
pub missing_is_unusable : (M : State) (b : ℕ) (i : BlockInfo) → get M.holdings.blocks b ≡ Some i → 1 ≤ i.repl → is_missing M b ≡ not (list_any (λ _. true) (usable M.holdings b))
unfolding level
missing_is_unusable M b i e h =
    let C = M.cluster in
    let H = M.holdings in
    ap (λ z. is_at NoUsableReplica (option_and_then (λ i. level_of (record { live = length (live C H b); drained = length (drained C H b); wanted = i.repl; racks = length (racks C (live C H b)); multi_rack = is_multi_rack C })) z)) e
    ∙ level_is_missing (length (live C H b)) (length (drained C H b)) i.repl (length (racks C (live C H b))) (is_multi_rack C) h
    ∙ (λ j. none_if_empty (live C H b) j && none_if_empty (drained C H b) j)
    ∙ neither (list_any (λ _. true) (live C H b)) (list_any (λ _. true) (drained C H b))
    ∙ ap not (some_usable C H b)

-- The replicas after one loss.

moved : (g a t : Bool) → (not g && (a && t)) ≡ (a && (not g && t))
moved true true t = refl
moved true false t = refl
moved false true t = refl
moved false false t = refl

left_by_storages : (H : Holdings) (gone : ℕ → Bool) (b : ℕ) (t : ℕ → Bool) → list_any t (usable (without_storages H gone) b) ≡ list_any (λ s. not (gone s) && t s) (usable H b)
unfolding without_storages
left_by_storages H gone b t =
    let kept : ReplicaId × Marks → Bool = λ e. ((e.0.block == b) && is_usable e.1) && t e.0.storage in
    any_stored t (λ _ m. is_usable m) (without_storages H gone) b
    ∙ ap (list_any kept) (entries-keep by_replica H.replicas (λ q _. not (gone q.storage)))
    ∙ any_filter kept (λ e. not (gone e.0.storage)) (entries H.replicas)
    ∙ any_agree (λ e. not (gone e.0.storage) && kept e) (λ e. ((e.0.block == b) && is_usable e.1) && (not (gone e.0.storage) && t e.0.storage))
    (λ e. moved (gone e.0.storage) ((e.0.block == b) && is_usable e.1) (t e.0.storage)) (entries H.replicas)
    ∙ sym (any_stored (λ s. not (gone s) && t s) (λ _ m. is_usable m) H b)

same_replicas : (b : Bool) (H G : Holdings) → G.replicas ≡ H.replicas → (if b then H else G).replicas ≡ H.replicas
same_replicas true H G e = refl
same_replicas false H G e = e

same_blocks : (b : Bool) (H G : Holdings) → G.blocks ≡ H.blocks → (if b then H else G).blocks ≡ H.blocks
same_blocks true H G e = refl
same_blocks false H G e = e

usable_by : (H G : Holdings) (b : ℕ) → G.replicas ≡ H.replicas → usable G b ≡ usable H b
unfolding storages_where
usable_by H G b e = ap (λ m. map (λ e. e.0.storage) (filter (λ e. (e.0.block == b) && is_usable e.1) (entries m))) e

pub left_by_loss : (C : Cluster) (H : Holdings) (e : Event) (b : ℕ) (t : ℕ → Bool) → is_loss e ≡ true → list_any t (usable (change_holdings C H e) b) ≡ list_any (λ s. not (takes C e s) && t s) (usable H b)
unfolding change_holdings begin_drain
left_by_loss C H (Dead n) b t h = left_by_storages H (has_storage C n) b t
left_by_loss C H (StorageFailed s) b t h = left_by_storages H (λ t. t == s) b t
left_by_loss C H (Drain n) b t h = ap (list_any t) (usable_by H (begin_drain C H n) b (same_replicas _ H _ refl))
left_by_loss C H (Register n rack ss) b t h = cc
left_by_loss C H (Heartbeat n rs) b t h = cc
left_by_loss C H (Undrain n) b t h = cc
left_by_loss C H (AddBlock c stamp repl) b t h = cc
left_by_loss C H (DeleteBlock c) b t h = cc
left_by_loss C H (SetReplication c repl) b t h = cc
left_by_loss C H (Restamp c stamp) b t h = cc
left_by_loss C H (Received s c stamp) b t h = cc
left_by_loss C H (Deleted s c) b t h = cc
left_by_loss C H (Corrupt s c) b t h = cc
left_by_loss C H (FullReport s es) b t h = cc

pub blocks_by_loss : (C : Cluster) (H : Holdings) (e : Event) → is_loss e ≡ true → (change_holdings C H e).blocks ≡ H.blocks
unfolding change_holdings begin_drain without_storages
blocks_by_loss C H (Dead n) h = refl
blocks_by_loss C H (StorageFailed s) h = refl
blocks_by_loss C H (Drain n) h = same_blocks _ H _ refl
blocks_by_loss C H (Register n rack ss) h = cc
blocks_by_loss C H (Heartbeat n rs) h = cc
blocks_by_loss C H (Undrain n) h = cc
blocks_by_loss C H (AddBlock c stamp repl) h = cc
blocks_by_loss C H (DeleteBlock c) h = cc
blocks_by_loss C H (SetReplication c repl) h = cc
blocks_by_loss C H (Restamp c stamp) h = cc
blocks_by_loss C H (Received s c stamp) h = cc
blocks_by_loss C H (Deleted s c) h = cc
blocks_by_loss C H (Corrupt s c) h = cc
blocks_by_loss C H (FullReport s es) h = cc

-- A storage that stays is on the same node and rack.

stays_without_node : (C : Cluster) (n m s : ℕ) → has_storage C n s ≡ false → has_storage (without_node C n) m s ≡ has_storage C m s
unfolding without_node has_storage node_of
stays_without_node C n m s h = ap (λ z. option_map_or (λ k. k == m) (option_map (λ (i : StorageInfo). i.node) z) false) (get-keep C.storages (λ s _. not (has_storage C n s)) s ∙ all_stays (not (has_storage C n s)) (get C.storages s) (ap not h))

stays_without_storage : (C : Cluster) (t m s : ℕ) → (s == t) ≡ false → has_storage (without_storage C t) m s ≡ has_storage C m s
unfolding without_storage has_storage node_of
stays_without_storage C t m s h = ap (λ z. option_map_or (λ k. k == m) (option_map (λ (i : StorageInfo). i.node) z) false) (get-remove C.storages t s ∙ ap (λ b. cond b None (get C.storages s)) (number_tie s t ∙ h))

stays_by_loss : (C : Cluster) (e : Event) (m s : ℕ) → is_loss e ≡ true → takes C e s ≡ false → has_storage (change_cluster C e) m s ≡ has_storage C m s
unfolding change_cluster drain has_storage node_of
stays_by_loss C (Dead n) m s h stays = stays_without_node C n m s stays
stays_by_loss C (StorageFailed t) m s h stays = stays_without_storage C t m s stays
stays_by_loss C (Drain n) m s h stays = refl
stays_by_loss C (Register n rack ss) m s h stays = cc
stays_by_loss C (Heartbeat n rs) m s h stays = cc
stays_by_loss C (Undrain n) m s h stays = cc
stays_by_loss C (AddBlock c stamp repl) m s h stays = cc
stays_by_loss C (DeleteBlock c) m s h stays = cc
stays_by_loss C (SetReplication c repl) m s h stays = cc
stays_by_loss C (Restamp c stamp) m s h stays = cc
stays_by_loss C (Received t c stamp) m s h stays = cc
stays_by_loss C (Deleted t c) m s h stays = cc
stays_by_loss C (Corrupt t c) m s h stays = cc
stays_by_loss C (FullReport t es) m s h stays = cc

takes_as_before : (C D : Cluster) (s : ℕ) → ((m : ℕ) → has_storage D m s ≡ has_storage C m s) → (e : Event) → takes D e s ≡ takes C e s
takes_as_before C D s same (Dead n) = same n
takes_as_before C D s same (StorageFailed t) = refl
takes_as_before C D s same (Drain n) = refl
takes_as_before C D s same (Register n rack ss) = refl
takes_as_before C D s same (Heartbeat n rs) = refl
takes_as_before C D s same (Undrain n) = refl
takes_as_before C D s same (AddBlock c stamp repl) = refl
takes_as_before C D s same (DeleteBlock c) = refl
takes_as_before C D s same (SetReplication c repl) = refl
takes_as_before C D s same (Restamp c stamp) = refl
takes_as_before C D s same (Received t c stamp) = refl
takes_as_before C D s same (Deleted t c) = refl
takes_as_before C D s same (Corrupt t c) = refl
takes_as_before C D s same (FullReport t es) = refl

-- Several losses, one after another.

first_is_loss : (e : Event) (es : List Event) → are_losses (e ∷ es) ≡ true → (is_loss e ≡ true) × (are_losses es ≡ true)
first_is_loss e es h = by_first (is_loss e) (list_any (λ e. not (is_loss e)) es) h
  where
    by_first : (a b : Bool) → not (not a || b) ≡ true → (a ≡ true) × (not b ≡ true)
    by_first true b h = (refl, h)
    by_first false b h = cc

pub blocks_stay : (M : State) (es : List Event) → are_losses es ≡ true → (after_losses M es).holdings.blocks ≡ M.holdings.blocks
unfolding after_event
blocks_stay M [] h = refl
blocks_stay M (e ∷ es) h = let parts = first_is_loss e es h in blocks_stay (after_event M e) es parts.1 ∙ blocks_by_loss M.cluster M.holdings e parts.0

joined : (g r r' t : Bool) → (g ≡ false → r' ≡ r) → (not g && (not r' && t)) ≡ (not (g || r) && t)
joined true r r' t f = refl
joined false r r' t f = ap (λ b. not b && t) (f refl)

pub left_by_losses : (M : State) (es : List Event) (b : ℕ) (t : ℕ → Bool) → are_losses es ≡ true → list_any t (usable (after_losses M es).holdings b) ≡ list_any (λ s. not (is_taken M.cluster es s) && t s) (usable M.holdings b)
unfolding after_event
left_by_losses M [] b t h = refl
left_by_losses M (e ∷ es) b t h =
    let parts = first_is_loss e es h in
    let C = M.cluster in
    let D = change_cluster C e in
    left_by_losses (after_event M e) es b t parts.1
    ∙ left_by_loss C M.holdings e b (λ s. not (is_taken D es s) && t s) parts.0
    ∙ any_agree (λ s. not (takes C e s) && (not (is_taken D es s) && t s)) (λ s. not (is_taken C (e ∷ es) s) && t s)
    (λ s. joined (takes C e s) (is_taken C es s) (is_taken D es s) (t s)
    (λ stays. any_agree (λ e. takes D e s) (λ e. takes C e s) (takes_as_before C D s (λ m. stays_by_loss C e m s parts.0 stays)) es))
    (usable M.holdings b)

pub left_law : losses.missing_has_no_replica_left
left_law M es b L h known =
    let i = there (get M.holdings.blocks b) known in
    missing_is_unusable (after_losses M es) b i.0 (ap (λ m. get m b) (blocks_stay M es h) ∙ i.1) (L.replicated b i.0 i.1).0
    ∙ ap not (left_by_losses M es b (λ _. true) h ∙ any_agree (λ s. not (is_taken M.cluster es s) && true) (λ s. not (is_taken M.cluster es s)) (λ s. and-true (not (is_taken M.cluster es s))) (usable M.holdings b))
