-- A round marks only usable replicas as excess, and copies only known blocks to known storages.
use Rattle.std.proofs.Common.{◌≡◌, ℕ, zero, suc, ◌*◌, ◌-◌, Bool, true, false, not, ◌&&◌, Option, Some, None, List, [], ◌∷◌, ◌++◌, filter, length, option_to_list, refl, sym, ap, ◌∙◌, eqb-true}
use Rattle.std.specs.Prelude.{◌==◌, if◌then◌else◌, nat_le, option_map, option_and_then}
use Rattle.std.specs.Option.{option_map_or}
use Rattle.std.proofs.lemmas.Bool.{and_parts}
use Rattle.std.proofs.lemmas.Option.{same_Some}
use Rattle.bm_base.specs.declared.replica.ReplicaId.{ReplicaId}
use Rattle.bm_base.specs.declared.replica.Marks.{Marks}
use Rattle.bm_base.specs.declared.replica.BlockInfo.{BlockInfo}
use Rattle.bm_base.specs.declared.replica.Level.{Level}
use Rattle.bm_base.specs.declared.commands.Transfer.{Transfer}
use Rattle.bm_base.specs.Words.{get, contains_key, entries, keys, len, RoundLimits, Cluster, Holdings, replica_at, has, least, is_usable, is_live_on, is_draining, live, sources_of, storages_where, excess_cmp, excess_among, excess_of, excess_in, RequestedCopy, least_source, least_target_by, least_target, scheduled_to, target_cmp, is_target, holders_of, excluded_for, transfer_for, transfers_from, transfers, wishes}
use Rattle.bm_base.proofs.Options.{is_there, revised, chained}
use Rattle.bm_base.proofs.ForEach.{Each, each_mapped, each_then, each_both, each_filtered, each_passing, each_appended, each_optional, least_is_one, has_one}
use Rattle.bm_base.proofs.MapEntries.{each_entry, each_key}

-- block b has on s a replica whose marks pass
abbrev pub HasOne : (ℕ → Marks → Bool) → Holdings → ℕ → ℕ → Type 0
HasOne p H b s = (m : Marks) × (get H.replicas (replica_at b s) ≡ Some m) × (p s m ≡ true)

one_of : (p : ℕ → Marks → Bool) (H : Holdings) (b : ℕ) (q : ReplicaId) (m : Marks) → get H.replicas q ≡ Some m → q.block ≡ b → p q.storage m ≡ true → HasOne p H b q.storage
one_of p H b q m e is h = (m, ap (λ c. get H.replicas (replica_at c q.storage)) (sym is) ∙ e, h)

pub each_storage : (p : ℕ → Marks → Bool) (H : Holdings) (b : ℕ) → Each (HasOne p H b) (storages_where p H b)
unfolding storages_where
each_storage p H b =
    each_mapped (HasOne p H b) (λ e. e.0.storage) (filter (λ e. (e.0.block == b) && p e.0.storage e.1) (entries H.replicas))
    (each_then (λ e. (((e.0.block == b) && p e.0.storage e.1) ≡ true) × (get H.replicas e.0 ≡ Some e.1)) (λ e. HasOne p H b e.0.storage) (filter (λ e. (e.0.block == b) && p e.0.storage e.1) (entries H.replicas))
    (each_both (λ e. ((e.0.block == b) && p e.0.storage e.1) ≡ true) (λ e. get H.replicas e.0 ≡ Some e.1) (filter (λ e. (e.0.block == b) && p e.0.storage e.1) (entries H.replicas))
    (each_passing (λ e. (e.0.block == b) && p e.0.storage e.1) (entries H.replicas)) (each_filtered (λ e. get H.replicas e.0 ≡ Some e.1) (λ e. (e.0.block == b) && p e.0.storage e.1) (entries H.replicas) (each_entry H.replicas)))
    (λ e h. let parts = and_parts (e.0.block == b) (p e.0.storage e.1) h.0 in one_of p H b e.0 e.1 h.1 (eqb-true e.0.block b parts.0) parts.1))

more_in_excess : (P : ℕ → Type 0) (C : Cluster) (f : ℕ → List ℕ) (o : Option ℕ) → ((x : ℕ) → o ≡ Some x → P x × Each P (f x)) → Each P (option_map_or (λ x. x ∷ f x) o [])
more_in_excess P C f None h = tt
more_in_excess P C f (Some x) h = h x refl

pub each_in_excess : (P : ℕ → Type 0) (C : Cluster) (k : ℕ) (candidates : List ℕ) → Each P candidates → Each P (excess_among C k candidates)
each_in_excess P C zero candidates h = tt
each_in_excess P C (suc k) candidates h =
    more_in_excess P C (λ x. excess_among C k (filter (λ s. not (s == x)) candidates)) (least (excess_cmp C candidates) candidates)
    (λ x e. (least_is_one P (excess_cmp C candidates) candidates h x e, each_in_excess P C k (filter (λ s. not (s == x)) candidates) (each_filtered P (λ s. not (s == x)) candidates h)))

excess_of_block : (P : ℕ → Type 0) (C : Cluster) (lives : List ℕ) (o : Option BlockInfo) → Each P lives → Each P (option_map_or (λ i. excess_of C lives i.repl) o [])
unfolding excess_of
excess_of_block P C lives None h = tt
excess_of_block P C lives (Some i) h = each_in_excess P C (length lives - i.repl) lives h

-- each replica that is marked as excess is usable
pub in_excess_usable : (C : Cluster) (H : Holdings) (q : ReplicaId) (m : Marks) → get H.replicas q ≡ Some m → has (excess_in C H q.block) q.storage ≡ true → is_usable m ≡ true
unfolding excess_in
in_excess_usable C H q m e h =
    let one = has_one (HasOne (is_live_on C) H q.block) (excess_in C H q.block) q.storage (excess_of_block (HasOne (is_live_on C) H q.block) C (live C H q.block) (get H.blocks q.block) (each_storage (is_live_on C) H q.block)) h in
    ap is_usable (same_Some m one.0 (sym e ∙ one.1)) ∙ (and_parts (is_usable one.0) (not (is_draining C q.storage)) one.2).0

-- A transfer may become pending: its target and its block are known.
abbrev pub IsPlaced : Cluster → Holdings → Transfer → Type 0
IsPlaced C H t = (contains_key C.storages t.target ≡ true) × (contains_key H.blocks t.block ≡ true)

pub unless : {X : Type 0} (b : Bool) (o : Option X) (x : X) → (if b then None else o) ≡ Some x → o ≡ Some x
unless true o x e = cc
unless false o x e = e

pub target_known : (C : Cluster) (chosen : List Transfer) (urgency : Level) (holders excluded : List ℕ) (l t : ℕ) → least_target C chosen (record { urgency = urgency; holders = holders; excluded = excluded; len = l }) ≡ Some t → contains_key C.storages t ≡ true
unfolding least_target least_target_by
target_known C chosen urgency holders excluded l t e =
    least_is_one (λ s. contains_key C.storages s ≡ true) (target_cmp C (scheduled_to chosen) holders) (filter (is_target C (scheduled_to chosen) (record { urgency = urgency; holders = holders; excluded = excluded; len = l })) (keys C.storages))
    (each_filtered (λ s. contains_key C.storages s ≡ true) (is_target C (scheduled_to chosen) (record { urgency = urgency; holders = holders; excluded = excluded; len = l })) (keys C.storages) (each_key C.storages)) t e

-- the transfer of a block with this information, from this source to this target
abbrev pub made : ℕ → BlockInfo → ℕ → ℕ → Transfer
made b i s u = record { block = b; stamp = i.stamp; source = s; target = u }

pub made_of : (b : ℕ) (found : Option BlockInfo) (source : Option ℕ) (target : BlockInfo → Option ℕ) (t : Transfer) → option_and_then (λ i. option_and_then (λ s. option_map (made b i s) (target i)) source) found ≡ Some t
    → (i : BlockInfo) × (found ≡ Some i) × (target i ≡ Some t.target) × (b ≡ t.block)
made_of b found source target t e =
    let i = chained (λ i. option_and_then (λ s. option_map (made b i s) (target i)) source) found t e in
    let s = chained (λ s. option_map (made b i.0 s) (target i.0)) source t i.2 in
    let u = revised (made b i.0 s.0) (target i.0) t s.2 in
    (i.0, i.1, u.1 ∙ ap (λ (x : Transfer). Some x.target) u.2, ap (λ (x : Transfer). x.block) u.2)

pub transfer_placed : (limits : RoundLimits) (C : Cluster) (H : Holdings) (chosen : List Transfer) (w : RequestedCopy) (t : Transfer) → transfer_for limits C H chosen w ≡ Some t → IsPlaced C H t
unfolding transfer_for
transfer_placed limits C H chosen w t e =
    let of_it = made_of w.block (get H.blocks w.block) (least_source C chosen w.urgency (sources_of C H w.block)) (λ i. least_target C chosen (record { urgency = w.urgency; holders = holders_of C H chosen w.block; excluded = excluded_for H chosen w.block; len = i.stamp.len })) t
    (unless (nat_le (limits.work * len C.nodes) (length chosen)) _ t e) in (
      target_known C chosen w.urgency (holders_of C H chosen w.block) (excluded_for H chosen w.block) of_it.0.stamp.len t.target of_it.2,
      sym (ap (contains_key H.blocks) of_it.3) ∙ is_there (get H.blocks w.block) of_it.0 of_it.1,
    )

placed_from : (limits : RoundLimits) (C : Cluster) (H : Holdings) (chosen : List Transfer) (ws : List RequestedCopy) → Each (IsPlaced C H) chosen → Each (IsPlaced C H) (transfers_from limits C H chosen ws)
placed_from limits C H chosen [] h = h
placed_from limits C H chosen (w ∷ ws) h =
    placed_from limits C H (chosen ++ option_to_list (transfer_for limits C H chosen w)) ws
    (each_appended (IsPlaced C H) chosen (option_to_list (transfer_for limits C H chosen w)) h (each_optional (IsPlaced C H) (transfer_for limits C H chosen w) (transfer_placed limits C H chosen w)))

pub each_placed : (limits : RoundLimits) (C : Cluster) (H : Holdings) → Each (IsPlaced C H) (transfers limits C H)
unfolding transfers
each_placed limits C H = placed_from limits C H [] (wishes C H) tt
