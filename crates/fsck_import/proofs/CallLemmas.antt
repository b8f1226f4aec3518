-- The calls for a cluster add its blocks in order, before any call about a replica.
use Rattle.std.proofs.Common.{◌≡◌, ℕ, false, ◌||◌, List, [], ◌∷◌, ◌++◌, map, drop, refl, ap, ◌∙◌}
use Rattle.std.specs.List.{flat_map, list_any}
use Rattle.std.proofs.lemmas.Grind.{flat_map-append}
use Rattle.std.proofs.lemmas.List.{append-nil}
use Rattle.std.proofs.lemmas.List.Folds.{list_any-append}
use Rattle.bm_base.specs.declared.call.Call.{Call}
use Rattle.bm_base.specs.declared.limits.TheConstants.{MAX_ENTRIES}
use Rattle.fsck_cluster.specs.Blocks.{NumberedBlocks}
use Rattle.fsck_cluster.specs.declared.cluster.Cluster.{Cluster}
use Rattle.fsck_cluster.specs.declared.rows.Row.{Row}
use Rattle.fsck_import.specs.CallsFor.{register, heartbeat, add, received, reports, corrupt, drain, draining, calls_before, calls_after, calls_for}
use Rattle.fsck_import.specs.Laws.{add_in, adds_in, is_about_replicas, AddsFirst}

-- If g gives nothing for each of several calls, it gives nothing for all of them together.
module _ {X : Type 0} (g : Call → List X) where
  pub none-append : (xs ys : List Call) → flat_map g xs ≡ [] → flat_map g ys ≡ [] → flat_map g (xs ++ ys) ≡ []
  none-append xs ys h k = flat_map-append g xs ys ∙ ap (λ t. t ++ flat_map g ys) h ∙ k

  module _ {A : Type 0} where
    pub none-map : (f : A → Call) → ((x : A) → g (f x) ≡ []) → (xs : List A) → flat_map g (map f xs) ≡ []
    none-map f h [] = refl
    none-map f h (x ∷ xs) = rw (h x, none-map f h xs) refl

    pub none-flat : (f : A → List Call) → ((x : A) → flat_map g (f x) ≡ []) → (xs : List A) → flat_map g (flat_map f xs) ≡ []
    none-flat f h [] = refl
    none-flat f h (x ∷ xs) = none-append (f x) (flat_map f xs) (h x) (none-flat f h xs)

module _ {A : Type 0} (f : A → Call) where
  no_replica-map : ((x : A) → is_about_replicas (f x) ≡ false) → (xs : List A) → list_any is_about_replicas (map f xs) ≡ false
  no_replica-map h [] = refl
  no_replica-map h (x ∷ xs) = rw (h x, no_replica-map h xs) refl

no_replica-append : (xs ys : List Call) → list_any is_about_replicas xs ≡ false → list_any is_about_replicas ys ≡ false → list_any is_about_replicas (xs ++ ys) ≡ false
no_replica-append xs ys h k = list_any-append is_about_replicas xs ys ∙ ap (λ b. b || list_any is_about_replicas ys) h ∙ k

-- if g gives nothing for registrations and heartbeats, it gives nothing for the calls about nodes
pub none-nodes : {X : Type 0} (g : Call → List X) (c : Cluster) (remaining : ℕ) → ((x : _) → g (register c.rows x) ≡ []) → ((x : _) → g (heartbeat c.rows remaining x) ≡ [])
    → flat_map g (map (register c.rows) c.node_rows ++ map (heartbeat c.rows remaining) c.node_rows) ≡ []
none-nodes g c remaining h k = none-append g (map (register c.rows) c.node_rows) (map (heartbeat c.rows remaining) c.node_rows) (none-map g (register c.rows) h c.node_rows) (none-map g (heartbeat c.rows remaining) k c.node_rows)

adds-map : (blocks : NumberedBlocks) → adds_in (map add blocks) ≡ map add blocks
adds-map [] = refl
adds-map (b ∷ blocks) = ap (λ calls. add b ∷ calls) (adds-map blocks)

no_add-reports : (row : Row) → adds_in (reports row) ≡ []
no_add-reports row = none-map add_in (received row.number) (λ x. refl) (drop MAX_ENTRIES row.held)

-- no later call adds a block
no_add-after : (c : Cluster) → adds_in (calls_after c) ≡ []
no_add-after c =
    none-append add_in (flat_map reports c.rows ++ map corrupt c.bad) (map drain (draining c))
    (none-append add_in (flat_map reports c.rows) (map corrupt c.bad) (none-flat add_in reports no_add-reports c.rows) (none-map add_in corrupt (λ x. refl) c.bad))
    (none-map add_in drain (λ x. refl) (draining c))

-- the calls for a cluster add its blocks
pub adds_in-calls : (c : Cluster) (remaining : ℕ) → adds_in (calls_for c remaining) ≡ map add c.blocks
adds_in-calls c remaining =
    let nodes = map (register c.rows) c.node_rows ++ map (heartbeat c.rows remaining) c.node_rows in
    flat_map-append add_in (calls_before c remaining) (calls_after c)
    ∙ ap (λ t. adds_in (calls_before c remaining) ++ t) (no_add-after c)
    ∙ append-nil (adds_in (calls_before c remaining))
    ∙ flat_map-append add_in nodes (map add c.blocks)
    ∙ ap (λ t. t ++ adds_in (map add c.blocks)) (none-nodes add_in c remaining (λ x. refl) (λ x. refl))
    ∙ adds-map c.blocks

pub adds_first : (c : Cluster) (remaining : ℕ) → AddsFirst (calls_for c remaining)
adds_first c remaining =
    let came = map (register c.rows) c.node_rows in
    let beat = map (heartbeat c.rows remaining) c.node_rows in
    record {
      before = calls_before c remaining;
      behind = calls_after c;
      parts = refl;
      no_replica = no_replica-append (came ++ beat) (map add c.blocks)
          (no_replica-append came beat (no_replica-map (register c.rows) (λ x. refl) c.node_rows) (no_replica-map (heartbeat c.rows remaining) (λ x. refl) c.node_rows))
          (no_replica-map add (λ x. refl) c.blocks);
      no_add = no_add-after c;
    }
