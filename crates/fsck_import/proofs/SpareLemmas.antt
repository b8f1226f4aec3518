-- Storages added for nodes without one are empty; blocks, replicas and nodes stay as they were.
use Rattle.std.proofs.Common.{◌≡◌, ℕ, Bool, true, false, not, nat_lt, List, [], ◌∷◌, ◌++◌, Result, Ok, Err, length, refl, sym, ap, subst, ◌∙◌, append_assoc, if◌then◌else◌}
use Rattle.std.specs.List.{list_any, AllByRecursion}
use Rattle.std.specs.Str.{bytes_eq}
use Rattle.std.proofs.lemmas.List.{append-nil}
use Rattle.bm_base.specs.declared.limits.TheConstants.{MOST_STORAGES}
use Rattle.fsck_text.specs.Cuts.{Text}
use Rattle.fsck_cluster.specs.Clusters.{with_spare, after_spare, after_spares, with_spares}
use Rattle.fsck_cluster.specs.Names.{is_new, name_number, name_of}
use Rattle.fsck_cluster.specs.Rows.{new_row, has_storage}
use Rattle.fsck_cluster.specs.declared.cluster.Cluster.{Cluster}
use Rattle.fsck_cluster.specs.declared.cluster.NodeRow.{NodeRow}
use Rattle.fsck_cluster.specs.declared.cluster.Why.{Why}
use Rattle.fsck_cluster.specs.declared.cluster.Why.TheVariants as why
use Rattle.fsck_cluster.specs.declared.rows.Row.{Row}
use Rattle.fsck_import.proofs.NameLemmas.{same_ok, if_ok, if_not, came_of, with_new}

-- the same cluster with more storages, which have no replicas
pub record Spared (c d : Cluster) : Type 0 where
  pub more_rows : List Row
  pub more_names : List Text
  pub rows : d.rows ≡ c.rows ++ more_rows
  pub empty : AllByRecursion (λ row. row.held ≡ []) more_rows
  pub storages : d.storages ≡ c.storages ++ more_names
  pub blocks : d.blocks ≡ c.blocks
  pub bad : d.bad ≡ c.bad
  pub nodes : d.nodes ≡ c.nodes
  pub node_rows : d.node_rows ≡ c.node_rows
  pub draining : d.draining ≡ c.draining

none_spared : (c : Cluster) → Spared c c
none_spared c = record {
  more_rows = [];
  more_names = [];
  rows = sym (append-nil c.rows);
  empty = tt;
  storages = sym (append-nil c.storages);
  blocks = refl;
  bad = refl;
  nodes = refl;
  node_rows = refl;
  draining = refl;
}

all-append : (rows more : List Row) → AllByRecursion (λ row. row.held ≡ []) rows → AllByRecursion (λ row. row.held ≡ []) more → AllByRecursion (λ row. row.held ≡ []) (rows ++ more)
all-append [] more h k = k
all-append (row ∷ rows) more h k = (h.0, all-append rows more h.1 k)

both_spared : (c d e : Cluster) → Spared c d → Spared d e → Spared c e
both_spared c d e first next = record {
  more_rows = first.more_rows ++ next.more_rows;
  more_names = first.more_names ++ next.more_names;
  rows = next.rows ∙ ap (λ t. t ++ next.more_rows) first.rows ∙ append_assoc c.rows first.more_rows next.more_rows;
  empty = all-append first.more_rows next.more_rows first.empty next.empty;
  storages = next.storages ∙ ap (λ t. t ++ next.more_names) first.storages ∙ append_assoc c.storages first.more_names next.more_names;
  blocks = next.blocks ∙ first.blocks;
  bad = next.bad ∙ first.bad;
  nodes = next.nodes ∙ first.nodes;
  node_rows = next.node_rows ∙ first.node_rows;
  draining = next.draining ∙ first.draining;
}

one_spared : (c : Cluster) (node : ℕ) → list_any (bytes_eq (name_of c.nodes node)) c.storages ≡ false → Spared c (with_spare c node)
one_spared c node new = record {
  more_rows = new_row (name_number c.storages (name_of c.nodes node)) node ∷ [];
  more_names = name_of c.nodes node ∷ [];
  rows = refl;
  empty = (refl, tt);
  storages = with_new c.storages (name_of c.nodes node) new;
  blocks = refl;
  bad = refl;
  nodes = refl;
  node_rows = refl;
  draining = refl;
}

known_not : (b : Bool) → not (not b) ≡ false → b ≡ false
known_not true e = e
known_not false e = refl

spare_spared : (c d : Cluster) (node : ℕ) → after_spare c node ≡ Ok d → Spared c d
spare_spared c d node = by (has_storage c.rows node)
  where
    added : Result Cluster Why
    added = if nat_lt (length c.storages) MOST_STORAGES then Ok (with_spare c node) else Err why.TooManyStorages

    by : (b : Bool) → (if b then Ok c else (if not (is_new c.storages (name_of c.nodes node)) then Err why.Elsewhere else added)) ≡ Ok d → Spared c d
    by true e = subst (Spared c) (same_ok c d e) (none_spared c)
    by false e =
        let apart = if_not (not (is_new c.storages (name_of c.nodes node))) added why.Elsewhere d e in
        let new = known_not (list_any (bytes_eq (name_of c.nodes node)) c.storages) apart.0 in
        subst (Spared c) (same_ok (with_spare c node) d (if_ok (nat_lt (length c.storages) MOST_STORAGES) (Ok (with_spare c node)) why.TooManyStorages d apart.1).1) (one_spared c node new)

spares_spared : (c d : Cluster) (rows : List NodeRow) → after_spares c rows ≡ Ok d → Spared c d
spares_spared c d [] e = subst (Spared c) (same_ok c d e) (none_spared c)
spares_spared c d (row ∷ rows) e =
    let first = came_of (λ x. after_spares x rows) (after_spare c row.number) d e in
    both_spared c first.0 d (spare_spared c first.0 row.number first.1) (spares_spared first.0 d rows first.2)

pub all_spared : (c d : Cluster) → with_spares c ≡ Ok d → Spared c d
all_spared c d = by c.knows_nodes
  where
    by : (b : Bool) → (if b then after_spares c c.node_rows else Ok c) ≡ Ok d → Spared c d
    by true e = spares_spared c d c.node_rows e
    by false e = subst (Spared c) (same_ok c d e) (none_spared c)
