-- If a cluster starts with nodes only, the calls for it describe just the blocks added to it.
use Rattle.std.proofs.Common.{◌≡◌, ℕ, true, List, [], ◌∷◌, ◌++◌, Ok, map, length, refl, sym, ap, subst, ◌∙◌, arith}
use Rattle.std.specs.Cmp.{both_ways}
use Rattle.std.specs.List.{flat_map, list_any, AllByRecursion}
use Rattle.std.specs.List.Sorted.{IsPermutation}
use Rattle.std.specs.Str.{bytes_eq}
use Rattle.std.proofs.lemmas.Grind.{flat_map-append}
use Rattle.std.proofs.lemmas.List.{append-nil}
use Rattle.std.proofs.lemmas.List.Sorted.{IsPermutation-refl}
use Rattle.bm_base.specs.Words.{range_from, has_repeats}
use Rattle.fsck_text.specs.Cuts.{Text}
use Rattle.fsck_files.specs.Numbers.{has_number}
use Rattle.fsck_files.specs.declared.replicas.Block.{Block}
use Rattle.fsck_cluster.specs.Clusters.{with_spares}
use Rattle.fsck_cluster.specs.Names.{name_of}
use Rattle.fsck_cluster.specs.declared.cluster.Cluster.{Cluster}
use Rattle.fsck_cluster.specs.declared.rows.Row.{Row}
use Rattle.fsck_import.specs.CallsFor.{add, reports, calls_for}
use Rattle.fsck_import.specs.Laws.{after_blocks, IsFresh, ids, add_of, replicas_of, replicas_by, replicas_reported, drained, drained_before, drained_of, EachOnce, DescribesBlocks}
use Rattle.fsck_import.proofs.CallLemmas.{adds_in-calls, adds_first}
use Rattle.fsck_import.proofs.StorageLemmas.{Fit, Stored, on_rows}
use Rattle.fsck_import.proofs.OnceLemmas.{Once, has_twice, rows_once}
use Rattle.fsck_import.proofs.BadLemmas.{by_name, HasName, Corrupted, bad-more, Drained, Drains, drains_first, node_number, has-range_from}
use Rattle.fsck_import.proofs.SoundLemmas.{OnNode, TakenBlocks, Sound}
use Rattle.fsck_import.proofs.BlockLemmas.{numbered, with_blocks, blocks_sound, all_blocks, all_numbers, all_replicas, all_bad, all_addresses}
use Rattle.fsck_import.proofs.ReportLemmas.{rows_reported, empty_reported, calls_report, calls_corrupt, calls_drain, drained_from, node_drains}
use Rattle.fsck_import.proofs.SpareLemmas.{Spared, all_spared}

-- no block was added; these nodes drain
abbrev pub nothing_taken : List Text → TakenBlocks
nothing_taken addresses = record { blocks = []; numbers = []; last = 0; replicas = []; bad = []; addresses = addresses }

fresh_stored : (rows : List Row) (names : List Text) → rows ≡ [] → names ≡ [] → Stored rows names []
fresh_stored rows names e f = subst (λ rs. Stored rs names []) (sym e) (subst (λ ns. Stored [] ns []) (sym f) (record { fits = tt; all = IsPermutation-refl [] }))

fresh_sound : (c : Cluster) → IsFresh c → Sound c (nothing_taken (drained_before c))
fresh_sound c fresh = record {
  blocks = fresh.blocks;
  numbers = ap (map (λ b. b.0)) fresh.blocks;
  apart = refl;
  stored = fresh_stored c.rows c.storages fresh.rows fresh.storages;
  names = ap has_twice fresh.storages;
  once = subst (AllByRecursion (Once [] 0)) (sym fresh.rows) tt;
  corrupted = subst (λ bad. Corrupted c.storages bad []) (sym fresh.bad) (record { named = refl; within = tt });
  nodes = fresh.nodes;
  on_nodes = subst (AllByRecursion (OnNode (length c.nodes))) (sym fresh.rows) tt;
  drained = drains_first c.nodes c.draining fresh.draining;
}

-- the calls report the replicas on the storages of c
reported_are : (c d : Cluster) (remaining : ℕ) → Spared c d → Fit 1 c.rows c.storages → replicas_reported d.storages (calls_for d remaining) ≡ on_rows c.rows c.storages
reported_are c d remaining spared fits =
    calls_report d remaining d.storages
    ∙ ap (λ rows. replicas_reported d.storages (flat_map reports rows)) spared.rows
    ∙ ap (flat_map (replicas_by d.storages)) (flat_map-append reports c.rows spared.more_rows)
    ∙ flat_map-append (replicas_by d.storages) (flat_map reports c.rows) (flat_map reports spared.more_rows)
    ∙ ap (λ t. replicas_reported d.storages (flat_map reports c.rows) ++ t) (empty_reported d.storages spared.more_rows spared.empty)
    ∙ append-nil (replicas_reported d.storages (flat_map reports c.rows))
    ∙ rows_reported d.storages [] c.storages spared.more_names c.rows 1 spared.storages (omega arith) fits

-- the calls mark just the corrupt replicas of c as corrupt
corrupt_are : (c d : Cluster) → Spared c d → AllByRecursion (HasName (length c.storages)) c.bad → map (by_name d.storages) d.bad ≡ map (by_name c.storages) c.bad
corrupt_are c d spared within =
    ap (map (by_name d.storages)) spared.bad ∙ ap (λ names. map (by_name names) c.bad) spared.storages ∙ bad-more c.storages spared.more_names c.bad within

-- a node that drains in c
drained_is : (c d : Cluster) (remaining : ℕ) (address : Text) → Spared c d → map node_number c.node_rows ≡ range_from 1 (length c.nodes) → Drained c.nodes c.draining address
    → list_any (bytes_eq address) (drained d.nodes (calls_for d remaining)) ≡ true
drained_is c d remaining address spared nodes node =
    let known : has_number (map node_number c.node_rows) node.number ≡ true = ap (λ ns. has_number ns node.number) nodes ∙ has-range_from 1 (length c.nodes) node.number node.above (omega (arith, node.within)) in
    let drains : has_number d.draining node.number ≡ true = ap (λ ns. has_number ns node.number) spared.draining ∙ node.drains in
    let same : has_number (map node_number d.node_rows) node.number ≡ true = ap (λ rows. has_number (map node_number rows) node.number) spared.node_rows ∙ known in
    ap (list_any (bytes_eq address)) (calls_drain d remaining d.nodes)
    ∙ node_drains d.nodes d.draining d.node_rows node.number address same drains (ap (λ ns. name_of ns node.number) spared.nodes ∙ node.name)

-- a node that drains in d does in c
drained_only : (c d : Cluster) (t : TakenBlocks) (remaining : ℕ) (address : Text) → Spared c d → Drains c.nodes c.draining t.addresses → list_any (bytes_eq address) (drained d.nodes (calls_for d remaining)) ≡ true
    → list_any (bytes_eq address) t.addresses ≡ true
drained_only c d t remaining address spared drains e =
    let found = drained_from d.nodes d.draining d.node_rows address (sym (ap (list_any (bytes_eq address)) (calls_drain d remaining d.nodes)) ∙ e) in
    let number = drains.only found.number (ap (λ ns. has_number ns found.number) (sym spared.draining) ∙ found.drains) in
    let name : address ≡ name_of c.nodes found.number = found.name ∙ ap (λ ns. name_of ns found.number) spared.nodes in
    ap (λ x. list_any (bytes_eq x) t.addresses) name ∙ number.among

add_numbered : (blocks : List Block) → map add (map numbered blocks) ≡ map add_of blocks
add_numbered [] = refl
add_numbered (b ∷ blocks) = ap (λ calls. add_of b ∷ calls) (add_numbered blocks)

pub describes_blocks : (start c d : Cluster) (blocks : List Block) (remaining : ℕ) → IsFresh start → after_blocks start blocks ≡ Ok c → with_spares c ≡ Ok d → DescribesBlocks start blocks d remaining
describes_blocks start c d blocks remaining fresh taken spares =
    let none = nothing_taken (drained_before start) in
    let all = with_blocks none blocks in
    let sound = blocks_sound start c none blocks taken (fresh_sound start fresh) in
    let spared = all_spared c d spares in
    let numbers : all.numbers ≡ ids blocks = all_numbers none blocks in
    let addresses : all.addresses ≡ drained_before start ++ flat_map drained_of blocks = all_addresses none blocks in
    let reported : replicas_reported d.storages (calls_for d remaining) ≡ on_rows c.rows c.storages = reported_are c d remaining spared sound.stored.fits in
    record {
      added = adds_in-calls d remaining ∙ ap (map add) (spared.blocks ∙ sound.blocks ∙ all_blocks none blocks) ∙ add_numbered blocks;
      once = ap has_repeats (sym numbers) ∙ sound.apart;
      adds_first = adds_first d remaining;
      reported = subst (IsPermutation (flat_map replicas_of blocks)) (sym reported) (subst (λ t. IsPermutation t (on_rows c.rows c.storages)) (all_replicas none blocks) sound.stored.all);
      reported_once = subst EachOnce (sym reported) (rows_once 1 c.rows c.storages all.numbers all.last sound.stored.fits sound.names sound.once);
      corrupt = calls_corrupt d remaining d.storages ∙ corrupt_are c d spared sound.corrupted.within ∙ sound.corrupted.named ∙ all_bad none blocks;
      drained = λ address. both_ways (list_any (bytes_eq address) (drained d.nodes (calls_for d remaining))) (list_any (bytes_eq address) (drained_before start ++ flat_map drained_of blocks))
          (λ e. ap (list_any (bytes_eq address)) (sym addresses) ∙ drained_only c d all remaining address spared sound.drained e)
          (λ e. drained_is c d remaining address spared sound.nodes (sound.drained.each address (ap (list_any (bytes_eq address)) addresses ∙ e)));
    }
