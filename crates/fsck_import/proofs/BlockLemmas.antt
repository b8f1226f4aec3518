-- A cluster that holds just what was added to it still does after more blocks.
use Rattle.std.proofs.Common.{◌≡◌, ℕ, ◌==◌, ◌||◌, true, false, nat_eq, List, [], ◌∷◌, ◌++◌, Ok, map, refl, sym, ap, subst, ◌∙◌, append_assoc}
use Rattle.std.specs.List.{list_any, flat_map}
use Rattle.std.proofs.lemmas.List.{append-nil, map_push}
use Rattle.std.proofs.lemmas.List.Folds.{list_any-append}
use Rattle.std.proofs.lemmas.Bool.{or_parts}
use Rattle.std.proofs.Math.Bool.{or-true}
use Rattle.bm_base.specs.Maps.Lists.{has, has_repeats}
use Rattle.bm_base.specs.declared.replica.BlockInfo.{BlockInfo}
use Rattle.fsck_files.specs.declared.replicas.Block.{Block}
use Rattle.fsck_cluster.proofs.NameLemmas.{list_any-map}
use Rattle.fsck_cluster.specs.Blocks.{has_block, with_block}
use Rattle.fsck_cluster.specs.Clusters.{after_places, after_block}
use Rattle.fsck_cluster.specs.declared.cluster.Cluster.{Cluster}
use Rattle.fsck_cluster.specs.declared.cluster.Why.TheVariants as why
use Rattle.fsck_import.specs.Laws.{after_blocks, ids, replicas_of, corrupt_of, drained_of}
use Rattle.fsck_import.proofs.NameLemmas.{same_ok, if_not, came_of, number_is_itself}
use Rattle.fsck_import.proofs.StorageLemmas.{all-more}
use Rattle.fsck_import.proofs.OnceLemmas.{Once, once_next}
use Rattle.fsck_import.proofs.SoundLemmas.{TakenBlocks, Sound}
use Rattle.fsck_import.proofs.ReplicaLemmas.{with_all, places_sound}

has-push : (xs : List ℕ) (x y : ℕ) → has xs y ≡ false → (x == y) ≡ false → has (xs ++ x ∷ []) y ≡ false
has-push [] x y h e = ap (λ b. b || false) e
has-push (z ∷ xs) x y h e =
    let both = or_parts (z == y) (has xs y) h in
    ap (λ b. b || has (xs ++ x ∷ []) y) both.0 ∙ has-push xs x y both.1 e

repeats-push : (xs : List ℕ) (x : ℕ) → has_repeats xs ≡ false → list_any (nat_eq x) xs ≡ false → has_repeats (xs ++ x ∷ []) ≡ false
repeats-push [] x h e = refl
repeats-push (y ∷ xs) x h e =
    let apart = or_parts (has xs y) (has_repeats xs) h in
    let new = or_parts (nat_eq x y) (list_any (nat_eq x) xs) e in
    ap (λ b. b || has_repeats (xs ++ x ∷ [])) (has-push xs x y apart.0 new.0) ∙ repeats-push xs x apart.1 new.1

-- a block by its number
abbrev pub numbered : Block → ℕ × BlockInfo
numbered b = (b.id, record { stamp = b.stamp; repl = b.wanted })

-- with the number of a block, which is then the last
abbrev pub with_number : TakenBlocks → Block → TakenBlocks
with_number t b = record t { blocks = t.blocks ++ numbered b ∷ []; numbers = t.numbers ++ b.id ∷ []; last = b.id }

-- with a block and its replicas
abbrev pub with_taken : TakenBlocks → Block → TakenBlocks
with_taken t b = with_all (with_number t b) b b.replicas

block_sound : (c d : Cluster) (t : TakenBlocks) (b : Block) → after_block c b ≡ Ok d → Sound c t → Sound d (with_taken t b)
block_sound c d t b e before =
    let info : BlockInfo = record { stamp = b.stamp; repl = b.wanted } in
    let m : Cluster = record c { blocks = with_block c.blocks b.id info } in
    let parts = if_not (has_block c.blocks b.id) (after_places m b b.replicas) why.BlockTwice d e in
    let new : list_any (nat_eq b.id) t.numbers ≡ false = ap (list_any (nat_eq b.id)) (sym before.numbers) ∙ list_any-map (nat_eq b.id) (λ x. x.0) c.blocks ∙ parts.0 in
    let known : list_any (nat_eq b.id) (t.numbers ++ b.id ∷ []) ≡ true =
    list_any-append (nat_eq b.id) t.numbers (b.id ∷ []) ∙ ap (λ x. list_any (nat_eq b.id) t.numbers || (x || false)) (number_is_itself b.id) ∙ or-true (list_any (nat_eq b.id) t.numbers) in
    let more : Sound m (with_number t b) = record {
      blocks = ap (λ xs. xs ++ numbered b ∷ []) before.blocks;
      numbers = map_push (λ x. x.0) c.blocks (b.id, info) ∙ ap (λ ns. ns ++ b.id ∷ []) before.numbers;
      apart = repeats-push t.numbers b.id before.apart new;
      stored = before.stored;
      names = before.names;
      once = all-more (Once t.numbers t.last) (Once (t.numbers ++ b.id ∷ []) b.id) (λ row h. once_next t.numbers t.last b.id row new h) c.rows before.once;
      corrupted = before.corrupted;
      nodes = before.nodes;
      on_nodes = before.on_nodes;
      drained = before.drained;
    } in
    places_sound m d (with_number t b) b b.replicas known refl parts.1 more

-- with these blocks
abbrev pub with_blocks : TakenBlocks → List Block → TakenBlocks
with_blocks t [] = t
with_blocks t (b ∷ blocks) = with_blocks (with_taken t b) blocks

pub blocks_sound : (c d : Cluster) (t : TakenBlocks) (blocks : List Block) → after_blocks c blocks ≡ Ok d → Sound c t → Sound d (with_blocks t blocks)
blocks_sound c d t [] e before = subst (λ x. Sound x t) (same_ok c d e) before
blocks_sound c d t (b ∷ blocks) e before =
    let first = came_of (λ x. after_blocks x blocks) (after_block c b) d e in
    blocks_sound first.0 d (with_taken t b) blocks first.2 (block_sound c first.0 t b first.1 before)

pub all_numbers : (t : TakenBlocks) (blocks : List Block) → (with_blocks t blocks).numbers ≡ t.numbers ++ ids blocks
all_numbers t [] = sym (append-nil t.numbers)
all_numbers t (b ∷ blocks) = all_numbers (with_taken t b) blocks ∙ append_assoc t.numbers (b.id ∷ []) (ids blocks)

pub all_blocks : (t : TakenBlocks) (blocks : List Block) → (with_blocks t blocks).blocks ≡ t.blocks ++ map numbered blocks
all_blocks t [] = sym (append-nil t.blocks)
all_blocks t (b ∷ blocks) = all_blocks (with_taken t b) blocks ∙ append_assoc t.blocks (numbered b ∷ []) (map numbered blocks)

pub all_replicas : (t : TakenBlocks) (blocks : List Block) → (with_blocks t blocks).replicas ≡ t.replicas ++ flat_map replicas_of blocks
all_replicas t [] = sym (append-nil t.replicas)
all_replicas t (b ∷ blocks) = all_replicas (with_taken t b) blocks ∙ append_assoc t.replicas (replicas_of b) (flat_map replicas_of blocks)

pub all_bad : (t : TakenBlocks) (blocks : List Block) → (with_blocks t blocks).bad ≡ t.bad ++ flat_map corrupt_of blocks
all_bad t [] = sym (append-nil t.bad)
all_bad t (b ∷ blocks) = all_bad (with_taken t b) blocks ∙ append_assoc t.bad (corrupt_of b) (flat_map corrupt_of blocks)

pub all_addresses : (t : TakenBlocks) (blocks : List Block) → (with_blocks t blocks).addresses ≡ t.addresses ++ flat_map drained_of blocks
all_addresses t [] = sym (append-nil t.addresses)
all_addresses t (b ∷ blocks) = all_addresses (with_taken t b) blocks ∙ append_assoc t.addresses (drained_of b) (flat_map drained_of blocks)
