-- The text of a snapshot: a line for the counts, one for each node, and one for each block number.
-- A last line has the number of blocks and the sum of all bytes before it. A state has one text.
use Rattle.std.specs.Prelude.{ℕ, ◌+◌, ◌*◌, ◌%◌, ◌^◌, Bool, not, ◌&&◌, if◌then◌else◌, List, [], ◌∷◌, ◌++◌, length, flat_map, Option, Some, None, codes, decimal}
use Rattle.bm_base.specs.declared.event.Remaining.{Remaining}
use Rattle.bm_base.specs.declared.replica.Tag.{Tag}
use Rattle.bm_base.specs.declared.replica.Tag.TheVariants.{Stale, Bad}
use Rattle.bm_base.specs.declared.replica.Marks.{Marks}
use Rattle.bm_base.specs.declared.replica.BlockInfo.{BlockInfo}
use Rattle.bm_base.specs.Words.{State, is_corrupt}
use Rattle.bm_saved.specs.declared.SavedReplica.{SavedReplica}
use Rattle.bm_saved.specs.declared.SavedTransfer.{SavedTransfer}
use Rattle.bm_saved.specs.Saved.{SavedBlock, SavedNode, saved_blocks, saved_nodes}

-- a name and a number
abbrev pub field : List ℕ → ℕ → List ℕ
field name n = name ++ decimal n

-- a list in brackets, with commas between its items
abbrev pub list_text : {X : Type 0} → (X → List ℕ) → List X → List ℕ
list_text item [] = codes "[]"
list_text item (x ∷ xs) = codes "[" ++ item x ++ flat_map (λ y. codes "," ++ item y) xs ++ codes "]"

-- two numbers as a list
abbrev pub pair_text : ℕ → ℕ → List ℕ
pair_text a b = list_text decimal (a ∷ b ∷ [])

-- the word if the test holds
abbrev pub word_if : Bool → List ℕ → List ℕ
word_if test word = if test then word else []

-- The first line.
unfoldable pub counts_text : State → List ℕ
counts_text M =
    field (codes "{\"snapshot\":1,\"work\":") M.limits.work
    ++ field (codes ",\"invalidate\":") M.limits.invalidate
    ++ field (codes ",\"pend\":") M.limits.pend
    ++ field (codes ",\"nodes\":") M.cluster.limits.nodes
    ++ field (codes ",\"storages\":") M.cluster.limits.storages
    ++ field (codes ",\"round\":") M.round
    ++ field (codes ",\"calls\":") M.calls
    ++ codes "}\n"

-- Nodes.

abbrev pub storage_text : Remaining → List ℕ
storage_text r = pair_text r.storage r.remaining

unfoldable pub node_text : SavedNode → List ℕ
node_text s =
    field (codes "{\"node\":") s.node
    ++ field (codes ",\"rack\":") s.rack
    ++ codes ",\"drains\":"
    ++ (if s.drains then codes "true" else codes "false")
    ++ codes ",\"storages\":"
    ++ list_text storage_text s.storages
    ++ codes "}\n"

-- Blocks.

-- The word of a tag, if the line does not imply it. A replica without one is good in the line of a
-- known block, and stray in that of another number.
abbrev pub tag_text : Tag → List ℕ
tag_text Stale = codes ",\"stale\""
tag_text Bad = codes ",\"bad\""
tag_text _ = []

-- whether a replica is written as its storage alone
abbrev pub is_plain : Marks → Bool
is_plain m = not (is_corrupt m.tag) && not m.excess && not m.ordered

-- a replica is its storage; if it has words, a list of the storage and them
unfoldable pub replica_text : SavedReplica → List ℕ
replica_text r =
    if is_plain r.marks then decimal r.storage
    else field (codes "[") r.storage
    ++ tag_text r.marks.tag
    ++ word_if r.marks.excess (codes ",\"excess\"")
    ++ word_if r.marks.ordered (codes ",\"ordered\"")
    ++ codes "]"

abbrev pub transfer_text : SavedTransfer → List ℕ
transfer_text t = pair_text t.target t.round

-- the pending transfers, if there are any
unfoldable pub pending_text : List SavedTransfer → List ℕ
pending_text [] = []
pending_text (t ∷ ts) = codes ",\"pending\":" ++ list_text transfer_text (t ∷ ts)

-- the number of a line, with the stamp and the wanted replicas if its block is known
abbrev pub number_text : ℕ → Option BlockInfo → List ℕ
number_text b None = field (codes "{\"stray\":") b
number_text b (Some i) =
    field (codes "{\"block\":") b
    ++ field (codes ",\"gen\":") i.stamp.generation
    ++ field (codes ",\"len\":") i.stamp.len
    ++ field (codes ",\"repl\":") i.repl

unfoldable pub block_text : SavedBlock → List ℕ
block_text s =
    number_text s.id s.info
    ++ codes ",\"replicas\":"
    ++ list_text replica_text s.replicas
    ++ pending_text s.pending
    ++ codes "}\n"

-- The last line.

-- The sum of bytes: a polynomial modulo 2^64. The factor is odd, so one changed byte changes the
-- sum.
abbrev pub sum_after : ℕ → List ℕ → ℕ
sum_after sum [] = sum
sum_after sum (byte ∷ bytes) = sum_after ((sum * 1099511628211 + byte) % (2 ^ 64)) bytes

unfoldable pub end_text : ℕ → ℕ → List ℕ
end_text blocks sum = field (codes "{\"end\":") blocks ++ field (codes ",\"sum\":") sum ++ codes "}\n"

-- All of it.

-- all lines but the last: the limits and counts of M, and these nodes and blocks
unfoldable pub body_text : State → List SavedNode → List SavedBlock → List ℕ
body_text M ns bs = counts_text M ++ flat_map node_text ns ++ flat_map block_text bs

unfoldable pub text_of_lines : State → List SavedNode → List SavedBlock → List ℕ
text_of_lines M ns bs =
    let body = body_text M ns bs in
    body ++ end_text (length bs) (sum_after 0 body)

-- the snapshot of a state
unfoldable pub snapshot_text : State → List ℕ
snapshot_text M = text_of_lines M (saved_nodes M.cluster) (saved_blocks M.holdings)
