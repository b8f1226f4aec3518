-- Blocks that a round need not scan for marks or deletes.
use Rattle.std.specs.Prelude.{◌≡◌, ℕ, ◌≤◌, Bool, false, ◌==◌, List, [], length, Some}
use Rattle.std.specs.List.{list_any}
use Rattle.bm_base.specs.declared.commands.Transfer.{Transfer}
use Rattle.bm_base.specs.declared.commands.Delete.{Delete}
use Rattle.bm_base.specs.declared.replica.ReplicaId.{ReplicaId}
use Rattle.bm_base.specs.declared.replica.Marks.{Marks}
use Rattle.bm_base.specs.declared.replica.Tag.TheVariants.{Good}
use Rattle.bm_base.specs.declared.replica.BlockInfo.{BlockInfo}
use Rattle.bm_base.specs.Words.{get, Cluster, Holdings, replica_at, is_usable, live, drained, storages_where, usable, level, excess_in, without_expired, without_unordered_excess, is_deletable, without_storages, begin_drain, end_round}
use Rattle.bm_base.specs.RoundParts.{holdings_at_choice}

-- the marks of a replica that is good, not in excess and not ordered
abbrev pub plain : Marks
plain = record { tag = Good; excess = false; ordered = false }

-- All replicas of the block are good without marks, and there are no more of them than are wanted,
-- whichever nodes drain.
pub record IsSettled (H : Holdings) (b : ℕ) : Type 0 where
  pub all_plain : (q : ReplicaId) (m : Marks) → q.block ≡ b → get H.replicas q ≡ Some m → m ≡ plain
  pub few : (i : BlockInfo) → get H.blocks b ≡ Some i → length (usable H b) ≤ i.repl

-- the start of a round marks no replica of a settled block, and keeps its live and its drained
-- replicas and its level
abbrev pub settled_is_left : Type 0
settled_is_left =
    (C : Cluster) (pend r : ℕ) (H : Holdings) (b : ℕ) → IsSettled H b → let G = holdings_at_choice C pend r H in
    (excess_in C (without_unordered_excess (without_expired pend r H)) b ≡ []) × (live C G b ≡ live C H b) × (drained C G b ≡ drained C H b) × (level C G b ≡ level C H b)

-- no replica of a settled block is to be deleted in a round
abbrev pub settled_is_kept : Type 0
settled_is_kept =
    (C : Cluster) (pend r : ℕ) (H : Holdings) (q : ReplicaId) (m : Marks) → IsSettled H q.block
    → get (holdings_at_choice C pend r H).replicas q ≡ Some m → is_deletable C (holdings_at_choice C pend r H) q m ≡ false

-- Which changes leave a block settled.

-- whether a block is settled depends only on its information and on its own replicas
abbrev pub settled_is_of_its_block : Type 0
settled_is_of_its_block =
    (H G : Holdings) (b : ℕ) → get G.blocks b ≡ get H.blocks b → ((s : ℕ) → get G.replicas (replica_at b s) ≡ get H.replicas (replica_at b s)) → IsSettled H b → IsSettled G b

-- a block stays settled if replicas leave
abbrev pub leaving_keeps_settled : Type 0
leaving_keeps_settled = (H : Holdings) (gone : ℕ → Bool) (b : ℕ) → IsSettled H b → IsSettled (without_storages H gone) b

-- a block stays settled if nodes begin to drain
abbrev pub drain_keeps_settled : Type 0
drain_keeps_settled = (C : Cluster) (H : Holdings) (n b : ℕ) → IsSettled H b → IsSettled (begin_drain C H n) b

-- a block stays settled in a round that deletes none of its replicas
abbrev pub round_keeps_settled : Type 0
round_keeps_settled =
    (C : Cluster) (pend r : ℕ) (H : Holdings) (ts : List Transfer) (ds : List Delete) (b : ℕ) → list_any (λ d. d.block == b) ds ≡ false → IsSettled H b
    → IsSettled (end_round r (holdings_at_choice C pend r H) ts ds) b
