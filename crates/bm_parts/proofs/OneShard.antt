-- Applying an event on one block to the block's shard alone applies it to the whole.
use Rattle.std.specs.Prelude.{◌≡◌, ℕ, zero, suc, ◌+◌, ◌<◌, ◌==◌, if◌then◌else◌, List, [], ◌∷◌, Some, is_some, slice_get, slice_set}
use Rattle.std.proofs.Common.{refl, sym, ap, ◌∙◌, arith, eq-eqb, ne_eqb}
use Rattle.std.proofs.lemmas.Option.{same_Some}
use Rattle.bm_base.specs.declared.event.Event.{Event}
use Rattle.bm_base.specs.declared.event.Event.TheVariants.{Register, Dead, StorageFailed, Heartbeat, Drain, Undrain, AddBlock, DeleteBlock, SetReplication, Restamp, Received, Deleted, Corrupt, FullReport}
use Rattle.bm_base.specs.declared.event.Done.{Done}
use Rattle.bm_base.specs.declared.replica.Marks.{Marks}
use Rattle.bm_base.specs.Words.{Map, Cluster, Holdings, by_replica, change_cluster, change_holdings, new_replicas, done}
use Rattle.bm_base.specs.Shards.{shard_of}
use Rattle.bm_base.proofs.Differences.{none_new}
use Rattle.bm_parts.specs.Parts.{block_of, change_part}
use Rattle.bm_parts.specs.Whole.{EachPart, done_of_all}
use Rattle.bm_parts.specs.EventLaws as law
use Rattle.bm_parts.proofs.PartChanges.{whole_changes_by_event, done_adds_up}

-- an event on a block keeps the cluster
pub same_cluster : (C : Cluster) (e : Event) (b : ℕ) → block_of e ≡ Some b → change_cluster C e ≡ C
unfolding change_cluster
same_cluster C (Register n rack ss) b on = cc
same_cluster C (Dead n) b on = cc
same_cluster C (StorageFailed s) b on = cc
same_cluster C (Heartbeat n rs) b on = cc
same_cluster C (Drain n) b on = cc
same_cluster C (Undrain n) b on = cc
same_cluster C (FullReport s es) b on = cc
same_cluster C e b on = refl

pub one_block_changes_one_part : law.one_block_changes_one_part
one_block_changes_one_part C P (Register n rack ss) b index shards is = cc
one_block_changes_one_part C P (Dead n) b index shards is = cc
one_block_changes_one_part C P (StorageFailed s) b index shards is = cc
one_block_changes_one_part C P (Heartbeat n rs) b index shards is = cc
one_block_changes_one_part C P (Drain n) b index shards is = cc
one_block_changes_one_part C P (Undrain n) b index shards is = cc
one_block_changes_one_part C P (FullReport s es) b index shards is = cc
one_block_changes_one_part C P (AddBlock c stamp repl) b index shards is = ap (λ x. if shard_of x shards == index then change_holdings C P (AddBlock c stamp repl) else P) (same_Some c b is)
one_block_changes_one_part C P (DeleteBlock c) b index shards is = ap (λ x. if shard_of x shards == index then change_holdings C P (DeleteBlock c) else P) (same_Some c b is)
one_block_changes_one_part C P (SetReplication c repl) b index shards is = ap (λ x. if shard_of x shards == index then change_holdings C P (SetReplication c repl) else P) (same_Some c b is)
one_block_changes_one_part C P (Restamp c stamp) b index shards is = ap (λ x. if shard_of x shards == index then change_holdings C P (Restamp c stamp) else P) (same_Some c b is)
one_block_changes_one_part C P (Received s c stamp) b index shards is = ap (λ x. if shard_of x shards == index then change_holdings C P (Received s c stamp) else P) (same_Some c b is)
one_block_changes_one_part C P (Deleted s c) b index shards is = ap (λ x. if shard_of x shards == index then change_holdings C P (Deleted s c) else P) (same_Some c b is)
one_block_changes_one_part C P (Corrupt s c) b index shards is = ap (λ x. if shard_of x shards == index then change_holdings C P (Corrupt s c) else P) (same_Some c b is)

pub none_came : (m : Map by_replica Marks) → new_replicas m m ≡ 0
unfolding new_replicas
none_came m = none_new m m (λ q x e. ap is_some e)

pub nothing_done : (H : Holdings) → done H H ≡ record { added = 0; removed = 0 }
unfolding done
nothing_done H = λ j. record { added = none_came H.replicas j; removed = none_came H.replicas j }

module _ (C : Cluster) (e : Event) (b shards : ℕ) (is : block_of e ≡ Some b) where
  other : (P : Holdings) (i : ℕ) → (shard_of b shards ≡ i → ⊥) → P ≡ change_part C P i shards e
  other P i apart = sym (one_block_changes_one_part C P e b i shards is ∙ ap (λ t. if t then change_holdings C P e else P) (ne_eqb (shard_of b shards) i apart))

  own : (P : Holdings) (i : ℕ) → shard_of b shards ≡ i → change_holdings C P e ≡ change_part C P i shards e
  own P i same = sym (one_block_changes_one_part C P e b i shards is ∙ ap (λ t. if t then change_holdings C P e else P) (eq-eqb (shard_of b shards) i same))

  rest_same : (index : ℕ) (Ps : List Holdings) → shard_of b shards < index → EachPart (λ i P Q. Q ≡ change_part C P i shards e) index Ps Ps
  rest_same index [] less = tt
  rest_same index (P ∷ Ps) less = (other P index (λ f. omega (arith, less, f)), rest_same (suc index) Ps (omega (arith, less)))

  one_changed : (index k : ℕ) (Ps : List Holdings) (P : Holdings) → index + k ≡ shard_of b shards → slice_get Ps k ≡ Some P
      → EachPart (λ i P Q. Q ≡ change_part C P i shards e) index Ps (slice_set Ps k (change_holdings C P e))
  one_changed index k [] P at there = cc
  one_changed index zero (R ∷ Ps) P at there = (
    ap (λ H. change_holdings C H e) (sym (same_Some R P there)) ∙ own R index (omega (arith, at)),
    rest_same (suc index) Ps (omega (arith, at)),
  )
  one_changed index (suc k) (R ∷ Ps) P at there = (other R index (λ f. omega (arith, at, f)), one_changed (suc index) k Ps P (omega (arith, at)) there)

none_done : (Ps : List Holdings) → done_of_all Ps Ps ≡ record { added = 0; removed = 0 }
none_done [] = refl
none_done (P ∷ Ps) = λ j. record { added = (nothing_done P j).added + (none_done Ps j).added; removed = (nothing_done P j).removed + (none_done Ps j).removed }

alone : (d : Done) → record { added = d.added + 0; removed = d.removed + 0 } ≡ d
alone d = let a : d.added + 0 ≡ d.added = omega arith in let r : d.removed + 0 ≡ d.removed = omega arith in λ j. record { added = a j; removed = r j }

one_done : (k : ℕ) (Ps : List Holdings) (P Q : Holdings) → slice_get Ps k ≡ Some P → done_of_all Ps (slice_set Ps k Q) ≡ done P Q
one_done k [] P Q there = cc
one_done zero (R ∷ Ps) P Q there =
    (λ j. record { added = (done R Q).added + (none_done Ps j).added; removed = (done R Q).removed + (none_done Ps j).removed }) ∙ alone (done R Q) ∙ ap (λ H. done H Q) (same_Some R P there)
one_done (suc k) (R ∷ Ps) P Q there =
    (λ j. record { added = (nothing_done R j).added + (one_done k Ps P Q there j).added; removed = (nothing_done R j).removed + (one_done k Ps P Q there j).removed }) ∙ first (done P Q)
  where
    first : (d : Done) → record { added = 0 + d.added; removed = 0 + d.removed } ≡ d
    first d = let a : 0 + d.added ≡ d.added = omega arith in let r : 0 + d.removed ≡ d.removed = omega arith in λ j. record { added = a j; removed = r j }

pub one_shard_is_enough : law.one_shard_is_enough
one_shard_is_enough C e b shards Ps P some long mine is there =
    let k : ℕ = shard_of b shards in
    let Qs : List Holdings = slice_set Ps k (change_holdings C P e) in
    let each : EachPart (λ i P Q. Q ≡ change_part C P i shards e) 0 Ps Qs = one_changed C e b shards is 0 k Ps P (omega arith) there in
    let whole = whole_changes_by_event C e shards Ps Qs some long mine each in
    let sums = done_adds_up C e shards Ps Qs some long mine each in
    (whole, sym (one_done k Ps P (change_holdings C P e) there) ∙ sums)
