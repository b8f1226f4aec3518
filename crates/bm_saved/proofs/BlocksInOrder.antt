-- A restored block has the greatest number of all, and no transfer of a future round.
use Rattle.std.proofs.Common.{◌≡◌, ℕ, ◌<◌, ◌≤◌, true, false, List, map, Option, Some, None, is_some, refl, arith, le-ltb, ltb-false}
use Rattle.std.specs.Prelude.{nat_lt}
use Rattle.std.specs.Option.{option_map_or}
use Rattle.std.specs.List.{list_any}
use Rattle.bm_base.specs.declared.replica.ReplicaId.{ReplicaId}
use Rattle.bm_base.specs.declared.replica.BlockInfo.{BlockInfo}
use Rattle.bm_base.specs.Words.{Map, by_number, by_replica, get, insert, insert_all, Holdings}
use Rattle.bm_base.proofs.ForEach.{each_mapped, each_of, each_then, none_passes}
use Rattle.bm_base.proofs.MapEntries.{holds_inserted, holds_insert_all}
use Rattle.bm_base.proofs.Options.{there, is_there}
use Rattle.bm_saved.specs.Saved.{SavedBlock}
use Rattle.bm_saved.specs.Restoring.{replica_entry, transfer_entry, restore_block}
use Rattle.bm_saved.specs.Faults.{HoldsUpTo}
use Rattle.bm_saved.specs.Laws as law
use Rattle.bm_saved.specs.Laws.{AreCommandedBy}
use Rattle.bm_saved.proofs.LawfulBlocks.{IsBelow, fine_block, all_below}

up_to_entries : {X Y : Type 0} (m : Map by_replica X) (f : Y → ReplicaId × X) (ys : List Y) (b : ℕ) → ((q : ReplicaId) → is_some (get m q) ≡ true → q.block < b) → ((y : Y) → (f y).0.block ≡ b)
    → (q : ReplicaId) → is_some (get (insert_all m (map f ys)) q) ≡ true → nat_lt b q.block ≡ false
up_to_entries m f ys b old each q e =
    let x = there (get (insert_all m (map f ys)) q) e in
    let most : q.block ≤ b =
    holds_insert_all (λ p _. p.block ≤ b) m (map f ys) (λ p y is. let less = old p (is_there (get m p) y is) in omega (arith, less))
    (each_mapped (λ e. e.0.block ≤ b) f ys (each_of (λ y. (f y).0.block ≤ b) ys (λ y. let is = each y in omega (arith, is)))) q x.0 x.1 in
    le-ltb b q.block most

up_to_blocks : (m : Map by_number BlockInfo) (b : ℕ) (o : Option BlockInfo) → ((c : ℕ) → is_some (get m c) ≡ true → c < b)
    → (c : ℕ) → is_some (get (option_map_or (λ i. insert m b i) o m) c) ≡ true → nat_lt b c ≡ false
up_to_blocks m b None old c e = let less = old c e in le-ltb b c (omega (arith, less))
up_to_blocks m b (Some i) old c e =
    let x = there (get (insert m b i) c) e in
    le-ltb b c (holds_inserted (λ d _. d ≤ b) m b i (λ d y is. let less = old d (is_there (get m d) y is) in omega (arith, less)) (omega arith) c x.0 x.1)

up_to_this : (H : Holdings) (s : SavedBlock) → IsBelow H s.id → HoldsUpTo (Some s.id) (restore_block H s)
unfolding restore_block
up_to_this H s below = record {
  blocks = up_to_blocks H.blocks s.id s.info below.blocks;
  replicas = up_to_entries H.replicas (replica_entry s.id) s.replicas s.id below.replicas (λ _. refl);
  pending = up_to_entries H.pending (transfer_entry s.id) s.pending s.id below.pending (λ _. refl);
}

by_now : (round : ℕ) (H : Holdings) (s : SavedBlock) → AreCommandedBy round H → list_any (λ t. nat_lt round t.round) s.pending ≡ false → AreCommandedBy round (restore_block H s)
unfolding restore_block
by_now round H s old none =
    holds_insert_all (λ _ r. r ≤ round) H.pending (map (transfer_entry s.id) s.pending) old
    (each_mapped (λ e. e.1 ≤ round) (transfer_entry s.id) s.pending
    (each_then (λ t. nat_lt round t.round ≡ false) (λ t. t.round ≤ round) s.pending (none_passes (λ t. nat_lt round t.round) s.pending none) (λ t. ltb-false round t.round)))

pub restored_block_is_in_order : law.restored_block_is_in_order
restored_block_is_in_order C H round last s old up_to none =
    let ok = fine_block C round last s none in
    (by_now round H s old ok.rounds, up_to_this H s (all_below last H s.id up_to ok.number))
