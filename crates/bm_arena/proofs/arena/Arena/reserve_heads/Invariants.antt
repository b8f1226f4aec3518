use Rattle.std.proofs.Common.{◌≡◌, ℕ, ◌<◌, ◌≢◌, length, get_or}
use Rattle.bm_arena.specs.Contents.{HasHead, IsReserved, IsLawful}
use Rattle.bm_arena.proofs.arena.Arena.reserve_heads.Given as goal

abbrev pub invariant-loop-storage : goal.invariant-loop-storage
invariant-loop-storage l = record {
  heads : (k : ℕ) → k < l.storage-index → HasHead l.self (get_or l.storages k 0);
  named : (other : ℕ) → ((k : ℕ) → k < l.storage-index → other ≢ get_or l.storages k 0) → HasHead l.self other → HasHead l.initial.self other;
  had : ((k : ℕ) → k < length l.storages → HasHead l.initial.self (get_or l.storages k 0)) → l.self ≡ l.initial.self;
  kept : IsReserved l.initial.self l.self;
  lawful : IsLawful l.self;
}
