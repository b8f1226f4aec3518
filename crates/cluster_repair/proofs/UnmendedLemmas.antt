-- The blocks that are found to stay unrepaired are exactly the blocks with a level.
use Rattle.std.proofs.Common.{◌≡◌, ◌∙◌, ℕ, List, [], Some, sym, ap, subst, map, filter}
use Rattle.std.specs.Prelude.{◌&&◌}
use Rattle.std.specs.List.Sorted.{IsStrictlyIncreasing}
use Rattle.std.proofs.lemmas.List.Elements.{All-nil, All-same}
use Rattle.std.proofs.lemmas.List.Kept.{IsStrictlyIncreasing-filter}
use Rattle.std.proofs.Math.Bool.{and_self}
use Rattle.bm_base.specs.Words.{State, has, level}
use Rattle.bm_base.proofs.ListTests.{has_filter}
use Rattle.laws_of_repairs.proofs.WatchedBlocks.{has_level}
use Rattle.cluster_repair.specs.declared.reasons.Unmended.{Unmended}
use Rattle.cluster_repair.specs.Rows.{AreFound, AreLeveled, AreUnmended}

abbrev HasItsLevel : State → Unmended → Type 0
HasItsLevel M u = level M.cluster M.holdings u.block ≡ Some u.level

pub none_found : (M : State) (bs : List ℕ) (us : List Unmended) → bs ≡ [] → us ≡ [] → AreFound M bs us
none_found M bs us no_blocks none = record {
  blocks = ap (map (λ (u : Unmended). u.block)) none ∙ ap (filter (has_level M)) (sym no_blocks);
  each = All-same (HasItsLevel M) us [] none (All-nil (HasItsLevel M));
}

pub all_found : (M : State) (bs : List ℕ) (us : List Unmended) → AreLeveled M bs → AreFound M bs us → AreUnmended M us
all_found M bs us leveled found = record {
  blocks = record {
    ascending = subst IsStrictlyIncreasing (sym found.blocks) (IsStrictlyIncreasing-filter (has_level M) bs leveled.ascending);
    all = λ b. ap (λ cs. has cs b) found.blocks ∙ has_filter (has_level M) bs b ∙ ap (λ t. has_level M b && t) (leveled.all b) ∙ and_self (has_level M b);
  };
  each = found.each;
}
