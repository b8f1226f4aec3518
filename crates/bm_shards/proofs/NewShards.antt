-- New shards hold nothing, are up to date, and are the shards of their configuration.
use Rattle.std.specs.Prelude.{◌≡◌, ℕ, suc, ◌+◌, ◌≤◌, Bool, true, false, not, ◌&&◌, nat_le, None, List, [], ◌∷◌, ◌++◌, length}
use Rattle.std.proofs.Common.{refl, sym, subst, ◌∙◌, arith}
use Rattle.bm_base.specs.declared.config.Config.{Config}
use Rattle.bm_base.specs.Words.{empty, Cluster, empty_holdings, config_refusal, is_up_to, first_of, ◌when◌}
use Rattle.bm_base.specs.Shards.{cut}
use Rattle.bm_base.specs.declared.refusal.Refusal.TheVariants.{BadConfig}
use Rattle.std.proofs.lemmas.Bool.{leb-true}
use Rattle.bm_parts.specs.Whole.{joined_with, AreOwn}
use Rattle.bm_parts.proofs.PartMaps.{part}
use Rattle.bm_parts.proofs.JoinedShares.{own_entries}
use Rattle.bm_parts.proofs.WholeParts.{cut_empty}
use Rattle.bm_shard.specs.ShardView.{Seen}
use Rattle.bm_shards.specs.Whole.{parts_of, held_by, AreIndexed, AreShards, AreUpToDate, HaveTaken}
use Rattle.bm_shards.specs.ShardWork.{IsNew, AreNew}

next_to_empty : joined_with empty_holdings empty_holdings ≡ empty_holdings
unfolding joined_with empty empty_holdings
next_to_empty = λ j. record { blocks = own_entries empty j; replicas = own_entries empty j; pending = own_entries empty j }

module _ (config : Config) where
  pub new_push : (index n : ℕ) (ss : List (ℕ × Seen)) (s : ℕ × Seen) → n ≡ length ss + index → AreNew config index ss → IsNew config n s → AreNew config index (ss ++ s ∷ [])
  new_push index n [] s next each one = (subst (λ i. IsNew config i s) (omega (arith, next)) one, tt)
  new_push index n (r ∷ ss) s next each one = (each.0, new_push (suc index) n ss s (omega (arith, next)) each.1 one)

  new_own : (index : ℕ) (ss : List (ℕ × Seen)) → AreNew config index ss → AreOwn config.shards index (parts_of ss)
  new_own index [] each = tt
  new_own index (s ∷ ss) each = (subst (λ H. cut H index config.shards ≡ H) (sym each.0.empty) (cut_empty index config.shards), new_own (suc index) ss each.1)

  new_indexed : (index : ℕ) (ss : List (ℕ × Seen)) → AreNew config index ss → AreIndexed config.shards index ss
  new_indexed index [] each = tt
  new_indexed index (s ∷ ss) each = (each.0.index, each.0.part, new_indexed (suc index) ss each.1)

  pub new_empty : (index : ℕ) (ss : List (ℕ × Seen)) → AreNew config index ss → held_by ss ≡ empty_holdings
  new_empty index [] each = refl
  new_empty index (s ∷ ss) each = (λ j. joined_with (each.0.empty j) (new_empty (suc index) ss each.1 j)) ∙ next_to_empty

  pub new_up_to_date : (C : Cluster) (index : ℕ) (ss : List (ℕ × Seen)) → AreNew config index ss → AreUpToDate C ss
  new_up_to_date C index [] each = tt
  new_up_to_date C index (s ∷ ss) each = (each.0.up_to_date C, new_up_to_date C (suc index) ss each.1)

  pub new_took : (index : ℕ) (ss : List (ℕ × Seen)) → AreNew config index ss → HaveTaken config.first_round config.pend ss
  new_took index [] each = tt
  new_took index (s ∷ ss) each = (each.0.round, each.0.pend, new_took (suc index) ss each.1)

  pub shards_allowed : config_refusal config ≡ None → (1 ≤ config.shards) × (config.shards ≤ 64)
  shards_allowed fine = by (is_up_to 64 config.shards) refl fine
    where
      within : (n : ℕ) (a b : Bool) → nat_le 1 n ≡ a → nat_le n 64 ≡ b → (a && b) ≡ true → (1 ≤ n) × (n ≤ 64)
      within n true true low high h = (leb-true 1 n low, leb-true n 64 high)
      within n true false low high h = cc
      within n false b low high h = cc

      by : (t : Bool) → is_up_to 64 config.shards ≡ t
          → first_of ((BadConfig when not (t && is_up_to 16 config.workers && is_up_to 1000 config.work && is_up_to 1000000 config.invalidate && is_up_to 1000000 config.pend)) ∷ []) ≡ None
          → (1 ≤ config.shards) × (config.shards ≤ 64)
      by true is h = within config.shards (nat_le 1 config.shards) (nat_le config.shards 64) refl refl is
      by false is h = cc

  pub new_shards : (ss : List (ℕ × Seen)) → 1 ≤ config.shards → config.shards ≤ 64 → AreNew config 0 ss → length ss ≡ config.shards → AreShards (length ss) ss
  new_shards ss some few each long =
      subst (λ n. AreShards n ss) (sym long) (record { indexed = new_indexed 0 ss each; own = new_own 0 ss each; long = sym long; some = some; few = few })
