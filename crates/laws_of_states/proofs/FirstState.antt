-- The first state is lawful if its limits are allowed and the first numbers of rounds and calls fit
-- 64 bits.
use Rattle.std.proofs.Common.{◌≡◌, ℕ, true, false, Some, None, is_some, IsTrue, refl, sym, ap, ◌∙◌, arith}
use Rattle.bm_base.specs.declared.config.Config.{Config}
use Rattle.bm_base.specs.declared.limits.Limits.{Limits}
use Rattle.bm_base.specs.declared.replica.ReplicaId.{ReplicaId}
use Rattle.bm_base.specs.declared.replica.Marks.{Marks}
use Rattle.bm_base.specs.declared.replica.BlockInfo.{BlockInfo}
use Rattle.bm_base.specs.declared.storage.StorageInfo.{StorageInfo}
use Rattle.bm_base.specs.Words.{Order, get, len, empty, entries, first_state_within, empty_cluster, empty_holdings, by_replica, by_number, drains, are_allowed}
use Rattle.bm_base.specs.Promises.Lawful.{IsLawful, IsOrderly}
use Rattle.bm_base.proofs.MapLaws.{get-empty}
use Rattle.bm_base.specs.Promises.Fitting.{HasFittingStart}

module _ (K X : Type 0) (o : Order K) where
  nothing_there : (q : K) (x : X) → get (empty {X = X} {o = o}) q ≡ Some x → ⊥
  nothing_there q x e = let none : None ≡ Some x = sym (get-empty o q) ∙ e in cc

  nothing_known : (q : K) → is_some (get (empty {X = X} {o = o}) q) ≡ true → ⊥
  nothing_known q e = let none : false ≡ true = sym (ap is_some (get-empty o q)) ∙ e in cc

  len_empty : len (empty {X = X} {o = o}) ≡ 0
  unfolding len entries empty
  len_empty = refl

pub first_orderly : (l : Limits) (c : Config) → IsOrderly (first_state_within l c)
unfolding empty_cluster empty_holdings drains
first_orderly l c = record {
  cluster = record {
    alive = λ s i e. absurd (nothing_there ℕ StorageInfo by_number s i e);
    draining_alive = λ n e. absurd (nothing_known ℕ (Unit {0}) by_number n e);
    few_nodes = omega (arith, len_empty ℕ ℕ by_number);
    few_storages = omega (arith, len_empty ℕ StorageInfo by_number);
  };
  holdings = record {
    stored = λ p e. absurd (nothing_known ReplicaId Marks by_replica p e);
    pending_stored = λ p e. absurd (nothing_known ReplicaId ℕ by_replica p e);
    once = λ p q e f same. absurd (nothing_known ReplicaId Marks by_replica p e);
    strays = λ p m e. absurd (nothing_there ReplicaId Marks by_replica p m e);
    excess_is_good = λ p m e _. absurd (nothing_there ReplicaId Marks by_replica p m e);
    pending_known = λ p e. absurd (nothing_known ReplicaId ℕ by_replica p e);
    replicated = λ b i e. absurd (nothing_there ℕ BlockInfo by_number b i e);
  };
  commanded = λ p r e. absurd (nothing_there ReplicaId ℕ by_replica p r e);
}

pub first_lawful : (l : Limits) (c : Config) → IsTrue (are_allowed l) → HasFittingStart c → IsLawful (first_state_within l c)
unfolding empty_cluster empty_holdings
first_lawful l c allowed h =
    let O = first_orderly l c in
    record {
      cluster = O.cluster;
      holdings = O.holdings;
      numbers = record {
        limits = allowed;
        nodes = λ n rack e. absurd (nothing_there ℕ ℕ by_number n rack e);
        storages = λ s i e. absurd (nothing_there ℕ StorageInfo by_number s i e);
        blocks = λ b i e. absurd (nothing_there ℕ BlockInfo by_number b i e);
        replicas = λ p e. absurd (nothing_known ReplicaId Marks by_replica p e);
        round = h.0;
        calls = h.1;
      };
      commanded = O.commanded;
    }
