-- The findings of several blocks as a round begins, one block after another.
use Rattle.std.specs.Prelude.{◌≡◌, ℕ, List, Option, option_to_list}
use Rattle.std.specs.List.{flat_map}
use Rattle.std.specs.List.Sorted.{IsPermutation, IsSortedByKey}
use Rattle.bm_base.specs.declared.replica.ReplicaId.{ReplicaId}
use Rattle.bm_base.specs.declared.commands.Delete.{Delete}
use Rattle.bm_base.specs.declared.round.Wish.{Wish}
use Rattle.bm_base.specs.Words.{Order, entries, Cluster, Holdings, has_enough_live}
use Rattle.bm_base.specs.RoundParts.{holdings_at_choice}
use Rattle.bm_parts.specs.BoundedWishes.{wishes_before}
use Rattle.bm_round_scan.specs.BlockScans.{own_replicas, surplus_of, replicas_on, deletes_of}
use Rattle.bm_round_scan.specs.Requests.{wish_in}
use Rattle.bm_round_scan.specs.declared.scan.Findings.{Findings}

-- the surplus replicas of a block as round r begins
abbrev pub excess_at : Cluster → ℕ → ℕ → Holdings → ℕ → List ReplicaId
excess_at C pend r H b = replicas_on (surplus_of C pend r H b) (entries (own_replicas (holdings_at_choice C pend r H) b))

-- the wish of a block as round r begins
abbrev pub wishes_at : Cluster → ℕ → ℕ → Holdings → ℕ → List Wish
wishes_at C pend r H b = option_to_list (wish_in C (holdings_at_choice C pend r H) b)

-- the replicas of a block that are to be deleted as round r begins
abbrev pub deletes_at : Cluster → ℕ → ℕ → Holdings → ℕ → List Delete
deletes_at C pend r H b = let G = holdings_at_choice C pend r H in deletes_of (has_enough_live C G b) (entries (own_replicas G b))

-- the findings of these blocks, with the wishes before a bound
pub record HasFound (C : Cluster) (pend r : ℕ) (H : Holdings) (bound : Option (ℕ × ℕ)) (bs : List ℕ) (f : Findings) : Type 0 where
  pub excess : f.excess.items ≡ flat_map (excess_at C pend r H) bs
  pub wishes : f.wishes.items ≡ flat_map (λ b. wishes_before bound (wishes_at C pend r H b)) bs
  pub deletes : f.deletes.items ≡ flat_map (deletes_at C pend r H) bs

-- the same elements, in the order of their keys
pub record IsInOrder {K X : Type 0} (o : Order K) (key : X → K) (xs ys : List X) : Type 0 where
  pub permutation : IsPermutation xs ys
  pub sorted : IsSortedByKey key o.cmp ys
