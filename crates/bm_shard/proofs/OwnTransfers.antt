-- Inserting a shard's own transfers one by one makes all pending, within the reserved capacity.
use Rattle.std.proofs.Common.{◌≡◌, ℕ, ◌≤◌, ◌<◌, ◌+◌, Bool, true, false, cond, List, ◌∷◌, filter, map, length, arith, refl, sym, ap, subst, ◌∙◌}
use Rattle.std.specs.Prelude.{◌==◌, suc, if◌then◌else◌}
use Rattle.std.proofs.lemmas.Bool.{false≢true, eqb-true, eq-eqb}
use Rattle.bm_base.specs.declared.ids.Part.{Part}
use Rattle.bm_base.specs.declared.commands.Transfer.{Transfer}
use Rattle.bm_base.specs.declared.replica.ReplicaId.{ReplicaId}
use Rattle.bm_base.specs.Words.{Map, insert, insert_all, by_replica, replica_at}
use Rattle.bm_base.specs.Shards.{shard_of}
use Rattle.bm_base.specs.RoundParts.{own_transfers}
use Rattle.bm_pending.specs.PendingMap.{PendingMap, capacity}

abbrev pub to_put : ℕ → List Transfer → List (ReplicaId × ℕ)
to_put r ts = map (λ t. (replica_at t.block t.target, r)) ts

abbrev pub count_of : ℕ → List Transfer → ℕ
count_of b ts = length (filter (λ t. t.block == b) ts)

abbrev pub own : Part → List Transfer → List Transfer
own part ts = own_transfers part.index part.shards ts

-- with the own transfers of a list inserted too, all are pending, and there is capacity for them
pub record AreAhead (part : Part) (round : ℕ) (p : PendingMap) (ts : List Transfer) (all : Map by_replica ℕ) : Type 0 where
  pub transfers : insert_all p.map (to_put round (own part ts)) ≡ all
  pub places : (b : ℕ) → count_of b (own part ts) ≤ capacity p b

at_most_one : (t : Bool) → cond t 1 0 ≤ 1
at_most_one true = omega arith
at_most_one false = omega arith

-- the first takes capacity of its block, and enough is left for the others
left_over : (x b F R Q : ℕ) → (t : Bool) → (x == b) ≡ t → (if x == b then suc F else F) ≤ R → R ≤ Q + (if b == x then 1 else 0) → F ≤ Q
left_over x b F R Q true e h less =
    let one : suc F ≤ R = subst (λ t. cond t (suc F) F ≤ R) e h in
    omega (arith, one, less, at_most_one (b == x))
left_over x b F R Q false e h less =
    let all : F ≤ R = subst (λ t. cond t (suc F) F ≤ R) e h in
    other (b == x) refl all less
  where
    other : (u : Bool) → (b == x) ≡ u → F ≤ R → R ≤ Q + cond u 1 0 → F ≤ Q
    other true e2 a l = absurd (false≢true (sym e ∙ eq-eqb x b (sym (eqb-true b x e2))))
    other false e2 a l = omega (arith, a, l)

module _ (part : Part) (round : ℕ) (p : PendingMap) (t : Transfer) (ts : List Transfer) (all : Map by_replica ℕ) where
  counted : (b : ℕ) → count_of b (t ∷ own part ts) ≡ cond (t.block == b) (suc (count_of b (own part ts))) (count_of b (own part ts))
  counted b = by (t.block == b)
    where
      by : (u : Bool) → length (cond u (t ∷ filter (λ x. x.block == b) (own part ts)) (filter (λ x. x.block == b) (own part ts))) ≡ cond u (suc (count_of b (own part ts))) (count_of b (own part ts))
      by true = refl
      by false = refl

  module _ (is_own : (shard_of t.block part.shards == part.index) ≡ true) (h : AreAhead part round p (t ∷ ts) all) where
    own_next : own part (t ∷ ts) ≡ t ∷ own part ts
    own_next = ap (λ u. cond u (t ∷ own part ts) (own part ts)) is_own

    first_counts : (b : ℕ) → cond (t.block == b) (suc (count_of b (own part ts))) (count_of b (own part ts)) ≤ capacity p b
    first_counts b = subst (λ n. n ≤ capacity p b) (ap (count_of b) own_next ∙ counted b) (h.places b)

    -- there is capacity for the first
    pub has_capacity : 0 < capacity p t.block
    has_capacity =
        let first : suc (count_of t.block (own part ts)) ≤ capacity p t.block =
        subst (λ u. cond u (suc (count_of t.block (own part ts))) (count_of t.block (own part ts)) ≤ capacity p t.block) (eq-eqb t.block t.block refl) (first_counts t.block) in
        omega (arith, first)

    -- it is inserted
    pub put_one : (q : PendingMap) → q.map ≡ insert p.map (replica_at t.block t.target) round → ((b : ℕ) → capacity p b ≤ capacity q b + (if b == t.block then 1 else 0)) → AreAhead part round q ts all
    put_one q is less = record {
      transfers = ap (λ m. insert_all m (to_put round (own part ts))) is ∙ sym (ap (λ xs. insert_all p.map (to_put round xs)) own_next) ∙ h.transfers;
      places = λ b. left_over t.block b (count_of b (own part ts)) (capacity p b) (capacity q b) (t.block == b) refl (first_counts b) (less b);
    }

  -- one of another shard is skipped
  pub skip_one : (shard_of t.block part.shards == part.index) ≡ false → AreAhead part round p (t ∷ ts) all → AreAhead part round p ts all
  skip_one other h =
      let P : List Transfer → Type 0 = λ xs. (insert_all p.map (to_put round xs) ≡ all) × ((b : ℕ) → count_of b xs ≤ capacity p b) in
      let both : P (own part ts) = subst P (ap (λ u. cond u (t ∷ own part ts) (own part ts)) other) (h.transfers, h.places) in
      record { transfers = both.0; places = both.1 }
