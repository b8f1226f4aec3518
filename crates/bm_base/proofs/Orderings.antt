-- Replicas of one block are ordered by storage, and replicas on one storage by block.
use Rattle.std.proofs.Common.{◌≡◌, ℕ, ◌<◌, nat_cmp, Ordering, Less, Equal, Greater, refl, sym, ap, subst, ◌∙◌, T, arith}
use Rattle.std.specs.Ordering.{is_lt, ordering_then}
use Rattle.std.specs.Cmp.{tied_itself, nat_cmp_total}
use Rattle.std.proofs.lemmas.Bool.Decides.{nat_tests}
use Rattle.bm_base.specs.declared.replica.ReplicaId.{ReplicaId}
use Rattle.bm_base.specs.Machine.State.{replica_cmp}

pub is_less : (r : Ordering) → T (is_lt r) → r ≡ Less
is_less Less h = refl
is_less Equal h = absurd h
is_less Greater h = absurd h

pub less_number : (a b : ℕ) → T (is_lt (nat_cmp a b)) → a < b
less_number a b h = grind (arith, nat_tests, h)

-- of two replicas of one block the lesser is on the lesser storage
pub lesser_storage : (p q : ReplicaId) → p.block ≡ q.block → T (is_lt (replica_cmp p q)) → T (is_lt (nat_cmp p.storage q.storage))
lesser_storage p q same h =
    let tied : nat_cmp p.block q.block ≡ Equal = ap (λ x. nat_cmp p.block x) (sym same) ∙ tied_itself nat_cmp_total p.block in
    subst (λ r. T (is_lt (ordering_then r (nat_cmp p.storage q.storage)))) tied h

-- of two replicas on one storage the lesser is of the lesser block
pub lesser_block : (p q : ReplicaId) → p.storage ≡ q.storage → T (is_lt (replica_cmp p q)) → T (is_lt (nat_cmp p.block q.block))
lesser_block p q same h =
    let tied : nat_cmp p.storage q.storage ≡ Equal = ap (λ x. nat_cmp p.storage x) (sym same) ∙ tied_itself nat_cmp_total p.storage in
    by (nat_cmp p.block q.block) (nat_cmp p.storage q.storage) tied h
  where
    by : (r t : Ordering) → t ≡ Equal → T (is_lt (ordering_then r t)) → T (is_lt r)
    by Less t e g = tt
    by Equal t e g = subst (λ u. T (is_lt u)) e g
    by Greater t e g = absurd g
