use Rattle.std.proofs.Common.{◌≡◌, ℕ, Option, Some, None, Result, Ok, Err, IsSome, refl, subst, sym}
use Rattle.std.specs.Prelude.{IfOk, OnErr}
use Rattle.bm_base.specs.declared.refusal.Refusal.{Refusal}
use Rattle.bm_arena.specs.Contents.{Contents, slot_of, IsAdded, IsLawful}
use Rattle.bm_report.specs.ReportedBlocks.{IsPrepared}
use Rattle.bm_report.proofs.Maps.{some_is}
use Rattle.bm_report.proofs.Preparation.{prepared-none, prepared-added}
use Rattle.bm_report.proofs.look_up.slot_for.Goals as goal

same_as : (a c : Contents) → c ≡ a → IsPrepared a c
same_as a c e = let P : Contents → Type 0 = λ x. IsPrepared a x in subst P (sym e) (prepared-none a)

prepared_by : (a c : Contents) (id : ℕ) → IsLawful a → (r : Result ℕ Refusal) → IfOk r (λ slot. IsSome (slot_of a id) → (slot_of a id ≡ Some slot) × (c ≡ a))
    → IfOk r (λ slot. slot_of a id ≡ None → IsAdded a c id slot) → OnErr r (c ≡ a) → IsPrepared a c
prepared_by a c id lawful (Err e) known added unchanged = same_as a c unchanged
prepared_by a c id lawful (Ok slot) known added unchanged = by (slot_of a id) refl
  where
    by : (o : Option ℕ) → slot_of a id ≡ o → IsPrepared a c
    by None e = prepared-added a c id slot lawful e (added e)
    by (Some x) e = same_as a c (known (some_is (slot_of a id) x e)).1

pub returns-clause-kept : goal.returns-clause-kept
returns-clause-kept c =
    prepared_by c.args.arena.now c.add_entry.new.self c.args.id c.show_invariant.ensures c.add_entry.result c.add_entry.ensures.known c.add_entry.ensures.added c.add_entry.ensures.unchanged
