-- Setting the marks of a replica changes nothing else in the arena.
use Rattle.std.proofs.Common.{◌≡◌, ◌≢◌, ℕ, Some, IsSome, refl, sym, subst}
use Rattle.bm_base.specs.declared.replica.Marks.{Marks}
use Rattle.bm_base.specs.Words.{insert, replica_at}
use Rattle.bm_arena.specs.Contents.{Contents, block_at, slot_of, marks_at, known_of, IsLawful, KeepsAllBut, with_marks}
use Rattle.bm_arena.specs.HeldMaps.{replicas_of, blocks_of}
use Rattle.bm_arena.proofs.SetMarks.{set_at, set-marks, set-others, set-elsewhere, set-known}
use Rattle.bm_arena.proofs.ChangedBlock.{keeps-changed}
use Rattle.bm_arena.proofs.HeldReplicas.{replicas-put, blocks-kept}

pub record HasMarksSet (old new : Contents) (slot s : ℕ) (m : Marks) : Type 0 where
  pub marks : IsSome (marks_at old slot s) → marks_at new slot s ≡ Some m
  pub other_storages : (other : ℕ) → other ≢ s → marks_at new slot other ≡ marks_at old slot other
  pub others : (other : ℕ) → other ≢ slot → block_at new other ≡ block_at old other
  pub known : known_of (block_at new slot) ≡ known_of (block_at old slot)
  pub rest : KeepsAllBut slot old new
  pub replicas : (id : ℕ) → slot_of old id ≡ Some slot → IsSome (marks_at old slot s) → replicas_of new ≡ insert (replicas_of old) (replica_at id s) m
  pub blocks : blocks_of new ≡ blocks_of old

set_here : (old : Contents) (slot s : ℕ) (m : Marks) → IsLawful old → HasMarksSet old (set_at old slot s m) slot s m
set_here old slot s m lawful =
    let marks = set-marks old slot s m in
    let other_storages = set-others old slot s m in
    let others = set-elsewhere old slot s m in
    let known = set-known old slot s m in
    let rest = keeps-changed old slot (with_marks s m) (λ b. refl) in
    record {
      marks = marks;
      other_storages = other_storages;
      others = others;
      known = known;
      rest = rest;
      replicas = λ id here some. replicas-put old (set_at old slot s m) lawful slot s id here rest.ids others other_storages m (marks some);
      blocks = blocks-kept old (set_at old slot s m) slot rest.ids others known;
    }

pub marks_set : (old new : Contents) (slot s : ℕ) (m : Marks) → IsLawful old → new ≡ set_at old slot s m → HasMarksSet old new slot s m
marks_set old new slot s m lawful after =
    let P : Contents → Type 0 = λ a. HasMarksSet old a slot s m in
    subst P (sym after) (set_here old slot s m lawful)
