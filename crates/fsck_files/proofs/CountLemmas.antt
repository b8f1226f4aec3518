-- Live replicas are compared with places that may be live, except in a corrupt block without marks.
use Rattle.std.proofs.Common.{◌≡◌, ℕ, Bool, false, List, Option, Result, Ok, IfOk, IfErr, refl, subst}
use Rattle.fsck_text.specs.declared.block.BlockLine.{BlockLine}
use Rattle.fsck_text.specs.declared.list.ListedReplica.{ListedReplica}
use Rattle.fsck_files.specs.Files.{LineResult, by_count, by_places, IsCause}
use Rattle.fsck_files.specs.Numbers.{has_number}
use Rattle.fsck_files.specs.Replicas.{are_unmarked, claims}
use Rattle.fsck_files.specs.declared.files.Files.{Files}
use Rattle.fsck_files.specs.declared.files.LineFault.{LineFault}
use Rattle.fsck_files.specs.declared.replicas.Block.{Block}

module _ (s : Files) (b : BlockLine) (repl : ℕ) (listed : List ListedReplica) (live places : ℕ) (corrupt : Bool) where
  -- the number of live replicas is compared with the number of places
  compared : corrupt ≡ has_number s.corrupt b.id → false ≡ are_unmarked corrupt listed → places ≡ claims corrupt listed → by_places s b repl listed places live ≡ by_count s b repl listed live
  compared is marked claimed = rw (← is, ← marked, claimed) refl

  pub compared_ok : corrupt ≡ has_number s.corrupt b.id → false ≡ are_unmarked corrupt listed → places ≡ claims corrupt listed → (new : Files) (r : Result (Option Block) LineFault)
      → IfOk r (λ taken. by_places s b repl listed places live ≡ Ok (new, taken)) → IfOk r (λ taken. by_count s b repl listed live ≡ Ok (new, taken))
  compared_ok is marked claimed new r = subst (λ (t : LineResult). IfOk r (λ taken. t ≡ Ok (new, taken))) (compared is marked claimed)

  pub compared_err : corrupt ≡ has_number s.corrupt b.id → false ≡ are_unmarked corrupt listed → places ≡ claims corrupt listed → (r : Result (Option Block) LineFault)
      → IfErr r (λ f. IsCause f (by_places s b repl listed places live)) → IfErr r (λ f. IsCause f (by_count s b repl listed live))
  compared_err is marked claimed r = subst (λ (t : LineResult). IfErr r (λ f. IsCause f t)) (compared is marked claimed)
