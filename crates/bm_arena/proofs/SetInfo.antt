-- Setting the information on a block keeps all replicas, and a new entry for a number keeps all
-- blocks and replicas.
use Rattle.std.proofs.Common.{◌≡◌, ◌≢◌, ℕ, Bool, true, false, cond, eqb, eq-eqb, eqb-true, Option, Some, None, is_some, IsSome, refl, subst, inl, inr, sym, ap, ◌∙◌}
use Rattle.std.specs.Option.{option_map, option_and_then}
use Rattle.std.proofs.lemmas.Bool.{cases_eq, false≢true}
use Rattle.bm_base.specs.declared.replica.BlockInfo.{BlockInfo}
use Rattle.bm_arena.specs.Triplets.{Block}
use Rattle.bm_arena.specs.Contents.{Contents, block_at, slot_of, marks_at, find_marks, with_info, empty_block, IsAdded, IsLawful}
use Rattle.bm_arena.specs.HeldMaps.{replicas_of, blocks_of, with_known}
use Rattle.bm_arena.proofs.ChangedBlock.{changed_at, changed-here, changed-elsewhere, changed-blind}
use Rattle.bm_arena.proofs.HeldReplicas.{replicas-kept, blocks-set, same_replicas, same_blocks}

module _ (a : Contents) (slot : ℕ) (info : Option BlockInfo) where
  pub info-marks : (x s : ℕ) → marks_at (changed_at a slot (with_info info)) x s ≡ marks_at a x s
  info-marks x s = changed-blind a slot (with_info info) (option_and_then (λ (b : Block). find_marks b.replicas s)) by x
    where
      by : (o : Option Block) → option_and_then (λ (b : Block). find_marks b.replicas s) (option_map (with_info info) o) ≡ option_and_then (λ (b : Block). find_marks b.replicas s) o
      by None = refl
      by (Some b) = refl

  pub info-replicas : replicas_of (changed_at a slot (with_info info)) ≡ replicas_of a
  info-replicas = replicas-kept a (changed_at a slot (with_info info)) refl info-marks

  pub info-blocks : IsLawful a → (b : ℕ) → slot_of a b ≡ Some slot → blocks_of (changed_at a slot (with_info info)) ≡ with_known (blocks_of a) b info
  info-blocks lawful b here =
      blocks-set a (changed_at a slot (with_info info)) lawful slot b info here refl (changed-elsewhere a slot (with_info info))
      (ap (option_and_then (λ (k : Block). k.info)) (changed-here a slot (with_info info)) ∙ by (block_at a slot) (ap is_some (lawful.found b slot here).2))
    where
      by : (o : Option Block) → is_some o ≡ true → option_and_then (λ (k : Block). k.info) (option_map (with_info info) o) ≡ info
      by None some = absurd (false≢true some)
      by (Some k) some = refl

-- a new number gets an entry
module _ (a c : Contents) (id slot : ℕ) (lawful : IsLawful a) (new : slot_of a id ≡ None) (added : IsAdded a c id slot) where
  vacant_there : (o : Option Block) → IsSome o → o ≡ None → ⊥
  vacant_there o some e = let P : Option Block → Type 0 = λ x. IsSome x in false≢true (subst P e some)

  pub added-held : (x : ℕ) → IsSome (block_at a x) → x ≢ slot
  added-held x some same = vacant_there (block_at a x) some (ap (block_at a) same ∙ added.vacant)

  pub added-same : (b : ℕ) → b ≢ id → slot_of c b ≡ slot_of a b
  added-same b differs = added.found b ∙ by (eqb b id) refl
    where
      by : (t : Bool) → eqb b id ≡ t → cond t (Some slot) (slot_of a b) ≡ slot_of a b
      by true e = absurd (differs (eqb-true b id e))
      by false e = refl

  pub added-here : slot_of c id ≡ Some slot
  added-here = added.found id ∙ ap (λ t. cond t (Some slot) (slot_of a id)) (eq-eqb id id refl)

  looked : {X : Type 0} (f : Block → Option X) → f (empty_block id) ≡ None
      → (b : ℕ) → option_and_then (λ k. option_and_then f (block_at c k)) (slot_of c b) ≡ option_and_then (λ k. option_and_then f (block_at a k)) (slot_of a b)
  looked f empty b =
      elim (cases_eq b id) [
        | inl same ↦
            rw same
            (ap (option_and_then (λ k. option_and_then f (block_at c k))) added-here ∙ ap (option_and_then f) added.entry ∙ empty ∙ sym (ap (option_and_then (λ k. option_and_then f (block_at a k))) new))
        | inr differs ↦ ap (option_and_then (λ k. option_and_then f (block_at c k))) (added-same b differs) ∙ by b (slot_of a b) refl
      ]
    where
      by : (b : ℕ) (o : Option ℕ) → slot_of a b ≡ o → option_and_then (λ k. option_and_then f (block_at c k)) o ≡ option_and_then (λ k. option_and_then f (block_at a k)) o
      by b None e = refl
      by b (Some x) e = let f1 = lawful.found b x e in ap (option_and_then f) (added.others x (added-held x (ap is_some f1.2)))

  pub added-replicas : replicas_of c ≡ replicas_of a
  added-replicas = same_replicas a c (λ q. looked (λ (b : Block). find_marks b.replicas q.storage) refl q.block)

  pub added-blocks : blocks_of c ≡ blocks_of a
  added-blocks = same_blocks a c (λ b. looked (λ (k : Block). k.info) refl b)
