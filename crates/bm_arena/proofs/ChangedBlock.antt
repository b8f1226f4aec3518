-- A change of the block at one slot keeps the blocks at all others.
use Rattle.std.proofs.Common.{◌≡◌, ◌≢◌, ℕ, Option, Some, None, refl, inl, inr, ap, ◌∙◌}
use Rattle.std.specs.Option.{option_map, option_map_or}
use Rattle.std.proofs.lemmas.Bool.{cases_eq}
use Rattle.std.proofs.lemmas.List.{get_or-set_other}
use Rattle.bm_arena.specs.Triplets.{Block, change_block}
use Rattle.bm_arena.specs.Contents.{Contents, block_at, KeepsAllBut}
use Rattle.bm_arena.proofs.Triplets.{get_or-set_here}

module _ (a : Contents) (slot : ℕ) (h : Block → Block) where
  abbrev pub changed_at : Contents
  changed_at = record a { blocks = change_block h a.blocks slot }

  pub changed-here : block_at changed_at slot ≡ option_map h (block_at a slot)
  changed-here = get_or-set_here a.blocks slot (option_map h) refl

  pub changed-elsewhere : (other : ℕ) → other ≢ slot → block_at changed_at other ≡ block_at a other
  changed-elsewhere other differs = get_or-set_other a.blocks slot other _ None differs

  -- a function that ignores the change has the same value at all slots
  pub changed-blind : {X : Type 0} (f : Option Block → X) → ((o : Option Block) → f (option_map h o) ≡ f o) → (x : ℕ) → f (block_at changed_at x) ≡ f (block_at a x)
  changed-blind f same x =
      elim (cases_eq x slot) [
        | inl here ↦ rw here (ap f changed-here ∙ same (block_at a slot))
        | inr other ↦ ap f (changed-elsewhere x other)
      ]

  pub keeps-changed : ((b : Block) → (h b).capacity ≡ b.capacity) → KeepsAllBut slot a changed_at
  keeps-changed same = record {
    lists = refl;
    blocks = changed-elsewhere;
    capacity = λ x. changed-blind (λ o. option_map_or (λ (b : Block). b.capacity) o 0) by x;
    ids = refl;
    delimiter = refl;
    steps = refl;
    bound = refl;
  }
    where
      by : (o : Option Block) → option_map_or (λ (b : Block). b.capacity) (option_map h o) 0 ≡ option_map_or (λ (b : Block). b.capacity) o 0
      by None = refl
      by (Some b) = same b
