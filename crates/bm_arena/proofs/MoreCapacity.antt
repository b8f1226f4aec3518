-- More capacity for the replicas of a block keeps all marks and what is known of blocks.
use Rattle.std.proofs.Common.{◌≡◌, ◌≢◌, ℕ, Option, Some, None, refl, ap, ◌∙◌}
use Rattle.std.specs.Option.{option_map, option_and_then}
use Rattle.bm_arena.specs.Triplets.{Block, change_block}
use Rattle.bm_arena.specs.Contents.{Contents, block_at, marks_at, find_marks, with_entry_capacity, known_of}
use Rattle.bm_arena.proofs.ChangedBlock.{changed-here, changed-elsewhere, changed-blind}

module _ (a : Contents) (slot capacity : ℕ) where
  abbrev pub with_more_capacity : Contents
  with_more_capacity = record a { blocks = change_block (with_entry_capacity capacity) a.blocks slot }

  pub capacity-here : block_at with_more_capacity slot ≡ option_map (with_entry_capacity capacity) (block_at a slot)
  capacity-here = changed-here a slot (with_entry_capacity capacity)

  pub capacity-elsewhere : (other : ℕ) → other ≢ slot → block_at with_more_capacity other ≡ block_at a other
  capacity-elsewhere = changed-elsewhere a slot (with_entry_capacity capacity)

  -- a function that ignores the capacity has the same value at all slots
  pub capacity-blind : {X : Type 0} (f : Block → Option X) → ((b : Block) → f (with_entry_capacity capacity b) ≡ f b) → (x : ℕ) → option_and_then f (block_at with_more_capacity x) ≡ option_and_then f (block_at a x)
  capacity-blind f same x = changed-blind a slot (with_entry_capacity capacity) (option_and_then f) by x
    where
      by : (o : Option Block) → option_and_then f (option_map (with_entry_capacity capacity) o) ≡ option_and_then f o
      by None = refl
      by (Some b) = same b

  pub capacity-marks : (x storage : ℕ) → marks_at with_more_capacity x storage ≡ marks_at a x storage
  capacity-marks x storage = capacity-blind (λ (b : Block). find_marks b.replicas storage) (λ b. refl) x

  pub capacity-known : known_of (block_at with_more_capacity slot) ≡ known_of (block_at a slot)
  capacity-known = ap known_of capacity-here ∙ by (block_at a slot)
    where
      by : (o : Option Block) → known_of (option_map (with_entry_capacity capacity) o) ≡ known_of o
      by None = refl
      by (Some b) = refl
