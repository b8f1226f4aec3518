-- An event on one block changes the shard of its number, and no other.
use Rattle.std.proofs.Common.{◌≡◌, ℕ, Bool, true, false, Option, Some, None, refl, ap, subst, sym, ◌∙◌, true≢false, arith}
use Rattle.std.specs.Prelude.{if◌then◌else◌, ◌==◌, ◌<◌, ◌^◌}
use Rattle.std.specs.Option.{option_map_or}
use Rattle.bm_base.specs.declared.ids.Part.{Part}
use Rattle.bm_base.specs.declared.event.Done.{Done}
use Rattle.bm_base.specs.declared.event.Event.{Event}
use Rattle.bm_base.specs.Shards.{shard_of}
use Rattle.bm_base.specs.Words.{Cluster, Holdings, get, level, done, change_cluster, change_holdings}
use Rattle.bm_parts.specs.Parts.{block_of, change_part}
use Rattle.bm_parts.specs.PlacedLaws.{IsPlaced}
use Rattle.bm_parts.proofs.OneShard.{same_cluster, one_block_changes_one_part, nothing_done}
use Rattle.bm_shard.specs.ShardView.{Seen}
use Rattle.bm_shard.specs.EventEffects.{HasChanged, owns}
use Rattle.bm_shard.specs.UpToDate.{IsUpToDate, IsSameButCapacity}

module _ (part : Part) (e : Event) where
  abbrev test : ℕ → Bool
  test b = shard_of b part.shards == part.index

  own : (b : ℕ) → block_of e ≡ Some b → owns part e ≡ test b
  unfolding owns
  own b on = ap (λ o. option_map_or test o true) on

  pub own_changes : (C : Cluster) (P : Holdings) (b : ℕ) → block_of e ≡ Some b → owns part e ≡ true → change_part C P part.index part.shards e ≡ change_holdings C P e
  own_changes C P b on is = one_block_changes_one_part C P e b part.index part.shards on ∙ ap (λ t. if t then change_holdings C P e else P) (sym (own b on) ∙ is)

  -- an event that is not its own is on a block
  on_block : (o : Option ℕ) → block_of e ≡ o → owns part e ≡ false → (b : ℕ) × (block_of e ≡ Some b)
  unfolding owns
  on_block None on not_own = absurd (true≢false (sym (ap (λ o. option_map_or test o true) on) ∙ not_own))
  on_block (Some b) on not_own = (b, on)

  pub other_stays : (C : Cluster) (P : Holdings) → owns part e ≡ false → change_part C P part.index part.shards e ≡ P
  other_stays C P not_own =
      let b = on_block (block_of e) refl not_own in
      one_block_changes_one_part C P e b.0 part.index part.shards b.1 ∙ ap (λ t. if t then change_holdings C P e else P) (sym (own b.0 b.1) ∙ not_own)

pub not_owned : (part : Part) (e : Event) → owns part e ≡ false → (b : ℕ) × (block_of e ≡ Some b)
not_owned part e = on_block part e (block_of e) refl

-- so its effect on the shard's holdings is the effect that the definition gives
pub by_own : (C : Cluster) (old new : Seen) (answer : Done) (e : Event) (b : ℕ) → block_of e ≡ Some b → owns old.part e ≡ true
    → HasChanged C (change_cluster C e) old new (change_holdings C old.holdings e) answer
    → HasChanged C (change_cluster C e) old new (change_part C old.holdings old.part.index old.part.shards e) answer
by_own C old new answer e b on is h = subst (λ H. HasChanged C (change_cluster C e) old new H answer) (sym (own_changes old.part e C old.holdings b on is)) h

-- an event of another shard changes only the capacity
pub left_alone : (C : Cluster) (e : Event) (old new : Seen) → owns old.part e ≡ false → IsUpToDate C old → IsSameButCapacity old new
    → (new.holdings ≡ change_part C old.holdings old.part.index old.part.shards e) × (record { added = 0; removed = 0 } ≡ done old.holdings new.holdings) × IsUpToDate (change_cluster C e) new
left_alone C e old new other up_to_date same =
    let b = on_block old.part e (block_of e) refl other in
    let held : new.holdings ≡ old.holdings = ap (λ s. s.holdings) same.rest in (
      held ∙ sym (other_stays old.part e C old.holdings other),
      sym (ap (done old.holdings) held ∙ nothing_done old.holdings),
      subst (λ D. IsUpToDate D new) (sym (same_cluster C e b.0 b.1)) (record {
        levels = λ n. ap (λ m. get m n) (same.levels C up_to_date) ∙ up_to_date.levels n ∙ ap (λ H. level C H n) (sym held);
        placed = subst (λ H. IsPlaced C H) (sym held) up_to_date.placed;
      }),
    )

-- if the holdings stay, no replicas come or go
pub none_few : (H : Holdings) (answer : Done) → answer ≡ done H H → (answer.added < 2 ^ 100) × (answer.removed < 2 ^ 100)
none_few H answer is =
    let added = ap (λ (d : Done). d.added) (is ∙ nothing_done H) in
    let removed = ap (λ (d : Done). d.removed) (is ∙ nothing_done H) in
    (omega (arith, added), omega (arith, removed))
