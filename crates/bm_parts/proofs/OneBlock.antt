-- A block's level, and whether it is settled, depend only on its information and its own replicas.
use Rattle.std.proofs.Common.{◌≡◌, ◌≢◌, ℕ, ◌+◌, ◌%◌, Bool, true, false, List, Some, length, sym, ap, ◌∙◌, arith, mod-eq_of_lt, refl}
use Rattle.std.specs.Prelude.{if◌then◌else◌, option_and_then}
use Rattle.bm_base.specs.declared.commands.Transfer.{Transfer}
use Rattle.bm_base.specs.declared.commands.Delete.{Delete}
use Rattle.bm_base.specs.declared.event.Event.{Event}
use Rattle.bm_base.specs.declared.replica.Marks.{Marks}
use Rattle.bm_base.specs.declared.replica.BlockInfo.{BlockInfo}
use Rattle.bm_base.specs.Words.{get, Cluster, Holdings, replica_at, is_usable, is_live_on, is_drained_on, storages_where, racks, is_multi_rack, level, level_of, change_holdings, is_commanded, end_round}
use Rattle.bm_base.specs.Shards.{shard_of, cut}
use Rattle.bm_parts.specs.Parts.{IsSameOf, block_of}
use Rattle.bm_parts.specs.LevelLaws as law
use Rattle.bm_parts.specs.SettledBlocks as settled_law
use Rattle.bm_parts.proofs.Parts.{cut_is_part, one_part_changed}
use Rattle.bm_parts.proofs.Storages.{storages_of_same, storages_revised}

-- the number of shards is so great that the two blocks are in different ones
module _ (H G : Holdings) (b c : ℕ) (same : cut G c (b + c + 1) ≡ cut H c (b + c + 1)) where
  c_own : shard_of c (b + c + 1) ≡ c
  c_own = mod-eq_of_lt (omega arith)

  same_of : IsSameOf c H G
  same_of =
      let P = cut_is_part c (b + c + 1) G in
      let Q = cut_is_part c (b + c + 1) H in
      record {
        block = sym (P.blocks c c_own) ∙ ap (λ K. get K.blocks c) same ∙ Q.blocks c c_own;
        replicas = λ s. sym (P.replicas (replica_at c s) c_own) ∙ ap (λ K. get K.replicas (replica_at c s)) same ∙ Q.replicas (replica_at c s) c_own;
        pending = λ s. sym (P.pending (replica_at c s) c_own) ∙ ap (λ K. get K.pending (replica_at c s)) same ∙ Q.pending (replica_at c s) c_own;
      }

pub others_stay : (C : Cluster) (H : Holdings) (e : Event) (b c : ℕ) → block_of e ≡ Some b → c ≢ b → IsSameOf c H (change_holdings C H e)
others_stay C H e b c is other =
    let mine : b % (b + c + 1) ≡ b = mod-eq_of_lt (omega arith) in
    let apart : shard_of b (b + c + 1) ≢ c = λ h. other (sym (sym mine ∙ h)) in
    same_of H (change_holdings C H e) b c (one_part_changed C H e b c (b + c + 1) is apart)

pub level_is_of_its_block : law.level_is_of_its_block
unfolding level
level_is_of_its_block C H G b known same =
    λ j. option_and_then (λ (i : BlockInfo). level_of (record { live = length (storages_of_same (is_live_on C) H G b same j); drained = length (storages_of_same (is_drained_on C) H G b same j); wanted = i.repl; racks = length (racks C (storages_of_same (is_live_on C) H G b same j)); multi_rack = is_multi_rack C })) (known j)

pub settled_is_of_its_block : settled_law.settled_is_of_its_block
settled_is_of_its_block H G b known same settled = record {
  all_plain = λ q m at there. settled.all_plain q m at (ap (λ c. get H.replicas (replica_at c q.storage)) at ∙ sym (same q.storage) ∙ ap (λ c. get G.replicas (replica_at c q.storage)) (sym at) ∙ there);
  few = λ i is. let less = settled.few i (sym known ∙ is) in let as_many = ap length (storages_of_same (λ _ m. is_usable m) H G b same) in omega (arith, less, as_many);
}

pub event_leaves_other_levels : law.event_leaves_other_levels
event_leaves_other_levels C H e b c is other =
    let same = others_stay C H e b c is other in
    level_is_of_its_block C H (change_holdings C H e) c same.block same.replicas

-- The end of a round.

unseen : (f : Marks → Bool) → ((m : Marks) → f (record m { ordered = true }) ≡ f m) → (t : Bool) (m : Marks) → f (if t then record m { ordered = true } else m) ≡ f m
unseen f same true m = same m
unseen f same false m = refl

-- tests that ignore whether a delete is ordered
storages_at_end : (p : ℕ → Marks → Bool) → ((s : ℕ) (m : Marks) → p s (record m { ordered = true }) ≡ p s m) → (r : ℕ) (G : Holdings) (ts : List Transfer) (ds : List Delete) (b : ℕ)
    → storages_where p (end_round r G ts ds) b ≡ storages_where p G b
unfolding end_round storages_where
storages_at_end p same r G ts ds b =
    storages_revised G (λ q m. if is_commanded ds q then record m { ordered = true } else m) p b (λ q m at there. unseen (p q.storage) (same q.storage) (is_commanded ds q) m)

pub round_end_leaves_levels : law.round_end_leaves_levels
unfolding level end_round
round_end_leaves_levels C r G ts ds b =
    let lives = storages_at_end (is_live_on C) (λ s m. refl) r G ts ds b in
    let spent = storages_at_end (is_drained_on C) (λ s m. refl) r G ts ds b in
    (λ j. option_and_then (λ (i : BlockInfo). level_of (record { live = length (lives j); drained = length (spent j); wanted = i.repl; racks = length (racks C (lives j)); multi_rack = is_multi_rack C })) (known r G ts ds b j))
  where
    known : (r : ℕ) (G : Holdings) (ts : List Transfer) (ds : List Delete) (b : ℕ) → get (end_round r G ts ds).blocks b ≡ get G.blocks b
    known r G ts ds b = refl
