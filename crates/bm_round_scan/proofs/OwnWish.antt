-- The wish of a block follows from its own replicas and transfers.
use Rattle.std.specs.Prelude.{◌≡◌, ℕ, nat_lt, if◌then◌else◌, true, length, Option, Some, None, option_and_then}
use Rattle.std.proofs.Common.{refl}
use Rattle.bm_base.specs.declared.replica.Level.{Level}
use Rattle.bm_base.specs.declared.replica.Level.TheVariants.{Highest, VeryUnderReplicated, UnderReplicated, BadlyDistributed, NoUsableReplica}
use Rattle.bm_base.specs.declared.replica.BlockInfo.{BlockInfo}
use Rattle.bm_base.specs.declared.round.Wish.{Wish}
use Rattle.bm_base.specs.Words.{get, Cluster, Holdings, live, drained, storages_where, racks, is_multi_rack, level, level_of, is_at, pending_targets, requested_count}
use Rattle.bm_base.specs.RoundParts.{wish_of, wish_at}
use Rattle.bm_round_scan.specs.Requests.{wish_in, count_at, wish_if, wish_by}

module _ (C : Cluster) (G : Holdings) (b : ℕ) where
  abbrev lives : ℕ
  lives = length (live C G b)

  abbrev level_for : ℕ → Option Level
  level_for repl = level_of (record { live = lives; drained = length (drained C G b); wanted = repl; racks = length (racks C (live C G b)); multi_rack = is_multi_rack C })

  -- the wish at a level, from the counts of the scan
  abbrev wish_counted : BlockInfo → Level → Option Wish
  wish_counted i urgency =
      let n = count_at urgency i.repl lives (length (pending_targets G b)) in
      wish_if n (record { level = urgency; block = b; stamp = i.stamp; count = n; live = live C G b; drained = drained C G b; pairs = storages_where (λ _ _. true) G b; pending = pending_targets G b })

  -- the wish at a level, as it is defined
  abbrev wish_defined : BlockInfo → Level → Option Wish
  wish_defined i urgency = if nat_lt 0 (requested_count C G urgency i.repl b) then Some (wish_of C G urgency b i) else None

  at_own_level : (i : BlockInfo) (o : Option Level) → option_and_then (wish_counted i) o ≡ option_and_then (λ urgency. if is_at urgency o then wish_defined i urgency else None) o
  at_own_level i None = refl
  at_own_level i (Some Highest) = refl
  at_own_level i (Some VeryUnderReplicated) = refl
  at_own_level i (Some UnderReplicated) = refl
  at_own_level i (Some BadlyDistributed) = refl
  at_own_level i (Some NoUsableReplica) = refl

  of_known : (o : Option BlockInfo) → option_and_then (λ (i : BlockInfo). wish_by C b i (live C G b) (drained C G b) (storages_where (λ _ _. true) G b) (pending_targets G b)) o
      ≡ option_and_then (λ urgency. if is_at urgency (option_and_then (λ (i : BlockInfo). level_for i.repl) o) then option_and_then (λ (i : BlockInfo). wish_defined i urgency) o else None) (option_and_then (λ (i : BlockInfo). level_for i.repl) o)
  of_known None = refl
  of_known (Some i) = at_own_level i (level_for i.repl)

  pub wish_known : option_and_then (λ (i : BlockInfo). wish_by C b i (live C G b) (drained C G b) (storages_where (λ _ _. true) G b) (pending_targets G b)) (get G.blocks b) ≡ wish_in C G b
  unfolding wish_in wish_at level
  wish_known = of_known (get G.blocks b)
