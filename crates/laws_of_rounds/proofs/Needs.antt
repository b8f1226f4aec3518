-- Need never shrinks if more replicas are wanted, nor grows if one more is live or drained.
use Rattle.std.specs.Prelude.{◌≡◌, ℕ, ◌+◌, ◌≤◌, ◌<◌, ◌↔◌, Bool, false, ◌&&◌, length, Some, None, option_and_then, option_map}
use Rattle.std.proofs.Common.{cond, sym, ap, subst, ◌∙◌, arith}
use Rattle.std.proofs.lemmas.Bool.Decides.{nat_tests}
use Rattle.std.specs.Ordering.{nat_cmp, eq_by_cmp}
use Rattle.bm_base.specs.declared.replica.Level.TheVariants.{Highest, NoUsableReplica}
use Rattle.bm_base.specs.declared.replica.BlockInfo.{BlockInfo}
use Rattle.bm_base.specs.Words.{get, keys, revise_at, Cluster, Holdings, live, drained, racks, is_multi_rack, storages_where, level, level_of, is_at, set_replication, missing_blocks, has}
use Rattle.bm_base.proofs.MapLaws.{get-revise}
use Rattle.bm_base.proofs.Ties.{number_tie}
use Rattle.laws_of_rounds.specs.Levels.{need}
use Rattle.bm_base.proofs.ListTests.{same_again, has_filter}

pub more_wanted : (n d repl more rs : ℕ) (multi : Bool) → repl ≤ more → need (level_of (record { live = n; drained = d; wanted = repl; racks = rs; multi_rack = multi })) ≤ need (level_of (record { live = n; drained = d; wanted = more; racks = rs; multi_rack = multi }))
unfolding level_of
more_wanted n d repl more rs multi h = grind (arith, nat_tests)

pub one_more : (n d drained_then repl rs more_racks : ℕ) (multi : Bool) → (1 ≤ n → 1 ≤ rs) → rs ≤ more_racks
    → need (level_of (record { live = n + 1; drained = drained_then; wanted = repl; racks = more_racks; multi_rack = multi })) ≤ need (level_of (record { live = n; drained = d; wanted = repl; racks = rs; multi_rack = multi }))
unfolding level_of
one_more n d drained_then repl rs more_racks multi some more = grind (arith, nat_tests)

pub one_drained_more : (n d repl rs : ℕ) (multi : Bool) → need (level_of (record { live = n; drained = d + 1; wanted = repl; racks = rs; multi_rack = multi })) ≤ need (level_of (record { live = n; drained = d; wanted = repl; racks = rs; multi_rack = multi }))
unfolding level_of
one_drained_more n d repl rs multi = grind (arith, nat_tests)

four_counted : (n d repl rs : ℕ) (multi : Bool) → 1 ≤ repl → level_of (record { live = n; drained = d; wanted = repl; racks = rs; multi_rack = multi }) ≡ Some NoUsableReplica → (n ≡ 0) × (d ≡ 0)
unfolding level_of
four_counted n d repl rs multi h e = grind (arith, nat_tests)

counted_four : (n d repl rs : ℕ) (multi : Bool) → 1 ≤ repl → n ≡ 0 → d ≡ 0 → level_of (record { live = n; drained = d; wanted = repl; racks = rs; multi_rack = multi }) ≡ Some NoUsableReplica
unfolding level_of
counted_four n d repl rs multi h e f = grind (arith, nat_tests)

counted_drained : (n d repl rs : ℕ) (multi : Bool) → 1 ≤ repl → n ≡ 0 → 1 ≤ d → level_of (record { live = n; drained = d; wanted = repl; racks = rs; multi_rack = multi }) ≡ Some Highest
unfolding level_of
counted_drained n d repl rs multi h e f = grind (arith, nat_tests)

short_counted : (n d repl rs : ℕ) (multi : Bool) → 2 ≤ need (level_of (record { live = n; drained = d; wanted = repl; racks = rs; multi_rack = multi })) → n < repl
unfolding level_of
short_counted n d repl rs multi e = grind (arith, nat_tests)

counted_short : (n d repl rs : ℕ) (multi : Bool) → n < repl → 2 ≤ need (level_of (record { live = n; drained = d; wanted = repl; racks = rs; multi_rack = multi }))
unfolding level_of
counted_short n d repl rs multi e = grind (arith, nat_tests)

module _ (C : Cluster) (H : Holdings) (b : ℕ) where
  -- the level of a known block, from the counts
  pub level_known : (i : BlockInfo) → get H.blocks b ≡ Some i
      → level C H b ≡ level_of (record { live = length (live C H b); drained = length (drained C H b); wanted = i.repl; racks = length (racks C (live C H b)); multi_rack = is_multi_rack C })
  unfolding level
  level_known i known = ap (option_and_then (λ j. level_of (record { live = length (live C H b); drained = length (drained C H b); wanted = j.repl; racks = length (racks C (live C H b)); multi_rack = is_multi_rack C }))) known

  pub level_unknown : get H.blocks b ≡ None → level C H b ≡ None
  unfolding level
  level_unknown e = ap (option_and_then (λ i. level_of (record { live = length (live C H b); drained = length (drained C H b); wanted = i.repl; racks = length (racks C (live C H b)); multi_rack = is_multi_rack C }))) e

  pub four : (i : BlockInfo) → 1 ≤ i.repl → get H.blocks b ≡ Some i → (level C H b ≡ Some NoUsableReplica) ↔ ((length (live C H b) ≡ 0) × (length (drained C H b) ≡ 0))
  four i wanted known =
      let is = level_known i known in (
        λ e. four_counted (length (live C H b)) (length (drained C H b)) i.repl (length (racks C (live C H b))) (is_multi_rack C) wanted (sym is ∙ e),
        λ e. is ∙ counted_four (length (live C H b)) (length (drained C H b)) i.repl (length (racks C (live C H b))) (is_multi_rack C) wanted e.0 e.1,
      )

  pub highest : (i : BlockInfo) → 1 ≤ i.repl → get H.blocks b ≡ Some i → length (live C H b) ≡ 0 → 1 ≤ length (drained C H b) → level C H b ≡ Some Highest
  highest i wanted known none some =
      level_known i known ∙ counted_drained (length (live C H b)) (length (drained C H b)) i.repl (length (racks C (live C H b))) (is_multi_rack C) wanted none some

  pub short : (i : BlockInfo) → get H.blocks b ≡ Some i → (2 ≤ need (level C H b)) ↔ (length (live C H b) < i.repl)
  short i known =
      let is = level_known i known in (
        λ e. short_counted (length (live C H b)) (length (drained C H b)) i.repl (length (racks C (live C H b))) (is_multi_rack C) (subst (λ l. 2 ≤ need l) is e),
        λ e. subst (λ l. 2 ≤ need l) (sym is) (counted_short (length (live C H b)) (length (drained C H b)) i.repl (length (racks C (live C H b))) (is_multi_rack C) e),
      )

  raised_info : (more : ℕ) (i : BlockInfo) → get H.blocks b ≡ Some i → get (set_replication H b more).blocks b ≡ Some (record i { repl = more })
  unfolding set_replication revise_at
  raised_info more i known =
      get-revise H.blocks (λ q x. cond (eq_by_cmp nat_cmp q b) (record x { repl = more }) x) b
      ∙ ap (option_map (λ x. cond (eq_by_cmp nat_cmp b b) (record x { repl = more }) x)) known
      ∙ ap (λ t. Some (cond t (record i { repl = more }) i)) (number_tie b b ∙ same_again b)

  raised_level : (more : ℕ) (i : BlockInfo) → get H.blocks b ≡ Some i
      → level C (set_replication H b more) b ≡ level_of (record { live = length (live C H b); drained = length (drained C H b); wanted = more; racks = length (racks C (live C H b)); multi_rack = is_multi_rack C })
  unfolding level set_replication storages_where
  raised_level more i known = ap (option_and_then (λ j. level_of (record { live = length (live C H b); drained = length (drained C H b); wanted = j.repl; racks = length (racks C (live C H b)); multi_rack = is_multi_rack C }))) (raised_info more i known)

  pub raised : (more : ℕ) (i : BlockInfo) → get H.blocks b ≡ Some i → i.repl ≤ more → need (level C H b) ≤ need (level C (set_replication H b more) b)
  raised more i known h =
      let lower = more_wanted (length (live C H b)) (length (drained C H b)) i.repl more (length (racks C (live C H b))) (is_multi_rack C) h in
      subst (λ l. need l ≤ need (level C (set_replication H b more) b)) (sym (level_known i known))
      (subst (λ l. need (level_of (record { live = length (live C H b); drained = length (drained C H b); wanted = i.repl; racks = length (racks C (live C H b)); multi_rack = is_multi_rack C })) ≤ need l) (sym (raised_level more i known)) lower)

-- a block of level 0 is not missing
pub not_missing : (C : Cluster) (H : Holdings) (b : ℕ) → level C H b ≡ Some Highest → has (missing_blocks C H) b ≡ false
unfolding missing_blocks
not_missing C H b e = has_filter (λ k. is_at NoUsableReplica (level C H k)) (keys H.blocks) b ∙ ap (λ l. is_at NoUsableReplica l && has (keys H.blocks) b) e
