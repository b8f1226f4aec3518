-- A node that begins or ceases to drain keeps the levels of blocks without a usable replica on it.
use Rattle.std.proofs.Common.{◌≡◌, ◌≢◌, ℕ, Bool, true, false, not, Option, Some, None, is_some, refl, ap, ◌∙◌}
use Rattle.std.specs.Prelude.{◌==◌, if◌then◌else◌}
use Rattle.std.specs.Option.{option_map_or}
use Rattle.std.proofs.lemmas.Bool.{eqb-false}
use Rattle.bm_base.specs.Words.{Map, keep, Cluster, Holdings, by_replica, node_of, rack_of, has_storage, drains, is_draining, storages_where, is_multi_rack, level, drain, undrain, begin_drain}
use Rattle.bm_base.proofs.MapEntries.{get_left, get_other}
use Rattle.bm_parts.specs.LevelLaws as law
use Rattle.bm_parts.proofs.Storages.{usable_fails}
use Rattle.bm_parts.proofs.ClusterLevels.{HasSameRackAndDrain, level_alike}

module _ (C D : Cluster) (n s : ℕ) (storages : node_of D s ≡ node_of C s) (elsewhere : (m : ℕ) → m ≢ n → drains D m ≡ drains C m) where
  draining_by : (z : Option ℕ) → option_map_or (λ m. m == n) z false ≡ false → option_map_or (drains D) z false ≡ option_map_or (drains C) z false
  draining_by None e = refl
  draining_by (Some m) e = elsewhere m (eqb-false m n e)

  -- a storage of another node drains as before
  still_drains : has_storage C n s ≡ false → is_draining D s ≡ is_draining C s
  unfolding has_storage is_draining
  still_drains off = ap (λ z. option_map_or (drains D) z false) storages ∙ draining_by (node_of C s) off

module _ (C : Cluster) (n : ℕ) where
  drained_elsewhere : (m : ℕ) → m ≢ n → drains (drain C n) m ≡ drains C m
  unfolding drain drains
  drained_elsewhere m other = ap is_some (get_other C.draining n tt m other)

  undrained_elsewhere : (m : ℕ) → m ≢ n → drains (undrain C n) m ≡ drains C m
  unfolding undrain drains
  undrained_elsewhere m other = ap is_some (get_left C.draining n m other)

  drain_alike : (s : ℕ) → has_storage C n s ≡ false → HasSameRackAndDrain C (drain C n) s
  unfolding drain rack_of node_of
  drain_alike s off = (refl, still_drains C (drain C n) n s refl drained_elsewhere off)

  undrain_alike : (s : ℕ) → has_storage C n s ≡ false → HasSameRackAndDrain C (undrain C n) s
  unfolding undrain rack_of node_of
  undrain_alike s off = (refl, still_drains C (undrain C n) n s refl undrained_elsewhere off)

  multi_drain : is_multi_rack (drain C n) ≡ is_multi_rack C
  unfolding is_multi_rack drain
  multi_drain = refl

  multi_undrain : is_multi_rack (undrain C n) ≡ is_multi_rack C
  unfolding is_multi_rack undrain
  multi_undrain = refl

-- levels don't depend on pending transfers
level_unsent : (D : Cluster) (H : Holdings) (pending : Map by_replica ℕ) (b : ℕ) → level D (record H { pending = pending }) b ≡ level D H b
unfolding level storages_where
level_unsent D H pending b = refl

level_begun : (C D : Cluster) (H : Holdings) (n b : ℕ) → level D (begin_drain C H n) b ≡ level D H b
unfolding begin_drain
level_begun C D H n b = by_test (drains C n)
  where
    by_test : (t : Bool) → level D (if t then H else record H { pending = keep H.pending (λ q _. not (has_storage C n q.storage)) }) b ≡ level D H b
    by_test true = refl
    by_test false = level_unsent D H (keep H.pending (λ q _. not (has_storage C n q.storage))) b

pub drain_leaves_levels : law.drain_leaves_levels
drain_leaves_levels C H n b none =
    level_begun C (drain C n) H n b ∙ level_alike C (drain C n) H b (λ s m there u. drain_alike C n s (usable_fails (has_storage C n) H b s m none there u)) (multi_drain C n)

pub undrain_leaves_levels : law.undrain_leaves_levels
undrain_leaves_levels C H n b none = level_alike C (undrain C n) H b (λ s m there u. undrain_alike C n s (usable_fails (has_storage C n) H b s m none there u)) (multi_undrain C n)
