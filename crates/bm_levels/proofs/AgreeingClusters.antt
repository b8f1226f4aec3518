-- Clusters that agree on a block's usable replicas and on being multi-rack agree on its level.
use Rattle.std.specs.Prelude.{◌≡◌, ℕ, Bool, true, false, not, ◌&&◌, List, [], ◌∷◌, length, map, filter, filter_map, Option, Some, option_and_then}
use Rattle.std.specs.List.{cons_option}
use Rattle.std.proofs.Common.{cond, refl, ap, ◌∙◌}
use Rattle.bm_base.specs.declared.replica.Marks.{Marks}
use Rattle.bm_base.specs.declared.replica.BlockInfo.{BlockInfo}
use Rattle.bm_base.specs.Words.{is_usable, level_of}
use Rattle.bm_base.specs.Spread.{spread}
use Rattle.bm_base.proofs.ForEach.{Each}
use Rattle.bm_arena.specs.Triplets.{Block}
use Rattle.bm_levels.specs.Status.{storages_at, is_live_by, is_drained_by, level_by}

module _ (rack rack' : ℕ → Option ℕ) (draining draining' : ℕ → Bool) where
  -- both agree on the storages of the usable replicas
  abbrev pub AgreeOn : List (ℕ × Marks) → Type 0
  AgreeOn rs = Each (λ (r : ℕ × Marks). is_usable r.1 ≡ true → (rack r.0 ≡ rack' r.0) × (draining r.0 ≡ draining' r.0)) rs

  abbrev firsts : List (ℕ × Marks) → List ℕ
  firsts rs = map (λ (r : ℕ × Marks). r.0) rs

  lives_agree : (rs : List (ℕ × Marks)) → AgreeOn rs → storages_at (is_live_by draining) rs ≡ storages_at (is_live_by draining') rs
  lives_agree [] h = refl
  lives_agree (r ∷ rs) h = by (is_usable r.1) h.0 (lives_agree rs h.1)
    where
      by : (u : Bool) → (u ≡ true → (rack r.0 ≡ rack' r.0) × (draining r.0 ≡ draining' r.0)) → storages_at (is_live_by draining) rs ≡ storages_at (is_live_by draining') rs
          → firsts (cond (u && not (draining r.0)) (r ∷ filter (λ r. is_live_by draining r.0 r.1) rs) (filter (λ r. is_live_by draining r.0 r.1) rs))
          ≡ firsts (cond (u && not (draining' r.0)) (r ∷ filter (λ r. is_live_by draining' r.0 r.1) rs) (filter (λ r. is_live_by draining' r.0 r.1) rs))
      by false g rest = rest
      by true g rest =
          let e = (g refl).1 in
          ap (λ d. firsts (cond (not d) (r ∷ filter (λ r. is_live_by draining r.0 r.1) rs) (filter (λ r. is_live_by draining r.0 r.1) rs))) e ∙ each (draining' r.0) rest
        where
          each : (d : Bool) → storages_at (is_live_by draining) rs ≡ storages_at (is_live_by draining') rs
              → firsts (cond (not d) (r ∷ filter (λ r. is_live_by draining r.0 r.1) rs) (filter (λ r. is_live_by draining r.0 r.1) rs))
              ≡ firsts (cond (not d) (r ∷ filter (λ r. is_live_by draining' r.0 r.1) rs) (filter (λ r. is_live_by draining' r.0 r.1) rs))
          each true rest = rest
          each false rest = ap (λ xs. r.0 ∷ xs) rest

  drained_agree : (rs : List (ℕ × Marks)) → AgreeOn rs → storages_at (is_drained_by draining) rs ≡ storages_at (is_drained_by draining') rs
  drained_agree [] h = refl
  drained_agree (r ∷ rs) h = by (is_usable r.1) h.0 (drained_agree rs h.1)
    where
      by : (u : Bool) → (u ≡ true → (rack r.0 ≡ rack' r.0) × (draining r.0 ≡ draining' r.0)) → storages_at (is_drained_by draining) rs ≡ storages_at (is_drained_by draining') rs
          → firsts (cond (u && draining r.0) (r ∷ filter (λ r. is_drained_by draining r.0 r.1) rs) (filter (λ r. is_drained_by draining r.0 r.1) rs))
          ≡ firsts (cond (u && draining' r.0) (r ∷ filter (λ r. is_drained_by draining' r.0 r.1) rs) (filter (λ r. is_drained_by draining' r.0 r.1) rs))
      by false g rest = rest
      by true g rest =
          let e = (g refl).1 in
          ap (λ d. firsts (cond d (r ∷ filter (λ r. is_drained_by draining r.0 r.1) rs) (filter (λ r. is_drained_by draining r.0 r.1) rs))) e ∙ each (draining' r.0) rest
        where
          each : (d : Bool) → storages_at (is_drained_by draining) rs ≡ storages_at (is_drained_by draining') rs
              → firsts (cond d (r ∷ filter (λ r. is_drained_by draining r.0 r.1) rs) (filter (λ r. is_drained_by draining r.0 r.1) rs))
              ≡ firsts (cond d (r ∷ filter (λ r. is_drained_by draining' r.0 r.1) rs) (filter (λ r. is_drained_by draining' r.0 r.1) rs))
          each true rest = ap (λ xs. r.0 ∷ xs) rest
          each false rest = rest

  racks_agree : (rs : List (ℕ × Marks)) → AgreeOn rs → filter_map rack (storages_at (is_live_by draining) rs) ≡ filter_map rack' (storages_at (is_live_by draining) rs)
  racks_agree [] h = refl
  racks_agree (r ∷ rs) h = by (is_usable r.1) (draining r.0) h.0 (racks_agree rs h.1)
    where
      by : (u d : Bool) → (u ≡ true → (rack r.0 ≡ rack' r.0) × (draining r.0 ≡ draining' r.0))
          → filter_map rack (storages_at (is_live_by draining) rs) ≡ filter_map rack' (storages_at (is_live_by draining) rs)
          → filter_map rack (firsts (cond (u && not d) (r ∷ filter (λ r. is_live_by draining r.0 r.1) rs) (filter (λ r. is_live_by draining r.0 r.1) rs)))
          ≡ filter_map rack' (firsts (cond (u && not d) (r ∷ filter (λ r. is_live_by draining r.0 r.1) rs) (filter (λ r. is_live_by draining r.0 r.1) rs)))
      by false d g rest = rest
      by true true g rest = rest
      by true false g rest = λ t. cons_option ((g refl).0 t) (rest t)

  pub levels_agree : (multi : Bool) (k : Block) → AgreeOn k.replicas → level_by rack draining multi (Some k) ≡ level_by rack' draining' multi (Some k)
  unfolding level_by
  levels_agree multi k h =
      let lives = lives_agree k.replicas h in
      let others = drained_agree k.replicas h in
      let spreads = racks_agree k.replicas h ∙ ap (λ ss. filter_map rack' ss) lives in
      λ t. option_and_then (λ (i : BlockInfo). level_of (record { live = length (lives t); drained = length (others t); wanted = i.repl; racks = spread (spreads t); multi_rack = multi })) k.info
