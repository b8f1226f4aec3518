-- Choosing a wish's copies one by one until none is found gives the transfers of the definition.
use Rattle.std.proofs.Common.{◌≡◌, ◌<◌, ℕ, zero, suc, ◌+◌, ◌-◌, Bool, true, false, cond, List, [], ◌∷◌, ◌++◌, map, filter, drop, get_or, replicate, length, Option, Some, None, refl, sym, ap, ◌∙◌, arith, append_assoc, append-nil}
use Rattle.std.specs.Prelude.{◌==◌, ◌*◌, nat_le, option_to_list, option_and_then, option_map, is_some}
use Rattle.std.specs.Option.{option_map_or}
use Rattle.std.proofs.lemmas.List.{at_drop_more}
use Rattle.std.proofs.lemmas.Bool.{eq-eqb, false≢true, or_parts}
use Rattle.bm_base.specs.declared.commands.Transfer.{Transfer}
use Rattle.bm_base.specs.declared.round.Wish.{Wish}
use Rattle.bm_base.specs.Words.{len, RoundLimits, Cluster, has, targets_of, least_source, least_target}
use Rattle.bm_base.specs.Choices.{transfer_by, transfers_over, one_by_one, sources_by, holders_by, excluded_by}
use Rattle.bm_place.proofs.Tables.{equal_back}

module _ (limits : RoundLimits) (C : Cluster) where
  -- if one copy finds no source or target, no later one does
  pub none_left : (chosen : List Transfer) (w : Wish) (n : ℕ) → transfer_by limits C chosen w ≡ None → transfers_over limits C chosen (replicate n w) ≡ chosen
  none_left chosen w zero none = refl
  none_left chosen w (suc n) none =
      ap (λ o. transfers_over limits C (chosen ++ option_to_list o) (replicate n w)) none
      ∙ ap (λ ts. transfers_over limits C ts (replicate n w)) (append-nil chosen)
      ∙ none_left chosen w n none

  one_of : (chosen : List Transfer) (w : Wish) (t : Transfer) (m n : ℕ) → m ≡ suc n → transfer_by limits C chosen w ≡ Some t
      → transfers_over limits C chosen (replicate m w) ≡ transfers_over limits C (chosen ++ t ∷ []) (replicate n w)
  one_of chosen w t m n e is =
      ap (λ k. transfers_over limits C chosen (replicate k w)) e ∙ ap (λ o. transfers_over limits C (chosen ++ option_to_list o) (replicate n w)) is

  -- the next copy is chosen
  pub one_less : (chosen : List Transfer) (w : Wish) (t : Transfer) (count k : ℕ) → k < count → transfer_by limits C chosen w ≡ Some t
      → transfers_over limits C chosen (replicate (count - k) w) ≡ transfers_over limits C (chosen ++ t ∷ []) (replicate (count - (k + 1)) w)
  one_less chosen w t count k below is = one_of chosen w t (count - k) (count - (k + 1)) (omega (arith, below)) is

-- The targets of a block.

targets_if : (chosen : List Transfer) (t : Transfer) (b : ℕ) (same : Bool) → (t.block == b) ≡ same → targets_of (t ∷ chosen) b ≡ cond same (t.target ∷ targets_of chosen b) (targets_of chosen b)
unfolding targets_of
targets_if chosen t b true e = ap (λ s. map (λ (u : Transfer). u.target) (cond s (t ∷ filter (λ u. u.block == b) chosen) (filter (λ u. u.block == b) chosen))) e
targets_if chosen t b false e = ap (λ s. map (λ (u : Transfer). u.target) (cond s (t ∷ filter (λ u. u.block == b) chosen) (filter (λ u. u.block == b) chosen))) e

none_yet : (b : ℕ) → targets_of [] b ≡ []
unfolding targets_of
none_yet b = refl

append_if : (chosen more : List Transfer) (t : Transfer) (b : ℕ) (same : Bool) → (t.block == b) ≡ same → targets_of (chosen ++ more) b ≡ targets_of chosen b ++ targets_of more b
    → targets_of (t ∷ (chosen ++ more)) b ≡ targets_of (t ∷ chosen) b ++ targets_of more b
append_if chosen more t b true e rest =
    targets_if (chosen ++ more) t b true e ∙ ap (λ xs. t.target ∷ xs) rest ∙ ap (λ xs. xs ++ targets_of more b) (sym (targets_if chosen t b true e))
append_if chosen more t b false e rest =
    targets_if (chosen ++ more) t b false e ∙ rest ∙ ap (λ xs. xs ++ targets_of more b) (sym (targets_if chosen t b false e))

pub targets_append : (chosen more : List Transfer) (b : ℕ) → targets_of (chosen ++ more) b ≡ targets_of chosen b ++ targets_of more b
targets_append [] more b = ap (λ xs. xs ++ targets_of more b) (sym (none_yet b))
targets_append (t ∷ chosen) more b = append_if chosen more t b (t.block == b) refl (targets_append chosen more b)

target_of_it : (t : Transfer) (b : ℕ) → t.block ≡ b → targets_of (t ∷ []) b ≡ t.target ∷ []
target_of_it t b e = targets_if [] t b true (eq-eqb t.block b e) ∙ ap (λ xs. t.target ∷ xs) (none_yet b)

pub targets_more : (chosen : List Transfer) (t : Transfer) (b : ℕ) → t.block ≡ b → targets_of (chosen ++ t ∷ []) b ≡ targets_of chosen b ++ t.target ∷ []
targets_more chosen t b e = targets_append chosen (t ∷ []) b ∙ ap (λ xs. targets_of chosen b ++ xs) (target_of_it t b e)

-- a list of holders with one target more
pub joined_more : (xs zs : List ℕ) (chosen : List Transfer) (t : Transfer) (b : ℕ) → t.block ≡ b → zs ≡ xs ++ targets_of chosen b
    → zs ++ t.target ∷ [] ≡ xs ++ targets_of (chosen ++ t ∷ []) b
joined_more xs zs chosen t b e is =
    ap (λ us. us ++ t.target ∷ []) is
    ∙ append_assoc xs (targets_of chosen b) (t.target ∷ [])
    ∙ ap (λ us. xs ++ us) (sym (targets_more chosen t b e))

-- The wishes one after another.

-- no transfer was chosen for any of these wishes
abbrev pub AreFresh : List Transfer → List Wish → Type 0
AreFresh chosen [] = Unit {0}
AreFresh chosen (w ∷ ws) = (targets_of chosen w.block ≡ []) × AreFresh chosen ws

module _ (limits : RoundLimits) (C : Cluster) where
  pub over_append : (chosen : List Transfer) (ws vs : List Wish) → transfers_over limits C chosen (ws ++ vs) ≡ transfers_over limits C (transfers_over limits C chosen ws) vs
  over_append chosen [] vs = refl
  over_append chosen (w ∷ ws) vs = over_append (chosen ++ option_to_list (transfer_by limits C chosen w)) ws vs

  none_where_full : (chosen : List Transfer) (w : Wish) → nat_le (limits.work * len C.nodes) (length chosen) ≡ true → transfer_by limits C chosen w ≡ None
  unfolding transfer_by
  none_where_full chosen w full =
      ap (λ b. cond b None (option_and_then (λ s. option_map (λ t. record { block = w.block; stamp = w.stamp; source = s; target = t })
      (least_target C chosen (record { urgency = w.level; holders = holders_by chosen w; excluded = excluded_by chosen w; len = w.stamp.len })))
      (least_source C chosen w.level (sources_by w)))) full

  -- once the limit of transfers is reached, no more are chosen
  pub full_stays : (chosen : List Transfer) (ws : List Wish) → nat_le (limits.work * len C.nodes) (length chosen) ≡ true → transfers_over limits C chosen ws ≡ chosen
  full_stays chosen [] full = refl
  full_stays chosen (w ∷ ws) full =
      ap (λ o. transfers_over limits C (chosen ++ option_to_list o) ws) (none_where_full chosen w full)
      ∙ ap (λ ts. transfers_over limits C ts ws) (append-nil chosen)
      ∙ full_stays chosen ws full

  of_block : (w : Wish) (s : Option ℕ) (target : ℕ → Option ℕ) (t : Transfer) → option_and_then (λ s. option_map (λ u. record { block = w.block; stamp = w.stamp; source = s; target = u }) (target s)) s ≡ Some t → t.block ≡ w.block
  of_block w None target t e = absurd (false≢true (ap is_some e))
  of_block w (Some s) target t e = by (target s) e
    where
      by : (o : Option ℕ) → option_map (λ u. record { block = w.block; stamp = w.stamp; source = s; target = u }) o ≡ Some t → t.block ≡ w.block
      by None e = absurd (false≢true (ap is_some e))
      by (Some u) e = ap (λ o. option_map_or (λ (v : Transfer). v.block) o w.block) (sym e)

  block_of : (full : Bool) (w : Wish) (o : Option Transfer) (t : Transfer) → (o ≡ Some t → t.block ≡ w.block) → cond full None o ≡ Some t → t.block ≡ w.block
  block_of true w o t of e = absurd (false≢true (ap is_some e))
  block_of false w o t of e = of e

  -- a transfer for a wish is of its block
  wish_block : (chosen : List Transfer) (w : Wish) (t : Transfer) → transfer_by limits C chosen w ≡ Some t → t.block ≡ w.block
  unfolding transfer_by
  wish_block chosen w t e =
      block_of (nat_le (limits.work * len C.nodes) (length chosen)) w _ t
      (of_block w (least_source C chosen w.level (sources_by w)) (λ _. least_target C chosen (record { urgency = w.level; holders = holders_by chosen w; excluded = excluded_by chosen w; len = w.stamp.len })) t) e

  -- choices for a wish keep the targets of other blocks
  other_one : (chosen : List Transfer) (w : Wish) (b : ℕ) (o : Option Transfer) → (w.block == b) ≡ false → ((t : Transfer) → o ≡ Some t → t.block ≡ w.block)
      → targets_of (chosen ++ option_to_list o) b ≡ targets_of chosen b
  other_one chosen w b None other of = ap (λ ts. targets_of ts b) (append-nil chosen)
  other_one chosen w b (Some t) other of =
      targets_append chosen (t ∷ []) b
      ∙ ap (λ us. targets_of chosen b ++ us) (targets_if [] t b false (ap (λ a. a == b) (of t refl) ∙ other) ∙ none_yet b)
      ∙ append-nil (targets_of chosen b)

  other_block : (n : ℕ) (chosen : List Transfer) (w : Wish) (b : ℕ) → (w.block == b) ≡ false → targets_of (transfers_over limits C chosen (replicate n w)) b ≡ targets_of chosen b
  other_block zero chosen w b other = refl
  other_block (suc n) chosen w b other =
      other_block n (chosen ++ option_to_list (transfer_by limits C chosen w)) w b other
      ∙ other_one chosen w b (transfer_by limits C chosen w) other (λ t e. wish_block chosen w t e)

  pub fresh_past : (n : ℕ) (chosen : List Transfer) (w : Wish) (ws : List Wish) → has (map (λ (v : Wish). v.block) ws) w.block ≡ false → AreFresh chosen ws
      → AreFresh (transfers_over limits C chosen (replicate n w)) ws
  fresh_past n chosen w [] apart fresh = tt
  fresh_past n chosen w (v ∷ vs) apart fresh =
      let two = or_parts (v.block == w.block) (has (map (λ (u : Wish). u.block) vs) w.block) apart in
      (other_block n chosen w v.block (equal_back v.block w.block false two.0) ∙ fresh.0, fresh_past n chosen w vs two.1 fresh.1)

  -- one more wish is done
  pub wish_done : (chosen : List Transfer) (w : Wish) (ws : List Wish)
      → transfers_over limits C (transfers_over limits C chosen (replicate w.count w)) (one_by_one ws) ≡ transfers_over limits C chosen (one_by_one (w ∷ ws))
  unfolding one_by_one
  wish_done chosen w ws = sym (over_append chosen (replicate w.count w) (one_by_one ws))

pub all_fresh : (ws : List Wish) → AreFresh [] ws
all_fresh [] = tt
all_fresh (w ∷ ws) = (none_yet w.block, all_fresh ws)

-- the next of the elements that are left
pub next_left : {X : Type 0} (f : X → Wish) (xs : List X) (i : ℕ) (x : X) → x ≡ get_or xs i x → i < length xs → map f (drop i xs) ≡ f x ∷ map f (drop (i + 1) xs)
next_left f xs i x e below = at_drop_more (map f) xs i x below ∙ ap (λ y. f y ∷ map f (drop (i + 1) xs)) (sym e)

pub none_wished : one_by_one [] ≡ []
unfolding one_by_one
none_wished = refl
