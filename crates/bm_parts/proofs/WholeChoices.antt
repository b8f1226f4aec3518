-- The transfers and deletes chosen from the holdings' lists of wishes and deletes are a round's.
use Rattle.std.proofs.Common.{◌≡◌, ℕ, zero, suc, Bool, true, false, cond, List, [], ◌∷◌, ◌++◌, map, filter, flat_map, Option, Some, None, refl, sym, ap, subst, ◌∙◌, arith, append_assoc}
use Rattle.std.specs.Prelude.{◌*◌, if◌then◌else◌, nat_lt, nat_le, option_and_then, option_map, option_to_list, filter_map, length, take, replicate}
use Rattle.std.specs.Option.{option_map_or}
use Rattle.std.specs.List.{cons_option}
use Rattle.std.proofs.lemmas.Bool.Decides.{nat_tests}
use Rattle.bm_base.specs.declared.replica.BlockInfo.{BlockInfo}
use Rattle.bm_base.specs.declared.replica.Level.{Level}
use Rattle.bm_base.specs.declared.replica.Level.TheVariants.{Highest, VeryUnderReplicated, UnderReplicated, BadlyDistributed}
use Rattle.bm_base.specs.declared.commands.Transfer.{Transfer}
use Rattle.bm_base.specs.declared.commands.Delete.{Delete}
use Rattle.bm_base.specs.Words.{get, keys, len, RoundLimits, Cluster, Holdings, sources_of, has_storage, level, is_at, RequestedCopy, requested_count, wishes_for, wishes, holders_of, excluded_for, least_source, least_target, transfer_for, transfers_from, transfers, deletable_on, deletes_of, deletes}
use Rattle.bm_base.specs.declared.round.Wish.{Wish}
use Rattle.bm_base.specs.RoundParts.{wish_of, wish_at, wishes_by_block, deletable}
use Rattle.bm_base.specs.Choices.{one_by_one, transfer_by, transfers_over, first_of_each_node}
use Rattle.bm_base.proofs.ForEach.{Each, each_appended}
use Rattle.bm_base.proofs.SortedParts.{wish_is, each_on_storage, filter_flat_map}

pub flat_map_same : {X Y : Type 0} (f g : X → List Y) → ((x : X) → f x ≡ g x) → (xs : List X) → flat_map f xs ≡ flat_map g xs
flat_map_same f g same [] = refl
flat_map_same f g same (x ∷ xs) = λ j. same x j ++ flat_map_same f g same xs j

-- Transfers.

none_wished : (n : ℕ) → nat_lt 0 n ≡ false → n ≡ 0
none_wished n e = grind (arith, nat_tests, e)

module _ (limits : RoundLimits) (C : Cluster) (G : Holdings) where
  -- the wish is the one that the holdings give its block at its level
  abbrev IsOf : Wish → Type 0
  IsOf w = (i : BlockInfo) × (get G.blocks w.block ≡ Some i) × (wish_of C G w.level w.block i ≡ w)

  abbrev copy : Wish → RequestedCopy
  copy w = record { urgency = w.level; block = w.block }

  one_transfer : (chosen : List Transfer) (l : Level) (b : ℕ) (i : BlockInfo) → get G.blocks b ≡ Some i → transfer_by limits C chosen (wish_of C G l b i) ≡ transfer_for limits C G chosen (record { urgency = l; block = b })
  unfolding transfer_by transfer_for holders_of excluded_for
  one_transfer chosen l b i known =
      ap (λ o. if nat_le (limits.work * len C.nodes) (length chosen) then None
      else option_and_then (λ (i : BlockInfo). option_and_then (λ s. option_map (λ t. record { block = b; stamp = i.stamp; source = s; target = t })
      (least_target C chosen (record { urgency = l; holders = holders_of C G chosen b; excluded = excluded_for G chosen b; len = i.stamp.len })))
      (least_source C chosen l (sources_of C G b)))
      o) (sym known)

  transfer_is : (chosen : List Transfer) (w : Wish) → IsOf w → transfer_by limits C chosen w ≡ transfer_for limits C G chosen (copy w)
  transfer_is chosen w of = ap (transfer_by limits C chosen) (sym of.2) ∙ one_transfer chosen w.level w.block of.0 of.1

  transfers_are : (chosen : List Transfer) (ws : List Wish) → Each IsOf ws → transfers_over limits C chosen ws ≡ transfers_from limits C G chosen (map copy ws)
  transfers_are chosen [] each = refl
  transfers_are chosen (w ∷ ws) each =
      transfers_are (chosen ++ option_to_list (transfer_by limits C chosen w)) ws each.1
      ∙ ap (λ o. transfers_from limits C G (chosen ++ option_to_list o) (map copy ws)) (transfer_is chosen w each.0)

  -- each wish once for each of its copies
  each_replicated : (n : ℕ) (w : Wish) → IsOf w → Each IsOf (replicate n w)
  each_replicated zero w of = tt
  each_replicated (suc n) w of = (of, each_replicated n w of)

  each_one_by_one : (ws : List Wish) → Each IsOf ws → Each IsOf (flat_map (λ w. replicate w.count w) ws)
  each_one_by_one [] each = tt
  each_one_by_one (w ∷ ws) each = each_appended IsOf (replicate w.count w) _ (each_replicated w.count w each.0) (each_one_by_one ws each.1)

  each_made : (l : Level) (bs : List ℕ) → Each IsOf (filter_map (wish_at C G l) bs)
  each_made l [] = tt
  each_made l (b ∷ bs) = by (wish_at C G l b) refl (each_made l bs)
    where
      by : (o : Option Wish) → wish_at C G l b ≡ o → Each IsOf (filter_map (wish_at C G l) bs) → Each IsOf (cons_option o (filter_map (wish_at C G l) bs))
      by None e rest = rest
      by (Some w) e rest = let is = wish_is C G l b w e in (subst IsOf is.2 (is.0, is.1, refl), rest)

  each_wish : Each IsOf (wishes_by_block C G)
  unfolding wishes_by_block
  each_wish =
      each_appended IsOf _ _ (each_made Highest (keys G.blocks)) (each_appended IsOf _ _ (each_made VeryUnderReplicated (keys G.blocks))
      (each_appended IsOf _ _ (each_made UnderReplicated (keys G.blocks)) (each_appended IsOf _ _ (each_made BadlyDistributed (keys G.blocks)) tt)))

  map_replicated : (n : ℕ) (w : Wish) → map copy (replicate n w) ≡ replicate n (copy w)
  map_replicated zero w = refl
  map_replicated (suc n) w = ap (λ ws. copy w ∷ ws) (map_replicated n w)

  map_append : (xs ys : List Wish) → map copy (xs ++ ys) ≡ map copy xs ++ map copy ys
  map_append [] ys = refl
  map_append (x ∷ xs) ys = ap (λ zs. copy x ∷ zs) (map_append xs ys)

  -- the wish, if there is one, as a list of copies
  abbrev copies : Option Wish → List RequestedCopy
  copies o = option_map_or (λ w. replicate w.count (copy w)) o []

  copies_by : (t : Bool) (l : Level) (b : ℕ) (o : Option BlockInfo)
      → copies (if t then option_and_then (λ i. if nat_lt 0 (requested_count C G l i.repl b) then Some (wish_of C G l b i) else None) o else None)
      ≡ (if t then option_map_or (λ i. replicate (requested_count C G l i.repl b) (record { urgency = l; block = b })) o [] else [])
  copies_by false l b o = refl
  copies_by true l b None = refl
  copies_by true l b (Some i) = by (nat_lt 0 (requested_count C G l i.repl b)) refl
    where
      by : (t : Bool) → nat_lt 0 (requested_count C G l i.repl b) ≡ t → copies (if t then Some (wish_of C G l b i) else None) ≡ replicate (requested_count C G l i.repl b) (record { urgency = l; block = b })
      by true e = refl
      by false e = ap (λ n. replicate n (record { urgency = l; block = b })) (sym (none_wished (requested_count C G l i.repl b) e))

  copies_at : (l : Level) (b : ℕ) → copies (wish_at C G l b) ≡ wishes_for C G l b
  unfolding wish_at wishes_for
  copies_at l b = copies_by (is_at l (level C G b)) l b (get G.blocks b)

  of_level : (l : Level) (bs : List ℕ) → map copy (flat_map (λ w. replicate w.count w) (filter_map (wish_at C G l) bs)) ≡ flat_map (wishes_for C G l) bs
  of_level l [] = refl
  of_level l (b ∷ bs) = by (wish_at C G l b) refl (of_level l bs)
    where
      by : (o : Option Wish) → wish_at C G l b ≡ o → map copy (flat_map (λ w. replicate w.count w) (filter_map (wish_at C G l) bs)) ≡ flat_map (wishes_for C G l) bs
          → map copy (flat_map (λ w. replicate w.count w) (cons_option o (filter_map (wish_at C G l) bs))) ≡ wishes_for C G l b ++ flat_map (wishes_for C G l) bs
      by None e rest = rest ∙ ap (λ xs. xs ++ flat_map (wishes_for C G l) bs) (ap copies (sym e) ∙ copies_at l b)
      by (Some w) e rest =
          map_append (replicate w.count w) (flat_map (λ w. replicate w.count w) (filter_map (wish_at C G l) bs))
          ∙ (λ j. map_replicated w.count w j ++ rest j) ∙ ap (λ xs. xs ++ flat_map (wishes_for C G l) bs) (ap copies (sym e) ∙ copies_at l b)

  flat_append : (xs ys : List Wish) → flat_map (λ (w : Wish). replicate w.count w) (xs ++ ys) ≡ flat_map (λ (w : Wish). replicate w.count w) xs ++ flat_map (λ (w : Wish). replicate w.count w) ys
  flat_append [] ys = refl
  flat_append (x ∷ xs) ys = ap (λ zs. replicate x.count x ++ zs) (flat_append xs ys) ∙ sym (append_assoc (replicate x.count x) _ _)

  of_levels : (ls : List Level) → map copy (flat_map (λ w. replicate w.count w) (flat_map (λ l. filter_map (wish_at C G l) (keys G.blocks)) ls)) ≡ flat_map (λ l. flat_map (wishes_for C G l) (keys G.blocks)) ls
  of_levels [] = refl
  of_levels (l ∷ ls) =
      ap (map copy) (flat_append (filter_map (wish_at C G l) (keys G.blocks)) (flat_map (λ l. filter_map (wish_at C G l) (keys G.blocks)) ls))
      ∙ map_append (flat_map (λ w. replicate w.count w) (filter_map (wish_at C G l) (keys G.blocks))) _
      ∙ (λ j. of_level l (keys G.blocks) j ++ of_levels ls j)

  copies_are_wishes : map copy (one_by_one (wishes_by_block C G)) ≡ wishes C G
  unfolding one_by_one wishes_by_block wishes
  copies_are_wishes = of_levels (Highest ∷ VeryUnderReplicated ∷ UnderReplicated ∷ BadlyDistributed ∷ [])

  each_copy : Each IsOf (one_by_one (wishes_by_block C G))
  unfolding one_by_one
  each_copy = each_one_by_one (wishes_by_block C G) each_wish

  pub transfers_of_wishes : transfers_over limits C [] (one_by_one (wishes_by_block C G)) ≡ transfers limits C G
  unfolding transfers
  transfers_of_wishes = transfers_are [] (one_by_one (wishes_by_block C G)) each_copy ∙ ap (transfers_from limits C G []) copies_are_wishes

  -- Deletes.

  all_pass : (n s : ℕ) (b : Bool) → has_storage C n s ≡ b → (ds : List Delete) → Each (λ d. d.storage ≡ s) ds → (if b then ds else []) ≡ filter (λ d. has_storage C n d.storage) ds
  all_pass n s true e [] each = refl
  all_pass n s false e [] each = refl
  all_pass n s true e (d ∷ ds) each = ap (λ xs. d ∷ xs) (all_pass n s true e ds each.1) ∙ ap (λ c. cond c (d ∷ filter (λ (d : Delete). has_storage C n d.storage) ds) (filter (λ (d : Delete). has_storage C n d.storage) ds)) (sym (ap (has_storage C n) each.0 ∙ e))
  all_pass n s false e (d ∷ ds) each = all_pass n s false e ds each.1 ∙ ap (λ c. cond c (d ∷ filter (λ (d : Delete). has_storage C n d.storage) ds) (filter (λ (d : Delete). has_storage C n d.storage) ds)) (sym (ap (has_storage C n) each.0 ∙ e))

  of_node : (n : ℕ) → take limits.invalidate (filter (λ d. has_storage C n d.storage) (deletable C G)) ≡ deletes_of limits C G n
  unfolding deletable deletes_of
  of_node n =
      ap (take limits.invalidate) (sym (filter_flat_map (λ (d : Delete). has_storage C n d.storage) (deletable_on C G) (λ s. if has_storage C n s then deletable_on C G s else [])
      (λ s. all_pass n s (has_storage C n s) refl (deletable_on C G s) (each_on_storage C G s)) (keys C.storages)))

  pub deletes_of_nodes : first_of_each_node limits C (deletable C G) ≡ deletes limits C G
  unfolding first_of_each_node deletes
  deletes_of_nodes = flat_map_same _ _ of_node (keys C.nodes)
