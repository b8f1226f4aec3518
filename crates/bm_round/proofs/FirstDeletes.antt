-- Adding deletes one by one, up to `invalidate` a node, gives the first deletes of each node.
use Rattle.std.proofs.Common.{◌≡◌, ◌<◌, ◌≤◌, ℕ, Bool, true, false, cond, nat_lt, List, [], ◌∷◌, ◌++◌, map, flat_map, take, length, take_all, append-nil, refl, sym, ap, ◌∙◌, arith}
use Rattle.std.proofs.lemmas.Bool.{ltb-true, ltb-false, lt-ltb, le-ltb}
use Rattle.std.proofs.lemmas.Bool.Decides.{nat_tests}
use Rattle.std.proofs.lemmas.List.{length-append, length-take-le, take-append-le}
use Rattle.std.proofs.lemmas.List.Folds.{flat_map-map}
use Rattle.bm_base.specs.declared.commands.Delete.{Delete}
use Rattle.bm_base.specs.declared.commands.NodeCommands.{NodeCommands}
use Rattle.bm_base.specs.Words.{keys, RoundLimits, Cluster, has_storage, node_commands}
use Rattle.bm_base.specs.Choices.{first_of_each_node}
use Rattle.bm_round.specs.RoundCommands.{first_commands, first_by_node}
use Rattle.bm_round.proofs.AddedCommands.{other_delete, own_delete}

pub firsts_are : (limits : RoundLimits) (C : Cluster) (ds : List Delete) → flat_map (λ (k : NodeCommands). k.deletes) (first_by_node limits.invalidate C ds) ≡ first_of_each_node limits C ds
unfolding first_of_each_node node_commands
firsts_are limits C ds = flat_map-map (λ (k : NodeCommands). k.deletes) (first_commands limits.invalidate C ds) (keys C.nodes)

-- one more after the first n
first_more : {X : Type 0} (most : ℕ) (xs : List X) (x : X) → take most xs ++ cond (nat_lt (length (take most xs)) most) (x ∷ []) [] ≡ take most (xs ++ x ∷ [])
first_more most xs x = by (nat_lt (length xs) most) refl
  where
    never : (n : ℕ) → nat_lt n n ≡ false
    never n = grind (arith, nat_tests)

    by : (b : Bool) → nat_lt (length xs) most ≡ b → take most xs ++ cond (nat_lt (length (take most xs)) most) (x ∷ []) [] ≡ take most (xs ++ x ∷ [])
    by true fits =
        let less : length xs < most = ltb-true (length xs) most fits in
        let all : take most xs ≡ xs = take_all most xs (omega (arith, less)) in
        ap (λ ys. ys ++ cond (nat_lt (length ys) most) (x ∷ []) []) all ∙ ap (λ b. xs ++ cond b (x ∷ []) []) fits
        ∙ sym (take_all most (xs ++ x ∷ []) (omega (arith, less, length-append xs (x ∷ []))))
    by false full =
        let enough : most ≤ length xs = ltb-false (length xs) most full in
        let same : length (take most xs) ≡ most = length-take-le most xs enough in
        ap (λ n. take most xs ++ cond (nat_lt n most) (x ∷ []) []) same
        ∙ ap (λ b. take most xs ++ cond b (x ∷ []) []) (never most)
        ∙ append-nil (take most xs) ∙ sym (take-append-le most xs (x ∷ []) enough)

module _ (most : ℕ) (C : Cluster) (ds : List Delete) (d : Delete) where
  -- one more delete, if the limit allows it
  abbrev pub with_first : NodeCommands → NodeCommands
  with_first k = record k { deletes = k.deletes ++ cond (nat_lt (length k.deletes) most) (d ∷ []) [] }

  pub other_first : (n : ℕ) → has_storage C n d.storage ≡ false → first_commands most C ds n ≡ first_commands most C (ds ++ d ∷ []) n
  other_first n e = ap (λ (k : NodeCommands). record k { deletes = take most k.deletes }) (other_delete C [] ds d n e)

  pub own_first : (n : ℕ) → has_storage C n d.storage ≡ true → with_first (first_commands most C ds n) ≡ first_commands most C (ds ++ d ∷ []) n
  own_first n e =
      ap (λ us. record (node_commands C [] ds n) { deletes = us }) (first_more most (node_commands C [] ds n).deletes d)
      ∙ ap (λ (k : NodeCommands). record k { deletes = take most k.deletes }) (own_delete C [] ds d n e)

  pub adds_below_most : (k : NodeCommands) → length k.deletes < most → with_first k ≡ record k { deletes = k.deletes ++ d ∷ [] }
  adds_below_most k less = ap (λ b. record k { deletes = k.deletes ++ cond b (d ∷ []) [] }) (lt-ltb (length k.deletes) most less)

  pub keeps_at_most : (k : NodeCommands) → most ≤ length k.deletes → with_first k ≡ k
  keeps_at_most k full =
      ap (λ b. record k { deletes = k.deletes ++ cond b (d ∷ []) [] }) (le-ltb (length k.deletes) most full)
      ∙ ap (λ us. record k { deletes = us }) (append-nil k.deletes)

-- without deletes there are no first deletes
pub first_of_none : (most : ℕ) (C : Cluster) (ns : List ℕ) → map (node_commands C [] []) ns ≡ map (first_commands most C []) ns
unfolding node_commands
first_of_none most C [] = refl
first_of_none most C (n ∷ ns) = λ i. none n i ∷ first_of_none most C ns i
  where
    none : (n : ℕ) → node_commands C [] [] n ≡ first_commands most C [] n
    none n = ap (λ us. record (node_commands C [] [] n) { deletes = us }) (sym (take_all most [] (omega arith)))
