-- If nothing is deletable no delete is chosen; if nothing is chosen no node gets a command.
use Rattle.std.proofs.Common.{◌≡◌, ℕ, zero, suc, true, false, cond, List, [], ◌∷◌, ◌++◌, map, filter, flat_map, take, length, refl, sym, ap, subst, ◌∙◌}
use Rattle.std.specs.Prelude.{◌==◌}
use Rattle.std.proofs.lemmas.Bool.{eqb-true}
use Rattle.std.proofs.lemmas.List.{nil_from_length}
use Rattle.bm_base.specs.declared.commands.Transfer.{Transfer}
use Rattle.bm_base.specs.declared.commands.Delete.{Delete}
use Rattle.bm_base.specs.Words.{keys, RoundLimits, Cluster, node_commands, has_commands}
use Rattle.bm_base.specs.Choices.{first_of_each_node}

pub none_there : {X : Type 0} (xs : List X) → (length xs == 0) ≡ true → xs ≡ []
none_there xs h = nil_from_length xs (eqb-true (length xs) 0 h)

none_taken : (n : ℕ) → ◌≡◌ {A = List Delete} (take n []) []
none_taken zero = refl
none_taken (suc n) = refl

flat_none : {X : Type 0} (f : ℕ → List X) → ((n : ℕ) → f n ≡ []) → (ns : List ℕ) → flat_map f ns ≡ []
flat_none f none [] = refl
flat_none f none (n ∷ ns) = λ j. none n j ++ flat_none f none ns j

pub none_first : (limits : RoundLimits) (C : Cluster) (ds : List Delete) → ds ≡ [] → [] ≡ first_of_each_node limits C ds
unfolding first_of_each_node
none_first limits C ds none = subst (λ (xs : List Delete). [] ≡ first_of_each_node limits C xs) (sym none) (sym (flat_none (λ _. take limits.invalidate []) (λ _. none_taken limits.invalidate) (keys C.nodes)))

no_commands : (C : Cluster) (n : ℕ) → has_commands (node_commands C [] [] n) ≡ false
unfolding node_commands
no_commands C n = refl

none_of : (C : Cluster) (ns : List ℕ) → filter has_commands (map (node_commands C [] []) ns) ≡ []
none_of C [] = refl
none_of C (n ∷ ns) =
    let rest = filter has_commands (map (node_commands C [] []) ns) in
    ap (λ b. cond b (node_commands C [] [] n ∷ rest) rest) (no_commands C n) ∙ none_of C ns

pub none_commanded : (C : Cluster) (ts : List Transfer) (ds : List Delete) → ts ≡ [] → ds ≡ [] → [] ≡ filter has_commands (map (node_commands C ts ds) (keys C.nodes))
none_commanded C ts ds no_transfer no_delete = sym ((λ j. filter has_commands (map (node_commands C (no_transfer j) (no_delete j)) (keys C.nodes))) ∙ none_of C (keys C.nodes))
