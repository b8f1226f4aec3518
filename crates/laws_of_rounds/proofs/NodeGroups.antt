-- A node is commanded the deletes that were chosen for it, and so at most `invalidate` of them.
use Rattle.std.specs.Prelude.{◌≡◌, ℕ, ◌≤◌, Bool, true, false, ◌&&◌, ◌||◌, ◌==◌, if◌then◌else◌, List, [], ◌∷◌, ◌++◌, map, filter, flat_map, length, Some, None}
use Rattle.std.specs.Option.{option_map_or}
use Rattle.std.specs.List.{All}
use Rattle.std.proofs.Common.{cond, refl, sym, ap, subst, ◌∙◌, arith}
use Rattle.std.proofs.lemmas.Bool.{eqb-true, false≢true, true≢false}
use Rattle.std.proofs.lemmas.List.Elements.{All-nil, All-cons}
use Rattle.bm_base.specs.declared.commands.Transfer.{Transfer}
use Rattle.bm_base.specs.declared.commands.Delete.{Delete}
use Rattle.bm_base.specs.declared.commands.NodeCommands.{NodeCommands}
use Rattle.bm_base.specs.Words.{entries, keys, RoundLimits, Cluster, Holdings, State, has, has_repeats, has_storage, node_of, state_after_expiry, state_at_choice, is_deletable, deletable_on, deletes_of, deletes, whole_round, commands_of, node_commands, has_commands}
use Rattle.bm_base.proofs.ForEach.{Each, each_of, each_take, each_mapped, each_filter_by, each_then, each_flat_map}
use Rattle.bm_base.proofs.ListTests.{filter_append, length_take-le, same_again}
use Rattle.bm_base.proofs.OneWish.{once_keys}

-- Groups.

module _ {X : Type 0} where
  pub filter_none : (p : X → Bool) (xs : List X) → Each (λ x. p x ≡ false) xs → filter p xs ≡ []
  filter_none p [] h = refl
  filter_none p (x ∷ xs) h = ap (λ b. cond b (x ∷ filter p xs) (filter p xs)) h.0 ∙ filter_none p xs h.1

  pub filter_all : (p : X → Bool) (xs : List X) → Each (λ x. p x ≡ true) xs → filter p xs ≡ xs
  filter_all p [] h = refl
  filter_all p (x ∷ xs) h = ap (λ b. cond b (x ∷ filter p xs) (filter p xs)) h.0 ∙ ap (λ ys. x ∷ ys) (filter_all p xs h.1)

  append_nil : (xs : List X) → xs ++ [] ≡ xs
  append_nil [] = refl
  append_nil (x ∷ xs) = ap (λ ys. x ∷ ys) (append_nil xs)

  module _ (f : ℕ → List X) (on : ℕ → X → Bool) (apart : (n k : ℕ) (x : X) → on n x ≡ true → on k x ≡ true → n ≡ k) (each : (n : ℕ) → Each (λ x. on n x ≡ true) (f n)) where
    elsewhere : (n k : ℕ) → (k == n) ≡ false → (x : X) → on k x ≡ true → on n x ≡ false
    elsewhere n k e x here = elim (on n x) as (λ b. on n x ≡ b → b ≡ false) [
      | true ↦ λ there. absurd (true≢false (sym (eq_at k n (apart k n x here there)) ∙ e))
      | false ↦ λ _. refl
    ] refl
      where
        eq_at : (a c : ℕ) → a ≡ c → (a == c) ≡ true
        eq_at a c h = ap (λ z. a == z) (sym h) ∙ same_again a

    -- a filter for one number leaves the piece of that number, of the pieces of all
    pub grouped : (n : ℕ) (ns : List ℕ) → has_repeats ns ≡ false → filter (on n) (flat_map f ns) ≡ cond (has ns n) (f n) []
    grouped n [] once = refl
    grouped n (k ∷ ns) once =
        filter_append (on n) (f k) (flat_map f ns)
        ∙ (elim (has ns k) as (λ t. has ns k ≡ t → (t || has_repeats ns) ≡ false → filter (on n) (f k) ++ filter (on n) (flat_map f ns) ≡ cond ((k == n) || has ns n) (f n) []) [
          | true ↦ λ _ e. absurd (true≢false e)
          | false ↦ λ none rest.
              (elim (k == n) as (λ b. (k == n) ≡ b → filter (on n) (f k) ++ filter (on n) (flat_map f ns) ≡ cond (b || has ns n) (f n) []) [
                | true ↦ λ e.
                    let is : k ≡ n = eqb-true k n e in
                    ap (λ xs. filter (on n) (f k) ++ xs) (grouped n ns rest ∙ ap (λ b. cond b (f n) []) (subst (λ z. has ns z ≡ false) is none))
                    ∙ append_nil (filter (on n) (f k)) ∙ ap (λ z. filter (on n) (f z)) is ∙ filter_all (on n) (f n) (each n)
                | false ↦ λ e.
                    ap (λ xs. xs ++ filter (on n) (flat_map f ns)) (filter_none (on n) (f k) (each_then (λ x. on k x ≡ true) (λ x. on n x ≡ false) (f k) (each k) (elsewhere n k e)))
                    ∙ grouped n ns rest
              ]) refl
        ]) refl once

-- Deletes of one node.

pub on_one_node : (C : Cluster) (n k s : ℕ) → has_storage C n s ≡ true → has_storage C k s ≡ true → n ≡ k
unfolding has_storage
on_one_node C n k s = elim (node_of C s) as (λ o. option_map_or (λ m. m == n) o false ≡ true → option_map_or (λ m. m == k) o false ≡ true → n ≡ k) [
  | None ↦ λ e _. absurd (false≢true e)
  | Some m ↦ λ e f. sym (eqb-true m n e) ∙ eqb-true m k f
]

module _ (limits : RoundLimits) (C : Cluster) (H : Holdings) where
  on_node_where : (n s : ℕ) (b : Bool) → has_storage C n s ≡ b → Each (λ (d : Delete). has_storage C n d.storage ≡ true) (if b then deletable_on C H s else [])
  unfolding deletable_on
  on_node_where n s true e =
      each_mapped (λ (d : Delete). has_storage C n d.storage ≡ true) (λ f. record { storage = s; block = f.0.block }) (filter (λ f. (f.0.storage == s) && is_deletable C H f.0 f.1) (entries H.replicas))
      (each_of (λ _. has_storage C n s ≡ true) (filter (λ f. (f.0.storage == s) && is_deletable C H f.0 f.1) (entries H.replicas)) (λ _. e))
  on_node_where n s false e = tt

  pub each_on_node : (n : ℕ) → Each (λ (d : Delete). has_storage C n d.storage ≡ true) (deletes_of limits C H n)
  unfolding deletes_of
  each_on_node n =
      each_take (λ (d : Delete). has_storage C n d.storage ≡ true) limits.invalidate (flat_map (λ s. if has_storage C n s then deletable_on C H s else []) (keys C.storages))
      (each_flat_map (λ _. Unit {0}) (λ (d : Delete). has_storage C n d.storage ≡ true) (λ s. if has_storage C n s then deletable_on C H s else []) (λ s _. on_node_where n s (has_storage C n s) refl) (keys C.storages)
      (each_of (λ _. Unit {0}) (keys C.storages) (λ _. tt)))

  -- the chosen deletes on a node are those chosen for it
  pub deletes_on_node : (n : ℕ) → filter (λ (d : Delete). has_storage C n d.storage) (deletes limits C H) ≡ cond (has (keys C.nodes) n) (deletes_of limits C H n) []
  unfolding deletes
  deletes_on_node n =
      grouped (deletes_of limits C H) (λ k d. has_storage C k d.storage) (λ k l d. on_one_node C k l d.storage) each_on_node n (keys C.nodes) (once_keys C.nodes)

  few_of : (n : ℕ) → length (deletes_of limits C H n) ≤ limits.invalidate
  unfolding deletes_of
  few_of n = length_take-le limits.invalidate _

  few_by : (n : ℕ) (b : Bool) → length (cond b (deletes_of limits C H n) []) ≤ limits.invalidate
  few_by n true = few_of n
  few_by n false = omega arith

  pub few_on_node : (n : ℕ) → length (filter (λ (d : Delete). has_storage C n d.storage) (deletes limits C H)) ≤ limits.invalidate
  few_on_node n = subst (λ xs. length xs ≤ limits.invalidate) (sym (deletes_on_node n)) (few_by n (has (keys C.nodes) n))

pub all_of_each : {X : Type 0} (P : X → Type 0) (xs : List X) → Each P xs → All P xs
all_of_each P [] h = All-nil P
all_of_each P (x ∷ xs) h = All-cons P x xs h.0 (all_of_each P xs h.1)

-- a property of every node's commands holds of all commands of a round
pub each_node : (C : Cluster) (r : ℕ) (ts : List Transfer) (ds : List Delete) (P : NodeCommands → Type 0) → ((n : ℕ) → P (node_commands C ts ds n)) → Each P (commands_of C r ts ds).nodes
unfolding commands_of
each_node C r ts ds P h =
    each_filter_by P has_commands P (λ k p _. p) (map (node_commands C ts ds) (keys C.nodes)) (each_mapped P (node_commands C ts ds) (keys C.nodes) (each_of (λ n. P (node_commands C ts ds n)) (keys C.nodes) h))

few_commanded : (limits : RoundLimits) (C : Cluster) (H : Holdings) (ts : List Transfer) (n : ℕ) → length (node_commands C ts (deletes limits C H) n).deletes ≤ limits.invalidate
unfolding node_commands
few_commanded limits C H ts n = few_on_node limits C H n

pub few_a_node : (M : State) → All (λ (k : NodeCommands). length k.deletes ≤ M.limits.invalidate) (whole_round M).0.nodes
unfolding whole_round state_at_choice state_after_expiry
few_a_node M =
    all_of_each (λ (k : NodeCommands). length k.deletes ≤ M.limits.invalidate) (whole_round M).0.nodes
    (each_node M.cluster _ _ _ (λ k. length k.deletes ≤ M.limits.invalidate) (few_commanded M.limits M.cluster _ _))
