-- Two copies of one block that a round chooses or commands go to different nodes.
use Rattle.std.specs.Prelude.{◌≡◌, ℕ, ◌⊎◌, Bool, true, false, List, [], ◌∷◌, ◌++◌, map, filter, flat_map}
use Rattle.std.proofs.Common.{cond, sym, refl, ap, subst, ◌∙◌, inl, inr}
use Rattle.std.proofs.lemmas.Bool.{true≢false, or_parts}
use Rattle.bm_base.specs.declared.commands.Transfer.{Transfer}
use Rattle.bm_base.specs.declared.commands.Delete.{Delete}
use Rattle.bm_base.specs.declared.commands.NodeCommands.{NodeCommands}
use Rattle.bm_base.specs.Words.{keys, Cluster, State, has, has_repeats, node_of, has_storage, state_after_expiry, state_at_choice, node_commands, has_commands, commands_of, whole_round}
use Rattle.bm_base.specs.Promises.NextRound.{IsAmong, IsTransferCommanded, transfers_chosen, transfers_commanded}
use Rattle.bm_base.proofs.ForEach.{Each, each_then, each_appended, each_filtered, each_mapped, each_filter_by, each_flat_map}
use Rattle.laws_of_states.proofs.RoundCommands.{chosen_deletes_of}
use Rattle.laws_of_rounds.proofs.NodeGroups.{on_one_node}
use Rattle.bm_base.proofs.OneWish.{once_keys}
use Rattle.laws_of_rounds.proofs.TransferLaws.{fresh_node}
use Rattle.laws_of_rounds.proofs.NextRounds.{each_among, each_is, commanded_chosen}
use Rattle.laws_of_rounds.proofs.NodeCommands.{among_cons, cons_head, cons_tail, has_among, no_cons}

-- Pairs in a list.

-- R holds of each pair in the list, the earlier item first
abbrev pub OfTwo : {X : Type 0} → (X → X → Type 0) → List X → Type 0
OfTwo R [] = Unit {0}
OfTwo R (x ∷ xs) = Each (R x) xs × OfTwo R xs

of_two : {X : Type 0} (R : X → X → Type 0) (xs : List X) → ((front back : List X) (y : X) → xs ≡ front ++ y ∷ back → (x : X) → IsAmong front x → R x y) → OfTwo R xs
of_two R [] f = tt
of_two R (x ∷ xs) f = (
  each_then (IsAmong xs) (R x) xs (each_among xs) (λ y at. f (x ∷ at.0) at.1 y (ap (λ zs. x ∷ zs) at.2) x ([], at.0, refl)),
  of_two R xs (λ front back y is z at. f (x ∷ front) back y (ap (λ zs. x ∷ zs) is) z (among_cons x front z at)),
)

among_parts : {X : Type 0} (x : X) (xs : List X) (y : X) → IsAmong (x ∷ xs) y → (x ≡ y) ⊎ IsAmong xs y
among_parts x xs y ([], back, is) = inl (cons_head x y xs back is)
among_parts x xs y (z ∷ front, back, is) = inr (front, back, cons_tail x z xs (front ++ y ∷ back) is)

-- two items of the list are the same, or R holds of them
one_or_two : {X : Type 0} (R : X → X → Type 0) → ((x y : X) → R x y → R y x) → (xs : List X) (x y : X) → OfTwo R xs → IsAmong xs x → IsAmong xs y → (x ≡ y) ⊎ R x y
one_or_two R turned [] x y h here there = absurd (no_cons here.0 here.1 x here.2)
one_or_two R turned (z ∷ xs) x y h here there = by_parts (among_parts z xs x here) (among_parts z xs y there) (one_or_two R turned xs x y h.1)
  where
    by_parts : (z ≡ x) ⊎ IsAmong xs x → (z ≡ y) ⊎ IsAmong xs y → (IsAmong xs x → IsAmong xs y → (x ≡ y) ⊎ R x y) → (x ≡ y) ⊎ R x y
    by_parts (inl a) (inl b) rest = inl (sym a ∙ b)
    by_parts (inl a) (inr b) rest = inr (subst (λ w. R w y) a (each_is (R z) xs y h.0 b))
    by_parts (inr a) (inl b) rest = inr (turned y x (subst (λ w. R w x) b (each_is (R z) xs x h.0 a)))
    by_parts (inr a) (inr b) rest = rest a b

of_two_append : {X : Type 0} (R : X → X → Type 0) (xs ys : List X) → OfTwo R xs → OfTwo R ys → Each (λ x. Each (R x) ys) xs → OfTwo R (xs ++ ys)
of_two_append R [] ys h k across = k
of_two_append R (x ∷ xs) ys h k across = (each_appended (R x) xs ys h.0 across.0, of_two_append R xs ys h.1 k across.1)

of_two_filter : {X : Type 0} (R : X → X → Type 0) (p : X → Bool) (xs : List X) → OfTwo R xs → OfTwo R (filter p xs)
of_two_filter R p [] h = tt
of_two_filter R p (x ∷ xs) h =
    let rest = of_two_filter R p xs h.1 in
    elim (p x) as (λ b. OfTwo R (cond b (x ∷ filter p xs) (filter p xs))) [
      | true ↦ (each_filtered (R x) p xs h.0, rest)
      | false ↦ rest
    ]

-- Targets.

-- the two are not copies of one block to one node
abbrev pub GoApart : Cluster → Transfer → Transfer → Type 0
GoApart C t u = t.block ≡ u.block → node_of C t.target ≡ node_of C u.target → ⊥

pub targets_apart : (M : State) → OfTwo (GoApart M.cluster) (transfers_chosen M)
targets_apart M = of_two (GoApart M.cluster) (transfers_chosen M) (λ front back u is t at same node. (fresh_node M front back u is).no_other t at same node)

turned : (C : Cluster) (t u : Transfer) → GoApart C t u → GoApart C u t
turned C t u apart is at = apart (sym is) (sym at)

-- two commanded copies of one block to one node are the same
pub one_copy : (M : State) (t u : Transfer) → IsTransferCommanded M t → IsTransferCommanded M u → t.block ≡ u.block → node_of M.cluster t.target ≡ node_of M.cluster u.target → t ≡ u
one_copy M t u h k same node =
    by_two (one_or_two (GoApart M.cluster) (turned M.cluster) (transfers_chosen M) t u (targets_apart M) (commanded_chosen M t h) (commanded_chosen M u k))
  where
    by_two : (t ≡ u) ⊎ GoApart M.cluster t u → t ≡ u
    by_two (inl is) = is
    by_two (inr apart) = absurd (apart same node)

-- The commands of nodes.

module _ (C : Cluster) (ts : List Transfer) (ds : List Delete) (apart : OfTwo (GoApart C) ts) where
  abbrev commanded : List ℕ → List Transfer
  commanded ns = flat_map (λ (k : NodeCommands). k.transfers) (filter has_commands (map (node_commands C ts ds) ns))

  abbrev IsOf : List ℕ → Transfer → Type 0
  IsOf ns t = IsAmong ts t × (n : ℕ) × (has ns n ≡ true) × (has_storage C n t.source ≡ true)

  each_of_nodes : (ns : List ℕ) → Each (IsOf ns) (commanded ns)
  unfolding node_commands
  each_of_nodes ns =
      each_flat_map (λ (k : NodeCommands). Each (IsOf ns) k.transfers) (IsOf ns) (λ k. k.transfers) (λ k each. each) (filter has_commands (map (node_commands C ts ds) ns))
      (each_filtered (λ (k : NodeCommands). Each (IsOf ns) k.transfers) has_commands (map (node_commands C ts ds) ns)
      (each_mapped (λ (k : NodeCommands). Each (IsOf ns) k.transfers) (node_commands C ts ds) ns
      (each_then (IsAmong ns) (λ n. Each (IsOf ns) (node_commands C ts ds n).transfers) ns (each_among ns) (λ n at.
      each_filter_by (IsAmong ts) (λ (t : Transfer). has_storage C n t.source) (IsOf ns) (λ t there on. (there, n, has_among ns n at, on)) ts (each_among ts)))))

  -- a copy from one node, and one from the other nodes
  across : (n : ℕ) (ns : List ℕ) → has ns n ≡ false → (t u : Transfer) → IsAmong ts t → has_storage C n t.source ≡ true → IsOf ns u → GoApart C t u
  across n ns none t u there on is = by_two (one_or_two (GoApart C) (turned C) ts t u apart there is.0)
    where
      by_two : (t ≡ u) ⊎ GoApart C t u → GoApart C t u
      by_two (inl same) =
          let node = on_one_node C n is.1 t.source on (subst (λ (x : Transfer). has_storage C is.1 x.source ≡ true) (sym same) is.3) in
          absurd (true≢false (sym is.2 ∙ ap (has ns) (sym node) ∙ none))
      by_two (inr two) = two

  apart_commanded : (ns : List ℕ) → has_repeats ns ≡ false → OfTwo (GoApart C) (commanded ns)
  unfolding node_commands
  apart_commanded [] once = tt
  apart_commanded (n ∷ ns) once =
      let parts = or_parts (has ns n) (has_repeats ns) once in
      let rest = apart_commanded ns parts.1 in
      elim (has_commands (node_commands C ts ds n)) as (λ b. OfTwo (GoApart C) (flat_map (λ (k : NodeCommands). k.transfers)
      (cond b (node_commands C ts ds n ∷ filter has_commands (map (node_commands C ts ds) ns)) (filter has_commands (map (node_commands C ts ds) ns))))) [
        | true ↦ of_two_append (GoApart C) (filter (λ (t : Transfer). has_storage C n t.source) ts) (commanded ns)
            (of_two_filter (GoApart C) (λ (t : Transfer). has_storage C n t.source) ts apart) rest
            (each_filter_by (IsAmong ts) (λ (t : Transfer). has_storage C n t.source) (λ t. Each (GoApart C t) (commanded ns))
            (λ t there on. each_then (IsOf ns) (GoApart C t) (commanded ns) (each_of_nodes ns) (λ u is. across n ns parts.0 t u there on is)) ts (each_among ts))
        | false ↦ rest
      ]

pub commanded_apart : (M : State) → OfTwo (GoApart M.cluster) (transfers_commanded M)
unfolding whole_round commands_of state_at_choice state_after_expiry
commanded_apart M = apart_commanded M.cluster (transfers_chosen M) (chosen_deletes_of M) (targets_apart M) (keys M.cluster.nodes) (once_keys M.cluster.nodes)
