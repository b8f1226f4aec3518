-- Two siblings of a storage are siblings, and a search for a replica on a sibling finds one if any.
use Rattle.std.proofs.Common.{◌≡◌, ◌≢◌, ℕ, true, false, not, Option, Some, None, IsSome, sym, subst, ap, ◌∙◌, eq-eqb, eqb-true, ne_eqb}
use Rattle.std.specs.Prelude.{◌==◌}
use Rattle.std.specs.Option.{option_map_or, IfSome, IfNone}
use Rattle.std.proofs.lemmas.Bool.{false≢true, and_parts, and_from, not_from_false}
use Rattle.bm_base.specs.Words.{Cluster, node_of, are_siblings}
use Rattle.bm_arena.specs.Contents.{Contents, marks_at}
use Rattle.bm_base.proofs.Clusters.{siblings_by, no_sibling_itself}

pub siblings_apart : (C : Cluster) (s t : ℕ) → are_siblings C s t ≡ true → t ≢ s
siblings_apart C s t h same = false≢true (sym (ap (are_siblings C s) same ∙ no_sibling_itself C s) ∙ h)

nodes_share : (a b c : Option ℕ) → option_map_or (λ n. option_map_or (λ m. m == n) b false) a false ≡ true → option_map_or (λ n. option_map_or (λ m. m == n) c false) a false ≡ true
    → option_map_or (λ n. option_map_or (λ m. m == n) c false) b false ≡ true
nodes_share None b c h g = absurd (false≢true h)
nodes_share (Some n) None c h g = absurd (false≢true h)
nodes_share (Some n) (Some m) None h g = absurd (false≢true g)
nodes_share (Some n) (Some m) (Some k) h g = eq-eqb k m (eqb-true k n g ∙ sym (eqb-true m n h))

-- two storages that share the node of a third share a node
pub siblings_share : (C : Cluster) (s t u : ℕ) → are_siblings C s t ≡ true → are_siblings C s u ≡ true → u ≢ t → are_siblings C t u ≡ true
siblings_share C s t u h g apart =
    let x = and_parts (not (t == s)) _ (sym (siblings_by C s t) ∙ h) in
    let y = and_parts (not (u == s)) _ (sym (siblings_by C s u) ∙ g) in
    siblings_by C t u ∙ and_from (not (u == t)) _ (not_from_false (u == t) (ne_eqb u t apart)) (nodes_share (node_of C s) (node_of C t) (node_of C u) x.1 y.1)

-- a storage that shares a node has one
pub has_node : (C : Cluster) (s t : ℕ) → node_of C s ≡ None → are_siblings C s t ≡ true → ⊥
has_node C s t none h =
    let x = and_parts (not (t == s)) _ (sym (siblings_by C s t) ∙ h) in
    false≢true (sym (ap (λ o. option_map_or (λ n. option_map_or (λ m. m == n) (node_of C t) false) o false) none) ∙ x.1)

-- the result of a search for another storage of the node, whether one is found or not
pub found_sibling : (C : Cluster) (a : Contents) (slot s t : ℕ) (o : Option ℕ) → o ≡ Some t → IfSome o (λ u. IsSome (marks_at a slot u) × (are_siblings C s u ≡ true))
    → IsSome (marks_at a slot t) × (are_siblings C s t ≡ true)
found_sibling C a slot s t o is h = subst (λ z. IfSome z (λ u. IsSome (marks_at a slot u) × (are_siblings C s u ≡ true))) is h

pub no_sibling : (C : Cluster) (a : Contents) (slot s : ℕ) (o : Option ℕ) → o ≡ None → IfNone o ((t : ℕ) → are_siblings C s t ≡ true → marks_at a slot t ≡ None)
    → (t : ℕ) → are_siblings C s t ≡ true → marks_at a slot t ≡ None
no_sibling C a slot s o is h = subst (λ z. IfNone z ((t : ℕ) → are_siblings C s t ≡ true → marks_at a slot t ≡ None)) is h
