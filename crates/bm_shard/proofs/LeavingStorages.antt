-- A storage without a head is not in the list of heads; and events on blocks remove no storage.
use Rattle.std.proofs.Common.{◌≡◌, ℕ, Bool, true, false, cond, List, [], ◌∷◌, map, Some, refl, inl, inr, sym, ◌∙◌}
use Rattle.std.specs.Prelude.{nat_eq, IsSome, ◌==◌}
use Rattle.std.specs.Map.{lookup}
use Rattle.std.proofs.lemmas.Bool.{false≢true, eq-eqb}
use Rattle.bm_base.specs.declared.event.Event.{Event}
use Rattle.bm_base.specs.declared.event.Event.TheVariants.{Dead, StorageFailed}
use Rattle.bm_base.specs.Machine.State.{Cluster}
use Rattle.bm_maps.specs.SlotLists.{IsMember}
use Rattle.bm_parts.specs.Parts.{block_of}
use Rattle.bm_arena.specs.Contents.{Contents}
use Rattle.bm_levels.specs.LeavingReplicas.{HasNoHeads}
use Rattle.bm_shard.specs.Inside.{heads_of}
use Rattle.bm_shard.specs.LeavingStorages.{leaves}

among_found : (s : ℕ) (ps : List (ℕ × List ℕ)) → IsMember s (map (λ (p : ℕ × List ℕ). p.0) ps) → IsSome (lookup (nat_eq s) ps)
among_found s [] h = absurd h
among_found s (p ∷ ps) h = by (s == p.0) refl h (among_found s ps)
  where
    by : (t : Bool) → (s == p.0) ≡ t → IsMember s (p.0 ∷ map (λ (q : ℕ × List ℕ). q.0) ps) → (IsMember s (map (λ (q : ℕ × List ℕ). q.0) ps) → IsSome (lookup (nat_eq s) ps)) → IsSome (cond t (Some p.1) (lookup (nat_eq s) ps))
    by true e h rest = refl
    by false e (inl same) rest = absurd (false≢true (sym e ∙ eq-eqb s p.0 same))
    by false e (inr there) rest = rest there

pub none_listed : (a : Contents) (left : ℕ → Bool) → HasNoHeads left a → (s : ℕ) → left s ≡ true → IsMember s (heads_of a) → ⊥
none_listed a left none s e there = none s e (among_found s a.lists there)

-- an event on a block removes no storage
pub none_leaves : (C : Cluster) (e : Event) (b : ℕ) → block_of e ≡ Some b → (s : ℕ) → leaves C e s ≡ true → ⊥
none_leaves C (Dead n) b on s h = cc
none_leaves C (StorageFailed t) b on s h = cc
none_leaves C e b on s h = false≢true h
