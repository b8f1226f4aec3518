-- Indices in a list.
use Rattle.std.specs.Prelude.{◌≡◌, ℕ, suc, Bool, if◌then◌else◌, List, [], ◌∷◌, Option, Some, None, option_map}
use Rattle.std.specs.Option.{IfSome}
use Rattle.bm_base.specs.Words.{Cluster, has_storage}
use Rattle.bm_round.specs.declared.groups.LookedUp.{LookedUp}

-- the index of the first number that passes
abbrev pub index_where : (ℕ → Bool) → List ℕ → Option ℕ
index_where p [] = None
index_where p (n ∷ ns) = if p n then Some 0 else option_map suc (index_where p ns)

-- a storage was looked up, with the index of its node among these
abbrev pub IsLookedUp : Cluster → List ℕ → Option LookedUp → Type 0
IsLookedUp C ids o = IfSome o (λ l. l.index ≡ index_where (λ n. has_storage C n l.storage) ids)
