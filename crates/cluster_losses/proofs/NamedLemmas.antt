-- Adding what each word of a command line names, in turn, gives what all words name, each once.
use Rattle.std.proofs.Common.{◌≡◌, ◌∙◌, ℕ, Bool, true, false, cond, List, [], ◌∷◌, ◌++◌, Some, None, refl, sym, ap, option_map}
use Rattle.std.specs.Prelude.{◌==◌, ◌+◌, if◌then◌else◌}
use Rattle.std.specs.List.{find}
use Rattle.std.proofs.lemmas.Bool.{or_from, or_parts}
use Rattle.std.proofs.lemmas.List.Folds.{list_any-append}
use Rattle.std.proofs.lemmas.List.Sums.{fold-append}
use Rattle.bm_base.specs.Words.{Cluster, has, has_repeats}
use Rattle.bm_base.proofs.Clusters.{eqb_turned}
use Rattle.cluster_names.specs.declared.names.Names.{Names}
use Rattle.cluster_losses.specs.declared.fault.Fault.{Fault}
use Rattle.cluster_losses.specs.declared.fault.Fault.TheVariants as faults
use Rattle.cluster_losses.specs.declared.loss.Loss.{Loss}
use Rattle.cluster_losses.specs.declared.loss_events.Lost.{Lost}
use Rattle.cluster_losses.specs.NamedStorages.{IsFaultOf, AreNamed, AreAdded, all_named, named_by, dies, drains, fails, is_unknown, first_unknown, with_one, with_all}

-- Each number once.

turned : (x y : ℕ) → (y == x) ≡ false → (x == y) ≡ false
turned x y e = eqb_turned x y ∙ e

once_push : (xs : List ℕ) (x : ℕ) → has xs x ≡ false → has_repeats xs ≡ false → has_repeats (xs ++ x ∷ []) ≡ false
once_push [] x none once = refl
once_push (y ∷ xs) x none once =
    let first = or_parts (y == x) (has xs x) none in
    let rest = or_parts (has xs y) (has_repeats xs) once in
    or_from _ _
    (list_any-append (λ z. z == y) xs (x ∷ []) ∙ or_from _ _ rest.0 (or_from _ _ (turned x y first.0) refl))
    (once_push xs x first.1 rest.1)

once_with : (xs : List ℕ) (x : ℕ) → has_repeats xs ≡ false → has_repeats (with_one xs x) ≡ false
once_with xs x once = by (has xs x) refl
  where
    by : (b : Bool) → has xs x ≡ b → has_repeats (cond b xs (xs ++ x ∷ [])) ≡ false
    by true there = once
    by false new = once_push xs x new once

once_with_all : (xs ys : List ℕ) → has_repeats xs ≡ false → has_repeats (with_all xs ys) ≡ false
once_with_all xs [] once = once
once_with_all xs (y ∷ ys) once = once_with_all (with_one xs y) ys (once_with xs y once)

pub once : (xs ys : List ℕ) → xs ≡ with_all [] ys → has_repeats xs ≡ false
once xs ys is = ap has_repeats is ∙ once_with_all [] ys refl

-- A word is added.

with_more : (old new named : List ℕ) (rest all : List ℕ) → new ≡ with_all old named → with_all old (named ++ rest) ≡ all → with_all new rest ≡ all
with_more old new named rest all is was = ap (λ xs. with_all xs rest) is ∙ sym (fold-append with_one old named rest) ∙ was

-- what is named so far, with what the rest of the words names, is what all words name
pub record AreLeft (C : Cluster) (names : Names) (rest ls : List Loss) (lost : Lost) : Type 0 where
  pub nodes : with_all lost.nodes.items (all_named C names dies rest) ≡ with_all [] (all_named C names dies ls)
  pub drained : with_all lost.drained.items (all_named C names drains rest) ≡ with_all [] (all_named C names drains ls)
  pub storages : with_all lost.storages.items (all_named C names fails rest) ≡ with_all [] (all_named C names fails ls)
  pub unknown : first_unknown C names rest ≡ first_unknown C names ls

module _ (C : Cluster) (names : Names) where
  pub added : (ls rest : List Loss) (l : Loss) (old new : Lost) → AreAdded (named_by C names l.kind l.name.now) l.kind old new → is_unknown C names l ≡ false
      → AreLeft C names (l ∷ rest) ls old → AreLeft C names rest ls new
  added ls rest l old new adds known was = record {
    nodes = with_more old.nodes.items new.nodes.items (if dies l.kind then named_by C names l.kind l.name.now else []) (all_named C names dies rest) (with_all [] (all_named C names dies ls)) adds.nodes was.nodes;
    drained = with_more old.drained.items new.drained.items (if drains l.kind then named_by C names l.kind l.name.now else []) (all_named C names drains rest) (with_all [] (all_named C names drains ls)) adds.drained was.drained;
    storages = with_more old.storages.items new.storages.items (if fails l.kind then named_by C names l.kind l.name.now else []) (all_named C names fails rest) (with_all [] (all_named C names fails ls)) adds.storages was.storages;
    unknown = ap (λ t. option_map (λ (k : Loss). k.kind) (cond t (Some l) (find (is_unknown C names) rest))) (sym known) ∙ was.unknown;
  }

  pub all_added : (ls : List Loss) (lost : Lost) → AreLeft C names [] ls lost → AreNamed C names ls lost
  all_added ls lost are = record { nodes = are.nodes; drained = are.drained; storages = are.storages }

  -- the first word that names nothing
  pub fault_stays : (ls rest : List Loss) (l : Loss) (e : Fault) → first_unknown C names (l ∷ rest) ≡ first_unknown C names ls → IsFaultOf (first_unknown C names (l ∷ [])) e
      → IsFaultOf (first_unknown C names ls) e
  fault_stays ls rest l faults.Memory same is = tt
  fault_stays ls rest l (faults.Unknown k) same is = sym same ∙ by (is_unknown C names l) is
    where
      by : (t : Bool) → option_map (λ (m : Loss). m.kind) (cond t (Some l) None) ≡ Some k → option_map (λ (m : Loss). m.kind) (cond t (Some l) (find (is_unknown C names) rest)) ≡ Some k
      by true is = is
      by false is = cc
  fault_stays ls rest l (faults.Refused r) same is = is

pub none_left : (C : Cluster) (names : Names) (ls : List Loss) (lost : Lost) → lost.nodes.items ≡ [] → lost.drained.items ≡ [] → lost.storages.items ≡ [] → AreLeft C names ls ls lost
none_left C names ls lost nodes drained storages = record {
  nodes = ap (λ xs. with_all xs (all_named C names dies ls)) nodes;
  drained = ap (λ xs. with_all xs (all_named C names drains ls)) drained;
  storages = ap (λ xs. with_all xs (all_named C names fails ls)) storages;
  unknown = refl;
}
