-- A catalogue that changes a block as an event does still lists exactly the known blocks.
use Rattle.std.proofs.Common.{◌≡◌, ℕ, Bool, true, false, cond, ◌==◌, if◌then◌else◌, [], Option, Some, None, option_map, arith, refl, sym, ap, subst, ◌∙◌}
use Rattle.std.specs.Prelude.{nat_eq}
use Rattle.std.specs.Map.{lookup}
use Rattle.std.specs.Ordering.{eq_by_cmp, nat_cmp}
use Rattle.std.proofs.lemmas.Bool.{eqb-true}
use Rattle.std.proofs.lemmas.Bool.Decides.{nat_tests}
use Rattle.bm_base.specs.declared.replica.BlockInfo.{BlockInfo}
use Rattle.bm_base.specs.Maps.Map.{without}
use Rattle.bm_base.specs.Words.{Map, by_number, empty, get, insert, remove, revise_at, Cluster, Holdings, add_block, begin_drain, change_holdings, delete_block, change_marks_of_block, without_pending, drains, has_storage}
use Rattle.bm_base.specs.declared.event.Event.{Event}
use Rattle.bm_base.specs.declared.event.Event.TheVariants.{AddBlock, DeleteBlock}
use Rattle.bm_base.specs.declared.replica.Stamp.{Stamp}
use Rattle.bm_base.proofs.MapLaws.{get-empty, get-insert, get-remove, get-revise}
use Rattle.bm_base.proofs.Ties.{number_tie}
use Rattle.cluster_report.specs.declared.catalogue.Catalogue.{Catalogue}
use Rattle.cluster_report.specs.Catalogues.{Lists, info_in}

either_way : (a b : ℕ) → nat_eq a b ≡ (b == a)
either_way a b =
    elim (nat_eq a b) as (λ t. nat_eq a b ≡ t → t ≡ (b == a)) [
      | true ↦ λ h. grind (arith, nat_tests, h)
      | false ↦ λ h. grind (arith, nat_tests, h)
    ] refl

tie : (a b : ℕ) → nat_eq a b ≡ eq_by_cmp nat_cmp b a
tie a b = either_way a b ∙ sym (number_tie b a)

-- a catalogue with no block
pub lists_empty : (c : Catalogue) → c.blocks.entries ≡ [] → Lists c empty
lists_empty c none = λ b. ap (λ es. lookup (nat_eq b) es) none ∙ sym (get-empty by_number b)

-- a node that begins to drain changes no block
pub lists_drained : (c : Catalogue) (C : Cluster) (H : Holdings) (n : ℕ) → Lists c H.blocks → Lists c (begin_drain C H n).blocks
unfolding begin_drain
lists_drained c C H n lists = subst (Lists c) (sym (kept (drains C n))) lists
  where
    kept : (b : Bool) → (cond b H (record H { pending = without H.pending (λ q. has_storage C n q.storage) })).blocks ≡ H.blocks
    kept true = refl
    kept false = refl

module _ (old new : Catalogue) (blocks : Map by_number BlockInfo) (k : ℕ) where
  pub lists_put : (info : BlockInfo) → ((b : ℕ) → info_in new b ≡ (if nat_eq k b then Some info else info_in old b)) → Lists old blocks
      → Lists new (insert blocks k info)
  lists_put info put lists = λ b.
      put b
      ∙ ap (λ t. cond t (Some info) (info_in old b)) (tie k b)
      ∙ ap (cond (eq_by_cmp nat_cmp b k) (Some info)) (lists b)
      ∙ sym (get-insert blocks k info b)

  pub lists_removed : ((b : ℕ) → info_in new b ≡ (if nat_eq k b then None else info_in old b)) → Lists old blocks → Lists new (remove blocks k)
  lists_removed gone lists = λ b.
      gone b
      ∙ ap (λ t. cond t None (info_in old b)) (tie k b)
      ∙ ap (cond (eq_by_cmp nat_cmp b k) None) (lists b)
      ∙ sym (get-remove blocks k b)

-- a block was added, or deleted
pub lists_added : (old new : Catalogue) (C : Cluster) (H : Holdings) (e : Event) (b : ℕ) (stamp : Stamp) (repl : ℕ) → e ≡ AddBlock b stamp repl
    → ((q : ℕ) → info_in new q ≡ (if nat_eq b q then Some (record { stamp = stamp; repl = repl }) else info_in old q)) → Lists old H.blocks
    → Lists new (change_holdings C H e).blocks
unfolding change_holdings add_block
lists_added old new C H e b stamp repl is put lists =
    subst (λ f. Lists new (change_holdings C H f).blocks) (sym is) (lists_put old new H.blocks b (record { stamp = stamp; repl = repl }) put lists)

pub lists_deleted : (old new : Catalogue) (C : Cluster) (H : Holdings) (e : Event) (b : ℕ) → e ≡ DeleteBlock b
    → ((q : ℕ) → info_in new q ≡ (if nat_eq b q then None else info_in old q)) → Lists old H.blocks → Lists new (change_holdings C H e).blocks
unfolding change_holdings delete_block without_pending change_marks_of_block
lists_deleted old new C H e b is gone lists =
    subst (λ f. Lists new (change_holdings C H f).blocks) (sym is) (lists_removed old new H.blocks b gone lists)

module _ (old : Catalogue) (blocks : Map by_number BlockInfo) (k : ℕ) (f : BlockInfo → BlockInfo) (lists : Lists old blocks) where
  revised_at : (b : ℕ) → get (revise_at blocks k f) b ≡ option_map (λ x. cond (eq_by_cmp nat_cmp b k) (f x) x) (info_in old b)
  unfolding revise_at
  revised_at b = get-revise blocks (λ q x. if eq_by_cmp nat_cmp q k then f x else x) b ∙ ap (option_map (λ x. cond (eq_by_cmp nat_cmp b k) (f x) x)) (sym (lists b))

  same_key : (b : ℕ) → eq_by_cmp nat_cmp b k ≡ true → b ≡ k
  same_key b e = eqb-true b k (sym (number_tie b k) ∙ e)

  changed : (info : BlockInfo) (t : Bool) (o : Option BlockInfo) → (t ≡ true → o ≡ Some info) → cond t (Some (f info)) o ≡ option_map (λ x. cond t (f x) x) o
  changed info true o h = sym (ap (option_map f) (h refl))
  changed info false None h = refl
  changed info false (Some x) h = refl

  pub lists_revised : (new : Catalogue) (info : BlockInfo) → info_in old k ≡ Some info
      → ((b : ℕ) → info_in new b ≡ (if nat_eq k b then Some (f info) else info_in old b)) → Lists new (revise_at blocks k f)
  lists_revised new info is put = λ b.
      put b
      ∙ ap (λ t. cond t (Some (f info)) (info_in old b)) (tie k b)
      ∙ changed info (eq_by_cmp nat_cmp b k) (info_in old b) (λ e. ap (info_in old) (same_key b e) ∙ is)
      ∙ sym (revised_at b)

  unchanged : (t : Bool) (o : Option BlockInfo) → (t ≡ true → o ≡ None) → o ≡ option_map (λ x. cond t (f x) x) o
  unchanged true o h = h refl ∙ sym (ap (option_map f) (h refl))
  unchanged false None h = refl
  unchanged false (Some x) h = refl

  pub lists_absent : info_in old k ≡ None → Lists old (revise_at blocks k f)
  lists_absent is = λ b.
      unchanged (eq_by_cmp nat_cmp b k) (info_in old b) (λ e. ap (info_in old) (same_key b e) ∙ is) ∙ sym (revised_at b)
