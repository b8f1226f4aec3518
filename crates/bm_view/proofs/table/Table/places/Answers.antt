use Rattle.std.proofs.Common.{rules, ◌≡◌, ℕ, List, [], Result, MatchResult, get_or, sym, ◌∙◌, ap, subst}
use Rattle.std.proofs.lemmas.List.Sorted.{answers_always}
use Rattle.bm_base.specs.Promises.Versions.{Row}
use Rattle.bm_view.specs.Version.{AscendsById, places_in}
use Rattle.bm_view.proofs.Lookups.{searched}
use Rattle.bm_view.proofs.table.Table.places.Goals as goal

-- the closure gives a row's block, and the slice has the table's rows
pub returns-in-Ok : goal.returns-in-Ok
returns-in-Ok c =
    let facts = c.binary_search_by_key.ensures in
    let by_key = facts.position (λ (row : Row). row.0) (answers_always _ _ _ (λ f a r g called. search rules)) in
    let ascends = subst AscendsById (sym c.deref.ensures.value) c.self.invariant in
    let found = searched c.deref.result.now ascends c.args.id _ facts.bound by_key in
    let here = subst (λ (r : Result ℕ ℕ). MatchResult r (λ at. (d : Row) → places_in c.deref.result.now c.args.id ≡ (get_or c.deref.result.now at d).1) (λ _. places_in c.deref.result.now c.args.id ≡ [])) c.in-Ok.is found in
    ap (λ r. r.1) c.index.ensures ∙ (ap (λ (rows : List Row). (get_or rows c.in-Ok.at c.index.result.now).1) (sym c.deref.ensures.value) ∙ (sym (here c.index.result.now) ∙ ap (λ (rows : List Row). places_in rows c.args.id) (c.deref.ensures.value ∙ ap (λ v. v.rows) c.self.view_is)))

pub returns-in-Err : goal.returns-in-Err
returns-in-Err c =
    let facts = c.binary_search_by_key.ensures in
    let by_key = facts.position (λ (row : Row). row.0) (answers_always _ _ _ (λ f a r g called. search rules)) in
    let ascends = subst AscendsById (sym c.deref.ensures.value) c.self.invariant in
    let found = searched c.deref.result.now ascends c.args.id _ facts.bound by_key in
    let here = subst (λ (r : Result ℕ ℕ). MatchResult r (λ at. (d : Row) → places_in c.deref.result.now c.args.id ≡ (get_or c.deref.result.now at d).1) (λ _. places_in c.deref.result.now c.args.id ≡ [])) c.in-Err.is found in
    c.none.ensures ∙ (sym here ∙ ap (λ (rows : List Row). places_in rows c.args.id) (c.deref.ensures.value ∙ ap (λ v. v.rows) c.self.view_is))
