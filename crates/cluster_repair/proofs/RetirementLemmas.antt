-- The note of a node after a round follows from its note before and from the manager's answer.
use Rattle.std.proofs.Common.{◌≡◌, ◌∙◌, ◌++◌, ◌+◌, ◌<◌, ◌≤◌, ℕ, Bool, true, false, not, cond, List, [], ◌∷◌, Option, Some, None, refl, sym, ap, eqb, length, take, take_all, get_or, filter}
use Rattle.std.specs.Prelude.{◌==◌, ◌||◌, nat_eq, is_some, if◌then◌else◌}
use Rattle.std.specs.Option.{option_or}
use Rattle.std.proofs.lemmas.Bool.{eqb-true}
use Rattle.std.proofs.lemmas.List.Folds.{find-append, list_any_more}
use Rattle.bm_base.specs.Words.{State, has}
use Rattle.bm_base.proofs.Clusters.{eqb_turned}
use Rattle.bm_base.proofs.Options.{not_there}
use Rattle.cluster_repair.specs.declared.repair.Retirement.{Retirement}
use Rattle.cluster_repair.specs.Retirements.{is_retired_in, note_at, noted, retirement_of}

-- A note is dropped.

drop_here : (here gone : Bool) (t : Retirement) (rest : Option Retirement) → here ≡ gone → (if gone then None else rest) ≡ (if gone then None else cond here (Some t) rest)
drop_here here true t rest e = refl
drop_here here false t rest e = ap (λ b. cond b (Some t) rest) (sym e)

drop_later : (here gone : Bool) (t : Retirement) (rest : Option Retirement) → (here ≡ true → gone ≡ false) → cond here (Some t) (if gone then None else rest) ≡ (if gone then None else cond here (Some t) rest)
drop_later true gone t rest apart = ap (λ b. if b then None else Some t) (sym (apart refl))
drop_later false gone t rest apart = refl

pub note_dropped : (ts : List Retirement) (node n : ℕ) → retirement_of (filter (λ t. not (eqb t.node node)) ts) n ≡ (if nat_eq node n then None else retirement_of ts n)
note_dropped [] node n = elim (nat_eq node n) as (λ b. ◌≡◌ {A = Option Retirement} None (if b then None else None)) [ true ↦ refl | false ↦ refl ]
note_dropped (t ∷ ts) node n = by_test (note_dropped ts node n) (eqb t.node node) refl
  where
    kept : List Retirement
    kept = filter (λ (t : Retirement). not (eqb t.node node)) ts

    by_test : retirement_of kept n ≡ (if nat_eq node n then None else retirement_of ts n) → (same : Bool) → eqb t.node node ≡ same
        → retirement_of (cond (not same) (t ∷ kept) kept) n ≡ (if nat_eq node n then None else cond (eqb t.node n) (Some t) (retirement_of ts n))
    by_test rest true e = rest ∙ drop_here (eqb t.node n) (nat_eq node n) t (retirement_of ts n) (ap (λ k. eqb k n) (eqb-true t.node node e))
    by_test rest false e =
        ap (λ o. cond (eqb t.node n) (Some t) o) rest
        ∙ drop_later (eqb t.node n) (nat_eq node n) t (retirement_of ts n) (λ here. ap (λ k. eqb node k) (sym (eqb-true t.node n here)) ∙ eqb_turned node t.node ∙ e)

-- One answer.

or_none : (o : Option Retirement) → option_or o None ≡ o
or_none None = refl
or_none (Some t) = refl

first_noted : (same said : Bool) (new old : Option Retirement) (x t : Retirement) → (same ≡ true → said ≡ true) → (same ≡ true → old ≡ None) → (same ≡ true → x ≡ t)
    → new ≡ option_or old (cond same (Some x) None) → new ≡ (if same then noted said old t else old)
first_noted true said new old x t is none same added =
    added ∙ ap (λ o. option_or o (Some x)) (none refl) ∙ ap Some (same refl) ∙ sym (ap (λ b. noted b old t) (is refl) ∙ ap (λ o. noted true o t) (none refl))
first_noted false said new old x t is none same added = added ∙ or_none old

pub answered_yes : (M : State) (node n rounds seconds : ℕ) (ts new : List Retirement) → is_retired_in M node ≡ true → is_some (retirement_of ts node) ≡ false
    → new ≡ ts ++ note_at node rounds seconds ∷ []
    → retirement_of new n ≡ (if nat_eq node n then noted (is_retired_in M n) (retirement_of ts n) (note_at n rounds seconds) else retirement_of ts n)
answered_yes M node n rounds seconds ts new said none is =
    first_noted (nat_eq node n) (is_retired_in M n) (retirement_of new n) (retirement_of ts n) (note_at node rounds seconds) (note_at n rounds seconds)
    (λ e. ap (is_retired_in M) (sym (eqb-true node n e)) ∙ said)
    (λ e. ap (retirement_of ts) (sym (eqb-true node n e)) ∙ not_there (retirement_of ts node) none)
    (λ e. ap (λ k. note_at k rounds seconds) (eqb-true node n e))
    (ap (λ us. retirement_of us n) is ∙ find-append (λ (t : Retirement). nat_eq t.node n) ts (note_at node rounds seconds ∷ []))

-- The answers about some nodes.

noted_twice : (said : Bool) (old : Option Retirement) (t : Retirement) → noted said (noted said old t) t ≡ noted said old t
noted_twice false old t = refl
noted_twice true None t = refl
noted_twice true (Some u) t = refl

noted_more : (before here said : Bool) (old mid new : Option Retirement) (t : Retirement) → mid ≡ (if before then noted said old t else old) → new ≡ (if here then noted said mid t else mid)
    → new ≡ (if before || here then noted said old t else old)
noted_more true true said old mid new t was is = is ∙ ap (λ o. noted said o t) was ∙ noted_twice said old t
noted_more true false said old mid new t was is = is ∙ was
noted_more false true said old mid new t was is = is ∙ ap (λ o. noted said o t) was
noted_more false false said old mid new t was is = is ∙ was

pub answers_more : (M : State) (nodes : List ℕ) (i node n rounds seconds : ℕ) (ts mid new : List Retirement) → i < length nodes → node ≡ get_or nodes i node
    → retirement_of mid n ≡ (if has (take i nodes) n then noted (is_retired_in M n) (retirement_of ts n) (note_at n rounds seconds) else retirement_of ts n)
    → retirement_of new n ≡ (if nat_eq node n then noted (is_retired_in M n) (retirement_of mid n) (note_at n rounds seconds) else retirement_of mid n)
    → retirement_of new n ≡ (if has (take (i + 1) nodes) n then noted (is_retired_in M n) (retirement_of ts n) (note_at n rounds seconds) else retirement_of ts n)
answers_more M nodes i node n rounds seconds ts mid new below is was now =
    let t = note_at n rounds seconds in
    let said = is_retired_in M n in
    let old = retirement_of ts n in
    noted_more (has (take i nodes) n) (nat_eq node n) said old (retirement_of mid n) (retirement_of new n) t was now
    ∙ ap (λ b. if b then noted said old t else old)
    (sym (list_any_more (λ x. x == n) nodes i node below ∙ ap (λ x. has (take i nodes) n || (x == n)) (sym is)))

pub answers_all : (M : State) (nodes : List ℕ) (i n rounds seconds : ℕ) (ts new : List Retirement) → length nodes ≤ i
    → retirement_of new n ≡ (if has (take i nodes) n then noted (is_retired_in M n) (retirement_of ts n) (note_at n rounds seconds) else retirement_of ts n)
    → retirement_of new n ≡ (if has nodes n then noted (is_retired_in M n) (retirement_of ts n) (note_at n rounds seconds) else retirement_of ts n)
answers_all M nodes i n rounds seconds ts new all is =
    is ∙ ap (λ ns. if has ns n then noted (is_retired_in M n) (retirement_of ts n) (note_at n rounds seconds) else retirement_of ts n) (take_all i nodes all)
