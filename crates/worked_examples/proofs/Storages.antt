-- The worked example at the limit of storages holds; that none repeats is proved, not computed.
use Rattle.std.specs.Prelude.{◌≡◌, ℕ, zero, suc, ◌+◌, ◌-◌, ◌<◌, ◌≤◌, false, nat_le, nat_lt, List, ◌∷◌, ◌++◌, map, length, Option, None}
use Rattle.std.specs.List.{list_any}
use Rattle.std.proofs.Common.{refl, ap, ◌∙◌, arith}
use Rattle.std.proofs.lemmas.Bool.{ne_eqb}
use Rattle.bm_base.specs.declared.refusal.Refusal.{Refusal}
use Rattle.bm_base.specs.declared.call.Call.{Call}
use Rattle.bm_base.specs.declared.call.Call.TheVariants as call
use Rattle.bm_base.specs.declared.call.Answer.{Answer}
use Rattle.bm_base.specs.declared.call.Answer.TheVariants as answer
use Rattle.bm_base.specs.declared.event.Event.{Event}
use Rattle.bm_base.specs.declared.event.Event.TheVariants.{Register}
use Rattle.bm_base.specs.Words.{len, State, first_state, standard_limits, has, has_repeats, last_number, knows_node, knows_storage, refusal_of, cluster_checks, block_checks, calls_spent, answers, done_by, after_event, refused_or, step, state_after}
use Rattle.worked_examples.specs.Runs.{run_of}
use Rattle.worked_examples.specs.Script.{example_config, registrations, heartbeats, ok}
use Rattle.worked_examples.specs.Limits.{numbers_down, as_many_as_may_be, past_the_limit, storages_at_the_limit}

-- Descending numbers do not repeat.

none_above : (last k n : ℕ) → last < n → has (numbers_down last k) n ≡ false
none_above last zero n h = refl
none_above last (suc k) n h = rw (ne_eqb last n (λ e. omega arith)) (none_above (last - 1) k n (omega arith))

once_down : (last k : ℕ) → k ≤ last → has_repeats (numbers_down last k) ≡ false
once_down last zero h = refl
once_down last (suc k) h = rw (none_above (last - 1) k last (omega arith)) (once_down (last - 1) k (omega arith))

-- a register that passes each check is accepted
register_accepted : (M : State) (n rack : ℕ) (ss : List ℕ) → knows_node M.cluster n ≡ false → has_repeats ss ≡ false
    → list_any (knows_storage M.cluster) ss ≡ false → nat_le M.cluster.limits.nodes (len M.cluster.nodes) ≡ false
    → nat_lt M.cluster.limits.storages (len M.cluster.storages + length ss) ≡ false → nat_le last_number M.calls ≡ false
    → refusal_of M (Register n rack ss) ≡ None
unfolding refusal_of cluster_checks block_checks calls_spent
register_accepted M n rack ss a b c d e f = rw (a, b, c, d, e, f) refl

-- an accepted event answers what it did, and the later calls follow from its state
accepted_first : (M : State) (e : Event) (ks : List Call) → refusal_of M e ≡ None
    → answers M (call.Apply e ∷ ks) ≡ answer.Done (done_by M e) ∷ answers (after_event M e) ks
unfolding step
accepted_first M e ks h =
    let next = λ (r : Option Refusal). refused_or M r (answer.Done (done_by M e), after_event M e) in
    ap (λ r. (next r).0 ∷ answers (next r).1 ks) h

-- The script.

abbrev begin : List (Call × Answer)
begin = registrations ++ heartbeats

abbrev calls_of : List (Call × Answer) → List Call
calls_of script = map (λ l. l.0) script

abbrev answers_of : List (Call × Answer) → List Answer
answers_of script = map (λ l. l.1) script

-- the state with the four nodes
abbrev four : State
four = state_after (first_state example_config) (calls_of begin)

abbrev fifth : Event
fifth = Register 5 1 as_many_as_may_be

after_begin : (ks : List Call) → run_of standard_limits example_config (calls_of begin ++ ks) ≡ answers_of begin ++ answers four ks
unfolding run_of
after_begin ks = refl

is_new : knows_node four.cluster 5 ≡ false
unfolding run_of
is_new = refl

are_new : list_any (knows_storage four.cluster) as_many_as_may_be ≡ false
unfolding run_of
are_new = refl

few_nodes : nat_le four.cluster.limits.nodes (len four.cluster.nodes) ≡ false
unfolding run_of
few_nodes = refl

few_storages : nat_lt four.cluster.limits.storages (len four.cluster.storages + length as_many_as_may_be) ≡ false
unfolding run_of
few_storages = refl

few_calls : nat_le last_number four.calls ≡ false
unfolding run_of
few_calls = refl

is_accepted : refusal_of four fifth ≡ None
is_accepted = register_accepted four 5 1 as_many_as_may_be is_new (once_down 5092 4092 (omega arith)) are_new few_nodes few_storages few_calls

behind : answer.Done (done_by four fifth) ∷ answers (after_event four fifth) (calls_of past_the_limit) ≡ ok 0 0 ∷ answers_of past_the_limit
unfolding run_of
behind = refl

pub limit_is_kept : storages_at_the_limit
limit_is_kept =
    after_begin (call.Apply fifth ∷ calls_of past_the_limit)
    ∙ ap (λ (later : List Answer). answers_of begin ++ later) (accepted_first four fifth (calls_of past_the_limit) is_accepted ∙ behind)
