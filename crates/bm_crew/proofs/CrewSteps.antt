-- Each step of the calling thread and of its helpers keeps the facts about the pieces taken and
-- their results.
use Rattle.std.proofs.Common.{◌≡◌, ℕ, ◌+◌, ◌<◌, ◌≤◌, true, false, List, [], ◌∷◌, ◌++◌, length, arith, refl, ap, ◌∙◌, sym, subst, set, slice_index_or, vec_len, vec_capacity, length-append, Global}
use Rattle.std.specs.Prelude.{Option, Some, None, Vec}
use Rattle.std.proofs.lemmas.List.{append-nil}
use Rattle.std.proofs.lemmas.List.Elements.{All-nil, All-cons, All-push, All-head, All-weaker, All-contains}
use Rattle.std.proofs.lemmas.List.FromFn.{length-enumerate_from}
use Rattle.std.proofs.lemmas.Slice.Zip.{AllZip-long}
use Rattle.std.specs.List.{All, AllZip, Contains, enumerate_from}
use Rattle.std.specs.List.Sorted.{IsPermutation}
use Rattle.bm_crew.specs.declared.pass_view.PassView.{PassView}
use Rattle.bm_crew.specs.declared.bag.Bag.{Bag}
use Rattle.bm_crew.specs.declared.bag.BagPass.{BagPass}
use Rattle.bm_crew.specs.declared.helper.Helper.{Helper}
use Rattle.bm_crew.specs.declared.collector.Collector.{Collector}
use Rattle.bm_crew.specs.Rule.{helper_view, with_given, after_put, after_take, after_none, after_join, after_renewal}
use Rattle.bm_crew.specs.Bags.{view_of, given_of, taken_of, found_empty_of, IsCallerOf, IsHelperOf, AllJoined, MayPut, IsOpened}
use Rattle.bm_crew.specs.Work.{IsPlacedResultOf, AreFilled, slots_after}
use Rattle.bm_crew.specs.Crews.{IsIdle, CanHelp, IsHelping, HasHelped, IsCollecting, JoinsSince}
use Rattle.bm_crew.specs.Teams.{IsTeamFor}
use Rattle.bm_crew.proofs.Moves.{enumerate_push}
use Rattle.bm_crew.proofs.Zips.{zip_push}
use Rattle.bm_crew.proofs.AppendedLists.{all_left, all_right}
use Rattle.bm_crew.proofs.FilledSlots.{filled_none, filled_more, filled_moved, made_places, enumerated_all, enumerated_below}

module _ {T U : Type 0} (post : ℕ → T → U → Type 0) where
  -- a helper took and processed a piece
  pub helped_one : (bag : Bag (ℕ × T)) (old new : Helper T U) (x : ℕ × (ℕ × T)) (m : ℕ × (ℕ × U)) → IsHelping post bag old → IsHelperOf bag new.pass → view_of new.pass ≡ after_take (view_of old.pass) x → IsPlacedResultOf post x m → new.done.items ≡ old.done.items ++ m ∷ [] → IsHelping post bag new
  helped_one bag old new x m was is took made done = record {
    of = is;
    done = subst (λ (y : List (ℕ × (ℕ × T)) × List (ℕ × (ℕ × U))). AllZip (IsPlacedResultOf post) y.0 y.1) (λ i. (ap (λ (v : PassView (ℕ × T)). v.taken) (sym took) i, sym done i)) (zip_push (IsPlacedResultOf post) (taken_of old.pass) old.done.items x m was.done made);
  }

  -- an idle helper has no results yet
  pub idle_helps : (n : ℕ) (bag : Bag (ℕ × T)) (h : Helper T U) → IsIdle n bag h → IsHelping post bag h
  idle_helps n bag h idle = record {
    of = idle.of;
    done = subst (λ (y : List (ℕ × (ℕ × T)) × List (ℕ × (ℕ × U))). AllZip (IsPlacedResultOf post) y.0 y.1) (λ i. (sym idle.none_taken i, sym idle.none_done i)) tt;
  }

  -- a helper found the bag empty
  pub helper_ends : (bag : Bag (ℕ × T)) (old : Helper T U) (new : BagPass (ℕ × T)) → IsHelping post bag old → IsHelperOf bag new → view_of new ≡ after_none (view_of old.pass) → found_empty_of old.pass ≡ 0 → HasHelped post bag (record { pass = new; done = old.done })
  helper_ends bag old new was is none first = record {
    helping = record { of = is; done = subst (λ (v : PassView (ℕ × T)). AllZip (IsPlacedResultOf post) v.taken old.done.items) (sym none) was.done };
    ended = ap (λ (v : PassView (ℕ × T)). v.found_empty) none ∙ ap (λ n. n + 1) first;
  }

  module _ (pre : ℕ → T → Type 0) where
    -- the calling thread took and processed a piece
    pub collected_one : (bag : Bag (ℕ × T)) (old new : Collector T U) (x : ℕ × (ℕ × T)) (m : ℕ × (ℕ × U)) → IsCollecting pre post bag old → IsCallerOf bag new.pass → view_of new.pass ≡ after_take (view_of old.pass) x → Contains (given_of old.pass) x → IsPlacedResultOf post x m → new.slots.items ≡ set old.slots.items m.0 (Some m.1) → vec_len new.slots ≡ vec_len old.slots → IsCollecting pre post bag new
    collected_one bag old new x m was is took known made put len =
        let given : given_of new.pass ≡ given_of old.pass = ap (λ (v : PassView (ℕ × T)). v.given) took in
        let index : x.0 < vec_len old.slots = All-contains (λ item. item.0 < vec_len old.slots) (given_of old.pass) x was.places known in
        let below : m.0 < length old.slots.items = omega (arith, index, made.0, old.slots.ok.0) in
        let more = filled_more post (taken_of old.pass) (x ∷ []) (m ∷ []) old.slots.items was.filled (made, tt) (All-cons (λ (m : ℕ × (ℕ × U)). m.0 < length old.slots.items) m [] below (All-nil (λ (m : ℕ × (ℕ × U)). m.0 < length old.slots.items))) in
        record {
          leads = is;
          accepts = subst (λ l. All (λ item. pre item.1.0 item.1.1) l) (sym given) was.accepts;
          places = subst (λ (y : List (ℕ × (ℕ × T)) × ℕ). All (λ item. item.0 < y.1) y.0) (λ i. (sym given i, sym len i)) was.places;
          filled = subst (λ (y : List (ℕ × (ℕ × T)) × List (Option (ℕ × U))). AreFilled post y.0 y.1) (λ i. (ap (λ (v : PassView (ℕ × T)). v.taken) (sym took) i, sym put i)) more;
        }

    -- the calling thread found the bag empty
    pub collected_none : (bag : Bag (ℕ × T)) (old : Collector T U) (new : BagPass (ℕ × T)) → IsCollecting pre post bag old → IsCallerOf bag new → view_of new ≡ after_none (view_of old.pass) → IsCollecting pre post bag (record { pass = new; slots = old.slots })
    collected_none bag old new was is none = record {
      leads = is;
      accepts = subst (λ (v : PassView (ℕ × T)). All (λ item. pre item.1.0 item.1.1) v.given) (sym none) was.accepts;
      places = subst (λ (v : PassView (ℕ × T)). All (λ item. item.0 < vec_len old.slots) v.given) (sym none) was.places;
      filled = subst (λ (v : PassView (ℕ × T)). AreFilled post v.taken old.slots.items) (sym none) was.filled;
    }

    -- the indices of a helper's results
    pub helper_places : (bag : Bag (ℕ × T)) (old : Collector T U) (helper : Helper T U) (new : BagPass (ℕ × T)) → IsCollecting pre post bag old → HasHelped post bag helper → view_of new ≡ after_join (view_of old.pass) (view_of helper.pass) → All (Contains (given_of new)) (taken_of new) → All (λ m. m.0 < vec_len old.slots) helper.done.items
    helper_places bag old helper new was helped joined given =
        let known : All (Contains (given_of old.pass)) (taken_of old.pass ++ taken_of helper.pass) = subst (λ (v : PassView (ℕ × T)). All (Contains v.given) v.taken) joined given in
        let theirs : All (λ item. item.0 < vec_len old.slots) (taken_of helper.pass) =
        All-weaker (Contains (given_of old.pass)) (λ item. item.0 < vec_len old.slots) (λ x has. All-contains (λ item. item.0 < vec_len old.slots) (given_of old.pass) x was.places has) (taken_of helper.pass) (all_right (Contains (given_of old.pass)) (taken_of old.pass) (taken_of helper.pass) known) in
        made_places post (vec_len old.slots) (taken_of helper.pass) helper.done.items helped.helping.done theirs

    -- the calling thread took over what a helper has done
    pub collected_helper : (bag : Bag (ℕ × T)) (old : Collector T U) (helper : Helper T U) (new : Collector T U) → IsCollecting pre post bag old → HasHelped post bag helper → IsCallerOf bag new.pass → view_of new.pass ≡ after_join (view_of old.pass) (view_of helper.pass) → All (Contains (given_of new.pass)) (taken_of new.pass) → new.slots.items ≡ slots_after old.slots.items helper.done.items → vec_len new.slots ≡ vec_len old.slots → IsCollecting pre post bag new
    collected_helper bag old helper new was helped leads joined among put len =
        let given : given_of new.pass ≡ given_of old.pass = ap (λ (v : PassView (ℕ × T)). v.given) joined in
        let places = helper_places bag old helper new.pass was helped joined among in
        let few : vec_len old.slots ≡ length old.slots.items = old.slots.ok.0 in
        let more = filled_more post (taken_of old.pass) (taken_of helper.pass) helper.done.items old.slots.items was.filled helped.helping.done (subst (λ n. All (λ m. m.0 < n) helper.done.items) few places) in
        record {
          leads = leads;
          accepts = subst (λ l. All (λ item. pre item.1.0 item.1.1) l) (sym given) was.accepts;
          places = subst (λ (y : List (ℕ × (ℕ × T)) × ℕ). All (λ item. item.0 < y.1) y.0) (λ i. (sym given i, sym len i)) was.places;
          filled = subst (λ (y : List (ℕ × (ℕ × T)) × List (Option (ℕ × U))). AreFilled post y.0 y.1) (λ i. (ap (λ (v : PassView (ℕ × T)). v.taken) (sym joined) i, sym put i)) more;
        }

-- nothing was done since
pub joins_none : {T U : Type 0} (c : Collector T U) → JoinsSince 0 c c
joins_none c = record { given = refl; slots = refl; joins = omega arith }

-- one more piece was taken since
pub joins_on : {T U : Type 0} (first old new : Collector T U) (x : ℕ × (ℕ × T)) → JoinsSince 0 first old → view_of new.pass ≡ after_take (view_of old.pass) x → vec_len new.slots ≡ vec_len old.slots → JoinsSince 0 first new
joins_on {T} first old new x was took len = record {
  given = ap (λ (v : PassView (ℕ × T)). v.given) took ∙ was.given;
  slots = len ∙ was.slots;
  joins = omega (arith, was.joins, ap (λ (v : PassView (ℕ × T)). v.split) took, ap (λ (v : PassView (ℕ × T)). v.joined) took);
}

-- the bag was found empty since
pub joins_still : {T U : Type 0} (first old : Collector T U) (new : BagPass (ℕ × T)) → JoinsSince 0 first old → view_of new ≡ after_none (view_of old.pass) → JoinsSince 0 first (record { pass = new; slots = old.slots })
joins_still {T} first old new was none = record {
  given = ap (λ (v : PassView (ℕ × T)). v.given) none ∙ was.given;
  slots = was.slots;
  joins = omega (arith, was.joins, ap (λ (v : PassView (ℕ × T)). v.split) none, ap (λ (v : PassView (ℕ × T)). v.joined) none);
}

-- the last helper is split off the list
pub idle_split : {T U : Type 0} (n : ℕ) (bag : Bag (ℕ × T)) (all others : List (Helper T U)) (last : Helper T U) → all ≡ others ++ last ∷ [] → All (IsIdle n bag) all → All (IsIdle n bag) others × IsIdle n bag last
idle_split n bag all others last is each = let h : All (IsIdle n bag) (others ++ last ∷ []) = subst (λ l. All (IsIdle n bag) l) is each in (all_left (IsIdle n bag) others (last ∷ []) h, All-head (IsIdle n bag) last [] (all_right (IsIdle n bag) others (last ∷ []) h))

module _ {T U : Type 0} (pre : ℕ → T → Type 0) (post : ℕ → T → U → Type 0) (bag : Bag (ℕ × T)) (old : Collector T U) (helper : Helper T U) (new : BagPass (ℕ × T)) where
  -- the calling thread passed to an idle helper the pieces that were given
  pub renewed_collects : (n : ℕ) → IsCollecting pre post bag old → IsIdle n bag helper → IsCallerOf bag new → view_of new ≡ after_renewal (after_join (view_of old.pass) (view_of helper.pass)) → IsCollecting pre post bag (record { pass = new; slots = old.slots })
  renewed_collects n was idle leads knows_all =
      let given : given_of new ≡ given_of old.pass = ap (λ (v : PassView (ℕ × T)). v.given) knows_all in
      let taken : taken_of new ≡ taken_of old.pass = ap (λ (v : PassView (ℕ × T)). v.taken) knows_all ∙ ap (λ l. taken_of old.pass ++ l) idle.none_taken ∙ append-nil (taken_of old.pass) in
      record {
        leads = leads;
        accepts = subst (λ l. All (λ item. pre item.1.0 item.1.1) l) (sym given) was.accepts;
        places = subst (λ l. All (λ item. item.0 < vec_len old.slots) l) (sym given) was.places;
        filled = subst (λ l. AreFilled post l old.slots.items) (sym taken) was.filled;
      }

  pub renewed_helps : (other : BagPass (ℕ × T)) → IsCollecting pre post bag old → IsIdle (length (given_of old.pass)) bag helper → IsHelperOf bag other → view_of other ≡ helper_view true (given_of old.pass) → CanHelp pre bag (record { pass = other; done = helper.done })
  renewed_helps other was idle of knows_all = record {
    idle = record {
      of = of;
      none_taken = ap (λ (v : PassView (ℕ × T)). v.taken) knows_all;
      none_done = idle.none_done;
      not_ended = ap (λ (v : PassView (ℕ × T)). v.found_empty) knows_all;
      capacity = subst (λ (g : List (ℕ × (ℕ × T))). length g ≤ vec_capacity helper.done) (sym (ap (λ (v : PassView (ℕ × T)). v.given) knows_all)) idle.capacity;
    };
    knows_all = ap (λ (v : PassView (ℕ × T)). v.knows_all) knows_all;
    accepts = subst (λ l. All (λ item. pre item.1.0 item.1.1) l) (sym (ap (λ (v : PassView (ℕ × T)). v.given) knows_all)) was.accepts;
  }

-- a worker with capacity for more has capacity for less
pub idle_for_less : {T U : Type 0} (n m : ℕ) (bag : Bag (ℕ × T)) (helpers : List (Helper T U)) → m ≤ n → All (IsIdle n bag) helpers → All (IsIdle m bag) helpers
idle_for_less n m bag helpers few = All-weaker (IsIdle n bag) (IsIdle m bag) (λ h k. record { of = k.of; none_taken = k.none_taken; none_done = k.none_done; not_ended = k.not_ended; capacity = omega (arith, few, k.capacity) }) helpers

-- a worker that took one more of the given pieces still had capacity for its result
pub still_capacity : {T U : Type 0} (post : ℕ → T → U → Type 0) (bag : Bag (ℕ × T)) (h : Helper T U) (next : BagPass (ℕ × T)) (x : ℕ × (ℕ × T)) → IsHelping post bag h → view_of next ≡ after_take (view_of h.pass) x → length (taken_of next) ≤ length (given_of h.pass) → length (given_of h.pass) ≤ vec_capacity h.done → vec_len h.done < vec_capacity h.done
still_capacity {T} post bag h next x was took few capacity =
    let same : length h.done.items ≡ length (taken_of h.pass) = AllZip-long (IsPlacedResultOf post) (taken_of h.pass) h.done.items was.done in
    let one : length (taken_of next) ≡ length (taken_of h.pass) + 1 = ap (λ (v : PassView (ℕ × T)). length v.taken) took ∙ length-append (taken_of h.pass) (x ∷ []) in
    omega (arith, same, one, few, capacity, h.done.ok.0)

-- another pass gets its worker
pub idles_more : {T U : Type 0} (n : ℕ) (bag : Bag (ℕ × T)) (all yielded left rest : List (BagPass (ℕ × T))) (pass : BagPass (ℕ × T)) (helpers : List (Helper T U)) (done : Vec (ℕ × (ℕ × U)) Global) → all ≡ yielded ++ left → left ≡ pass ∷ rest → All (λ p. IsHelperOf bag p × (view_of p ≡ helper_view false [])) all → All (IsIdle n bag) helpers → done.items ≡ [] → n ≤ vec_capacity done → All (IsIdle n bag) (helpers ++ record { pass = pass; done = done } ∷ [])
idles_more {T} {U} n bag all yielded left rest pass helpers done is front each idle none capacity =
    let P : BagPass (ℕ × T) → Type 0 = λ p. IsHelperOf bag p × (view_of p ≡ helper_view false []) in
    let h : All P (yielded ++ (pass ∷ rest)) = subst (λ l. All P l) (is ∙ ap (λ l. yielded ++ l) front) each in
    let one : P pass = All-head P pass rest (all_right P yielded (pass ∷ rest) h) in
    let it : Helper T U = record { pass = pass; done = done } in
    All-push (IsIdle n bag) helpers it idle (record {
      of = one.0;
      none_taken = ap (λ (v : PassView (ℕ × T)). v.taken) one.1;
      none_done = none;
      not_ended = ap (λ (v : PassView (ℕ × T)). v.found_empty) one.1;
      capacity = capacity;
    })

-- one more item is put
pub puts_more : {T : Type 0} (before : PassView (ℕ × T)) (now next : PassView (ℕ × T)) (items : List (ℕ × T)) (index : ℕ) (item : ℕ × T) → index ≡ length items → now ≡ with_given before (enumerate_from 0 items) → next ≡ after_put now (index, item) → next ≡ with_given before (enumerate_from 0 (items ++ item ∷ []))
puts_more {T} before now next items index item at was is =
    let here : (index, item) ≡ (0 + length items, item) = ap (λ p. (p, item)) (omega (arith, at)) in
    is ∙ (λ i. after_put (was i) (here i)) ∙ ap (λ l. with_given before l) (sym (enumerate_push 0 items item))

pub puts_capacity : {T : Type 0} (all yielded left rest : List T) (item : T) → all ≡ yielded ++ left → left ≡ item ∷ rest → length (enumerate_from 0 yielded) < length all
puts_capacity all yielded left rest item is front = omega (arith, length-enumerate_from 0 yielded, length-append yielded (item ∷ rest), ap length (is ∙ ap (λ l. yielded ++ l) front))

-- all was put, and nothing is taken yet
pub starts : {T U : Type 0} (pre : ℕ → T → Type 0) (post : ℕ → T → U → Type 0) (bag : Bag (ℕ × T)) (old new : BagPass (ℕ × T)) (items : List (ℕ × T)) (slots : Vec (Option (ℕ × U)) Global) → IsCallerOf bag new → view_of new ≡ with_given (view_of old) (enumerate_from 0 items) → taken_of old ≡ [] → All (λ item. pre item.0 item.1) items → vec_len slots ≡ length items → All (λ s. s ≡ None) slots.items
    → IsCollecting pre post bag (record { pass = new; slots = slots })
starts {T} {U} pre post bag old new items slots leads put none accepts len empty =
    let given : given_of new ≡ enumerate_from 0 items = ap (λ (v : PassView (ℕ × T)). v.given) put in
    let taken : taken_of new ≡ [] = ap (λ (v : PassView (ℕ × T)). v.taken) put ∙ none in
    record {
      leads = leads;
      accepts = subst (λ l. All (λ item. pre item.1.0 item.1.1) l) (sym given) (enumerated_all (λ item. pre item.0 item.1) items accepts);
      places = subst (λ l. All (λ item. item.0 < vec_len slots) l) (sym given) (enumerated_below (vec_len slots) items (omega (arith, len)));
      filled = subst (λ l. AreFilled post l slots.items) (sym taken) (filled_none post slots.items empty);
    }

-- each pass was joined, and nothing is left
pub ends : {T U : Type 0} (post : ℕ → T → U → Type 0) (n : ℕ) (before : PassView (ℕ × T)) (items : List (ℕ × T)) (first mid last : Collector T U) → view_of first.pass ≡ with_given before (enumerate_from 0 items) → before.split ≡ before.joined + n → JoinsSince n first mid → JoinsSince 0 mid last → (AllJoined mid.pass → IsPermutation (given_of last.pass) (taken_of last.pass))
    → AreFilled post (taken_of last.pass) last.slots.items → AreFilled post (enumerate_from 0 items) last.slots.items
ends {T} post n before items first mid last put to_join one two all filled =
    let joined : AllJoined mid.pass = omega (arith, one.joins, to_join, ap (λ (v : PassView (ℕ × T)). v.split) put, ap (λ (v : PassView (ℕ × T)). v.joined) put) in
    let given : given_of last.pass ≡ enumerate_from 0 items = two.given ∙ one.given ∙ ap (λ (v : PassView (ℕ × T)). v.given) put in
    subst (λ l. AreFilled post l last.slots.items) given (filled_moved post (given_of last.pass) (taken_of last.pass) last.slots.items (all joined) filled)

-- the bag is open, and each pass but the first has its worker
pub staffed : {T U : Type 0} (n workers : ℕ) (bag : Bag (ℕ × T)) (all : List (BagPass (ℕ × T))) (first : BagPass (ℕ × T)) (helpers : Vec (Helper T U) Global) → IsOpened n workers bag all → first ≡ slice_index_or all 0 first → vec_len helpers + 1 ≡ workers → All (IsIdle n bag) helpers.items → IsTeamFor n (record { bag = bag; pass = first; helpers = helpers })
staffed {T} n workers bag all first helpers opened at count idle =
    let here : opened.caller ≡ first = sym (at ∙ ap (λ l. slice_index_or l 0 first) opened.all_are) in
    let many : vec_len helpers ≡ length opened.others = omega (arith, count, opened.count, ap length opened.all_are) in
    let to_join : (view_of opened.caller).split ≡ (view_of opened.caller).joined + vec_len helpers = omega (arith, many, opened.to_join) in
    record {
      capacity = omega (arith, opened.capacity);
      leads = subst (λ (p : BagPass (ℕ × T)). IsCallerOf bag p) here opened.leads;
      may_put = subst (λ (p : BagPass (ℕ × T)). MayPut p) here opened.may_put;
      nothing_given = subst (λ (p : BagPass (ℕ × T)). given_of p ≡ []) here opened.nothing_given;
      nothing_taken = subst (λ (p : BagPass (ℕ × T)). taken_of p ≡ []) here opened.nothing_taken;
      to_join = subst (λ (p : BagPass (ℕ × T)). (view_of p).split ≡ (view_of p).joined + vec_len helpers) here to_join;
      helpers = idle;
    }
