-- The links hold the right lists after the code unlinks a slot, links one or adds capacity.
use Rattle.std.proofs.Common.{◌≡◌, ℕ, Bool, true, false, ◌<◌, ◌≤◌, ◌+◌, ◌-◌, ◌++◌, take, replicate, List, ◌∷◌, length, set, get_or, zero, suc, refl, arith, [], Option, Some, None, ◌∙◌}
use Rattle.bm_maps.specs.SlotLinks.{end_of_links}
use Rattle.std.specs.Prelude.{if◌then◌else◌, ◌==◌}
use Rattle.bm_maps.specs.SlotLists.{IsMember, without}
use Rattle.bm_queues.specs.Links.{link_at, list_from, HoldLists, AreLinks, back_set}
use Rattle.bm_queues.proofs.HeldLists.{unlinked, linked, grown, half_grown}

get_or-default : (xs : List (Option ℕ)) (i : ℕ) (d e : Option ℕ) → i < length xs → get_or xs i d ≡ get_or xs i e
get_or-default [] i d e low = absurd (omega arith)
get_or-default (x ∷ xs) zero d e low = refl
get_or-default (x ∷ xs) (suc i) d e low = get_or-default xs i d e (omega arith)

-- the value that a read at an index in bounds gives
pub read : (links : List (Option ℕ)) (i : ℕ) (v : Option ℕ) → i < length links → v ≡ get_or links i v → v ≡ link_at links i
read links i v low is = is ∙ get_or-default links i v None low

pub unlink-held : (k : ℕ) (next back : List (Option ℕ)) → AreLinks k next back → (x p : ℕ) → link_at back x ≡ Some p
    → (after to : Option ℕ) → after ≡ link_at next (k + x) → to ≡ Some p → (mid : List (Option ℕ)) → mid ≡ back_set back after to
    → HoldLists k (set (set next p after) (k + x) None) (set mid x None) (λ l. without x (list_from k next back l))
unlink-held k next back held x p own after to is_after is_to mid is_mid =
    rw (is_mid, is_after, is_to) (unlinked k next back (list_from k next back) held x p own)

pub link-held : (k : ℕ) (next back : List (Option ℕ)) → AreLinks k next back → (at x : ℕ) → at < k → x < length back → ((l : ℕ) → l < k → IsMember x (list_from k next back l) → ⊥)
    → (first cell slot head : Option ℕ) → first ≡ link_at next at → cell ≡ Some (k + x) → slot ≡ Some x → head ≡ Some at → (mid : List (Option ℕ)) → mid ≡ back_set back first cell
    → HoldLists k (set (set next (k + x) first) at slot) (set mid x head) (λ l. if l == at then x ∷ list_from k next back l else list_from k next back l)
link-held k next back held at x there below absent first cell slot head is_first is_cell is_slot is_head mid is_mid =
    rw (is_mid, is_first, is_cell, is_slot, is_head) (linked k next back (list_from k next back) held at x there below absent)

pub grow-held : (k : ℕ) (next back : List (Option ℕ)) → AreLinks k next back → (n : ℕ) → length back < n → k + n ≤ end_of_links
    → (next' back' : List (Option ℕ)) (ok : Bool) → length next' ≡ k + n
    → next' ≡ take (k + n) next ++ replicate (k + n - length next) None → back' ≡ (if ok then take n back ++ replicate (n - length back) None else back)
    → HoldLists k next' back' (list_from k next back)
grow-held k next back held n more small next' back' true len is is_back = grown k next back (list_from k next back) held n more small next' back' len is is_back
grow-held k next back held n more small next' back' false len is is_back =
    rw is_back (half_grown k next back (list_from k next back) held n more next' len is)
