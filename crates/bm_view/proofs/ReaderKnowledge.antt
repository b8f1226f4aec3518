-- A read extends what a reader knows: each list that it learnt is a prefix of the new one.
use Rattle.std.proofs.Math.Seq.{get_or-append_seam}
use Rattle.std.proofs.Common.{ℕ, IfSome, length, arith, length-append, ◌≤◌, [], ◌∷◌, ◌++◌, All, ◌≡◌, List, Option, Some, None, sym, ◌∙◌, subst, refl}
use mathlib.Core.List.{IsPrefix}
use Rattle.bm_view.specs.Holders.{Home}
use Rattle.bm_base.specs.Promises.Versions.{Version}
use Rattle.std.proofs.lemmas.List.Elements.{All-push}
use Rattle.bm_view.specs.History.{shown_in, last_of, IsHistory}
use Rattle.bm_view.specs.Rule.{Evidence, Sees, HasSeen}
use Rattle.bm_view.proofs.Prefixes.{prefix_self, prefix_trans}
use Rattle.bm_view.proofs.Histories.{last_of-prefix}

pub record Later (b : Home) (l : List Version) (x : Evidence) (w : Option Evidence) : Type 0 where
  pub home : x.home ≡ b
  pub list : IsPrefix l (shown_in x.log)
  pub before : HasSeen w b l
  pub now : HasSeen w x.home (shown_in x.log)

pub later : (v : Option Evidence) (x : Evidence) (w : Option Evidence) (home : Home) (list : List Version) → HasSeen v home list → Sees v x w → Later home list x w
later None x w home list saw sees = absurd saw
later (Some s) x w home list saw sees =
    let is : x.home ≡ home = sym sees.0.home ∙ saw.0 in
    let on : IsPrefix list (shown_in x.log) = prefix_trans list (shown_in s.log) (shown_in x.log) saw.1 sees.0.list in
    record {
      home = is;
      list = on;
      before = subst (λ w. HasSeen w home list) (sym sees.1) (is, on);
      now = subst (λ w. HasSeen w x.home (shown_in x.log)) (sym sees.1) (refl, prefix_self (shown_in x.log));
    }

-- all learnt lists are prefixes of a longer list too
pub all_begin : (learnt : List (List Version)) (now longer : List Version) → All (λ known. IsPrefix known now) learnt → IsPrefix now longer → All (λ known. IsPrefix known longer) learnt
all_begin learnt now longer h p = λ k d lt. prefix_trans _ now longer (h k d lt) p

-- with one more list
pub all_learnt : (learnt : List (List Version)) (now longer one : List Version) → All (λ known. IsPrefix known now) learnt → IsPrefix now longer → IsPrefix one longer → All (λ known. IsPrefix known longer) (learnt ++ one ∷ [])
all_learnt learnt now longer one h p q = All-push (λ known. IsPrefix known longer) learnt one (all_begin learnt now longer h p) q

pub none_older : (learnt : List (List Version)) (now : List Version) → All (λ known. IsPrefix known now) learnt → IsHistory now → All (λ known. (last_of known).calls ≤ (last_of now).calls) learnt
none_older learnt now h history = λ k d lt. last_of-prefix _ now (h k d lt) history

-- what is true of all learnt lists is true of the last
pub latest : (learnt : List (List Version)) (one : List Version) (n : ℕ) → All (λ known. (last_of known).calls ≤ n) (learnt ++ one ∷ []) → (last_of one).calls ≤ n
latest learnt one n h = subst (λ (l : List Version). (last_of l).calls ≤ n) (get_or-append_seam learnt one [] []) (h (length learnt) [] (omega (arith, length-append learnt (one ∷ []))))

pub if_some : {A : Type 0} (o : Option A) (P Q : A → Type 0) → IfSome o P → ((x : A) → P x → Q x) → IfSome o Q
if_some None P Q h then = tt
if_some (Some x) P Q h then = then x h
