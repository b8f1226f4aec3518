use Rattle.std.proofs.Common.{◌≡◌, ℕ, ◌+◌, ◌<◌, ◌≤◌, [], ◌∷◌, All, Option, length, refl, sym, ap, ◌∙◌, subst, arith}
use Rattle.std.proofs.lemmas.List.Elements.{All-nil, All-push}
use Rattle.bm_view.specs.Version.{opening}
use Rattle.bm_view.specs.Rule.{Evidence, HasSeen}
use Rattle.bm_view.specs.Holders.{Home, Learnt, IsNewAt}
use Rattle.bm_view.proofs.Moves.{admits, shares, learns}
use Rattle.bm_view.proofs.PublishSteps.{no_success}
use Rattle.bm_view.proofs.opened_view.make_locators.Goals as goal

as_seen : (v w : Option Evidence) (home other : Home) → v ≡ w → home ≡ other → HasSeen w other (opening ∷ []) → HasSeen v home (opening ∷ [])
as_seen v w home other view same seen = subst (λ v. HasSeen v home (opening ∷ [])) (sym view) (subst (λ h. HasSeen w h (opening ∷ [])) (sym same) seen)

as_new : (home other : Home) (k : Learnt) → other ≡ home → IsNewAt other k → IsNewAt home k
as_new home other k same is = subst (λ h. IsNewAt h k) same is

same_count : (n m : ℕ) → n ≤ m → m ≤ n → n ≡ m
same_count n m low high = omega arith

pub loop-init : goal.loop-init
loop-init c =
    let P : Learnt → Type 0 = IsNewAt c.args.journal.now.home in record {
      count = c.new-locators.ensures.len;
      seen = c.requires.seen;
      shown = refl;
      each = subst (All P) (sym c.new-locators.ensures.items) (All-nil P);
    }

pub reader-requires : goal.reader-requires
reader-requires c = admits

pub returns-in_err-reader : goal.returns-in_err-reader
returns-in_err-reader c =
    let failed = c.from_residual.ensures.0 in record {
      shown = c.loop.invariant.shown;
      count = no_success c.from_residual.result _ failed;
      each = no_success c.from_residual.result _ failed;
    }

pub tell-requires : goal.tell-requires
tell-requires c = shares _ _

pub learn-requires-clause-own : goal.learn-requires-clause-own
learn-requires-clause-own c = (c.tell.ensures.given.0 ∙ (sym c.factory.ensures ∙ sym c.in_ok-reader.ensures.table), c.tell.ensures.given.2)

pub learn-requires-clause-rule : goal.learn-requires-clause-rule
learn-requires-clause-rule c = learns _ _ _ _

pub evidence-requires : goal.evidence-requires
evidence-requires c = subst (λ l. 0 < length l) (sym c.requires.log) (omega arith)

pub new-requires : goal.new-requires
new-requires c = record {
  log = c.evidence.ensures.1 ∙ c.requires.log;
  seen = as_seen _ _ c.evidence.result.home c.args.journal.now.home (c.learn.ensures.1 ∙ c.tell.ensures.given.1) c.evidence.ensures.0 c.loop.invariant.seen;
}

pub returns-in_err-push : goal.returns-in_err-push
returns-in_err-push c =
    let failed = c.from_residual-in_err-push.ensures.0 in record {
      shown = ap (λ s. s.value) c.tell.ensures.kept.0 ∙ c.loop.invariant.shown;
      count = no_success c.from_residual-in_err-push.result _ failed;
      each = no_success c.from_residual-in_err-push.result _ failed;
    }

pub loop-preserved : goal.loop-preserved
loop-preserved c =
    let home = c.args.journal.now.home in
    let P : Learnt → Type 0 = IsNewAt home in record {
      count = c.in_ok-push.ensures.len ∙ ap (λ n. n + 1) c.loop.invariant.count;
      seen = as_seen _ _ home home c.tell.ensures.kept.3 refl c.loop.invariant.seen;
      shown = ap (λ s. s.value) c.tell.ensures.kept.0 ∙ c.loop.invariant.shown;
      each = subst (All P) (sym c.in_ok-push.ensures.items) (All-push P c.loop.locators.items c.new.result c.loop.invariant.each (as_new home c.evidence.result.home c.new.result c.evidence.ensures.0 c.new.ensures));
    }

pub returns : goal.returns
returns c = record {
  shown = c.loop.invariant.shown;
  count = c.loop.invariant.count ∙ same_count c.loop.counter c.args.readers c.loop.auto.counter-end c.loop-test.false;
  each = c.loop.invariant.each;
}
