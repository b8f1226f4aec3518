use Rattle.std.proofs.Common.{◌≡◌, get_or, inl, inr, refl, subst, sym, ◌∙◌, arith}
use Rattle.std.proofs.lemmas.Bool.{cases_lt, false≢true}
use Rattle.std.proofs.lemmas.List.{get_or_default}
use Rattle.bm_arena.specs.Contents.{HasHead}
use Rattle.bm_arena.proofs.Heads.{IsReserved-refl, IsReserved-trans}
use Rattle.bm_arena.proofs.arena.Arena.reserve_heads.Goals as goal

pub loop-storage-init : goal.loop-storage-init
loop-storage-init c = record {
  heads = λ k below. absurd (omega (arith, below));
  named = λ other _ has. has;
  had = λ _. refl;
  kept = IsReserved-refl c.args.self.now;
  lawful = c.show_invariant.ensures;
}

pub loop-storage-preserved : goal.loop-storage-preserved
loop-storage-preserved c =
    let inv = c.loop-storage.invariant in
    let made = c.reserve_head.ensures in
    let storages = c.args.storages.now in
    let i = c.loop-storage.storage-index in
    let same : c.storage-item.result ≡ get_or storages i 0 = c.storage-item.is ∙ get_or_default storages i c.storage-item.result 0 c.loop-storage-test.true in
    record {
      heads = λ k below. elim (cases_lt k i) [
        | inl less ↦ made.kept.heads (get_or storages k 0) (inv.heads k less)
        | inr others ↦
            let last : i ≡ k = omega (arith, below, others) in
            subst (λ j. HasHead c.reserve_head.new.self (get_or storages j 0)) last (subst (HasHead c.reserve_head.new.self) same c.in_ok-reserve_head.ensures.head)
      ];
      named = λ other none has. inv.named other (λ k below. none k (omega (arith, below))) (made.named other (λ e. none i (omega (arith)) (e ∙ same)) has);
      had = λ all.
          let before = inv.had all in
          (made.had (subst (λ a. HasHead a c.storage-item.result) (sym before) (subst (HasHead c.args.self.now) (sym same) (all i c.loop-storage-test.true)))).1 ∙ before;
      kept = IsReserved-trans c.args.self.now c.loop-storage.self c.reserve_head.new.self inv.kept made.kept;
      lawful = made.lawful;
    }

pub returns-in_err-reserve_head-clause-kept : goal.returns-in_err-reserve_head-clause-kept
returns-in_err-reserve_head-clause-kept c = IsReserved-trans c.args.self.now c.loop-storage.self c.reserve_head.new.self c.loop-storage.invariant.kept c.reserve_head.ensures.kept

pub returns-in_err-reserve_head-clause-named : goal.returns-in_err-reserve_head-clause-named
returns-in_err-reserve_head-clause-named c other none has =
    let inv = c.loop-storage.invariant in
    let storages = c.args.storages.now in
    let i = c.loop-storage.storage-index in
    let same : c.storage-item.result ≡ get_or storages i 0 = c.storage-item.is ∙ get_or_default storages i c.storage-item.result 0 c.loop-storage-test.true in
    inv.named other (λ k below. none k (omega (arith, below))) (c.reserve_head.ensures.named other (λ e. none i (omega (arith)) (e ∙ same)) has)

pub returns-in_err-reserve_head-clause-had : goal.returns-in_err-reserve_head-clause-had
returns-in_err-reserve_head-clause-had c all =
    let before = c.loop-storage.invariant.had all in
    let storages = c.args.storages.now in
    let i = c.loop-storage.storage-index in
    let same : c.storage-item.result ≡ get_or storages i 0 = c.storage-item.is ∙ get_or_default storages i c.storage-item.result 0 c.loop-storage-test.true in
    absurd (false≢true (c.in_err-reserve_head.ensures.had (subst (λ a. HasHead a c.storage-item.result) (sym before) (subst (HasHead c.args.self.now) (sym same) (all i c.loop-storage-test.true)))).0)

pub returns-clause-heads : goal.returns-clause-heads
returns-clause-heads c k below = c.loop-storage.invariant.heads k (omega (arith, below))

pub returns-clause-had : goal.returns-clause-had
returns-clause-had c all = (refl, c.loop-storage.invariant.had all)
