use Rattle.std.proofs.Common.{subst, sym}
use Rattle.cluster_losses.specs.declared.loss.Question.{Question}
use Rattle.cluster_what_if.specs.Findings.{IsFoundFor}
use Rattle.cluster_what_if.specs.declared.findings.Findings.TheVariants as found
use Rattle.cluster_what_if.proofs.WholeAnswers.{found_of}
use Rattle.cluster_what_if.proofs.findings.find.Goals as goal

pub returns-in_ok-losses-in-Losses-clause-answers : goal.returns-in_ok-losses-in-Losses-clause-answers
returns-in_ok-losses-in-Losses-clause-answers g c =
    let before = c.args.loaded.now in
    let after = c.find_losses.new.loaded in
    let pace = c.args.asked.now.pace in
    let it = c.in_ok-losses-in-Losses.losses in
    let P : Question → Type 0 = λ q. IsFoundFor q pace before after (found.Losses it) in
    subst P (sym c.in-Losses.is) (found_of before after pace c.in-Losses.losses.items c.in_ok-lost-in-Losses.lost it
    (rw c.as_slice.ensures.value at c.in_ok-lost-in-Losses.ensures.lost)
    c.in_ok-losses-in-Losses.ensures.found)
