-- The command as it is built up, an option at a time.
use Rattle.std.proofs.Common.{◌≡◌, ◌∙◌, ap, ap₂, codes, false}
use Rattle.std.proofs.lemmas.Result.{IfOk-weaker}
use Rattle.clap.specs.Built.{AddsArg}
use Rattle.clap.specs.Walk.{Rule, rule_of}
use Rattle.clap.specs.Simple.{App, app_of, app_of_fields, new_app, with_rule}
use Rattle.clap.specs.declared.builder.arg.Arg.{Arg}
use Rattle.clap.specs.declared.builder.command.Command.{Command}
use Rattle.fsck_import.proofs.options.command.Goals as goal

added : (old new : Command) (a : Arg) (app : App) (rule : Rule) → AddsArg old a new → a.global ≡ false → app_of old ≡ app → rule_of a ≡ rule
    → app_of new ≡ with_rule app rule
added old new a app rule h local before is = h.shape local ∙ ap₂ with_rule before is

pub returns : goal.returns
returns c =
    let s0 : app_of c.after_help.result ≡ new_app (codes "fsck_import") =
    ap app_of_fields c.after_help.ensures ∙ ap app_of_fields c.about.ensures ∙ c.new.ensures.app in
    let s1 = added _ _ _ _ _ c.in_ok-arg.ensures c.option.ensures.local s0 c.option.ensures.rule in
    let s2 = added _ _ _ _ _ c.in_ok-arg-2.ensures c.option-2.ensures.local s1 c.option-2.ensures.rule in
    let s3 = added _ _ _ _ _ c.in_ok-arg-3.ensures c.option-3.ensures.local s2 c.option-3.ensures.rule in
    let s4 = added _ _ _ _ _ c.in_ok-arg-4.ensures c.option-4.ensures.local s3 c.option-4.ensures.rule in
    let s5 = added _ _ _ _ _ c.in_ok-arg-5.ensures c.option-5.ensures.local s4 c.option-5.ensures.rule in
    let s6 = added _ _ _ _ _ c.in_ok-arg-6.ensures c.option-6.ensures.local s5 c.option-6.ensures.rule in
    let s7 = added _ _ _ _ _ c.in_ok-arg-7.ensures c.quiet.ensures.local s6 c.quiet.ensures.rule in
    IfOk-weaker c.arg-8.result _ _ (λ r h. added _ _ _ _ _ h c.progress.ensures.local s7 c.progress.ensures.rule) c.arg-8.ensures
