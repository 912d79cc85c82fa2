-- The crate is told each argument in turn.
use Rattle.std.proofs.Common.{◌∙◌, ap₂}
use Rattle.std.proofs.lemmas.Result.{IfOk-weaker}
use Rattle.clap.specs.Words.{with_rule}
use Rattle.rcv_look.proofs.program.program.Goals as goal

pub returns : goal.returns
returns c = IfOk-weaker c.arg-6.result _ _ (λ program added.
    added.shape c.flag-2.ensures.local
    ∙ ap₂ with_rule (c.in_ok-arg-5.ensures.shape c.flag.ensures.local
    ∙ ap₂ with_rule (c.in_ok-arg-4.ensures.shape c.session.ensures.local
    ∙ ap₂ with_rule (c.in_ok-arg-3.ensures.shape c.code.ensures.local
    ∙ ap₂ with_rule (c.in_ok-arg-2.ensures.shape c.text.ensures.local
    ∙ ap₂ with_rule (c.in_ok-arg.ensures.shape c.command.ensures.local
    ∙ ap₂ with_rule c.new.ensures.app c.command.ensures.rule)
    c.text.ensures.rule) c.code.ensures.rule) c.session.ensures.rule) c.flag.ensures.rule) c.flag-2.ensures.rule) c.arg-6.ensures
