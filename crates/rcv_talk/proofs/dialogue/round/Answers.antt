-- What is held is answered, and then more is read.
use Rattle.std.proofs.Common.{◌∙◌, ap, Err}
use Rattle.std.proofs.lemmas.Result.{err_from_is_err_and}
use Rattle.rcv_talk.proofs.Rounds.{answers_on, answers_stop, answers_then}
use Rattle.rcv_talk.proofs.dialogue.round.Goals as goal

pub returns-in_err-answer : goal.returns-in_err-answer
returns-in_err-answer g c = record {
  says = λ bytes waits.
      let gone = err_from_is_err_and c.from_residual.result c.from_residual.ensures.1 in
      answers_stop _ _ bytes (g.S.Source.rest c.args.source.now) (g.S.Source.given c.args.source.now) (g.S.Source.faults c.args.source.now) _ _ _ _ _ c.in_err-answer.field-0.0 c.from_residual.result
      (gone.1 ∙ ap (λ e. Err e) gone.2) c.answer.ensures.later (c.in_err-answer.ensures.says bytes waits);
}

pub returns-then-branch : goal.returns-then-branch
returns-then-branch g c = record {
  says = λ bytes waits.
      let a = c.in_ok-answer.ensures.says bytes waits in
      answers_then _ _ bytes _ _ _ _ _ _ _ _ _ _ c.answer.new.pipe c.wait.new.pipe c.in_ok-answer.field-0 c.wait.result a c.if-branch.true c.wait.ensures.later
      (c.wait.ensures.says a.rest a.waits (a.lack c.if-branch.true));
}

pub returns-else-branch : goal.returns-else-branch
returns-else-branch g c = record {
  says = λ bytes waits.
      answers_on _ _ bytes (g.S.Source.rest c.args.source.now) (g.S.Source.given c.args.source.now) (g.S.Source.faults c.args.source.now) _ _ _ _ _ c.in_ok-answer.field-0 (c.in_ok-answer.ensures.says bytes waits);
}
