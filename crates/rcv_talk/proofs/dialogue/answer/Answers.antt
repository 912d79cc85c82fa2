-- What was answered is written.
use Rattle.std.proofs.Common.{◌∙◌, sym, true, false, true≢false}
use Rattle.rcv_talk.proofs.Rounds.{has_answered, has_ended, has_failed, of_err, of_ok}
use Rattle.rcv_talk.proofs.dialogue.answer.Goals as goal

pub returns-then-is_err-clause-says : goal.returns-then-is_err-clause-says
returns-then-is_err-clause-says g c bytes waits =
    has_failed _ _ bytes _ _ c.as_slice.result.now _ _ (c.in-Ok.ensures bytes waits) _ _ _ _ c.new-text.ensures (c.as_slice.ensures.value ∙ c.finish.ensures)
    (of_err _ c.write_all_of.result c.write_all_of.ensures.beginning (sym c.if-is_err.ensures.value))
    (of_err _ c.write_all_of.result c.write_all_of.ensures.cause.failed (sym c.if-is_err.ensures.value))

pub returns-in-More-clause-says : goal.returns-in-More-clause-says
returns-in-More-clause-says g c bytes waits =
    has_answered _ _ bytes _ _ c.as_slice.result.now _ _ (c.in-Ok.ensures bytes waits) _ _ _ _ c.new-text.ensures (c.as_slice.ensures.value ∙ c.finish.ensures)
    (of_ok _ c.write_all_of.result c.write_all_of.ensures.all (sym c.if-is_err.ensures.value))
    (of_ok _ c.write_all_of.result c.write_all_of.ensures.fine (sym c.if-is_err.ensures.value))
    true (λ _. c.in-More.is) (λ ended. let more = c.in-More.is in cc)

pub returns-in-Written-clause-says : goal.returns-in-Written-clause-says
returns-in-Written-clause-says g c bytes waits =
    has_answered _ _ bytes _ _ c.as_slice.result.now _ _ (c.in-Ok.ensures bytes waits) _ _ _ _ c.new-text.ensures (c.as_slice.ensures.value ∙ c.finish.ensures)
    (of_ok _ c.write_all_of.result c.write_all_of.ensures.all (sym c.if-is_err.ensures.value))
    (of_ok _ c.write_all_of.result c.write_all_of.ensures.fine (sym c.if-is_err.ensures.value))
    false (λ on. absurd (true≢false (sym on))) (λ ended. let written = c.in-Written.is in cc)

pub returns-in-Ended-clause-says : goal.returns-in-Ended-clause-says
returns-in-Ended-clause-says g c bytes waits =
    has_ended _ _ bytes _ _ c.as_slice.result.now _ _ (c.in-Ok.ensures bytes waits) _ _ _ _ c.new-text.ensures (c.as_slice.ensures.value ∙ c.finish.ensures)
    (of_ok _ c.write_all_of.result c.write_all_of.ensures.all (sym c.if-is_err.ensures.value))
    (of_ok _ c.write_all_of.result c.write_all_of.ensures.fine (sym c.if-is_err.ensures.value))
    c.in-Ended.is
