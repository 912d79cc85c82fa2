-- The line is heard, or it isn't one of the dialogue.
use Rattle.std.proofs.Common.{sym, subst}
use Rattle.rcv_accept.specs.Accepted.{AcceptedView}
use Rattle.rcv_dialogue.specs.Lines.{SaysLine}
use Rattle.rcv_dialogue.specs.Reading.{IsReadAs, reading}
use Rattle.rcv_talk.proofs.AnswersGiven.{answers_heard, answers_unread}
use Rattle.rcv_talk.proofs.answers.answer_line.Goals as goal

pub returns-in_ok-hear-in-Ok : goal.returns-in_ok-hear-in-Ok
returns-in_ok-hear-in-Ok c =
    let text = c.args.line.now in
    let same = c.accepted.ensures in
    answers_heard c.args.session.now text c.read.result
    (record {
      long = c.read.ensures.long;
      exact = λ short. subst (λ (a : AcceptedView). IsReadAs c.read.result (reading a text)) same (c.read.ensures.exact short);
    })
    (λ l says. c.read.ensures.only l (subst (λ (a : AcceptedView). SaysLine a text l) (sym same) says))
    c.hear.new.self c.args.text.now c.hear.new.text c.in-Ok.line c.next_behind.result c.in-Ok.is
    (subst (λ (a : AcceptedView). SaysLine a text c.in-Ok.line) same c.in-Ok.ensures.found) c.in_ok-hear-in-Ok.ensures.says c.next_behind.ensures
    c.hear.ensures.protocol

pub returns-in_ok-write_unread-in-Err : goal.returns-in_ok-write_unread-in-Err
returns-in_ok-write_unread-in-Err c =
    let text = c.args.line.now in
    let same = c.accepted.ensures in
    answers_unread c.args.session.now text c.read.result
    (record {
      long = c.read.ensures.long;
      exact = λ short. subst (λ (a : AcceptedView). IsReadAs c.read.result (reading a text)) same (c.read.ensures.exact short);
    })
    (λ l says. c.read.ensures.only l (subst (λ (a : AcceptedView). SaysLine a text l) (sym same) says))
    c.args.text.now c.write_unread.new.text c.in-Err.error c.in-Err.is c.in_ok-write_unread-in-Err.ensures
