-- It is too long, or not.
use Rattle.std.proofs.Common.{◌∙◌, sym}
use Rattle.rcv_talk.proofs.AnswersGiven.{first_long}
use Rattle.rcv_talk.proofs.answers.answer_first.Goals as goal

pub returns-in_ok-write_unread : goal.returns-in_ok-write_unread
returns-in_ok-write_unread c = λ bytes waits.
    first_long c.args.session.now c.args.pipe.now c.args.feed bytes c.args.text.now c.write_unread.new.text c.requires waits
    (sym c.is_long.ensures ∙ c.if-is_long.true) c.in_ok-write_unread.ensures
