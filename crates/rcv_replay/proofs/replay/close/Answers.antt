-- By the first closing line that is wrong, if one is.
use Rattle.rcv_model.specs.Journal.{reading}
use Rattle.rcv_session.specs.Session.{rules_of}
use Rattle.rcv_judge.specs.Closing.{IsFirstWrongClosing}
use Rattle.rcv_replay.proofs.Judging.{at_none, at_some, legal_said, misclosed_said}
use Rattle.rcv_replay.proofs.replay.close.Goals as goal

pub returns-in-Some : goal.returns-in-Some
returns-in-Some c =
    let rules = rules_of c.args.book.now.setup in
    misclosed_said c.args.book.now.setup c.args.journal.now c.args.book.now.entries _ c.requires.entries c.requires.legal
    (at_some (IsFirstWrongClosing rules (reading rules c.args.book.now.entries) c.args.journal.now.roles c.args.journal.now.limited) c.in_ok-wrong.wrong _ c.in-Some.is c.in_ok-wrong.ensures.wrong)

pub returns-in-None : goal.returns-in-None
returns-in-None c =
    legal_said c.args.book.now.setup c.args.journal.now c.args.book.now.entries c.len.result c.is_limited.result c.requires.entries c.requires.legal
    (at_none c.in_ok-wrong.wrong c.in-None.is c.in_ok-wrong.ensures.right) c.len.ensures.value c.is_limited.ensures
