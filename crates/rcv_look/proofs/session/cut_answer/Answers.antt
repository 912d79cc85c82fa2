-- A bundle that is too long, a session that isn't there, or its section.
use Rattle.std.proofs.Common.{ℕ, arith, ap, length, drop, ◌+◌, ◌-◌}
use Rattle.std.proofs.lemmas.List.{length-drop, take_all}
use Rattle.rcv_replay.proofs.Judging.{at_none}
use Rattle.rcv_look.proofs.Sessions.{long_said, missing_said}
use Rattle.rcv_look.proofs.session.cut_answer.Goals as goal

pub returns-then-cut-gt-MOST_OF_BUNDLE : goal.returns-then-cut-gt-MOST_OF_BUNDLE
returns-then-cut-gt-MOST_OF_BUNDLE c = long_said c.args.number c.args.input.now c.args.cut c.new.result.items c.requires.cut (omega (arith, c.if-cut-gt-MOST_OF_BUNDLE.true)) c.new.ensures.items

pub returns-in-None : goal.returns-in-None
returns-in-None c = missing_said c.no_journal.result c.args.number c.args.input.now c.args.cut _ (1 + c.line_feeds.result) c.requires.cut (omega (arith, c.if-cut-gt-MOST_OF_BUNDLE.false))
    (take_all (length c.args.input.now - c.args.cut.behind) (drop c.args.cut.behind c.args.input.now) (omega (arith, length-drop c.args.cut.behind c.args.input.now)))
    (at_none c.in_ok-section.section c.in-None.is c.in_ok-section.ensures.none) (ap (λ (n : ℕ). 1 + n) c.line_feeds.ensures) c.no_journal.ensures.status c.no_journal.ensures.bytes
