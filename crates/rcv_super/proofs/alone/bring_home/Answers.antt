-- The cells stand where they stood; or where the book began, since it isn't at its end.
use Rattle.rcv_super.proofs.Ending.{was_home, was_alone, not_so}
use Rattle.rcv_super.proofs.alone.bring_home.Goals as goal

pub returns-then-is_home-clause-home : goal.returns-then-is_home-clause-home
returns-then-is_home-clause-home c = (was_home c.args.at c.args.book.now c.args.line.now c.args.lanes.now.items (c.is_home.ensures.0 c.if-is_home.true) c.requires.stands).0

pub returns-then-is_home-clause-bases : goal.returns-then-is_home-clause-bases
returns-then-is_home-clause-bases c = (was_home c.args.at c.args.book.now c.args.line.now c.args.lanes.now.items (c.is_home.ensures.0 c.if-is_home.true) c.requires.stands).1

pub follow-requires-clause-alone : goal.follow-requires-clause-alone
follow-requires-clause-alone c = was_alone c.args.at c.args.book.now c.args.line.now c.args.lanes.now.items c.requires.stands (not_so c.is_home.result c.is_home.ensures c.if-is_home.false) c.requires.left
