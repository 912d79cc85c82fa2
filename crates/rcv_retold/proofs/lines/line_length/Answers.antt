-- By the first line feed.
use Rattle.std.proofs.Common.{◌∙◌, sym}
use Rattle.rcv_lines.proofs.Splitting.{cut_behind_feed, cut_at_end}
use Rattle.rcv_retold.proofs.lines.line_length.Goals as goal

pub returns-in-Some-clause-line : goal.returns-in-Some-clause-line
returns-in-Some-clause-line c = λ some. cut_behind_feed c.args.text.now c.in-Some.before (sym c.feed_at.ensures ∙ c.in-Some.is)

pub returns-in-None-clause-line : goal.returns-in-None-clause-line
returns-in-None-clause-line c = λ some. cut_at_end c.args.text.now some (sym c.feed_at.ensures ∙ c.in-None.is)
