-- By their fields.
use Rattle.rcv_lines.proofs.Texts.{line_ends}
use Rattle.rcv_lines.proofs.lines_end_in_feeds.Goals as goal

pub returns : goal.returns
returns c = line_ends
